-- No harm is in a lawful history.
use Rattle.std.proofs.Common.{◌≡◌, ℕ, ◌+◌, Bool, true, false, List, Option, sym, refl, ap, ◌∙◌, subst, ⊎_elim, arith}
use Rattle.std.proofs.lemmas.Bool.Decides.{nat_tests}
use Rattle.std.proofs.lemmas.Bool.{true≢false}
use Rattle.kits.specs.Books.{Laws}
use Rattle.forms.specs.Forms.{form_lawful}
use Rattle.sheets.specs.Searches.{RightState}
use Rattle.sheets.specs.Steps.{Standing, paused, kit, no_kit}
use Rattle.sheets.specs.Runs.{ended}
use Rattle.sheets.specs.Refusals.{budget_lawful, work_refusal, close_refusal}
use Rattle.sheets.specs.Histories.{Call, Answer, History, searching, total_granted, rules_in_force}
use Rattle.sheets.specs.Histories.Call.{Work, Waiting, Copy}
use Rattle.sheets.specs.Histories.Answer.{Worked, Waits, Copied}
use Rattle.sheets.specs.Histories.History.{Opened, Then}
use Rattle.sheets.specs.Law.{Setting, Lawful, Shown, answered, opening_of, search_after, steps_made}
use Rattle.sheets.specs.Harms.{Called, Harmless}
use Rattle.sheets.proofs.HistoryLaws.{in_force_known, in_force_below, opening_boxed}
use Rattle.sheets.proofs.SearchLaws.{search_right}

work_accepted : (s b : Bool) (x y : Standing) (m n : ℕ) → Worked x m ≡ answered (work_refusal s b) (Worked y n) → (s ≡ true) × (x ≡ y) × (m ≡ n)
work_accepted true true x y m n e = (refl, cc, cc)
work_accepted true false x y m n e = cc
work_accepted false b x y m n e = cc

waiting_accepted : (s : Bool) (m n : ℕ) (x y : Option (List ℕ)) → Waits m x ≡ answered (close_refusal s) (Waits n y) → m ≡ n
waiting_accepted true m n x y e = cc
waiting_accepted false m n x y e = cc

module _ (t : Setting) where
  called_lawful : (h g : History) (c : Call) (a : Answer) → Lawful t h → Called h g c a → Lawful t (Then g c a)
  called_lawful Opened g c a l m = absurd m
  called_lawful (Then h d b) g c a l m = ⊎_elim (λ (e : Then g c a ≡ Then h d b). subst (Lawful t) (sym e) l) (λ (n : Called h g c a). called_lawful h g c a l.0 n) m

  module _ (laws : Laws t.rules t.allows t.narrowed) (form : form_lawful t.slots ≡ true) where
    right_after : (g : History) → Lawful t g → (n : ℕ) → RightState t.allows (rules_in_force g) (opening_of t g) n (search_after t g n)
    right_after g l n = search_right t.rules t.allows t.narrowed laws (rules_in_force g) (in_force_below t g l) (opening_of t g) (opening_boxed t form g l) n

    pub harmless : (h : History) → Lawful t h → Harmless t h
    harmless h l = record {
      as_written = written;
      none_is_none = λ g b n m. (after g b no_kit n m).none (sym (written g b no_kit n m).1);
      named_is_first = λ g b f n m. (after g b (kit f) n m).first f (sym (written g b (kit f) n m).1);
      named_is_minimal = λ g b f n m. (after g b (kit f) n m).minimal f (sym (written g b (kit f) n m).1);
      no_late_pause = λ g b n m d. true≢false (sym ((after g b paused n m).ends d) ∙ ap ended (sym (written g b paused n m).1));
      few_waiting = λ g n b m.
          let p = called_lawful h g Waiting (Waits n b) l m in
          omega (arith, waiting_accepted (searching g) n _ b _ p.1, (right_after g p.0 (total_granted g)).few);
      shown_in_force = λ g k f x m r e. grind (arith, nat_tests, (shown g k f x m).1 r);
      none_left_out = λ g k f x m r p q. grind (arith, nat_tests, (shown g k f x m).1 r);
      shown_gone = λ g k f x m. (shown g k f x m).2;
      known_in_force = in_force_known t h l;
    }
      where
        written : (g : History) (b : ℕ) (s : Standing) (n : ℕ) → Called h g (Work b) (Worked s n)
            → (searching g ≡ true) × (s ≡ (search_after t g (total_granted g + b)).standing) × (n ≡ steps_made t g b)
        written g b s n m = work_accepted (searching g) (budget_lawful b) s _ n _ (called_lawful h g (Work b) (Worked s n) l m).1

        after : (g : History) (b : ℕ) (s : Standing) (n : ℕ) → Called h g (Work b) (Worked s n) → RightState t.allows (rules_in_force g) (opening_of t g) (total_granted g + b) (search_after t g (total_granted g + b))
        after g b s n m = right_after g (called_lawful h g (Work b) (Worked s n) l m).0 (total_granted g + b)

        shown : (g : History) (k f x : ℕ) → Called h g Copy (Copied k f x) → Shown t g (Copied k f x)
        shown g k f x m = (called_lawful h g Copy (Copied k f x) l m).1
