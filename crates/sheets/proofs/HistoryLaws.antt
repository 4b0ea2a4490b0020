-- What a lawful history says: its rules in force are the book's, and its choices make an opening box.
use Rattle.std.proofs.Common.{◌≡◌, ℕ, zero, suc, ◌+◌, ◌^◌, ◌<◌, ◌≤◌, true, cond, eqb, ltb, List, [], ◌∷◌, length, set, sym, refl, ap, ◌∙◌, subst, arith, pow_mono}
use lib.Bits.{bit_and}
use Rattle.std.proofs.lemmas.Nat.{pow_pos}
use Rattle.std.proofs.lemmas.Bool.Decides.{nat_tests}
use Rattle.std.proofs.lemmas.Bool.{true≢false, eq-eqb, ne_eqb, eqb-true, ltb-true, and_parts, and_from}
use Rattle.catalogue.specs.declared.model.Slot.{Slot}
use Rattle.catalogue.specs.Lawful.{all, slot_lawful, offered}
use Rattle.forms.specs.Forms.{form_lawful}
use Rattle.forms.specs.Opening.{chosen_label, opening_box}
use Rattle.forms.proofs.OpeningLaws.{opening_length, opening_some}
use Rattle.forms.proofs.Places.{form_slots}
use Rattle.kits.specs.declared.choices.Choice.{Choice}
use Rattle.kits.specs.declared.choices.Choice.TheVariants as chosen
use Rattle.kits.specs.Boxes.{Boxed, Small}
use Rattle.kits.specs.Choices.{choice_lawful, choices_lawful}
use Rattle.kits.proofs.BoxLaws.{some_full}
use Rattle.sheets.specs.Searches.{Below}
use Rattle.sheets.specs.Refusals.{part_offered, sets_lawful}
use Rattle.sheets.specs.Histories.{Call, Answer, History, accepted, brings_in, brought_in, in_force, taken_out, rules_in_force, chooses, choice_on, choices_from, choices_of, searching}
use Rattle.sheets.specs.Histories.Call.{Enter, Withdraw, Rejoin, Fix, Bar, Free, Begin, Work, Close, Waiting, Copy}
use Rattle.sheets.specs.Histories.Answer.{Done}
use Rattle.sheets.specs.Histories.History.{Opened, Then}
use Rattle.sheets.specs.Law.{Setting, Right, Lawful, opening_of}
use Rattle.sheets.proofs.RefusalLaws.{enter_known, rejoin_lawful, fix_offered}
use Rattle.sheets.proofs.RuleSetLaws.{has_below, rules_below}

same_choices : (n k : ℕ) (f g : ℕ → Choice) → ((i : ℕ) → k ≤ i → f i ≡ g i) → choices_from n k f ≡ choices_from n k g
same_choices zero k f g h = refl
same_choices (suc n) k f g h = rw (h k (omega arith)) (ap (λ (cs : List Choice). g k ∷ cs) (same_choices n (suc k) f g (λ i l. h i (omega arith))))

set_from : (n k j at : ℕ) (c : Choice) (f : ℕ → Choice) → k + j ≡ at → set (choices_from n k f) j c ≡ choices_from n k (λ i. cond (eqb at i) c (f i))
set_from zero k j at c f e = refl
set_from (suc n) k zero at c f e =
    rw (eq-eqb at k (omega arith)) (ap (λ (cs : List Choice). c ∷ cs) (same_choices n (suc k) f (λ i. cond (eqb at i) c (f i)) (λ i l. rw (ne_eqb at i (λ q. absurd (omega arith))) refl)))
set_from (suc n) k (suc j) at c f e =
    rw (ne_eqb at k (λ q. absurd (omega arith))) (ap (λ (cs : List Choice). f k ∷ cs) (set_from n (suc k) j at c f (omega arith)))

-- a choice put on slot k
pub set_choice : (h : History) (k : ℕ) (c : Choice) → set (choices_of h) k c ≡ choices_from 24 0 (λ i. cond (eqb k i) c (choice_on h i))
unfolding choices_of
set_choice h k c = set_from 24 0 k k c (λ i. choice_on h i) (omega arith)

pub offered_few : (slots : List Slot) (k : ℕ) → all slot_lawful slots ≡ true → offered slots k ≤ 15
offered_few [] k e = omega arith
offered_few (s ∷ slots) zero e = grind (arith, nat_tests)
offered_few (s ∷ slots) (suc k) e = offered_few slots k (grind (arith, nat_tests))

-- a part that a slot offers may be fixed
pub offered_lawful : (slots : List Slot) (k v : ℕ) → form_lawful slots ≡ true → part_offered slots k v ≡ true → choice_lawful (chosen.Fixed v) ≡ true
offered_lawful slots k v l e = grind (arith, nat_tests, offered_few slots k (form_slots slots l))

-- no label of an opening box passes 16 bits
chosen_small : (c : Choice) (s : Slot) → choice_lawful c ≡ true → slot_lawful s ≡ true → chosen_label c s < 2 ^ 16
chosen_small chosen.Free s h l =
    let m : 2 ^ suc s.parts ≤ 2 ^ 16 = pow_mono {i = suc s.parts} {j = 16} (grind (arith, nat_tests)) in
    grind (arith, nat_tests, pow_pos (suc s.parts))
chosen_small (chosen.Fixed v) s h l =
    let m : 2 ^ v ≤ 2 ^ 15 = pow_mono {i = v} {j = 15} (grind (arith, nat_tests)) in
    omega arith
chosen_small chosen.Barred s h l = omega arith

opening_small : (slots : List Slot) (cs : List Choice) → all slot_lawful slots ≡ true → choices_lawful cs ≡ true → Small (opening_box slots cs)
opening_small slots [] l h k b = absurd (omega arith)
opening_small [] (c ∷ cs) l h zero b = omega arith
opening_small [] (c ∷ cs) l h (suc k) b = opening_small [] cs l (grind (arith, nat_tests)) k (omega arith)
opening_small (s ∷ slots) (c ∷ cs) l h zero b = chosen_small c s (grind (arith, nat_tests)) (grind (arith, nat_tests))
opening_small (s ∷ slots) (c ∷ cs) l h (suc k) b = opening_small slots cs (grind (arith, nat_tests)) (grind (arith, nat_tests)) k (omega arith)

choices_length : (n k : ℕ) (f : ℕ → Choice) → length (choices_from n k f) ≡ n
choices_length zero k f = refl
choices_length (suc n) k f = ap suc (choices_length n (suc k) f)

all_lawful : (n k : ℕ) (f : ℕ → Choice) → ((i : ℕ) → choice_lawful (f i) ≡ true) → choices_lawful (choices_from n k f) ≡ true
all_lawful zero k f h = refl
all_lawful (suc n) k f h = and_from _ _ (h k) (all_lawful n (suc k) f h)

module _ (t : Setting) where
  -- an accepted call brings in rules of the book only
  brings_known : (h : History) (c : Call) (a : Answer) (r : ℕ) → Right t h c a → accepted a ≡ true → brings_in c r ≡ true → r < t.rules
  brings_known h (Enter q) a r i y e =
      subst (λ (x : ℕ). x < t.rules) (eqb-true q r e) (ltb-true q t.rules (enter_known a Done y (searching h) (ltb q t.rules) (taken_out h q) (in_force h q) i))
  brings_known h (Withdraw q) a r i y e = absurd (true≢false (sym e))
  brings_known h (Rejoin m f g) a r i y e =
      let l = rejoin_lawful a Done y (searching h) (eqb m t.mark) (sets_lawful t.rules f g) i in
      let p = and_parts (ltb f (2 ^ t.rules)) (ltb g (2 ^ t.rules)) (and_parts _ (eqb (bit_and f g) 0) l).0 in
      has_below f t.rules r (ltb-true _ _ p.0) e
  brings_known h (Fix k v) a r i y e = absurd (true≢false (sym e))
  brings_known h (Bar k) a r i y e = absurd (true≢false (sym e))
  brings_known h (Free k) a r i y e = absurd (true≢false (sym e))
  brings_known h Begin a r i y e = absurd (true≢false (sym e))
  brings_known h (Work b) a r i y e = absurd (true≢false (sym e))
  brings_known h Close a r i y e = absurd (true≢false (sym e))
  brings_known h Waiting a r i y e = absurd (true≢false (sym e))
  brings_known h Copy a r i y e = absurd (true≢false (sym e))

  brought_known : (h : History) → Lawful t h → (r : ℕ) → brought_in h r ≡ true → r < t.rules
  brought_known Opened l r e = absurd (true≢false (sym e))
  brought_known (Then h c a) l r e = grind (arith, nat_tests, brings_known h c a r l.1, brought_known h l.0 r)

  pub in_force_known : (h : History) → Lawful t h → (r : ℕ) → in_force h r ≡ true → r < t.rules
  in_force_known h l r e = brought_known h l r (grind (arith, nat_tests))

  pub in_force_below : (h : History) → Lawful t h → Below t.rules (rules_in_force h)
  in_force_below h l = rules_below t.rules h (in_force_known h l)

  module _ (form : form_lawful t.slots ≡ true) where
    chooses_lawful : (h : History) (c : Call) (a : Answer) (k : ℕ) → Right t h c a → accepted a ≡ true → choice_lawful (choice_on h k) ≡ true → choice_lawful (chooses c k (choice_on h k)) ≡ true
    chooses_lawful h (Enter q) a k i y e = e
    chooses_lawful h (Withdraw q) a k i y e = e
    chooses_lawful h (Rejoin m f g) a k i y e = e
    chooses_lawful h (Fix j v) a k i y e =
        let o = fix_offered a Done y (searching h) (ltb j (length t.slots)) (part_offered t.slots j v) i in
        grind (arith, nat_tests, offered_lawful t.slots j v form o)
    chooses_lawful h (Bar j) a k i y e = grind (arith, nat_tests)
    chooses_lawful h (Free j) a k i y e = grind (arith, nat_tests)
    chooses_lawful h Begin a k i y e = e
    chooses_lawful h (Work b) a k i y e = e
    chooses_lawful h Close a k i y e = e
    chooses_lawful h Waiting a k i y e = e
    chooses_lawful h Copy a k i y e = e

    choice_on_lawful : (h : History) → Lawful t h → (k : ℕ) → choice_lawful (choice_on h k) ≡ true
    choice_on_lawful Opened l k = refl
    choice_on_lawful (Then h c a) l k =
        grind (arith, nat_tests, chooses_lawful h c a k l.1, choice_on_lawful h l.0 k)

    pub opening_boxed : (h : History) → Lawful t h → Boxed (opening_of t h)
    unfolding choices_of
    opening_boxed h l =
        let cs : List Choice = choices_from 24 0 (λ k. choice_on h k) in
        let slots = form_slots t.slots form in (
          opening_length t.slots cs ∙ choices_length 24 0 (λ k. choice_on h k),
          some_full (opening_box t.slots cs) (opening_some t.slots cs slots),
          opening_small t.slots cs slots (all_lawful 24 0 (λ k. choice_on h k) (choice_on_lawful h l)),
        )
