-- Each call turns a sheet with a history into one with that history and this call at its end.
use Rattle.std.proofs.Common.{◌≡◌, ℕ, ◌+◌, ◌^◌, Bool, true, false, not, ◌&&◌, ◌||◌, eqb, ltb, List, length, set, is_some, Some, None, Option, sym, refl, ap, ◌∙◌, subst, ap₂, ⊎_elim, arith}
use lib.Bits.{bit_or}
use Rattle.std.proofs.lemmas.Bool.{true≢false, cases_Bool, eqb-true}
use Rattle.std.proofs.lemmas.Bool.Decides.{nat_tests}
use Rattle.forms.specs.Forms.{standard_at}
use Rattle.forms.specs.Opening.{opening_box}
use Rattle.kits.specs.declared.choices.Choice.{Choice}
use Rattle.kits.specs.declared.choices.Choice.TheVariants as chosen
use Rattle.kits.specs.Labels.{has_member}
use Rattle.sheets.specs.Sets.{members}
use Rattle.sheets.specs.Steps.{Standing, SearchState}
use Rattle.sheets.specs.Runs.{started, run, made}
use Rattle.sheets.specs.declared.refusal.Refusal.{Refusal}
use Rattle.sheets.specs.Refusals.{number_of, part_offered, sets_lawful, budget_lawful, unless_searching, enter_refusal, withdraw_refusal, rejoin_refusal, fix_refusal, bar_refusal, free_refusal, begin_refusal, close_refusal}
use Rattle.sheets.specs.Histories.{Call, Answer, History, brought_in, in_force, taken_out, rules_in_force, choices_of, granted, searching}
use Rattle.sheets.specs.Histories.Call.{Enter, Withdraw, Rejoin, Fix, Bar, Free, Begin, Work, Close, Waiting, Copy}
use Rattle.sheets.specs.Histories.Answer.{Done, Refused, Worked, Copied}
use Rattle.sheets.specs.Histories.History.{Opened, Then}
use Rattle.sheets.specs.Law.{Setting, Right, answered, search_after}
use Rattle.sheets.specs.Outcomes.{Contents, at_opening, unless_refused, joined, with_choice, with_search, entered, withdrawn, rejoined, fixed, barred, freed, begun, worked_on, worked, closed_by, closed, waiting_in}
use Rattle.sheets.specs.SheetHistories.{open_search, Matches, answer_of, work_answer, close_answer, waiting_answer}
use Rattle.sheets.proofs.HistoryLaws.{set_choice}
use Rattle.sheets.proofs.RefusalLaws.{unless_none, enter_stays}
use Rattle.sheets.proofs.RuleSetLaws.{has_or, has_without, has_only, has_none, members_in_force}
use Rattle.sheets.proofs.RunLaws.{run_run}

-- in force after an enter, a withdraw, a rejoin; b: brought in before, t: taken out before
enter_bool : (b t e : Bool) → (e ≡ true → t ≡ false) → ((b && not t) || e) ≡ ((e || b) && not t)
enter_bool b t e h = grind (arith, nat_tests)

withdraw_bool : (b t e : Bool) → ((b && not t) && not e) ≡ (b && not (e || t))
withdraw_bool b t e = grind (arith, nat_tests)

or_comm : (x y : Bool) → (x || y) ≡ (y || x)
or_comm x y = grind (arith, nat_tests)

rejoin_bool : (b t f g : Bool) → (((b && not t) || f) && not (t || g)) ≡ ((f || b) && not (g || t))
rejoin_bool b t f g = grind (arith, nat_tests)

no_budget : (x : Option ℕ) → is_some x ≡ false → x ≡ None
no_budget None e = refl
no_budget (Some n) e = absurd (true≢false e)

module _ (t : Setting) where
  pub opened_has : Matches t Opened at_opening
  unfolding choices_of
  opened_has = record { lawful = tt; force = has_none; gone = has_none; choices = refl; search = refl }

  open_some : (h : History) (x : Option ℕ) → is_some (open_search t h x) ≡ is_some x
  open_some h None = refl
  open_some h (Some n) = refl

  module _ (h : History) (s : Contents) (k : Matches t h s) where
    refused_has : (c : Call) (n : ℕ) → Right t h c (Refused n) → Matches t (Then h c (Refused n)) s
    unfolding choices_of rules_in_force
    refused_has c n r = record { lawful = (k.lawful, r); force = k.force; gone = k.gone; choices = k.choices; search = k.search }

    searching_same : is_some s.search ≡ searching h
    searching_same = ap is_some k.search ∙ open_some h (granted h)

    idle : (rest : Option Refusal) → None ≡ unless_searching (searching h) rest → (granted h ≡ None) × (s.search ≡ None)
    idle rest w = let n = no_budget (granted h) (unless_none (searching h) rest w).0 in (n, k.search ∙ ap (open_search t h) n)

    -- a call that is refused or done: what a done one leaves is to be shown
    unless_refused_has : {A : Type 0} (c : Call) (asked due : Option Refusal) (a : A) (new : Contents) → asked ≡ due → ((x : Answer) → x ≡ answered due Done → Right t h c x)
        → (None ≡ due → Right t h c Done → Matches t (Then h c Done) new) → Matches t (Then h c (answer_of (unless_refused asked a new s).0)) (unless_refused asked a new s).1
    unless_refused_has c None due a new e right done = done e (right Done (ap (λ (x : Option Refusal). answered x Done) e))
    unless_refused_has c (Some r) due a new e right done = refused_has c (number_of r) (right (Refused (number_of r)) (ap (λ (x : Option Refusal). answered x Done) e))

    pub enter_has : (r : ℕ) → Matches t (Then h (Enter r) (answer_of (entered t.rules r s).0)) (entered t.rules r s).1
    unfolding choices_of
    enter_has r =
        unless_refused_has (Enter r) _ (enter_refusal (searching h) (ltb r t.rules) (taken_out h r) (in_force h r)) tt _ (rw (searching_same, k.gone r, k.force r) refl) (λ x e. e) (λ w right.
        let out : taken_out h r ≡ false = enter_stays (searching h) (ltb r t.rules) (taken_out h r) (in_force h r) w in
        let i = idle _ w in
        record {
          lawful = (k.lawful, right);
          force = λ q. has_or s.force (2 ^ r) q ∙ ap₂ (λ (x y : Bool). x || y) (k.force q) (has_only r q) ∙ enter_bool (brought_in h q) (taken_out h q) (eqb r q) (λ z. subst (λ (x : ℕ). taken_out h x ≡ false) (eqb-true r q z) out);
          gone = k.gone;
          choices = k.choices;
          search = rw i.0 i.1;
        })

    pub withdraw_has : (r : ℕ) → Matches t (Then h (Withdraw r) (answer_of (withdrawn t.rules r s).0)) (withdrawn t.rules r s).1
    unfolding choices_of
    withdraw_has r =
        unless_refused_has (Withdraw r) _ (withdraw_refusal (searching h) (ltb r t.rules) (in_force h r)) tt _ (rw (searching_same, k.force r) refl) (λ x e. e) (λ w right.
        let i = idle _ w in
        record {
          lawful = (k.lawful, right);
          force = λ q. has_without s.force (2 ^ r) q ∙ ap₂ (λ (x y : Bool). x && not y) (k.force q) (has_only r q) ∙ withdraw_bool (brought_in h q) (taken_out h q) (eqb r q);
          gone = λ q. has_or s.gone (2 ^ r) q ∙ ap₂ (λ (x y : Bool). x || y) (k.gone q) (has_only r q) ∙ or_comm (taken_out h q) (eqb r q);
          choices = k.choices;
          search = rw i.0 i.1;
        })

    pub rejoin_has : (m f g : ℕ) → Matches t (Then h (Rejoin m f g) (answer_of (rejoined t.rules t.mark m f g s).0)) (rejoined t.rules t.mark m f g s).1
    unfolding choices_of
    rejoin_has m f g =
        unless_refused_has (Rejoin m f g) _ (rejoin_refusal (searching h) (eqb m t.mark) (sets_lawful t.rules f g)) tt (joined s f g) (rw searching_same refl) (λ x e. e) (λ w right.
        let i = idle _ w in
        let out : (q : ℕ) → has_member (bit_or s.gone g) q ≡ (taken_out h q || has_member g q) = λ q. has_or s.gone g q ∙ ap (λ (x : Bool). x || has_member g q) (k.gone q) in
        let all : (q : ℕ) → has_member (bit_or s.force f) q ≡ (in_force h q || has_member f q) = λ q. has_or s.force f q ∙ ap (λ (x : Bool). x || has_member f q) (k.force q) in
        record {
          lawful = (k.lawful, right);
          force = λ q. has_without (bit_or s.force f) (bit_or s.gone g) q ∙ ap₂ (λ (x y : Bool). x && not y) (all q) (out q) ∙ rejoin_bool (brought_in h q) (taken_out h q) (has_member f q) (has_member g q);
          gone = λ q. out q ∙ or_comm (taken_out h q) (has_member g q);
          choices = k.choices;
          search = rw i.0 i.1;
        })

    put_on : (j : ℕ) (c : Choice) → set s.choices j c ≡ set (choices_of h) j c
    put_on j c = ap (λ (cs : List Choice). set cs j c) k.choices

    pub fix_has : (j v : ℕ) → Matches t (Then h (Fix j v) (answer_of (fixed t.slots j v s).0)) (fixed t.slots j v s).1
    unfolding choices_of
    fix_has j v =
        unless_refused_has (Fix j v) _ (fix_refusal (searching h) (ltb j (length t.slots)) (part_offered t.slots j v)) tt (with_choice s j (chosen.Fixed v)) (rw searching_same refl) (λ x e. e) (λ w right.
        let i = idle _ w in
        record { lawful = (k.lawful, right); force = k.force; gone = k.gone; choices = put_on j (chosen.Fixed v) ∙ set_choice h j (chosen.Fixed v); search = rw i.0 i.1 })

    pub bar_has : (j : ℕ) → Matches t (Then h (Bar j) (answer_of (barred t.slots j s).0)) (barred t.slots j s).1
    unfolding choices_of
    bar_has j =
        unless_refused_has (Bar j) _ (bar_refusal (searching h) (ltb j (length t.slots)) (standard_at t.slots j)) tt (with_choice s j chosen.Barred) (rw searching_same refl) (λ x e. e) (λ w right.
        let i = idle _ w in
        record { lawful = (k.lawful, right); force = k.force; gone = k.gone; choices = put_on j chosen.Barred ∙ set_choice h j chosen.Barred; search = rw i.0 i.1 })

    pub free_has : (j : ℕ) → Matches t (Then h (Free j) (answer_of (freed t.slots j s).0)) (freed t.slots j s).1
    unfolding choices_of
    free_has j =
        unless_refused_has (Free j) _ (free_refusal (searching h) (ltb j (length t.slots))) tt (with_choice s j chosen.Free) (rw searching_same refl) (λ x e. e) (λ w right.
        let i = idle _ w in
        record { lawful = (k.lawful, right); force = k.force; gone = k.gone; choices = put_on j chosen.Free ∙ set_choice h j chosen.Free; search = rw i.0 i.1 })

    pub begin_has : {A : Type 0} (slip : A) → Matches t (Then h Begin (answer_of (begun t.slots slip s).0)) (begun t.slots slip s).1
    unfolding choices_of rules_in_force
    begin_has slip =
        unless_refused_has Begin _ (begin_refusal (searching h)) slip _ (rw searching_same refl) (λ x e. e) (λ w right.
        record { lawful = (k.lawful, right); force = k.force; gone = k.gone; choices = k.choices; search = ap (λ (cs : List Choice). Some (started (opening_box t.slots cs))) k.choices })

    pub close_has : {A : Type 0} (slip : A) → Matches t (Then h Close (close_answer (closed slip s).0)) (closed slip s).1
    unfolding choices_of
    close_has {A} slip = go (close_refusal (is_some s.search)) (rw searching_same refl)
      where
        go : (asked : Option Refusal) → asked ≡ close_refusal (searching h) → Matches t (Then h Close (close_answer (closed_by {A = A} asked slip s).0)) (closed_by {A = A} asked slip s).1
        go (Some e) w = refused_has Close (number_of e) (ap (λ (x : Option Refusal). answered x Done) w)
        go None w = record { lawful = (k.lawful, ap (λ (x : Option Refusal). answered x Done) w); force = k.force; gone = k.gone; choices = k.choices; search = refl }

    pub copy_has : Matches t (Then h Copy (Copied t.mark s.force s.gone)) s
    unfolding choices_of rules_in_force
    copy_has = record { lawful = (k.lawful, (refl, k.force, k.gone)); force = k.force; gone = k.gone; choices = k.choices; search = k.search }

    pub waiting_has : Matches t (Then h Waiting (waiting_answer (waiting_in s.search))) s
    unfolding choices_of rules_in_force
    waiting_has = subst (λ (y : Option SearchState). Matches t (Then h Waiting (waiting_answer (waiting_in y))) s) (sym k.search) (go (granted h) refl)
      where
        go : (x : Option ℕ) → granted h ≡ x → Matches t (Then h Waiting (waiting_answer (waiting_in (open_search t h x)))) s
        go None e = refused_has Waiting 21 (rw e refl)
        go (Some n) e = record { lawful = (k.lawful, rw e refl); force = k.force; gone = k.gone; choices = k.choices; search = k.search }

    rules_same : members s.force ≡ rules_in_force h
    rules_same = members_in_force s.force h k.force

    run_on : (b n : ℕ) → run t.narrowed (members s.force) b (search_after t h n) ≡ search_after t h (n + b)
    run_on b n = ap (λ (rs : List ℕ). run t.narrowed rs b (search_after t h n)) rules_same ∙ run_run t.narrowed (rules_in_force h) n b (started (opening_box t.slots (choices_of h)))

    -- work changes neither rules nor choices
    work_choices : (b : ℕ) (x : Standing) (n : ℕ) → choices_of h ≡ choices_of (Then h (Work b) (Worked x n))
    unfolding choices_of
    work_choices b x n = refl

    work_rules : (b : ℕ) (x : Standing) (n : ℕ) → rules_in_force h ≡ rules_in_force (Then h (Work b) (Worked x n))
    unfolding rules_in_force
    work_rules b x n = refl

    work_search : (b : ℕ) (x : Standing) (n m : ℕ) → search_after t h m ≡ search_after t (Then h (Work b) (Worked x n)) m
    work_search b x n m = ap₂ (λ (rs : List ℕ) (cs : List Choice). run t.narrowed rs m (started (opening_box t.slots cs))) (work_rules b x n) (work_choices b x n)

    abbrev WorkedHas : ℕ → Option SearchState → Type 0
    WorkedHas b x = Matches t (Then h (Work b) (work_answer (worked_on t.narrowed b x s).0)) (worked_on t.narrowed b x s).1

    -- accepted work, by what the search has become and the steps made
    accepted_has : (b n : ℕ) (x : SearchState) (y : ℕ) → granted h ≡ Some n → budget_lawful b ≡ true → x ≡ search_after t h (n + b) → y ≡ made t.narrowed (rules_in_force h) b (search_after t h n)
        → Matches t (Then h (Work b) (Worked x.standing y)) (with_search s (Some x))
    accepted_has b n x y e q m steps = record {
      lawful = (k.lawful, rw (e, q) (ap₂ (λ (z : SearchState) (i : ℕ). Worked z.standing i) m steps));
      force = k.force;
      gone = k.gone;
      choices = k.choices ∙ work_choices b x.standing y;
      search = rw e (ap (λ (z : SearchState). Some z) (m ∙ work_search b x.standing y (n + b)));
    }

    pub work_has : (b : ℕ) → Matches t (Then h (Work b) (work_answer (worked t.narrowed b s).0)) (worked t.narrowed b s).1
    work_has b = subst (WorkedHas b) (sym k.search) (go (granted h) refl)
      where
        go : (x : Option ℕ) → granted h ≡ x → WorkedHas b (open_search t h x)
        go None e = refused_has (Work b) 21 (rw e refl)
        go (Some n) e =
            ⊎_elim
            (λ (q : budget_lawful b ≡ true). rw q (accepted_has b n _ _ e q (run_on b n) (ap (λ (rs : List ℕ). made t.narrowed rs b (search_after t h n)) rules_same)))
            (λ (q : budget_lawful b ≡ false). rw q (refused_has (Work b) 31 (rw (e, q) refl)))
            (cases_Bool (budget_lawful b))
