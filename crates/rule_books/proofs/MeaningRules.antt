-- A rule allows a filling exactly if the filling's assignment satisfies the rule's constraint.
use Rattle.std.proofs.Common.{◌≡◌, ℕ, zero, suc, ◌<◌, Bool, true, false, ◌||◌, eqb, List, [], ◌∷◌, ◌++◌, map, get_or, take, drop, Some, unwrap_or, sym, refl, ap, ◌∙◌, ap₂, ⊎_elim, arith}
use Rattle.std.proofs.lemmas.Bool.{both_ways, cases_Bool, ne_eqb, not-true, not-false, not_from_true, not_from_false, or_parts, or_from, true≢false}
use Rattle.std.specs.List.{AllZip, AllByRecursion}
use Rattle.catalogue.specs.Catalogues.{Rule}
use Rattle.catalogue.specs.declared.model.Kind.{Kind}
use Rattle.catalogue.specs.declared.model.Kind.TheVariants.{Goes, Needs, Bars}
use Rattle.kits.specs.Kits.{Allowed}
use Rattle.kits.specs.Laws.{Iff}
use Rattle.rule_books.specs.Conditional.{Relation, Assignment, Active, Holds, Satisfies}
use Rattle.rule_books.specs.Meaning.{kind_constraint, rule_constraint, rules_at, slot_value, assigned}
use Rattle.rule_books.specs.Rules.{at_slots, some_empty, is_row, spares, kind_allows}
use Rattle.rule_books.specs.Tables.{table_allows}

-- the constraint of each rule is satisfied
abbrev pub Satisfied : Assignment → List Rule → Type 0
Satisfied S rules = AllByRecursion (Satisfies S) (map rule_constraint rules)

pub value_number : (n : ℕ) → unwrap_or (slot_value n) 0 ≡ n
value_number zero = refl
value_number (suc p) = refl

pub value_some : (n : ℕ) → 0 < n → slot_value n ≡ Some n
value_some zero h = absurd (omega arith)
value_some (suc p) h = refl

-- a slot is filled exactly if it has a value
pub filled : (n : ℕ) → Iff (eqb n 0 ≡ false) ((v : ℕ) × (slot_value n ≡ Some v))
filled zero = (λ e. absurd (true≢false e), λ a. let e = a.1 in absurd (grind arith))
filled (suc p) = (λ e. (suc p, refl), λ a. ne_eqb (suc p) 0 (λ e. absurd (omega arith)))

-- and empty exactly if it has none
empty : (n : ℕ) → Iff (eqb n 0 ≡ true) ((v : ℕ) × (slot_value n ≡ Some v) → ⊥)
empty n = (
  λ e a. both_ways _ ((filled n).1 a) e,
  λ h. ⊎_elim (λ (e : eqb n 0 ≡ true). e) (λ (e : eqb n 0 ≡ false). absurd (h ((filled n).0 e))) (cases_Bool (eqb n 0)),
)

or_unless : {X Y : Type 0} (x y : Bool) → Iff (x ≡ false) X → (X → Iff (y ≡ true) Y) → Iff ((x || y) ≡ true) (X → Y)
or_unless true y i j = (λ e a. absurd (true≢false (i.1 a)), λ h. refl)
or_unless false y i j = (λ e a. (j a).0 e, λ h. let a = i.0 refl in (j a).1 (h a))

module _ (f : List ℕ) where
  -- the slots xs have the values vs
  abbrev Values : List ℕ → List ℕ → Type 0
  Values xs vs = AllZip (λ x v. assigned f x ≡ Some v) xs vs

  abbrev AllActive : List ℕ → Type 0
  AllActive xs = AllByRecursion (Active (assigned f)) xs

  pub value_is : (x v : ℕ) → assigned f x ≡ Some v → get_or f x 0 ≡ v
  value_is x v e = sym (value_number (get_or f x 0)) ∙ ap (λ o. unwrap_or o 0) e

  -- none of the slots is empty exactly if all are active
  none_empty : (xs : List ℕ) → Iff (some_empty (at_slots xs f) ≡ false) (AllActive xs)
  none_empty [] = (λ e. tt, λ a. refl)
  none_empty (x ∷ xs) = (
    λ e. let p = or_parts (eqb (get_or f x 0) 0) _ e in ((filled (get_or f x 0)).0 p.0, (none_empty xs).0 p.1),
    λ a. or_from (eqb (get_or f x 0) 0) _ ((filled (get_or f x 0)).1 a.0) ((none_empty xs).1 a.1),
  )

  active_values : (xs : List ℕ) → AllActive xs → Values xs (at_slots xs f)
  active_values [] a = tt
  active_values (x ∷ xs) a = (a.0.1 ∙ ap Some (sym (value_is x a.0.0 a.0.1)), active_values xs a.1)

  values_are : (xs vs : List ℕ) → Values xs vs → AllActive xs × (vs ≡ at_slots xs f)
  values_are [] [] e = (tt, refl)
  values_are [] (v ∷ vs) e = absurd e
  values_are (x ∷ xs) [] e = absurd e
  values_are (x ∷ xs) (v ∷ vs) e =
      let p = values_are xs vs e.1 in
      (((v, e.0), p.0), ap₂ (λ (y : ℕ) (ys : List ℕ). y ∷ ys) (sym (value_is x v e.0)) p.1)

  module _ (slots : List ℕ) (rows : List (List ℕ)) where
    abbrev table : Relation
    table = record { variables = slots; permits = is_row rows }

    -- where all are active, their parts are a row exactly if the relation holds
    row_holds : AllActive slots → Iff (is_row rows (at_slots slots f) ≡ true) (Holds (assigned f) table)
    row_holds a = (λ r. (at_slots slots f, (active_values slots a, r)), λ h. rw (values_are slots h.0 h.1.0).1 at h.1.1)

    not_spared : Iff (spares rows (at_slots slots f) ≡ false) (Holds (assigned f) table)
    not_spared = (
      λ s. let p = or_parts (some_empty (at_slots slots f)) _ s in (row_holds ((none_empty slots).0 p.0)).0 (not-false _ p.1),
      λ h. let a = (values_are slots h.0 h.1.0).0 in or_from _ _ ((none_empty slots).1 a) (not_from_true _ ((row_holds a).1 h)),
    )

    kind_satisfied : (k : Kind) → Iff (kind_allows k slots rows f ≡ true) (Satisfies (assigned f) (kind_constraint k table))
    kind_satisfied Goes = or_unless _ _ (none_empty slots) row_holds
    kind_satisfied (Needs t) = or_unless _ _ not_spared (λ h. (λ e. (filled _).0 (not-true _ e), λ a. not_from_false _ ((filled (get_or f t 0)).1 a)))
    kind_satisfied (Bars t) = or_unless _ _ not_spared (λ h. empty (get_or f t 0))

  -- one rule more
  rule_more : (rules : List Rule) (r : ℕ) (more : List Rule)
      → Iff ((table_allows rules r f ≡ true) × Satisfied (assigned f) more) (Satisfied (assigned f) (take 1 (drop r rules) ++ more))
  rule_more [] zero more = (λ p. p.1, λ a. (refl, a))
  rule_more [] (suc r) more = (λ p. p.1, λ a. (refl, a))
  rule_more (x ∷ rules) zero more =
      let k = kind_satisfied x.slots x.rows x.kind in
      (λ p. (k.0 p.0, p.1), λ a. (k.1 a.0, a.1))
  rule_more (x ∷ rules) (suc r) more = rule_more rules r more

  pub rules_satisfied : (rules : List Rule) (rs : List ℕ) → Iff (Allowed (table_allows rules) rs f) (Satisfied (assigned f) (rules_at rules rs))
  rules_satisfied rules [] = (λ a. tt, λ a. tt)
  rules_satisfied rules (r ∷ rs) =
      let m = rule_more rules r (rules_at rules rs) in
      let i = rules_satisfied rules rs in
      (λ a. m.0 (a.0, i.0 a.1), λ a. let p = m.1 a in (p.0, i.1 p.1))
