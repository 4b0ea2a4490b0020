-- What a form, choices and table rules mean: a conditional constraint satisfaction problem, whose solutions are the kits.
use Rattle.std.specs.Prelude.{◌≡◌, ℕ, zero, suc, ◌<◌, true, List, [], ◌∷◌, ◌++◌, map, length, take, drop, Some, None, Option, slice_index}
use Rattle.catalogue.specs.Catalogues.{Rule}
use Rattle.catalogue.specs.declared.model.Kind.{Kind}
use Rattle.catalogue.specs.declared.model.Kind.TheVariants.{Goes, Needs, Bars}
use Rattle.catalogue.specs.declared.model.Slot.{Slot}
use Rattle.kits.specs.Kits.{Kit, Minimal}
use Rattle.kits.specs.declared.choices.Choice.{Choice}
use Rattle.forms.specs.Forms.{form_lawful}
use Rattle.forms.specs.Opening.{opening_box, MayTake}
use Rattle.rule_books.specs.Conditional.{Relation, Constraint, Problem, Assignment, Agree, Solution, MinimalSolution}
use Rattle.rule_books.specs.Conditional.Constraint.{compatible, requires, excludes}
use Rattle.rule_books.specs.Rules.{is_row}
use Rattle.rule_books.specs.Tables.{table_allows}

-- the constraint that a kind of rule makes of a relation
abbrev pub kind_constraint : Kind → Relation → Constraint
kind_constraint Goes R = compatible R
kind_constraint (Needs t) R = requires R t
kind_constraint (Bars t) R = excludes R t

-- the constraint of a rule: its relation permits the rows to the slots
abbrev pub rule_constraint : Rule → Constraint
rule_constraint r = kind_constraint r.kind (record { variables = r.slots; permits = is_row r.rows })

-- the rules of some numbers: a number that no rule has adds none
abbrev pub rules_at : List Rule → List ℕ → List Rule
rules_at rules [] = []
rules_at rules (r ∷ rs) = take 1 (drop r rules) ++ rules_at rules rs

-- a variable for each used slot: its domain has the parts that the slot may take, and it is initial unless the slot may be empty
abbrev pub problem : List Slot → List Choice → List Rule → Problem
problem slots choices rules = record {
  variables = length slots;
  domain = λ x v. (0 < v) × MayTake slots choices x v;
  initial = λ x. MayTake slots choices x 0 → ⊥;
  constraints = map rule_constraint rules;
}

-- an empty slot has no value, and any other its part
abbrev pub slot_value : ℕ → Option ℕ
slot_value zero = None
slot_value (suc p) = Some (suc p)

-- the assignment of a filling
abbrev pub assigned : List ℕ → Assignment
assigned f x = slot_value (slice_index f x)

-- the assignment of a filling solves, and each assignment that solves is that of one filling, and of no other
pub record OneToOne (Fills : List ℕ → Type 0) (Solves : Assignment → Type 0) : Type 0 where
  pub solves : (f : List ℕ) → Fills f → Solves (assigned f)
  pub found : (S : Assignment) → Solves S → (f : List ℕ) × (Fills f × Agree (assigned f) S)
  pub once : (f g : List ℕ) → Fills f → Fills g → Agree (assigned f) (assigned g) → f ≡ g

-- the kits under the rules rs are the solutions, and the minimal kits are the minimal solutions
pub record SameSolutions (slots : List Slot) (choices : List Choice) (rules : List Rule) (rs : List ℕ) : Type 0 where
  pub kits : OneToOne (Kit (table_allows rules) rs (opening_box slots choices)) (Solution (problem slots choices (rules_at rules rs)))
  pub minimal : OneToOne (Minimal (table_allows rules) rs (opening_box slots choices)) (MinimalSolution (problem slots choices (rules_at rules rs)))

abbrev pub KitsAreSolutions : Type 0
KitsAreSolutions = (slots : List Slot) (choices : List Choice) (rules : List Rule) (rs : List ℕ)
    → form_lawful slots ≡ true → length choices ≡ 24 → SameSolutions slots choices rules rs
