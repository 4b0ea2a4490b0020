-- Conditional constraint satisfaction problems: a variable may be active, with a value, or inactive.
use Rattle.std.specs.Prelude.{◌≡◌, ℕ, ◌<◌, Bool, true, List, Some, Option}
use Rattle.std.specs.List.{AllZip, AllByRecursion}

-- a relation: which combinations of values it permits to some variables
pub record Relation : Type 0 where
  pub variables : List ℕ
  pub permits : List ℕ → Bool

-- a compatibility constraint, or an activity constraint: its condition requires a variable, or excludes one
pub data Constraint : Type 0 where
  compatible : Relation → Constraint
  requires : Relation → ℕ → Constraint
  excludes : Relation → ℕ → Constraint

-- the number of variables, which values are in the domain of each, which are initial, and the constraints
pub record Problem : Type 1 where
  pub variables : ℕ
  pub domain : ℕ → ℕ → Type 0
  pub initial : ℕ → Type 0
  pub constraints : List Constraint

-- values of some variables
abbrev pub Assignment : Type 0
Assignment = ℕ → Option ℕ

-- a variable is active exactly if it has a value
abbrev pub Active : Assignment → ℕ → Type 0
Active S x = (v : ℕ) × (S x ≡ Some v)

-- a relation is relevant exactly if all its variables are active
abbrev pub Relevant : Assignment → Relation → Type 0
Relevant S R = AllByRecursion (Active S) R.variables

-- a relation holds exactly if all its variables are active and it permits their values
abbrev pub Holds : Assignment → Relation → Type 0
Holds S R = (vs : List ℕ) × (AllZip (λ x v. S x ≡ Some v) R.variables vs × (R.permits vs ≡ true))

abbrev pub Satisfies : Assignment → Constraint → Type 0
Satisfies S (compatible R) = Relevant S R → Holds S R
Satisfies S (requires R x) = Holds S R → Active S x
Satisfies S (excludes R x) = Holds S R → Active S x → ⊥

-- only variables have values, each of its domain; the initial ones are active; and every constraint is satisfied
pub record Solution (P : Problem) (S : Assignment) : Type 0 where
  pub values : (x v : ℕ) → S x ≡ Some v → (x < P.variables) × P.domain x v
  pub initials : (x : ℕ) → x < P.variables → P.initial x → Active S x
  pub constraints : AllByRecursion (Satisfies S) P.constraints

-- each variable with its value in S has this value in T
abbrev pub Subset : Assignment → Assignment → Type 0
Subset S T = (x v : ℕ) → S x ≡ Some v → T x ≡ Some v

-- the same variables have values, and the same ones
abbrev pub Agree : Assignment → Assignment → Type 0
Agree S T = (x : ℕ) → S x ≡ T x

-- a solution with no other solution as a subset
pub record MinimalSolution (P : Problem) (S : Assignment) : Type 0 where
  pub solution : Solution P S
  pub least : (T : Assignment) → Solution P T → Subset T S → Agree T S
