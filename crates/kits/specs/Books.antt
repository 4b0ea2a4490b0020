-- What a rule book means, and the laws that it keeps.
use Rattle.std.specs.Prelude.{◌≡◌, ℕ, ◌<◌, ◌≤◌, Bool, true, List, is_some, Some, Option, MatchOption, slice_index}
use Rattle.kits.specs.Labels.{Has}
use Rattle.kits.specs.Boxes.{Boxed, In, single, lowest_filling}

-- each label of c is a part of that of b
abbrev pub Part : List ℕ → List ℕ → Type 0
Part c b = (k v : ℕ) → Has (slice_index c k) v → Has (slice_index b k) v

-- the laws of a book, for every rule and box
pub record Laws (rules : ℕ) (allows : ℕ → List ℕ → Bool) (narrowed : ℕ → List ℕ → Option (List ℕ)) : Type 0 where
  -- there are at most 64 rules
  pub few : rules ≤ 64
  -- narrowing by a number that no rule has leaves the box
  pub beyond : (r : ℕ) (b : List ℕ) → rules ≤ r → narrowed r b ≡ Some b
  -- a narrowed box is a box, and each label of it a part of the earlier one
  pub parts : (r : ℕ) (b c : List ℕ) → Boxed b → narrowed r b ≡ Some c → Boxed c × Part c b
  -- every filling that the rule allows stays, and where narrowing fails there was none
  pub keeps : (r : ℕ) (b f : List ℕ) → r < rules → Boxed b → In f b → allows r f ≡ true → MatchOption (narrowed r b) ⊥ (λ c. In f c)
  -- a single box fits exactly if the rule allows its filling
  pub judges : (r : ℕ) (b : List ℕ) → r < rules → Boxed b → single b ≡ true → is_some (narrowed r b) ≡ allows r (lowest_filling b)
