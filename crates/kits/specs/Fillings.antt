-- Fillings: for each slot a number, 0 for empty or a part.
use Rattle.std.specs.Prelude.{◌≡◌, ℕ, ◌<◌, Bool, false, cond, ◌⊎◌, List, [], ◌∷◌, length, ◌==◌, nat_lt, slice_index, Contains}

-- each number is 0 or a part, 1 to 15
abbrev pub Numbers : List ℕ → Type 0
Numbers f = (k : ℕ) → k < length f → slice_index f k < 16

-- f precedes g: it has the lower number in the first slot where they differ
abbrev pub Before : List ℕ → List ℕ → Type 0
Before [] g = ⊥
Before (u ∷ f) [] = ⊥
Before (u ∷ f) (v ∷ g) = (u < v) ⊎ ((u ≡ v) × Before f g)

-- does f precede g?
abbrev pub before : List ℕ → List ℕ → Bool
before [] g = false
before (u ∷ f) [] = false
before (u ∷ f) (v ∷ g) = cond (u == v) (before f g) (nat_lt u v)

-- each filling precedes those after it
abbrev pub Rising : List (List ℕ) → Type 0
Rising [] = Unit {0}
Rising (f ∷ fs) = ((g : List ℕ) → Contains fs g → Before f g) × Rising fs
