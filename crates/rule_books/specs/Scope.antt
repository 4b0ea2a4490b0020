-- Some slots of a box.
use Rattle.std.specs.Prelude.{ℕ, ◌<◌, List, [], ◌∷◌, length, ◌≢◌, slice_index, slice_set}

-- labels put into slots
abbrev pub put_at : List ℕ → List ℕ → List ℕ → List ℕ
put_at [] labels b = b
put_at (s ∷ slots) [] b = b
put_at (s ∷ slots) (l ∷ labels) b = put_at slots labels (slice_set b s l)

-- each slot is below n
abbrev pub Within : ℕ → List ℕ → Type 0
Within n slots = (k : ℕ) → k < length slots → slice_index slots k < n

-- t is none of the slots
abbrev pub Aside : ℕ → List ℕ → Type 0
Aside t slots = (k : ℕ) → k < length slots → slice_index slots k ≢ t

-- no slot stands twice
abbrev pub Distinct : List ℕ → Type 0
Distinct slots = (j k : ℕ) → j < k → k < length slots → slice_index slots k ≢ slice_index slots j
