-- One step of a search.
use Rattle.std.specs.Prelude.{ℕ, cond, List, [], ◌∷◌, Some, None, Option}
use Rattle.std.specs.Option.{option_and_then}
use Rattle.kits.specs.Boxes.{single, first_half, second_half, lowest_filling}

-- the box narrowed by each rule of the list in turn, or none where one fails
abbrev pub narrowed_by_all : (ℕ → List ℕ → Option (List ℕ)) → List ℕ → List ℕ → Option (List ℕ)
narrowed_by_all narrowed [] b = Some b
narrowed_by_all narrowed (r ∷ rs) b = option_and_then (narrowed_by_all narrowed rs) (narrowed r b)

-- how a search stands: not ended, or ended with a kit or with none
pub data Standing : Type 0 where
  paused : Standing
  kit : List ℕ → Standing
  no_kit : Standing

-- the waiting boxes, the first of them first, and how the search stands
pub record SearchState : Type 0 where
  pub boxes : List (List ℕ)
  pub standing : Standing

-- a search that no kit has ended stands so over its waiting boxes
abbrev pub standing_over : List (List ℕ) → Standing
standing_over [] = no_kit
standing_over (b ∷ w) = paused

abbrev pub without_kit : List (List ℕ) → SearchState
without_kit w = record { boxes = w; standing = standing_over w }

-- a single box was narrowed: it is the kit where all rules fit, and is dropped where one fails
abbrev pub judged : List ℕ → Option (List ℕ) → List (List ℕ) → SearchState
judged b None w = without_kit w
judged b (Some c) w = record { boxes = w; standing = kit (lowest_filling b) }

-- a box goes in front, whole if it is single, and else as its halves
abbrev pub put_back : List ℕ → List (List ℕ) → List (List ℕ)
put_back b w = cond (single b) (b ∷ w) (first_half b ∷ second_half b ∷ w)

-- a box that is not single was narrowed: what is left of it goes back, and it is dropped where a rule fails
abbrev pub replaced : Option (List ℕ) → List (List ℕ) → List (List ℕ)
replaced None w = w
replaced (Some c) w = put_back c w

-- the first box is taken off and narrowed by the rules
abbrev pub stepped : (ℕ → List ℕ → Option (List ℕ)) → List ℕ → List (List ℕ) → SearchState
stepped narrowed rs [] = without_kit []
stepped narrowed rs (b ∷ w) =
    cond (single b) (judged b (narrowed_by_all narrowed rs b) w) (without_kit (replaced (narrowed_by_all narrowed rs b) w))
