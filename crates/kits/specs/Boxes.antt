-- Boxes: a label for each slot, and the fillings that they hold.
use Rattle.std.specs.Prelude.{◌≡◌, ℕ, suc, ◌*◌, ◌^◌, ◌<◌, Bool, true, false, cond, not, ◌&&◌, List, [], ◌∷◌, map, length, Some, None, Option, ◌==◌, count_ones, slice_index}
use Rattle.std.specs.List.{list_all}
use Rattle.kits.specs.Labels.{Has, has_member, least, low, others}

-- no label is without a member
abbrev pub Full : List ℕ → Type 0
Full b = (k : ℕ) → k < length b → 0 < slice_index b k

-- has each label a member?
abbrev pub all_some : List ℕ → Bool
all_some b = list_all (λ l. not (l == 0)) b

-- each label has 16 bits
abbrev pub Small : List ℕ → Type 0
Small b = (k : ℕ) → k < length b → slice_index b k < 2 ^ 16

-- a box: 24 labels, none without a member
abbrev pub Boxed : List ℕ → Type 0
Boxed b = (length b ≡ 24) × Full b × Small b

-- the filling is in the box: each number is in its label
abbrev pub In : List ℕ → List ℕ → Type 0
In [] [] = Unit {0}
In [] (l ∷ b) = ⊥
In (v ∷ f) [] = ⊥
In (v ∷ f) (l ∷ b) = Has l v × In f b

-- is the filling in the box?
abbrev pub holds : List ℕ → List ℕ → Bool
holds [] [] = true
holds [] (v ∷ f) = false
holds (l ∷ b) [] = false
holds (l ∷ b) (v ∷ f) = has_member l v && holds b f

-- the number of fillings
abbrev pub volume : List ℕ → ℕ
volume [] = 1
volume (l ∷ b) = count_ones l * volume b

-- has each label one member only?
abbrev pub single : List ℕ → Bool
single b = list_all (λ l. count_ones l == 1) b

-- how many slots come before the first with several members
abbrev pub settled : List ℕ → ℕ
settled [] = 0
settled (l ∷ b) = cond (count_ones l == 1) (suc (settled b)) 0

-- the open slot: the lowest with several members, unless the box is single
abbrev pub open_slot : List ℕ → Option ℕ
open_slot b = cond (single b) None (Some (settled b))

-- the open slot has a part of its label
abbrev pub half : (ℕ → ℕ) → List ℕ → List ℕ
half part [] = []
half part (l ∷ b) = cond (count_ones l == 1) (l ∷ half part b) (part l ∷ b)

-- the open slot has its lowest member alone
abbrev pub first_half : List ℕ → List ℕ
first_half b = half low b

-- the open slot has its other members
abbrev pub second_half : List ℕ → List ℕ
second_half b = half others b

-- the two halves, unless the box is single
abbrev pub halves : List ℕ → Option (List ℕ × List ℕ)
halves b = cond (single b) None (Some (first_half b, second_half b))

-- the lowest member of each label
abbrev pub lowest_filling : List ℕ → List ℕ
lowest_filling b = map least b
