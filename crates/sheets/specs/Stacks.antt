-- The waiting boxes, the first of them last.
use Rattle.std.specs.Prelude.{ℕ, Bool, true, ◌&&◌, List, [], ◌∷◌, map, length, nat_le, reverse}
use Rattle.kits.specs.Boxes.{settled}
use Rattle.kits.specs.declared.label_box.LabelBox.{LabelBox}

-- the labels of the boxes that wait, the first of them first
abbrev pub waiting_boxes : List LabelBox → List (List ℕ)
waiting_boxes boxes = reverse (map (λ (b : LabelBox). b.labels) boxes)

-- has each box as many single slots in front as boxes wait after it? With 24 slots that leaves room for 25 boxes at most
abbrev pub stacked : List (List ℕ) → Bool
stacked [] = true
stacked (b ∷ w) = nat_le (length w) (settled b) && stacked w
