-- Laws of the waiting boxes.
use Rattle.std.proofs.Common.{◌≡◌, ℕ, ◌≤◌, true, List, ◌∷◌, map, length, ◌∙◌, arith}
use Rattle.std.proofs.lemmas.List.{length-map, length-reverse}
use Rattle.std.proofs.lemmas.Bool.Decides.{nat_tests}
use Rattle.kits.specs.Boxes.{settled}
use Rattle.kits.specs.declared.label_box.LabelBox.{LabelBox}
use Rattle.sheets.specs.Stacks.{waiting_boxes, stacked}

pub waiting_length : (boxes : List LabelBox) → length (waiting_boxes boxes) ≡ length boxes
waiting_length boxes = length-reverse (map (λ (b : LabelBox). b.labels) boxes) ∙ length-map boxes (λ (b : LabelBox). b.labels)

pub stacked_first : (b : List ℕ) (w : List (List ℕ)) → stacked (b ∷ w) ≡ true → length w ≤ settled b
stacked_first b w s = grind (arith, nat_tests)

pub stacked_rest : (b : List ℕ) (w : List (List ℕ)) → stacked (b ∷ w) ≡ true → stacked w ≡ true
stacked_rest b w s = grind (arith, nat_tests)

pub stacked_more : (b : List ℕ) (w : List (List ℕ)) → length w ≤ settled b → stacked w ≡ true → stacked (b ∷ w) ≡ true
stacked_more b w h s = grind (arith, nat_tests)
