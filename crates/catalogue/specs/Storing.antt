-- What a program keeps of cells and texts, piece by piece.
use Rattle.std.specs.Prelude.{ℕ, ◌-◌, List, [], ◌∷◌, ◌++◌, map, length, take}
use Rattle.catalogue.specs.declared.model.Kind.{Kind}
use Rattle.catalogue.specs.declared.model.Slot.{Slot}
use Rattle.catalogue.specs.Cells.{kind_cell, target_cell, slot_cell}

-- items that were held, and as many items after them as there is room for
unfoldable pub held : {T : Type 0} → ℕ → List T → List T → List T
held room old xs = old ++ take (room - length old) xs

-- a rule's cells before its rows
abbrev pub rule_head : Kind → List ℕ → ℕ → List ℕ
rule_head k slots rows = kind_cell k ∷ target_cell k ∷ length slots ∷ (slots ++ (rows ∷ []))

-- a catalogue's cells before its rules
abbrev pub catalogue_head : ℕ → List Slot → ℕ → List ℕ
catalogue_head mark slots rules = mark ∷ length slots ∷ (map slot_cell slots ++ (rules ∷ []))
