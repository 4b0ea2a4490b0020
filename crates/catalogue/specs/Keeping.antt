-- The cells that a program keeps of a text, piece by piece.
use Rattle.std.specs.Prelude.{ℕ, ◌+◌, ◌-◌, ◌^◌, min, List, [], length}
use Rattle.fields.specs.Lines.{Position}
use Rattle.catalogue.specs.declared.storing.Kept.{Kept}
use Rattle.catalogue.specs.Storing.{held}

-- no cells
abbrev pub nothing_kept : {N : ℕ} → Kept N
nothing_kept = record { cells = record { items = [] }; count = 0 }

-- cells that were kept and cells after them: as many as there is room for, and how many they are
unfoldable pub kept : {N : ℕ} → Kept N → List ℕ → Kept N
kept {N} k cells = record { cells = record { items = held N k.cells.items cells }; count = k.count + min (length cells) (2 ^ 64 - 1 - k.count) }

-- what was kept with the cells of what was read, and the place in the text
abbrev pub stored : {N : ℕ} {T : Type 0} → (T → List ℕ) → Kept N → T × Position → Kept N × Position
stored cells k x = (kept k (cells x.0), x.1)
