use Rattle.std.proofs.Common.{◌≡◌, ◌-◌, length, drop}
use Rattle.catalogue.specs.Cells.{slots_of}
use Rattle.catalogue.specs.Listed.{listed}
use Rattle.catalogue.proofs.CellViews.{with_front}
use Rattle.catalogue.proofs.cells.slots_of_cells.Given as goal

abbrev pub invariant-loop-cell : goal.invariant-loop-cell
invariant-loop-cell l =
    (length (listed l.slots) ≡ l.cell-index)
    × (with_front (listed l.slots) (slots_of (length l.cells - l.cell-index) (drop l.cell-index l.cells)) ≡ slots_of (length l.cells) l.cells)
