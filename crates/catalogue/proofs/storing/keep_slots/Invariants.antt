use Rattle.std.proofs.Common.{◌≡◌, map, drop}
use Rattle.catalogue.specs.Cells.{slot_cell}
use Rattle.catalogue.specs.Keeping.{kept}
use Rattle.catalogue.proofs.storing.keep_slots.Given as goal

abbrev pub invariant-loop-slot : goal.invariant-loop-slot
invariant-loop-slot g l = kept l.out (map slot_cell (drop l.slot-index l.slot-items)) ≡ kept l.initial.out (map slot_cell l.slot-items)
