use Rattle.std.proofs.Common.{◌≡◌, ◌-◌, map, length}
use Rattle.catalogue.specs.Cells.{rows_of}
use Rattle.catalogue.specs.Lawful.{all, offered, row_lawful}
use Rattle.catalogue.specs.Listed.{listed}
use Rattle.catalogue.proofs.cells.rows_fit.Given as goal

abbrev pub invariant-loop : goal.invariant-loop
invariant-loop l =
    all (row_lawful (map (offered (listed l.slots)) l.of)) (rows_of (l.count - l.counter) (length l.of) l.left)
    ≡ all (row_lawful (map (offered (listed l.slots)) l.of)) (rows_of l.count (length l.of) l.rows)
