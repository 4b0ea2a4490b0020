use Rattle.std.proofs.Common.{◌≡◌, ◌-◌, ◌*◌, ◌≤◌, [], length}
use Rattle.catalogue.specs.Cells.{rows_of}
use Rattle.catalogue.specs.Storing.{held}
use Rattle.catalogue.specs.Writing.{rows_text}
use Rattle.catalogue.proofs.writing.put_rows.Given as goal

abbrev pub invariant-loop : goal.invariant-loop
invariant-loop l =
    ((l.count - l.counter) * l.wide ≤ length l.left)
    × (held 65536 l.out.items (rows_text (rows_of (l.count - l.counter) l.wide l.left) []) ≡ held 65536 l.initial.out.items (rows_text (rows_of l.count l.wide l.rows) []))
