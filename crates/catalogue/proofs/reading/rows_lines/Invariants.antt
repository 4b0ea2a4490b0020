use Rattle.std.proofs.Common.{◌≡◌, ◌-◌, map}
use Rattle.std.specs.List.{flat_map}
use Rattle.fields.specs.Results.{mapped_ok}
use Rattle.fields.specs.Values.{place_of}
use Rattle.catalogue.specs.Lawful.{offered}
use Rattle.catalogue.specs.Listed.{listed}
use Rattle.catalogue.specs.Reading.{rows_lines}
use Rattle.catalogue.specs.Keeping.{stored}
use Rattle.catalogue.proofs.reading.rows_lines.Given as goal

abbrev pub invariant-loop : goal.invariant-loop
invariant-loop g l =
    mapped_ok (stored (flat_map (λ row. row)) l.out) (rows_lines (l.rows - l.counter) (map (offered (listed l.slots)) l.of) (place_of l.reader))
    ≡ mapped_ok (stored (flat_map (λ row. row)) l.initial.out) (rows_lines l.rows (map (offered (listed l.slots)) l.of) (place_of l.initial.reader))
