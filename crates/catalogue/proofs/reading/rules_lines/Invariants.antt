use Rattle.std.proofs.Common.{◌≡◌, ◌-◌}
use Rattle.std.specs.List.{flat_map}
use Rattle.fields.specs.Results.{mapped_ok}
use Rattle.fields.specs.Values.{place_of}
use Rattle.catalogue.specs.Cells.{rule_cells}
use Rattle.catalogue.specs.Listed.{listed}
use Rattle.catalogue.specs.Reading.{rules_lines}
use Rattle.catalogue.specs.Keeping.{stored}
use Rattle.catalogue.proofs.reading.rules_lines.Given as goal

abbrev pub invariant-loop : goal.invariant-loop
invariant-loop g l =
    mapped_ok (stored (flat_map rule_cells) l.out) (rules_lines (l.rules - l.counter) (listed l.slots) (place_of l.reader))
    ≡ mapped_ok (stored (flat_map rule_cells) l.initial.out) (rules_lines l.rules (listed l.slots) (place_of l.initial.reader))
