use Rattle.std.proofs.Common.{◌≡◌, ◌-◌, length}
use Rattle.fields.specs.Values.{place_of}
use Rattle.catalogue.specs.Listed.{listed}
use Rattle.catalogue.specs.Reading.{slots_lines}
use Rattle.catalogue.proofs.Turns.{after_front}
use Rattle.catalogue.proofs.reading.slots_lines.Given as goal

abbrev pub invariant-loop : goal.invariant-loop
invariant-loop l = (length (listed l.slots) ≡ l.counter) × (after_front (listed l.slots) (slots_lines (l.used - l.counter) (place_of l.reader)) ≡ slots_lines l.used (place_of l.initial.reader))
