use Rattle.std.proofs.Common.{◌∙◌}
use Rattle.fields.specs.Values.{place_of, values_of}
use Rattle.catalogue.specs.Listed.{listed}
use Rattle.catalogue.proofs.RuleTurns.{rule_stored}
use Rattle.catalogue.proofs.reading.rule_lines.Goals as goal

pub returns : goal.returns
returns g c =
    (rw (c.keep_rule_head.ensures, c.as_slice.ensures.value) at c.rows_lines.ensures)
    ∙ rule_stored (listed c.args.slots.now) c.args.out.now (place_of c.args.reader.now) (place_of c.kind_line.new.reader) (place_of c.of_line.new.reader) (place_of c.number_line.new.reader)
    c.in_ok-kind.kind (values_of c.in_ok-of.of) c.in_ok-rows.rows
    (rw c.used-used.ensures.value at c.in_ok-kind.ensures) (rw c.used-used.ensures.value at c.in_ok-of.ensures) c.in_ok-rows.ensures.value
