use Rattle.fields.specs.Values.{place_of}
use Rattle.catalogue.specs.Listed.{listed}
use Rattle.catalogue.proofs.RuleTurns.{text_stored}
use Rattle.catalogue.proofs.reading.read_text.Goals as goal

pub returns : goal.returns
returns g c =
    text_stored c.args.text.now c.args.out.now c.rules_lines.new.out c.in_ok-head.head.mark c.in_ok-head.head.rules (listed c.in_ok-head.head.slots)
    (place_of c.in_ok-reader.reader) (place_of c.head_lines.new.reader) (place_of c.rules_lines.new.reader)
    c.in_ok-reader.ensures c.in_ok-head.ensures.value (rw c.keep_catalogue_head.ensures at c.in_ok-rules_lines.ensures) c.if-not-is_end.ensures
