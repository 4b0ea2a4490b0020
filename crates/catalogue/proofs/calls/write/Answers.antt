use Rattle.std.proofs.Common.{length, arith}
use Rattle.catalogue.proofs.TheLaw.{reads_what_is_written}
use Rattle.catalogue.proofs.WriteCalls.{long_text, whole_text}
use Rattle.catalogue.proofs.calls.write.Goals as goal

pub returns-then-count-text : goal.returns-then-count-text
returns-then-count-text c =
    let put = rw (c.in_ok-ok_or.ensures.ok_part, c.new-written.ensures, ← c.as_slice-written.ensures) at c.put_catalogue.ensures in
    rw (c.at-then-count-text.ensures, long_text c.args.cells.now c.as_slice-written.result.now put (length c.args.text.now) c.if-count-text.true) (grind (arith, reads_what_is_written))

pub returns : goal.returns
returns c =
    let put = rw (c.in_ok-ok_or.ensures.ok_part, c.new-written.ensures, ← c.as_slice-written.ensures) at c.put_catalogue.ensures in
    rw (whole_text c.args.cells.now c.as_slice-written.result.now put (length c.args.text.now) c.if-count-text.false) (grind (arith, reads_what_is_written))
