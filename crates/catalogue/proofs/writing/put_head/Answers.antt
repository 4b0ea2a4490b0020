use Rattle.std.proofs.Common.{sym, ap}
use Rattle.catalogue.specs.Listed.{listed}
use Rattle.catalogue.specs.Storing.{held}
use Rattle.catalogue.proofs.Helds.{held_then}
use Rattle.catalogue.proofs.TextPieces.{head_pieces}
use Rattle.catalogue.proofs.writing.put_head.Goals as goal

pub returns : goal.returns
returns c =
    rw (c.put_number_line-3.ensures, c.put_slots.ensures, c.put_number_line-2.ensures, c.put_number_line.ensures, c.used.ensures.value, held_then, held_then, held_then)
    (sym (ap (held 65536 c.args.out.now.items) (head_pieces c.args.mark (listed c.args.slots.now) c.args.rules)))
