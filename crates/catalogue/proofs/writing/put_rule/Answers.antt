use Rattle.std.proofs.Common.{length, sym, ap}
use Rattle.catalogue.specs.Listed.{rule_in}
use Rattle.catalogue.specs.Storing.{held}
use Rattle.catalogue.proofs.CellLaws.{rows_count}
use Rattle.catalogue.proofs.Helds.{held_then}
use Rattle.catalogue.proofs.TextPieces.{rule_pieces}
use Rattle.catalogue.proofs.writing.put_rule.Goals as goal

pub returns : goal.returns
returns c =
    let n = rows_count c.args.rule.count (length c.args.rule.slots.now) c.args.rule.rows.now in
    let count = rw (← n) at c.put_number_line.ensures in
    rw (c.put_rows.ensures, count, c.put_list.ensures, c.put_kind.ensures, held_then, held_then, held_then)
    (sym (ap (held 65536 c.args.out.now.items) (rule_pieces (rule_in c.args.rule))))
