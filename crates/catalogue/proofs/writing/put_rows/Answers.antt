use Rattle.std.proofs.Common.{◌≡◌, ◌+◌, ◌-◌, sym, ap, ◌∙◌, arith}
use Rattle.catalogue.specs.Storing.{held}
use Rattle.catalogue.proofs.Helds.{held_none, held_then}
use Rattle.catalogue.proofs.TextPieces.{rows_next, row_cells}
use Rattle.catalogue.proofs.writing.put_rows.Goals as goal

pub loop-preserved : goal.loop-preserved
loop-preserved c =
    let n = c.args.count - c.loop.counter in
    let m : c.args.count - (c.loop.counter + 1) ≡ n - 1 = omega arith in
    let cells = row_cells n c.args.wide (omega arith) in
    rw m (
      omega arith,
      rw (c.put_list.ensures, held_then, c.split_at.ensures.front, c.split_at.ensures.back)
          (sym (ap (held 65536 c.loop.out.items) (rows_next n c.args.wide c.loop.left.now (omega arith))) ∙ c.loop.invariant.1),
    )

pub returns : goal.returns
returns c =
    let e : c.args.count - c.loop.counter ≡ 0 = omega arith in
    sym (held_none 65536 c.loop.out.items) ∙ (rw e at c.loop.invariant.1)
