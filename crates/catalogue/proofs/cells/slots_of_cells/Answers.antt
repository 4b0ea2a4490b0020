use Rattle.std.proofs.Common.{◌+◌, ap, ◌∙◌, arith}
use Rattle.std.proofs.lemmas.List.{length_push}
use Rattle.std.proofs.lemmas.Bool.Decides.{nat_tests}
use Rattle.catalogue.specs.Listed.{listed}
use Rattle.catalogue.proofs.CellViews.{slots_failed, slots_passed}
use Rattle.catalogue.proofs.cells.slots_of_cells.Goals as goal

pub returns-in_err-of_cell : goal.returns-in_err-of_cell
returns-in_err-of_cell c =
    let none = slots_failed c.args.cells.now c.loop-cell.cell-index (listed c.loop-cell.slots) c.loop-cell-test.true c.loop-cell.invariant.1 c.in_err-of_cell.ensures in
    grind (arith, nat_tests)

pub loop-cell-preserved : goal.loop-cell-preserved
loop-cell-preserved c =
    rw c.push.ensures (
      length_push (listed c.loop-cell.slots) c.in_ok-of_cell.field-0 ∙ ap (λ n. n + 1) c.loop-cell.invariant.0,
      slots_passed c.args.cells.now c.loop-cell.cell-index (listed c.loop-cell.slots) c.loop-cell-test.true c.loop-cell.invariant.1 c.in_ok-of_cell.ensures,
    )
