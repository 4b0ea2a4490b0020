use Rattle.std.proofs.Common.{◌≡◌, ◌+◌, ◌-◌, ◌∙◌, arith}
use Rattle.catalogue.specs.Listed.{listed}
use Rattle.catalogue.proofs.CellViews.{some_passed}
use Rattle.catalogue.proofs.cells.pass_rules.Goals as goal

pub loop-preserved : goal.loop-preserved
loop-preserved c =
    let m : c.args.count - (c.loop.counter + 1) ≡ c.args.count - c.loop.counter - 1 = omega arith in
    rw m (some_passed (listed c.args.slots.now) (c.args.count - c.loop.counter) c.loop.left.now (omega arith) c.in_ok-after.ensures ∙ c.loop.invariant)
