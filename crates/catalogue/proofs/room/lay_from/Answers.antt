use Rattle.std.proofs.Common.{arith, length-set}
use Rattle.catalogue.proofs.Helds.{laid_turn}
use Rattle.catalogue.proofs.room.lay_from.Goals as goal
use Rattle.catalogue.proofs.room.lay_from.Goals.{then-end-places, else-end-places}

pub loop-item-preserved : goal.loop-item-preserved
loop-item-preserved g c = elim c.if-end-places.branch [
  | then-end-places w ↦
      let same = length-set c.loop-item.places c.loop-item.end c.item-item.result in
      rw (w.places-is, w.end-is) (
        omega arith,
        omega arith,
        laid_turn c.args.places.now c.loop-item.places c.args.items.now c.args.at c.loop-item.end c.loop-item.item-index c.item-item.result (omega arith) (omega arith) c.loop-item-test.true c.item-item.is c.loop-item.invariant.2,
      )
  | else-end-places w ↦ rw (w.places-is, w.end-is) (omega arith, omega arith, c.loop-item.invariant.2)
]
