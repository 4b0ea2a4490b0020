use Rattle.std.proofs.Common.{rules, ◌-◌, length}
use Rattle.kit.proofs.Fills.{consumed_then, next_came}
use Rattle.kit.proofs.fill.Goals as goal

pub loop-n-preserved : goal.loop-n-preserved
loop-n-preserved g c = (search rules, rw (next_came c.loop-n.n c.in_ok-got.got (length c.loop-n.buffer - c.loop-n.n) c.loop-n.buffer c.read.new.buf c.loop-n.invariant.0 c.in_ok-got.ensures.bound.0) (consumed_then _ _ _ _ _ c.loop-n.invariant.1 c.in_ok-got.ensures.bytes.0))
