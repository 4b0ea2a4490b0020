use Rattle.std.proofs.Common.{length, ap, ◌∙◌}
use Rattle.catalogue.specs.Outcomes.{laid}
use Rattle.catalogue.proofs.ReadCalls.{unmapped, read_small}
use Rattle.catalogue.proofs.calls.read.Goals as goal

pub returns-in_err-count-clause-after : goal.returns-in_err-count-clause-after
returns-in_err-count-clause-after c = ap (λ r. laid r c.args.cells.now) (unmapped length _ _ c.in_err-count.ensures.value)

pub lay-requires : goal.lay-requires
lay-requires c = rw c.as_slice.ensures (read_small c.args.text.now c.read_within.new.out.cells.items (length c.args.cells.now) (c.in_ok-count.ensures.cells c.in_ok-count.ensures.few))

pub returns-clause-after : goal.returns-clause-after
returns-clause-after c = (rw c.as_slice.ensures at c.lay.ensures) ∙ ap (λ r. laid r c.args.cells.now) (c.in_ok-count.ensures.cells c.in_ok-count.ensures.few)
