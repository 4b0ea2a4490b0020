use Rattle.std.proofs.Common.{arith}
use Rattle.fields.specs.Values.{values_of}
use Rattle.fields.proofs.NumberLists.{reads_on}
use Rattle.fields.proofs.numbers.Numbers.read.Goals as goal

pub loop-n-preserved : goal.loop-n-preserved
loop-n-preserved c = grind (arith, reads_on 4 (values_of c.loop-n.numbers) c.loop-n.rest.now)
