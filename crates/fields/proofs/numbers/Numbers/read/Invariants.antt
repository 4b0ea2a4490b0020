use Rattle.std.proofs.Common.{◌≡◌, ◌-◌, length}
use Rattle.fields.specs.Numbers.{numbers_up_to}
use Rattle.fields.specs.Values.{values_of}
use Rattle.fields.proofs.NumberLists.{read_on}
use Rattle.fields.proofs.numbers.Numbers.read.Given as goal

abbrev pub invariant-loop-n : goal.invariant-loop-n
invariant-loop-n l = read_on 4 (values_of l.numbers) l.rest ≡ numbers_up_to 4 l.text

abbrev pub decreases-loop-n : goal.decreases-loop-n
decreases-loop-n l = 4 - length (values_of l.numbers)
