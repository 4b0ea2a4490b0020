use Rattle.std.proofs.Common.{◌≡◌, ◌++◌, replicate}
use Rattle.cases.proofs.numbers.push_times.Given as goal

abbrev pub invariant-loop : goal.invariant-loop
invariant-loop l = l.numbers.items ≡ l.fn.numbers.items ++ replicate l.counter l.number
