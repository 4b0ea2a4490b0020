use Rattle.std.proofs.Common.{◌-◌}
use Rattle.fields.proofs.LineLists.{At}
use Rattle.fields.proofs.text_line.line_place.Given as goal

abbrev pub invariant-loop : goal.invariant-loop
invariant-loop l = At l.text l.line l.from (l.line - l.counter)
