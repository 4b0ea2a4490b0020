use Rattle.std.proofs.Common.{◌≡◌, ◌+◌, ◌-◌}
use Rattle.sheets.specs.Runs.{run, made}
use Rattle.sheets.specs.Sets.{members}
use Rattle.sheets.specs.States.{state_of}
use Rattle.sheets.proofs.search.Search.work.Given as goal

abbrev pub invariant-loop-steps : goal.invariant-loop-steps
invariant-loop-steps g l =
    let narrowed = g.B.Book.narrowed l.book in
    let rs = members l.rules.bits in
    record {
      after : run narrowed rs (l.budget - l.steps) (state_of l.self) ≡ run narrowed rs l.budget (state_of l.initial.self);
      made : l.steps + made narrowed rs (l.budget - l.steps) (state_of l.self) ≡ made narrowed rs l.budget (state_of l.initial.self);
    }
