use Rattle.std.proofs.Common.{◌≡◌, length}
use Rattle.sheets.specs.Sets.{members}
use Rattle.sheets.specs.Steps.{narrowed_by_all}
use Rattle.sheets.proofs.search.narrowing.narrow_by_all.Given as goal

abbrev pub invariant-loop-rule : goal.invariant-loop-rule
invariant-loop-rule g l =
    let narrowed = g.B.Book.narrowed l.book in
    narrowed_by_all narrowed (members l.left.bits) l.narrowed.labels ≡ narrowed_by_all narrowed (members l.fn.rules.bits) l.initial.narrowed.labels

abbrev pub decreases-loop-rule : goal.decreases-loop-rule
decreases-loop-rule g l = length (members l.left.bits)
