use Rattle.std.proofs.Common.{◌≡◌, length, drop}
use Rattle.rule_books.specs.Listed.{listed}
use Rattle.rule_books.specs.Scope.{put_at}
use Rattle.rule_books.proofs.narrowing.labelled.Labelled.put.Given as goal

abbrev pub invariant-loop-slot : goal.invariant-loop-slot
invariant-loop-slot l =
    put_at (drop (length l.yielded) l.self.rule.cells.slots.now) (drop (length l.yielded) (listed l.self.labels)) l.b.labels ≡ put_at l.self.rule.cells.slots.now (listed l.self.labels) l.initial.b.labels
