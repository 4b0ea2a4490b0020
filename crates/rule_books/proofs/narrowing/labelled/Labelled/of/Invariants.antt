use Rattle.std.proofs.Common.{◌≡◌, take}
use Rattle.rule_books.specs.Listed.{listed}
use Rattle.rule_books.specs.Rules.{at_slots}
use Rattle.rule_books.proofs.narrowing.labelled.Labelled.of.Given as goal

abbrev pub invariant-loop-slot : goal.invariant-loop-slot
invariant-loop-slot l = listed l.labels ≡ at_slots (take l.slot-index l.rule.cells.slots.now) l.b.labels
