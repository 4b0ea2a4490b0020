use Rattle.std.proofs.Common.{◌≡◌, ℕ, ◌<◌, take}
use Rattle.catalogue.specs.Listed.{rule_in}
use Rattle.rule_books.specs.Exact.{found_label, found_labels}
use Rattle.rule_books.specs.Listed.{listed}
use Rattle.rule_books.proofs.narrowing.labelled.Labelled.narrowed.Given as goal

abbrev pub invariant-loop-place : goal.invariant-loop-place
invariant-loop-place g l = record {
  left : listed l.labels ≡ take l.place (found_labels (g.W.Wants.passes (rule_in l.self.rule.cells).rows) (listed l.self.labels) 0 (listed l.self.labels));
  some : (k : ℕ) → k < l.place → 0 < found_label (g.W.Wants.passes (rule_in l.self.rule.cells).rows) (listed l.self.labels) k;
}
