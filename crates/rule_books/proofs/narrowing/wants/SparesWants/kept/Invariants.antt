use Rattle.std.proofs.Common.{◌≡◌, ℕ, set}
use Rattle.catalogue.specs.Listed.{rule_in}
use Rattle.rule_books.specs.Exact.{label_of}
use Rattle.rule_books.specs.Listed.{listed}
use Rattle.rule_books.specs.Narrowing.{is_spared}
use Rattle.rule_books.proofs.narrowing.wants.SparesWants.kept.Given as goal

abbrev pub invariant-loop-v : goal.invariant-loop-v
invariant-loop-v l = record {
  found : l.found ≡ label_of l.v (is_spared (rule_in l.labelled.rule.cells).rows (listed l.labelled.labels) l.place);
  rule : l.alone.rule ≡ l.labelled.rule;
  others : (x : ℕ) → set (listed l.alone.labels) l.place x ≡ set (listed l.labelled.labels) l.place x;
}
