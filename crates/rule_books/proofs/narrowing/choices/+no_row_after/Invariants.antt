use Rattle.std.proofs.Common.{◌≡◌, ℕ, ◌+◌, false, [], ◌∷◌, ◌++◌, length, set}
use Rattle.catalogue.specs.Listed.{rule_in}
use Rattle.rule_books.specs.Exact.{some_below}
use Rattle.rule_books.specs.Listed.{listed}
use Rattle.rule_books.specs.Narrowing.{no_row_with}
use Rattle.rule_books.proofs.narrowing.choices.+no_row_after.Given as goal

abbrev pub decreases-no_row_after : goal.decreases-no_row_after
decreases-no_row_after l = length l.labels.now

abbrev pub invariant-loop-v : goal.invariant-loop-v
invariant-loop-v l = record {
  none : some_below l.v (no_row_with (rule_in l.rule.cells).rows (listed l.chosen) l.label l.others) ≡ false;
  long : length (listed l.next) ≡ length (listed l.chosen) + 1;
  turned : (y : ℕ) → set (listed l.next) (length (listed l.chosen)) y ≡ listed l.chosen ++ y ∷ [];
}
