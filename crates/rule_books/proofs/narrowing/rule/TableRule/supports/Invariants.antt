use Rattle.std.proofs.Common.{◌≡◌, length, take}
use Rattle.catalogue.specs.Listed.{rule_in}
use Rattle.rule_books.specs.Narrowing.{supports}
use Rattle.rule_books.proofs.narrowing.rule.TableRule.supports.Given as goal

abbrev pub invariant-loop-row : goal.invariant-loop-row
invariant-loop-row l = l.seen ≡ supports l.labels l.place l.start (take (length l.yielded) (rule_in l.self.cells).rows)
