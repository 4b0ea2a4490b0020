use Rattle.std.proofs.Common.{arith}
use Rattle.std.proofs.lemmas.Bool.Decides.{nat_tests}
use Rattle.catalogue.proofs.CellLaws.{rows_count}
use Rattle.catalogue.proofs.cells.rule_fits.Goals as goal

pub returns-then-stands_apart : goal.returns-then-stands_apart
returns-then-stands_apart c = grind (arith, nat_tests, rows_count)

pub returns-else-stands_apart : goal.returns-else-stands_apart
returns-else-stands_apart c = grind (arith, nat_tests, rows_count)
