use Rattle.std.proofs.Common.{arith}
use Rattle.std.proofs.lemmas.Bool.Decides.{nat_tests}
use Rattle.catalogue.proofs.CellViews.{rows_short, rows_passed}
use Rattle.catalogue.proofs.cells.rows_fit.Goals as goal

pub returns-in_default : goal.returns-in_default
returns-in_default c = grind (arith, nat_tests, rows_short)

pub loop-preserved : goal.loop-preserved
loop-preserved c = grind (arith, nat_tests, rows_passed)
