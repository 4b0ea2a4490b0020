use Rattle.std.proofs.Common.{refl}
use Rattle.practice.proofs.Facts.{practice_facts, rule_facts}
use Rattle.practice.proofs.RunFacts.{practice_run}
use Rattle.practice.proofs.practice_cells.Goals as goal

pub returns : goal.returns
returns c = record { value = refl; facts = practice_facts; rules = rule_facts; run = practice_run }
