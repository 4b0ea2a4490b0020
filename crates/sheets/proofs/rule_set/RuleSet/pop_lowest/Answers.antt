use Rattle.std.proofs.Common.{arith}
use Rattle.sheets.proofs.SetLaws.{members_none, members_lowest}
use Rattle.sheets.proofs.rule_set.RuleSet.pop_lowest.Goals as goal

pub returns-then-self-eq0 : goal.returns-then-self-eq0
returns-then-self-eq0 c = rw c.if-self-eq0.true members_none

pub returns : goal.returns
returns c = members_lowest c.args.self.now.bits (omega arith) (omega arith)
