use Rattle.std.proofs.Common.{arith}
use Rattle.std.proofs.lemmas.Grind.{common_steps}
use Rattle.std.proofs.lemmas.Nat.Bits.{shr_and_one}
use Rattle.kits.proofs.LabelLaws.{bit_is, bit_beyond}
use Rattle.kits.proofs.members.has_member.Goals as goal

pub returns-then-number-lt64 : goal.returns-then-number-lt64
returns-then-number-lt64 c = simp (shr_and_one, bit_is)

pub returns-else-number-lt64 : goal.returns-else-number-lt64
returns-else-number-lt64 c = grind (arith, common_steps, bit_beyond 64 c.args.number c.args.set)
