use Rattle.std.proofs.Common.{◌≡◌, ℕ, ◌/◌, ◌^◌, ◌≤◌, eqb, ltb, arith, pow_mono}
use Rattle.std.proofs.lemmas.Bool.Decides.{nat_tests}
use Rattle.std.proofs.lemmas.Nat.{pow_pos, div_below, le-div}
use Rattle.sheets.proofs.rule_set.RuleSet.is_below.Goals as goal

pub returns-then-count-ge64 : goal.returns-then-count-ge64
returns-then-count-ge64 c =
    let m : 2 ^ 64 ≤ 2 ^ c.args.count = pow_mono {i = 64} {j = c.args.count} c.if-count-ge64.true in
    grind (arith, nat_tests)

shifted-out : (s n : ℕ) → eqb (s / 2 ^ n) 0 ≡ ltb s (2 ^ n)
shifted-out s n = grind (arith, nat_tests, pow_pos n, div_below s (2 ^ n) 1, le-div 1 s (2 ^ n))

pub returns-else-count-ge64 : goal.returns-else-count-ge64
returns-else-count-ge64 c = shifted-out c.args.self.bits c.args.count
