use Rattle.std.proofs.Common.{◌≡◌, ◌-◌, ap, ◌∙◌, arith}
use lib.Bits.{bit_and}
use Rattle.kits.specs.Labels.{others, if_any}
use Rattle.kits.proofs.LabelLaws.{and_less, low_le, lowest_split, lt_pow}
use Rattle.kits.proofs.label.Label.split_lowest.Goals as goal

pub returns : goal.returns
returns c =
    let l = c.args.self.bits in
    let e : bit_and l (l - 1) ≡ others l = and_less l l c.args.self.some (lt_pow l) in
    record {
      first = omega (arith, e, low_le l l c.args.self.some (lt_pow l));
      second = c.new.ensures ∙ ap if_any e;
      law = lowest_split;
    }
