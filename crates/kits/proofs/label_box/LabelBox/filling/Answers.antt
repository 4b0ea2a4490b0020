use Rattle.std.proofs.Common.{sym, subst, rules}
use Rattle.kits.specs.Fillings.{Numbers}
use Rattle.kits.proofs.BoxLaws.{filled, lowest_numbers}
use Rattle.kits.proofs.HalfLaws.{lowest_law}
use Rattle.kits.proofs.label_box.LabelBox.filling.Goals as goal

pub invariant_of-result : goal.invariant_of-result
invariant_of-result c =
    let e = filled _ _ c.args.self.now.boxed c.map.ensures.items.long (λ i h. let k = c.map.ensures.items.at i 0 0 h in search rules) in
    record { parts = subst Numbers (sym e) (lowest_numbers _ c.args.self.now.boxed) }

pub returns : goal.returns
returns c = record {
  value = filled _ _ c.args.self.now.boxed c.map.ensures.items.long (λ i h. let k = c.map.ensures.items.at i 0 0 h in search rules);
  law = lowest_law;
}
