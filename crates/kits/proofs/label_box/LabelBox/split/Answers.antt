use Rattle.std.proofs.Common.{sym, ap, ◌∙◌, rules}
use Rattle.std.specs.Option.{option_map}
use Rattle.kits.specs.declared.label.Label.{Label}
use Rattle.kits.proofs.BoxLaws.{split_never, split_made}
use Rattle.kits.proofs.HalfLaws.{halves_law}
use Rattle.kits.proofs.label_box.LabelBox.split.Goals as goal

pub returns-in_err-slot : goal.returns-in_err-slot
returns-in_err-slot c = record { value = search rules; law = halves_law }

pub returns-in_err-others : goal.returns-in_err-others
returns-in_err-others c =
    let none = ap (option_map (λ (l : Label). l.bits)) (sym c.in_err-others.was) ∙ c.split_lowest-others.ensures.second in
    absurd (split_never _ _ _ c.args.self.now.boxed c.in_ok-slot.ensures.value c.label.ensures none)

pub returns : goal.returns
returns c =
    let some = ap (option_map (λ (l : Label). l.bits)) (sym c.in_ok-others.was) ∙ c.split_lowest-others.ensures.second in
    record {
      value = split_made _ _ _ _ _ _ _ c.args.self.now.boxed c.in_ok-slot.ensures.value c.label.ensures c.split_lowest-others.ensures.first c.put.ensures some c.put-2.ensures;
      law = halves_law;
    }
