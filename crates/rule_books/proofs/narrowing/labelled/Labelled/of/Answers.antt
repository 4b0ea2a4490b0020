use Rattle.std.proofs.Common.{◌≡◌, length, sym, ap, ◌∙◌, subst, arith}
use Rattle.std.proofs.lemmas.List.{take_all}
use Rattle.kits.specs.Boxes.{Full, Small}
use Rattle.rule_books.specs.Listed.{listed}
use Rattle.rule_books.specs.Rules.{at_slots}
use Rattle.rule_books.proofs.ScopeLaws.{slots_length, full_slots, small_slots, within_box}
use Rattle.rule_books.proofs.narrowing.labelled.Labelled.of.Goals as goal

pub invariant_of-result : goal.invariant_of-result
invariant_of-result c =
    let b = c.args.b.now in
    let slots = c.args.rule.cells.slots.now in
    let inside = within_box slots b.labels b.boxed c.args.rule.ready.within in
    let e : listed c.loop-slot.labels ≡ at_slots slots b.labels = c.loop-slot.invariant ∙ ap (λ xs. at_slots xs b.labels) (take_all c.loop-slot.slot-index slots (omega arith)) in
    record {
      each = ap length e ∙ slots_length slots b.labels;
      full = subst Full (sym e) (full_slots slots b.labels inside b.boxed.1);
      small = subst Small (sym e) (small_slots slots b.labels inside b.boxed.2);
    }
