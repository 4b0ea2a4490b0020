use Rattle.std.proofs.Common.{◌≡◌, ◌+◌, ◌-◌, [], Some, sym, ap, ◌∙◌, arith}
use Rattle.std.specs.Option.{option_map}
use Rattle.catalogue.specs.Listed.{listed, rule_in}
use Rattle.catalogue.specs.Storing.{held}
use Rattle.catalogue.specs.Writing.{rules_text}
use Rattle.catalogue.proofs.CellLaws.{rule_says}
use Rattle.catalogue.proofs.CellViews.{rules_failed, rules_passed}
use Rattle.catalogue.proofs.Helds.{held_none}
use Rattle.catalogue.proofs.RuleWrites.{rule_sized, turn_written}
use Rattle.catalogue.proofs.writing.put_rules.Goals as goal

pub returns-in_err-rule : goal.returns-in_err-rule
returns-in_err-rule c =
    rw c.from_residual.ensures
    (sym (ap (option_map (λ rs. held 65536 c.loop.out.items (rules_text rs []))) (rules_failed (listed c.args.slots.now) (c.args.count - c.loop.counter) c.loop.left.now (omega arith) c.in_err-rule.ensures)) ∙ c.loop.invariant)

pub put_rule-requires : goal.put_rule-requires
put_rule-requires c =
    let r = c.in_ok-rule.rule in
    let good = (rule_says (listed c.args.slots.now) c.loop.left.now (rule_in r, c.in_ok-rule.after.now) (sym c.in_ok-rule.ensures)).0 in
    (rule_sized (listed c.args.slots.now) r.kind r.slots.now r.rows.now r.count good).1

pub loop-preserved : goal.loop-preserved
loop-preserved c =
    let m : c.args.count - (c.loop.counter + 1) ≡ c.args.count - c.loop.counter - 1 = omega arith in
    rw (m, c.put_rule.ensures)
    (turn_written 65536 c.loop.out.items (rule_in c.in_ok-rule.rule) _
    ∙ sym (ap (option_map (λ rs. held 65536 c.loop.out.items (rules_text rs []))) (rules_passed (listed c.args.slots.now) (c.args.count - c.loop.counter) c.loop.left.now (omega arith) c.in_ok-rule.ensures))
    ∙ c.loop.invariant)

pub returns-then-is_empty : goal.returns-then-is_empty
returns-then-is_empty c =
    let e : c.args.count - c.loop.counter ≡ 0 = omega arith in
    ap Some (sym (held_none 65536 c.loop.out.items)) ∙ (rw (e, ← c.if-is_empty.ensures) at c.loop.invariant)
