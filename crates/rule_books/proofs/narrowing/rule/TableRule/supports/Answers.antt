use Rattle.std.proofs.Common.{length, rules, arith, refl, sym, ap, ◌∙◌}
use lib.Bits.{bit_or}
use Rattle.std.proofs.lemmas.Nat.{one_shl}
use Rattle.std.proofs.lemmas.Iterator.Consumers.{YieldsList-end}
use Rattle.std.proofs.lemmas.List.{take_all}
use Rattle.catalogue.specs.Listed.{rule_in}
use Rattle.rule_books.specs.Narrowing.{supports}
use Rattle.rule_books.proofs.RowLaws.{rows_yielded, row_turn, supports_more, supports_whole}
use Rattle.rule_books.proofs.narrowing.rule.TableRule.supports.Goals as goal

pub returns-then-seen-labels : goal.returns-then-seen-labels
returns-then-seen-labels c = supports_whole c.args.labels.now c.args.place c.args.start (rule_in c.args.self.now.cells).rows (length c.loop-row.yielded) c.loop-row.seen c.requires.0 c.if-seen-labels.true c.loop-row.invariant

pub overflow_shl-seen : goal.overflow_shl-seen
overflow_shl-seen c =
    let self = c.args.self.now in
    let rule = self.cells in
    let turn = row_turn (length rule.slots.now) rule.count rule.rows.now _ _ _ (search rules) (search rules) (search rules) self.ready.enough self.ready.sized c.loop-row.yielded c.loop-row.yielded_by _ _ c.in-Some.is c.next.ensures.steps in
    turn.3 c.args.place

pub loop-row-preserved-then-is_held : goal.loop-row-preserved-then-is_held
loop-row-preserved-then-is_held c =
    let self = c.args.self.now in
    let rule = self.cells in
    let turn = row_turn (length rule.slots.now) rule.count rule.rows.now _ _ _ (search rules) (search rules) (search rules) self.ready.enough self.ready.sized c.loop-row.yielded c.loop-row.yielded_by _ _ c.in-Some.is c.next.ensures.steps in
    supports_more c.args.labels.now c.args.place c.args.start (rule_in rule).rows c.loop-row.yielded c.in-Some.row c.loop-row.seen _ turn.0 turn.1 c.loop-row.invariant
    (rw (sym c.is_held.ensures ∙ c.if-is_held.true) (ap (bit_or c.loop-row.seen) (one_shl _ 16 (turn.3 c.args.place))))

pub loop-row-preserved : goal.loop-row-preserved
loop-row-preserved c =
    let self = c.args.self.now in
    let rule = self.cells in
    let turn = row_turn (length rule.slots.now) rule.count rule.rows.now _ _ _ (search rules) (search rules) (search rules) self.ready.enough self.ready.sized c.loop-row.yielded c.loop-row.yielded_by _ _ c.in-Some.is c.next.ensures.steps in
    supports_more c.args.labels.now c.args.place c.args.start (rule_in rule).rows c.loop-row.yielded c.in-Some.row c.loop-row.seen _ turn.0 turn.1 c.loop-row.invariant
    (rw (sym c.is_held.ensures ∙ c.if-is_held.false) refl)

pub returns : goal.returns
returns c =
    let self = c.args.self.now in
    let rule = self.cells in
    let end = YieldsList-end (rows_yielded (length rule.slots.now) rule.count rule.rows.now _ (search rules) (search rules) (search rules) self.ready.enough) c.loop-row.yielded _ c.loop-row.yielded_by _ _ c.in-None.is c.next.ensures.steps in
    c.loop-row.invariant ∙ ap (supports c.args.labels.now c.args.place c.args.start) (take_all _ (rule_in rule).rows (omega (arith, end.1)))
