use Rattle.std.proofs.Common.{◌≡◌, ◌+◌, ◌-◌, true, false, ⊎_elim, length, sym, ap, ◌∙◌}
use Rattle.std.proofs.lemmas.Bool.{cases_Bool}
use Rattle.std.proofs.lemmas.List.{length_push}
use Rattle.catalogue.specs.Cells.{rule_cells}
use Rattle.catalogue.specs.Listed.{listed as slots_listed, rule_in}
use Rattle.catalogue.proofs.CellLaws.{rule_says}
use Rattle.rule_books.specs.Listed.{listed}
use Rattle.rule_books.proofs.PlaceLaws.{placing_failed, placing_more, placing_all, placing_unfinished, last_after}
use Rattle.rule_books.proofs.table_book.made.find_places.Goals as goal

pub returns-in_err-after : goal.returns-in_err-after
returns-in_err-after c =
    rw c.from_residual.ensures
    (placing_failed c.args.cells.now (slots_listed c.args.slots.now) c.args.count c.args.rules.now (listed c.loop.places) c.loop.counter c.loop.left.now c.loop.invariant.placing c.loop-test.true c.in_err-after.ensures)

pub loop-preserved : goal.loop-preserved
loop-preserved c =
    let inv = c.loop.invariant in
    let cells = c.args.cells.now in
    let left = c.loop.left.now in
    let slots = slots_listed c.args.slots.now in
    let e = c.in_ok-after.ensures in
    let x = length cells - length left in
    let after = last_after left c.in_ok-after.after.now (rule_cells (rule_in c.in_ok-after.field-0-0)) cells inv.last inv.few (rule_says slots left _ (sym e)).1 in
    record {
      long = ap length c.push.ensures ∙ length_push (listed c.loop.places) x ∙ ap (λ n. n + 1) inv.long;
      last = after.0;
      few = after.1;
      placing = rw c.push.ensures (placing_more cells slots c.args.count c.args.rules.now (listed c.loop.places) c.loop.counter left inv.placing c.loop-test.true _ x inv.long e inv.last);
    }

pub returns : goal.returns
returns c =
    let cells = c.args.cells.now in
    let slots = slots_listed c.args.slots.now in
    let inv = c.loop.invariant in
    ⊎_elim
    (λ (e : c.is_empty.result ≡ true). rw (c.then_some.ensures, e) (placing_all cells slots c.args.count c.args.rules.now (listed c.loop.places) c.loop.counter c.loop.left.now inv.placing c.loop-test.false inv.long c.loop.auto.counter-end (sym c.is_empty.ensures ∙ e)))
    (λ (e : c.is_empty.result ≡ false). rw (c.then_some.ensures, e) (placing_unfinished cells slots c.args.count c.args.rules.now (listed c.loop.places) c.loop.counter c.loop.left.now inv.placing c.loop-test.false (sym c.is_empty.ensures ∙ e)))
    (cases_Bool c.is_empty.result)
