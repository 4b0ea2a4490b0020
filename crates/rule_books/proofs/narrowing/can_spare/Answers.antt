use Rattle.std.proofs.Common.{◌≤◌, length, sym, ap, ◌∙◌, arith}
use Rattle.catalogue.specs.Listed.{rule_in}
use Rattle.rule_books.specs.Exact.{some_in}
use Rattle.rule_books.specs.Listed.{listed}
use Rattle.rule_books.specs.Rules.{spares}
use Rattle.rule_books.proofs.NarrowLaws.{spares_empty, spares_filled}
use Rattle.rule_books.proofs.ScopeLaws.{slots_length}
use Rattle.rule_books.proofs.narrowing.can_spare.Goals as goal

pub returns-then-other_empty : goal.returns-then-other_empty
returns-then-other_empty c =
    let x = c.of-labelled.result in
    let rows = (rule_in c.args.rule.cells).rows in
    c.if-other_empty.true
    ∙ sym (ap (some_in (spares rows)) (sym c.of-labelled.ensures.labels) ∙ spares_empty rows (listed x.labels) (length c.args.rule.cells.slots.now) x.full x.small (sym c.other_empty.ensures ∙ c.if-other_empty.true))

pub returns-else-other_empty : goal.returns-else-other_empty
returns-else-other_empty c =
    let x = c.of-labelled.result in
    let slots = c.args.rule.cells.slots.now in
    let rows = (rule_in c.args.rule.cells).rows in
    let past : length (listed x.labels) ≤ length slots = omega (arith, ap length c.of-labelled.ensures.labels, slots_length slots c.args.b.now.labels) in
    (rw c.of-labelled.ensures.rule at c.some_no_row.ensures)
    ∙ sym (spares_filled rows (listed x.labels) (length slots) past x.small (sym c.other_empty.ensures ∙ c.if-other_empty.false))
    ∙ ap (some_in (spares rows)) c.of-labelled.ensures.labels
