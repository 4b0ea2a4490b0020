use Rattle.std.proofs.Common.{length, sym, ◌∙◌, arith}
use Rattle.std.proofs.lemmas.Bool.{ltb-true}
use Rattle.catalogue.specs.Listed.{rule_in}
use Rattle.catalogue.proofs.CellLaws.{rows_count}
use Rattle.rule_books.specs.Listed.{listed}
use Rattle.rule_books.proofs.CountLaws.{no_row_left}
use Rattle.rule_books.proofs.narrowing.labelled.Labelled.some_no_row.Goals as goal

pub returns-then-more_choices : goal.returns-then-more_choices
returns-then-more_choices c =
    let self = c.args.self.now in
    let rule = self.rule.cells in
    c.if-more_choices.true
    ∙ sym (no_row_left (listed self.labels) (rule_in rule).rows self.small
    (omega (arith, rows_count rule.count (length rule.slots.now) rule.rows.now, ltb-true _ _ (sym c.more_choices.ensures ∙ c.if-more_choices.true))))
