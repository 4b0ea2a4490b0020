use Rattle.std.proofs.Common.{sym, ◌∙◌}
use Rattle.catalogue.specs.Listed.{rule_in}
use Rattle.rule_books.specs.Listed.{listed}
use Rattle.std.proofs.lemmas.Bool.{or_left}
use Rattle.rule_books.specs.Rules.{some_empty, is_row, goes}
use Rattle.rule_books.proofs.FoundLaws.{found_all, found_rows}
use Rattle.rule_books.proofs.narrowing.wants.GoesWants.kept.Goals as goal

pub returns-then-other_empty : goal.returns-then-other_empty
returns-then-other_empty c =
    let x = c.args.labelled.now in
    let rows = (rule_in x.rule.cells).rows in
    rw c.as_slice-labels.ensures
    (sym (found_all (listed x.labels) c.args.place x.full x.small c.requires (goes rows) (λ g t. or_left (some_empty g) (is_row rows g) t) (sym c.other_empty.ensures ∙ c.if-other_empty.true)))

pub returns : goal.returns
returns c =
    let x = c.args.labelled.now in
    c.supports.ensures
    ∙ rw c.as_slice-labels.ensures (sym (found_rows (listed x.labels) c.args.place x.full x.small c.requires (rule_in x.rule.cells).rows (sym c.other_empty.ensures ∙ c.if-other_empty.false)))
