use Rattle.std.proofs.Common.{length, rules, tests}
use Rattle.std.proofs.lemmas.Iterator.Search.{any_from_yields_List}
use Rattle.rule_books.specs.Rules.{same}
use Rattle.rule_books.proofs.RowLaws.{rows_yielded, same_decides}
use Rattle.rule_books.proofs.narrowing.rule.TableRule.has_row.Goals as goal

pub returns : goal.returns
returns c =
    let rule = c.args.self.now.cells in
    any_from_yields_List (λ r. same r c.args.parts.now) _ _ _ c.any.ensures.ran
    (rows_yielded (length rule.slots.now) rule.count rule.rows.now _ (search rules) (search rules) (search rules) c.args.self.now.ready.enough) (λ x b q k. search (rules, tests, same_decides))
