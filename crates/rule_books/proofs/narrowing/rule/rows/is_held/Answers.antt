use Rattle.std.proofs.Common.{ℕ, ◌∙◌, rules, tests}
use Rattle.std.proofs.lemmas.Iterator.{YieldsList-from_slice, YieldsList-from_zip}
use Rattle.std.proofs.lemmas.Iterator.Search.{all_from_yields_List}
use Rattle.kits.specs.Labels.{has_member}
use Rattle.rule_books.proofs.RowLaws.{zip_holds}
use Rattle.rule_books.proofs.narrowing.rule.rows.is_held.Goals as goal

pub returns : goal.returns
returns c =
    all_from_yields_List (λ (p : ℕ × ℕ). has_member p.1 p.0) c.all.new.self _ _ c.all.ensures.ran (YieldsList-from_zip (YieldsList-from_slice c.args.row.now cc) (YieldsList-from_slice c.args.labels.now cc)) (λ x b q k. search (rules, tests))
    ∙ zip_holds c.args.row.now c.args.labels.now c.requires
