use Rattle.std.proofs.Common.{◌∙◌, eqb, not, refl, sym, rules}
use borrow.Author.Tests.{tests}
use Rattle.std.proofs.lemmas.Iterator.{YieldsList-from_slice}
use Rattle.std.proofs.lemmas.Iterator.Search.{all_from_yields_List}
use Rattle.kits.proofs.label_box.LabelBox.new.Goals as goal

pub returns-then-all : goal.returns-then-all
returns-then-all c =
    let e = all_from_yields_List (λ l. not (eqb l 0)) _ _ c.all.result c.all.ensures.ran (YieldsList-from_slice c.args.labels cc) (λ x b q k. search (rules, tests)) in
    rw (sym e ∙ c.if-all.true) refl
