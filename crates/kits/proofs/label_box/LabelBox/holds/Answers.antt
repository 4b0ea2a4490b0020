use Rattle.std.proofs.Common.{◌∙◌, arith, rules}
use borrow.Author.Tests.{tests}
use Rattle.std.proofs.lemmas.Iterator.{YieldsList-from_slice, YieldsList-from_zip}
use Rattle.std.proofs.lemmas.Iterator.Consumers.{YieldsList-at}
use Rattle.std.proofs.lemmas.Iterator.Search.{all_from_yields_List}
use Rattle.kits.specs.Labels.{has_member}
use Rattle.kits.proofs.BoxLaws.{holds_zip}
use Rattle.kits.proofs.label_box.LabelBox.holds.Goals as goal

pub returns-clause-value : goal.returns-clause-value
returns-clause-value c =
    let b = c.args.self.now.labels in
    let f = c.args.filling.now.numbers in
    let pairs = YieldsList-from_zip {s = c.zip.result} (YieldsList-at c.zip.ensures.first (YieldsList-from_slice b cc)) (YieldsList-from_slice f cc) in
    all_from_yields_List (λ p. has_member p.0 p.1) c.all.new.self _ c.all.result c.all.ensures.ran pairs (λ x b q k. search (rules, tests)) ∙ holds_zip b f (omega arith)
