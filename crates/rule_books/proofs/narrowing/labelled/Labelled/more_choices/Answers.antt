use Rattle.std.proofs.Common.{◌*◌, ltb, ap, ◌∙◌, rules, tests, arith}
use lib.Count.{ones}
use Rattle.std.proofs.lemmas.Iterator.{YieldsList-from_slice, YieldsList-from_map}
use Rattle.std.proofs.lemmas.Iterator.Adapters.{total_from_yields_List}
use Rattle.rule_books.specs.Listed.{listed}
use Rattle.rule_books.proofs.CountLaws.{product_fits, product_all}
use Rattle.rule_books.proofs.narrowing.labelled.Labelled.more_choices.Goals as goal

pub product-choices-requires-clause-fits : goal.product-choices-requires-clause-fits
product-choices-requires-clause-fits c =
    let self = c.args.self.now in
    product_fits (listed self.labels) _ (omega (arith, self.each, self.rule.ready.few_slots)) self.small (YieldsList-from_map _ ones (YieldsList-from_slice (listed self.labels) cc) c.map.ensures.closure (λ x r q k. search (rules, tests)))

pub returns : goal.returns
returns c =
    let self = c.args.self.now in
    ap (ltb self.rule.cells.count)
    (total_from_yields_List (λ n x. n * x) 1 c.product-choices.result c.product-choices.ensures.ran (YieldsList-from_map _ ones (YieldsList-from_slice (listed self.labels) cc) c.map.ensures.closure (λ x r q k. search (rules, tests))) ∙ product_all (listed self.labels))
