use Rattle.std.proofs.Common.{ltb, rules}
use Rattle.std.proofs.lemmas.List.Sorted.{answers_always}
use Rattle.catalogue.proofs.CheckViews.{rises}
use Rattle.catalogue.proofs.checks.rise.Goals as goal

pub returns : goal.returns
returns c = rises c.args.slots.now c.is_sorted_by.result (c.is_sorted_by.ensures.cases ltb (answers_always _ _ _ (λ f a r g h. search rules)))
