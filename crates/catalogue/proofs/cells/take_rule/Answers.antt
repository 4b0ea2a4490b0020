use Rattle.std.proofs.Common.{sym, ◌∙◌}
use Rattle.catalogue.specs.Listed.{listed}
use Rattle.catalogue.proofs.CellLaws.{rule_of_begun}
use Rattle.catalogue.proofs.CellViews.{then_mapped}
use Rattle.catalogue.proofs.cells.take_rule.Goals as goal

pub returns : goal.returns
returns c = rw (c.then_some.ensures, c.rule_fits.ensures) (then_mapped _ _ _ ∙ sym (rule_of_begun (listed c.args.slots.now) c.args.cells.now ∙ rw (← c.in_ok-rule.ensures)))
