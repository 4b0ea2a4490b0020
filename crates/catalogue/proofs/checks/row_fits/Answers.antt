use Rattle.std.proofs.Common.{sym, ◌∙◌}
use Rattle.std.proofs.lemmas.Bool.{ne_eqb}
use Rattle.catalogue.specs.Lawful.{offered}
use Rattle.catalogue.specs.Listed.{listed}
use Rattle.catalogue.proofs.CheckViews.{row_beside, row_uneven}
use Rattle.catalogue.proofs.checks.row_fits.Goals as goal

pub returns-then-of-row : goal.returns-then-of-row
returns-then-of-row c = c.parts_fit.ensures ∙ sym (row_beside (offered (listed c.args.slots.now)) c.args.of.now c.args.row.now c.if-of-row.true)

pub returns-else-of-row : goal.returns-else-of-row
returns-else-of-row c = ne_eqb _ _ c.if-of-row.false ∙ row_uneven (offered (listed c.args.slots.now)) c.args.of.now c.args.row.now c.if-of-row.false
