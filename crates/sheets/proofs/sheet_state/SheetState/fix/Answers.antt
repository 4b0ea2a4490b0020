use Rattle.std.proofs.Common.{◌≡◌, ℕ, ◌≤◌, ◌∙◌, true, arith, rules}
use Rattle.std.proofs.lemmas.Bool.{and_from, le-leb}
use Rattle.forms.specs.Said.{used_slots}
use Rattle.forms.proofs.Places.{form_slots}
use Rattle.kits.specs.declared.choices.Choice.TheVariants.{Fixed}
use Rattle.kits.specs.Choices.{choice_lawful}
use Rattle.sheets.proofs.HistoryLaws.{offered_few}
use Rattle.sheets.proofs.sheet_state.SheetState.fix.Goals as goal
use Rattle.sheets.proofs.sheet_state.SheetState.fix.Goals.{After-parts}

few : (c : After-parts) → c.parts.result ≤ 15
few c = omega (arith, c.parts.ensures, offered_few (used_slots c.args.form.now) c.args.slot (form_slots (used_slots c.args.form.now) c.args.form.now.lawful))

fixed_lawful : (part : ℕ) → 1 ≤ part → part ≤ 15 → choice_lawful (Fixed part) ≡ true
fixed_lawful part low high = and_from _ _ (le-leb 1 part low) (le-leb part 15 high)

pub overflow_cast-part : goal.overflow_cast-part
overflow_cast-part c = let h = few (goal.at.overflow_cast-part c).After-parts in search rules

pub unwrap-requires : goal.unwrap-requires
unwrap-requires c =
    let h = few (goal.at.unwrap-requires c).After-parts in
    c.choose.ensures.value ∙ fixed_lawful c.args.part (search rules) (search rules)

pub returns : goal.returns
returns c =
    let h = few (goal.at.returns c).After-parts in
    let q = rw (fixed_lawful c.args.part (search rules) (search rules)) at c.choose.ensures.after in
    search rules
