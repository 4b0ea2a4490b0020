use Rattle.forms.proofs.FormCells.{taken_lawful}
use Rattle.forms.proofs.form.Form.take.Goals as goal

pub invariant_of-self : goal.invariant_of-self
invariant_of-self c = record { lawful = taken_lawful c.args.cells.now _ (rw c.in_ok-self.ensures.ok_part at c.lawful_slots.ensures) }
