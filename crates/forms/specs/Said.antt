-- The slots of a form.
use Rattle.std.specs.Prelude.{List, Some, None, Option}
use Rattle.catalogue.specs.declared.model.Slot.{Slot}
use Rattle.catalogue.specs.Catalogues.{Catalogue}
use Rattle.catalogue.specs.Listed.{listed}
use Rattle.forms.specs.declared.form.Form.{Form}

-- the used slots of a form
abbrev pub used_slots : Form → List Slot
used_slots f = listed f.slots

-- the slots of a catalogue, or those that were there
abbrev pub slots_or : Option Catalogue → List Slot → List Slot
slots_or None old = old
slots_or (Some c) old = c.slots
