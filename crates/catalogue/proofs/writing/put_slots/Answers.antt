use Rattle.std.proofs.Common.{List, [], sym, ap, ◌∙◌}
use Rattle.std.proofs.lemmas.List.{at_drop_all}
use Rattle.catalogue.specs.declared.model.Slot.{Slot}
use Rattle.catalogue.specs.Storing.{held}
use Rattle.catalogue.specs.Writing.{slots_text}
use Rattle.catalogue.proofs.Helds.{held_none, held_then}
use Rattle.catalogue.proofs.TextPieces.{slots_next}
use Rattle.catalogue.proofs.writing.put_slots.Goals as goal

pub loop-slot-preserved : goal.loop-slot-preserved
loop-slot-preserved c =
    rw (c.put_slot.ensures, held_then)
    (sym (ap (held 65536 c.loop-slot.out.items) (slots_next c.as_slice-slot-items.result.now c.loop-slot.slot-index _ c.loop-slot-test.true)) ∙ c.loop-slot.invariant)

pub returns : goal.returns
returns c =
    let left = at_drop_all (λ (ss : List Slot). slots_text ss []) c.as_slice-slot-items.result.now c.loop-slot.slot-index c.loop-slot-test.false in
    rw (← c.as_slice-slot-items.ensures.value) (sym (held_none 65536 c.loop-slot.out.items) ∙ sym (ap (held 65536 c.loop-slot.out.items) left) ∙ c.loop-slot.invariant)
