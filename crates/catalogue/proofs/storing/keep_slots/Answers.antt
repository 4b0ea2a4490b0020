use Rattle.std.proofs.Common.{map, sym, ap, ◌∙◌}
use Rattle.std.proofs.lemmas.List.{at_drop_more, at_drop_all}
use Rattle.catalogue.specs.Cells.{slot_cell}
use Rattle.catalogue.specs.Keeping.{kept}
use Rattle.catalogue.proofs.Keeping.{kept_none, kept_then}
use Rattle.catalogue.proofs.storing.keep_slots.Goals as goal

pub loop-slot-preserved : goal.loop-slot-preserved
loop-slot-preserved g c =
    rw (c.extend.ensures, c.cell.ensures, kept_then)
    (sym (ap (kept c.loop-slot.out) (at_drop_more (map slot_cell) c.as_slice-slot-items.result.now c.loop-slot.slot-index _ c.loop-slot-test.true)) ∙ c.loop-slot.invariant)

pub returns : goal.returns
returns g c =
    let left = at_drop_all (map slot_cell) c.as_slice-slot-items.result.now c.loop-slot.slot-index c.loop-slot-test.false in
    rw (← c.as_slice-slot-items.ensures.value) (sym (kept_none c.loop-slot.out) ∙ sym (ap (kept c.loop-slot.out) left) ∙ c.loop-slot.invariant)
