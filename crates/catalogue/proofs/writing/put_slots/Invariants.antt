use Rattle.std.proofs.Common.{◌≡◌, [], drop}
use Rattle.catalogue.specs.Storing.{held}
use Rattle.catalogue.specs.Writing.{slots_text}
use Rattle.catalogue.proofs.writing.put_slots.Given as goal

abbrev pub invariant-loop-slot : goal.invariant-loop-slot
invariant-loop-slot l = held 65536 l.out.items (slots_text (drop l.slot-index l.slot-items) []) ≡ held 65536 l.initial.out.items (slots_text l.slot-items [])
