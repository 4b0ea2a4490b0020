use Rattle.std.proofs.Common.{◌≡◌, ◌+◌, ◌-◌, ◌++◌, length, take, min}
use Rattle.catalogue.proofs.room.lay_from.Given as goal

abbrev pub invariant-loop-item : goal.invariant-loop-item
invariant-loop-item g l =
    (length l.places ≡ length l.initial.places)
    × (l.end ≡ min (l.at + l.item-index) (length l.places))
    × (take l.end l.places ≡ take l.at l.initial.places ++ take (l.end - l.at) l.items)
