-- Forms: the used slots of a boat.
use Rattle.std.specs.Prelude.{ℕ, zero, suc, Bool, false, ◌&&◌, List, [], ◌∷◌, length, nat_le}
use Rattle.catalogue.specs.declared.model.Slot.{Slot}
use Rattle.catalogue.specs.Lawful.{all, any, slot_lawful}

-- 1 to 24 slots are used, each offers 1 to 15 parts, and at least one is standard
abbrev pub form_lawful : List Slot → Bool
form_lawful slots = (nat_le 1 (length slots) && nat_le (length slots) 24) && all slot_lawful slots && any (λ s. s.standard) slots

-- is the slot of a number used, and standard?
abbrev pub standard_at : List Slot → ℕ → Bool
standard_at [] n = false
standard_at (s ∷ slots) zero = s.standard
standard_at (s ∷ slots) (suc n) = standard_at slots n
