-- The slots that a program holds, by their numbers.
use Rattle.std.proofs.Common.{◌≡◌, ℕ, zero, suc, ◌<◌, ◌≤◌, List, [], ◌∷◌, length, get_or, refl, arith}
use Rattle.catalogue.specs.declared.model.Slot.{Slot}
use Rattle.catalogue.specs.Lawful.{offered}

pub offered_at : (xs : List Slot) (n : ℕ) (d : Slot) → n < length xs → offered xs n ≡ (get_or xs n d).parts
offered_at [] n d h = absurd (omega arith)
offered_at (x ∷ xs) zero d h = refl
offered_at (x ∷ xs) (suc n) d h = offered_at xs n d (omega arith)

pub offered_past : (xs : List Slot) (n : ℕ) → length xs ≤ n → offered xs n ≡ 0
offered_past [] n h = refl
offered_past (x ∷ xs) zero h = absurd (omega arith)
offered_past (x ∷ xs) (suc n) h = offered_past xs n (omega arith)

-- how many parts are offered, by what is found at the place
pub ruleset offers = (offered_at, offered_past)
