-- The slot of a number.
use Rattle.std.proofs.Common.{◌≡◌, ℕ, zero, suc, ◌<◌, ◌≤◌, true, false, List, [], ◌∷◌, length, get_or, refl, arith}
use Rattle.std.proofs.lemmas.Bool.{and_parts}
use Rattle.catalogue.specs.declared.model.Slot.{Slot}
use Rattle.catalogue.specs.Lawful.{all, any, slot_lawful}
use Rattle.kits.specs.declared.choices.Choice.{Choice}
use Rattle.forms.specs.Forms.{standard_at, form_lawful}
use Rattle.forms.specs.Opening.{chosen_label, slot_label}

pub standard_used : (xs : List Slot) (n : ℕ) (d : Slot) → n < length xs → standard_at xs n ≡ (get_or xs n d).standard
standard_used [] n d h = absurd (omega arith)
standard_used (x ∷ xs) zero d h = refl
standard_used (x ∷ xs) (suc n) d h = standard_used xs n d (omega arith)

pub standard_past : (xs : List Slot) (n : ℕ) → length xs ≤ n → standard_at xs n ≡ false
standard_past [] n h = refl
standard_past (x ∷ xs) zero h = absurd (omega arith)
standard_past (x ∷ xs) (suc n) h = standard_past xs n (omega arith)

-- is the slot standard, by what is found at the place
pub ruleset is_standard = (standard_used, standard_past)

pub lawful_at : (xs : List Slot) (n : ℕ) (d : Slot) → n < length xs → all slot_lawful xs ≡ true → slot_lawful (get_or xs n d) ≡ true
lawful_at [] n d h e = absurd (omega arith)
lawful_at (x ∷ xs) zero d h e = (and_parts (slot_lawful x) (all slot_lawful xs) e).0
lawful_at (x ∷ xs) (suc n) d h e = lawful_at xs n d (omega arith) (and_parts (slot_lawful x) (all slot_lawful xs) e).1

-- the slots of a form are lawful
pub form_slots : (xs : List Slot) → form_lawful xs ≡ true → all slot_lawful xs ≡ true
form_slots xs e = (and_parts _ (all slot_lawful xs) (and_parts _ (any (λ s. s.standard) xs) e).0).1

pub label_used : (xs : List Slot) (n : ℕ) (c : Choice) (d : Slot) → n < length xs → slot_label xs n c ≡ chosen_label c (get_or xs n d)
label_used [] n c d h = absurd (omega arith)
label_used (x ∷ xs) zero c d h = refl
label_used (x ∷ xs) (suc n) c d h = label_used xs n c d (omega arith)

pub label_past : (xs : List Slot) (n : ℕ) (c : Choice) → length xs ≤ n → slot_label xs n c ≡ 1
label_past [] n c h = refl
label_past (x ∷ xs) zero c h = absurd (omega arith)
label_past (x ∷ xs) (suc n) c h = label_past xs n c (omega arith)

-- the label of a slot, by what is found at the place
pub ruleset slot_labels = (label_used, label_past)
