-- The opening box: what each slot may take under a form and the choices on its slots.
use Rattle.std.specs.Prelude.{◌≡◌, ℕ, zero, suc, ◌-◌, ◌^◌, ◌<◌, ◌≤◌, false, cond, ◌⊎◌, List, [], ◌∷◌, length, slice_index}
use Rattle.catalogue.specs.declared.model.Slot.{Slot}
use Rattle.kits.specs.declared.choices.Choice.{Choice}
use Rattle.kits.specs.declared.choices.Choice.TheVariants.{Free, Fixed, Barred}
use Rattle.kits.specs.Labels.{Has}
use Rattle.kits.specs.Laws.{Iff}

-- the parts of a used slot, with 0 where it is optional
abbrev pub offer_label : Slot → ℕ
offer_label s = cond s.standard (2 ^ suc s.parts - 2) (2 ^ suc s.parts - 1)

-- the label of a used slot under a choice
abbrev pub chosen_label : Choice → Slot → ℕ
chosen_label Free s = offer_label s
chosen_label (Fixed p) s = 2 ^ p
chosen_label Barred s = 1

-- the label of slot k under a choice: an unused one has only 0
abbrev pub slot_label : List Slot → ℕ → Choice → ℕ
slot_label [] k c = 1
slot_label (s ∷ slots) zero c = chosen_label c s
slot_label (s ∷ slots) (suc k) c = slot_label slots k c

-- the label of each slot under its choice
abbrev pub opening_box : List Slot → List Choice → List ℕ
opening_box slots [] = []
opening_box [] (c ∷ cs) = 1 ∷ opening_box [] cs
opening_box (s ∷ slots) (c ∷ cs) = chosen_label c s ∷ opening_box slots cs

-- a used slot may take the number v: a fixed one its part alone, a barred one 0, any other its parts, and 0 if it is optional
abbrev pub Takes : Choice → Slot → ℕ → Type 0
Takes Free s v = ((1 ≤ v) × (v ≤ s.parts)) ⊎ ((v ≡ 0) × (s.standard ≡ false))
Takes (Fixed p) s v = v ≡ p
Takes Barred s v = v ≡ 0

-- slot k may take the number v: an unused one only 0
abbrev pub MayTake : List Slot → List Choice → ℕ → ℕ → Type 0
MayTake slots [] k v = ⊥
MayTake [] (c ∷ cs) zero v = v ≡ 0
MayTake [] (c ∷ cs) (suc k) v = MayTake [] cs k v
MayTake (s ∷ slots) (c ∷ cs) zero v = Takes c s v
MayTake (s ∷ slots) (c ∷ cs) (suc k) v = MayTake slots cs k v

-- the opening box holds what each slot may take
abbrev pub OpeningMeans : Type 0
OpeningMeans = (slots : List Slot) (choices : List Choice) (k v : ℕ) → k < length choices
    → Iff (Has (slice_index (opening_box slots choices) k) v) (MayTake slots choices k v)
