-- Which catalogues are lawful.
use Rattle.std.specs.Prelude.{ℕ, zero, suc, Bool, true, false, not, ◌&&◌, ltb, List, [], ◌∷◌, map, length, ◌==◌, nat_le, nat_lt}
use Rattle.std.specs.List.{list_all, list_any}
use Rattle.catalogue.specs.declared.model.Kind.{Kind}
use Rattle.catalogue.specs.declared.model.Kind.TheVariants.{Goes, Needs, Bars}
use Rattle.catalogue.specs.declared.model.Slot.{Slot}
use Rattle.catalogue.specs.Catalogues.{Rule, Catalogue}

-- does a test hold of each element?
abbrev pub all : {X : Type 0} → (X → Bool) → List X → Bool
all p xs = list_all p xs

-- does a test hold of some element?
abbrev pub any : {X : Type 0} → (X → Bool) → List X → Bool
any p xs = list_any p xs

-- a slot offers 1 to 15 parts
abbrev pub slot_lawful : Slot → Bool
slot_lawful s = nat_le 1 s.parts && nat_le s.parts 15

-- t is a used slot
abbrev pub kind_lawful : ℕ → Kind → Bool
kind_lawful used Goes = true
kind_lawful used (Needs t) = nat_lt t used
kind_lawful used (Bars t) = nat_lt t used

abbrev pub rising_after : ℕ → List ℕ → Bool
rising_after x [] = true
rising_after x (y ∷ ys) = nat_lt x y && rising_after y ys

-- each number is above the one before
abbrev pub rising : List ℕ → Bool
rising [] = true
rising (x ∷ xs) = rising_after x xs

-- t is not among the slots
abbrev pub apart : Kind → List ℕ → Bool
apart Goes slots = true
apart (Needs t) slots = all (λ s. not (s == t)) slots
apart (Bars t) slots = all (λ s. not (s == t)) slots

-- how many parts the slot of a number offers
abbrev pub offered : List Slot → ℕ → ℕ
offered [] n = 0
offered (s ∷ ss) zero = s.parts
offered (s ∷ ss) (suc n) = offered ss n

-- a row has a part for each slot that this slot offers
abbrev pub row_lawful : List ℕ → List ℕ → Bool
row_lawful [] [] = true
row_lawful [] (v ∷ row) = false
row_lawful (p ∷ limits) [] = false
row_lawful (p ∷ limits) (v ∷ row) = (nat_le 1 v && nat_le v p) && row_lawful limits row

-- a rule looks at 1 to 4 used slots, in rising order and without t, and has 0 to 255 rows
abbrev pub rule_lawful : List Slot → Rule → Bool
rule_lawful slots r =
    kind_lawful (length slots) r.kind
    && (nat_le 1 (length r.slots) && nat_le (length r.slots) 4)
    && all (λ s. ltb s (length slots)) r.slots
    && rising r.slots
    && apart r.kind r.slots
    && nat_le (length r.rows) 255
    && all (row_lawful (map (offered slots) r.slots)) r.rows

-- a mark of 16 bits, 1 to 24 used slots, at least one of them standard, and 0 to 64 rules
abbrev pub head_lawful : Catalogue → Bool
head_lawful c =
    nat_le c.mark 65535
    && (nat_le 1 (length c.slots) && nat_le (length c.slots) 24)
    && any (λ s. s.standard) c.slots
    && nat_le (length c.rules) 64

abbrev pub lawful : Catalogue → Bool
lawful c = head_lawful c && all slot_lawful c.slots && all (rule_lawful c.slots) c.rules
