-- Each cell of a lawful catalogue has 16 bits.
use Rattle.std.proofs.Common.{◌≡◌, ℕ, ◌^◌, ◌<◌, ◌≤◌, Bool, true, false, ltb, List, [], ◌∷◌, map, length, arith}
use Rattle.std.specs.List.{flat_map, AllByRecursion}
use Rattle.std.proofs.ByRecursion.{All-append, All-map, All-weaker}
use Rattle.std.proofs.lemmas.Bool.{and_parts, leb-true, ltb-true}
use Rattle.catalogue.specs.declared.model.Kind.{Kind}
use Rattle.catalogue.specs.declared.model.Kind.TheVariants.{Goes, Needs, Bars}
use Rattle.catalogue.specs.declared.model.Slot.{Slot}
use Rattle.catalogue.specs.Catalogues.{Rule, Catalogue}
use Rattle.catalogue.specs.Cells.{slot_cell, kind_cell, rule_cells, cells_of}
use Rattle.catalogue.specs.Lawful.{all, slot_lawful, offered, row_lawful, rule_lawful, lawful}
use Rattle.catalogue.proofs.LawfulParts.{of_parts, rule_parts, lawful_parts, all_means, within, target_few, limits_few, row_few}

abbrev pub Small : ℕ → Type 0
Small n = n < 2 ^ 16

all_joined : {T : Type 0} (P : ℕ → Type 0) (good : T → Bool) (f : T → List ℕ) → ((x : T) → good x ≡ true → AllByRecursion P (f x)) → (xs : List T) → all good xs ≡ true → AllByRecursion P (flat_map f xs)
all_joined P good f each [] h = tt
all_joined P good f each (x ∷ xs) h =
    let e = and_parts (good x) (all good xs) h in
    All-append P (f x) (flat_map f xs) (each x e.0) (all_joined P good f each xs e.1)

slot_small : (s : Slot) → slot_lawful s ≡ true → Small (slot_cell s)
slot_small s h = go s.standard
  where
    go : (b : Bool) → Small (slot_cell (record { parts = s.parts; standard = b }))
    go true = omega (arith, (within 1 15 s.parts h).1)
    go false = omega (arith, (within 1 15 s.parts h).1)

kind_small : (k : Kind) → Small (kind_cell k)
kind_small Goes = omega arith
kind_small (Needs t) = omega arith
kind_small (Bars t) = omega arith

rule_small : (slots : List Slot) → length slots ≤ 24 → all slot_lawful slots ≡ true → (r : Rule) → rule_lawful slots r ≡ true → AllByRecursion Small (rule_cells r)
rule_small slots few good r h =
    let parts = rule_parts slots r h in
    let of = of_parts (length slots) r.kind r.slots parts.of in
    let count = leb-true (length r.rows) 255 parts.count in (
      kind_small r.kind,
      (
        omega (arith, target_few (length slots) few r.kind parts.kind),
        (
          omega (arith, of.few),
          All-append Small r.slots _ (all_means (λ s. ltb s (length slots)) (λ s below. omega (arith, ltb-true s (length slots) below)) r.slots of.below) (
            omega arith,
            all_joined Small (row_lawful (map (offered slots) r.slots)) (λ row. row)
                (λ row b. All-weaker (λ n. n ≤ 15) Small (λ n l. omega arith) row (row_few (map (offered slots) r.slots) row (limits_few slots good r.slots) b).0)
                r.rows parts.rows,
          ),
        ),
      ),
    )

pub cells_small : (c : Catalogue) → lawful c ≡ true → AllByRecursion Small (cells_of c)
cells_small c h =
    let parts = lawful_parts c h in
    let few = (within 1 24 (length c.slots) parts.used).1 in (
      omega (arith, leb-true c.mark 65535 parts.mark),
      (
        omega arith,
        All-append Small (map slot_cell c.slots) _ (All-map Small slot_cell c.slots (all_means slot_lawful slot_small c.slots parts.slots)) (
          omega (arith, leb-true (length c.rules) 64 parts.count),
          all_joined Small (rule_lawful c.slots) rule_cells (rule_small c.slots few parts.slots) c.rules parts.rules,
        ),
      ),
    )
