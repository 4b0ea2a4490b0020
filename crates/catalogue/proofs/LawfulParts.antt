-- What is lawful, part by part, and the bounds that it sets.
use Rattle.std.proofs.Common.{◌≡◌, ℕ, zero, suc, ◌≤◌, Bool, true, ◌&&◌, ltb, leb, List, [], ◌∷◌, map, length, refl, arith}
use Rattle.std.specs.List.{AllByRecursion}
use Rattle.std.proofs.lemmas.Bool.{and_parts, ltb-true, false≢true}
use Rattle.std.proofs.lemmas.Bool.Decides.{nat_tests}
use Rattle.catalogue.specs.declared.model.Kind.{Kind}
use Rattle.catalogue.specs.declared.model.Kind.TheVariants.{Goes, Needs, Bars}
use Rattle.catalogue.specs.declared.model.Slot.{Slot}
use Rattle.catalogue.specs.Catalogues.{Rule, Catalogue}
use Rattle.catalogue.specs.Cells.{target_cell}
use Rattle.catalogue.specs.Lawful.{all, any, slot_lawful, kind_lawful, rising, apart, offered, row_lawful, rule_lawful, lawful}

-- the slots that a rule looks at
abbrev pub of_lawful : ℕ → Kind → List ℕ → Bool
of_lawful used kind ns = (leb 1 (length ns) && leb (length ns) 4) && all (λ s. ltb s used) ns && rising ns && apart kind ns

pub record OfParts (used : ℕ) (kind : Kind) (ns : List ℕ) : Type 0 where
  pub some : 1 ≤ length ns
  pub few : length ns ≤ 4
  pub below : all (λ s. ltb s used) ns ≡ true
  pub rises : rising ns ≡ true
  pub without : apart kind ns ≡ true

pub of_parts : (used : ℕ) (kind : Kind) (ns : List ℕ) → of_lawful used kind ns ≡ true → OfParts used kind ns
of_parts used kind ns h = grind (arith, nat_tests)

pub of_from : (used : ℕ) (kind : Kind) (ns : List ℕ) → OfParts used kind ns → of_lawful used kind ns ≡ true
of_from used kind ns p = grind (arith, nat_tests)

pub record RuleParts (slots : List Slot) (r : Rule) : Type 0 where
  pub kind : kind_lawful (length slots) r.kind ≡ true
  pub of : of_lawful (length slots) r.kind r.slots ≡ true
  pub count : leb (length r.rows) 255 ≡ true
  pub rows : all (row_lawful (map (offered slots) r.slots)) r.rows ≡ true

pub rule_parts : (slots : List Slot) (r : Rule) → rule_lawful slots r ≡ true → RuleParts slots r
rule_parts slots r h = grind arith

pub rule_from : (slots : List Slot) (r : Rule) → RuleParts slots r → rule_lawful slots r ≡ true
rule_from slots r p = grind arith

pub record Parts (c : Catalogue) : Type 0 where
  pub mark : leb c.mark 65535 ≡ true
  pub used : (leb 1 (length c.slots) && leb (length c.slots) 24) ≡ true
  pub standard : any (λ s. s.standard) c.slots ≡ true
  pub count : leb (length c.rules) 64 ≡ true
  pub slots : all slot_lawful c.slots ≡ true
  pub rules : all (rule_lawful c.slots) c.rules ≡ true

pub lawful_parts : (c : Catalogue) → lawful c ≡ true → Parts c
lawful_parts c h = grind arith

pub lawful_from : (c : Catalogue) → Parts c → lawful c ≡ true
lawful_from c p = grind arith

-- a test that holds of each element
pub all_means : {X : Type 0} {P : X → Type 0} (p : X → Bool) → ((x : X) → p x ≡ true → P x) → (xs : List X) → all p xs ≡ true → AllByRecursion P xs
all_means p f [] h = tt
all_means p f (x ∷ xs) h = let e = and_parts (p x) (all p xs) h in (f x e.0, all_means p f xs e.1)

pub within : (low high n : ℕ) → (leb low n && leb n high) ≡ true → (low ≤ n) × (n ≤ high)
within low high n h = grind (arith, nat_tests)

pub target_few : (used : ℕ) → used ≤ 24 → (k : Kind) → kind_lawful used k ≡ true → target_cell k ≤ 23
target_few used few Goes h = omega arith
target_few used few (Needs t) h = omega (arith, ltb-true t used h)
target_few used few (Bars t) h = omega (arith, ltb-true t used h)

pub offered_few : (slots : List Slot) → all slot_lawful slots ≡ true → (n : ℕ) → offered slots n ≤ 15
offered_few [] h n = omega arith
offered_few (s ∷ slots) h zero = (within 1 15 s.parts (and_parts (slot_lawful s) (all slot_lawful slots) h).0).1
offered_few (s ∷ slots) h (suc n) = offered_few slots (and_parts (slot_lawful s) (all slot_lawful slots) h).1 n

pub limits_few : (slots : List Slot) → all slot_lawful slots ≡ true → (ns : List ℕ) → AllByRecursion (λ p. p ≤ 15) (map (offered slots) ns)
limits_few slots h [] = tt
limits_few slots h (n ∷ ns) = (offered_few slots h n, limits_few slots h ns)

pub row_few : (limits row : List ℕ) → AllByRecursion (λ p. p ≤ 15) limits → row_lawful limits row ≡ true → AllByRecursion (λ n. n ≤ 15) row × (length row ≡ length limits)
row_few [] [] a h = (tt, refl)
row_few [] (v ∷ row) a h = absurd (false≢true h)
row_few (p ∷ limits) [] a h = absurd (false≢true h)
row_few (p ∷ limits) (v ∷ row) a h =
    let e = and_parts (leb 1 v && leb v p) (row_lawful limits row) h in
    let v-few = within 1 p v e.0 in
    let r = row_few limits row a.1 e.1 in
    ((omega arith, r.0), omega arith)
