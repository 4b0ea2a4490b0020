-- A lawful rule of cells is ready for narrowing.
use Rattle.std.proofs.Common.{◌≡◌, ℕ, zero, suc, ◌<◌, ◌≤◌, Bool, true, not, eqb, ltb, leb, List, [], ◌∷◌, map, length, get_or, sym, refl, inl, inr, le_of_suc-le-suc, arith}
use Rattle.std.proofs.lemmas.Bool.{and_parts, leb-true, ltb-true, eqb-false, not-true, true≢false}
use Rattle.catalogue.specs.declared.model.Kind.{Kind}
use Rattle.catalogue.specs.declared.model.Slot.{Slot}
use Rattle.catalogue.specs.Catalogues.{Rule}
use Rattle.catalogue.specs.Cells.{rows_of}
use Rattle.catalogue.specs.Lawful.{all, slot_lawful, kind_lawful, rising_after, rising, apart, offered, row_lawful, rule_lawful}
use Rattle.catalogue.proofs.LawfulParts.{of_parts, rule_parts}
use Rattle.catalogue.proofs.RuleWrites.{rule_sized}
use Rattle.rule_books.specs.Scope.{Aside, Distinct}
use Rattle.rule_books.specs.Narrowing.{Ready, Beside}

all_at : {X : Type 0} (p : X → Bool) (xs : List X) (k : ℕ) (d : X) → all p xs ≡ true → k < length xs → p (get_or xs k d) ≡ true
all_at p [] k d e h = absurd (omega arith)
all_at p (x ∷ xs) zero d e h = (and_parts (p x) (all p xs) e).0
all_at p (x ∷ xs) (suc k) d e h = all_at p xs k d (and_parts (p x) (all p xs) e).1 (le_of_suc-le-suc h)

-- rising numbers are distinct
above : (x : ℕ) (xs : List ℕ) (k : ℕ) → rising_after x xs ≡ true → k < length xs → x < get_or xs k 0
above x [] k e h = absurd (omega arith)
above x (y ∷ ys) zero e h = ltb-true x y (and_parts (ltb x y) (rising_after y ys) e).0
above x (y ∷ ys) (suc k) e h =
    let r = and_parts (ltb x y) (rising_after y ys) e in
    omega (arith, ltb-true x y r.0, above y ys k r.1 (le_of_suc-le-suc h))

distinct_after : (x : ℕ) (xs : List ℕ) → rising_after x xs ≡ true → Distinct (x ∷ xs)
distinct_after x xs e j zero g h = λ q. omega arith
distinct_after x xs e zero (suc k) g h = λ q. omega (arith, above x xs k e (le_of_suc-le-suc h))
distinct_after x [] e (suc j) (suc k) g h = λ q. omega arith
distinct_after x (y ∷ ys) e (suc j) (suc k) g h = distinct_after y ys (and_parts (ltb x y) (rising_after y ys) e).1 j k (le_of_suc-le-suc g) (le_of_suc-le-suc h)

rising_distinct : (xs : List ℕ) → rising xs ≡ true → Distinct xs
rising_distinct [] e = λ j k g h q. omega arith
rising_distinct (x ∷ xs) e = distinct_after x xs e

-- the numbers of lawful rows are parts
offered_small : (slots : List Slot) (n : ℕ) → all slot_lawful slots ≡ true → offered slots n < 16
offered_small [] n e = omega arith
offered_small (s ∷ slots) zero e =
    let p = and_parts (leb 1 s.parts) (leb s.parts 15) (and_parts (slot_lawful s) (all slot_lawful slots) e).0 in
    omega (arith, leb-true s.parts 15 p.1)
offered_small (s ∷ slots) (suc n) e = offered_small slots n (and_parts (slot_lawful s) (all slot_lawful slots) e).1

below_next : (v : ℕ) (row : List ℕ) → v < 16 → ((i : ℕ) → get_or row i 0 < 16) → (i : ℕ) → get_or (v ∷ row) i 0 < 16
below_next v row h r zero = h
below_next v row h r (suc i) = r i

row_sized : (limit : ℕ → ℕ) → ((n : ℕ) → limit n < 16) → (own row : List ℕ) → row_lawful (map limit own) row ≡ true → (length row ≡ length own) × ((i : ℕ) → get_or row i 0 < 16)
row_sized limit small [] [] e = (refl, λ i. omega arith)
row_sized limit small [] (v ∷ row) e = absurd (true≢false (sym e))
row_sized limit small (s ∷ own) [] e = absurd (true≢false (sym e))
row_sized limit small (s ∷ own) (v ∷ row) e =
    let p = and_parts _ (row_lawful (map limit own) row) e in
    let r = row_sized limit small own row p.1 in
    let h = leb-true v (limit s) (and_parts (leb 1 v) _ p.0).1 in
    (omega (arith, r.0), below_next v row (omega (arith, h, small s)) r.1)

aside : (t : ℕ) (own : List ℕ) → all (λ s. not (eqb s t)) own ≡ true → Aside t own
aside t own e k h = eqb-false (get_or own k 0) t (not-true _ (all_at (λ s. not (eqb s t)) own k 0 e h))

beside : (used : ℕ) (kind : Kind) (own : List ℕ) → used ≤ 24 → kind_lawful used kind ≡ true → apart kind own ≡ true → Beside kind own
beside used kind own n e a t (inl k) = (omega (arith, ltb-true t used (rw k at e)), aside t own (rw k at a))
beside used kind own n e a t (inr k) = (omega (arith, ltb-true t used (rw k at e)), aside t own (rw k at a))

pub rule_ready : (slots : List Slot) (kind : Kind) (own rows : List ℕ) (count : ℕ) → length slots ≤ 24 → all slot_lawful slots ≡ true
    → rule_lawful slots (record { kind = kind; slots = own; rows = rows_of count (length own) rows }) ≡ true → Ready own count rows × Beside kind own
rule_ready slots kind own rows count few parts lawful =
    let rule : Rule = record { kind = kind; slots = own; rows = rows_of count (length own) rows } in
    let r = rule_parts slots rule lawful in
    let of = of_parts (length slots) kind own r.of in (
      record {
        some_slot = of.some;
        few_slots = of.few;
        within = λ k h. omega (arith, ltb-true (get_or own k 0) (length slots) (all_at (λ s. ltb s (length slots)) own k 0 of.below h));
        distinct = rising_distinct own of.rises;
        enough = (rule_sized slots kind own rows count lawful).1;
        sized = λ k h. row_sized (offered slots) (λ n. offered_small slots n parts) own _ (all_at (row_lawful (map (offered slots) own)) (rows_of count (length own) rows) k [] r.rows h);
      },
      beside (length slots) kind own few r.kind of.without,
    )
