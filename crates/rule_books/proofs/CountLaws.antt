-- Rows that cover all choices are no fewer than these.
use Rattle.std.proofs.Common.{◌≡◌, ℕ, zero, suc, ◌+◌, ◌*◌, ◌/◌, ◌%◌, ◌^◌, ◌<◌, ◌≤◌, true, false, cond, not, ◌&&◌, eqb, List, [], ◌∷◌, map, fold, take, length, Option, sym, refl, ap, ◌∙◌, subst, ⊎_elim, add-mul, one-mul, pow-suc, zero-mul, mul-add, arith}
use native.Mathlib.Nat.{pow-le-pow_right}
use lib.Count.{ones, ones_step}
use Rattle.std.proofs.Math.Nat.{mul_assoc, mul-one}
use Rattle.std.proofs.lemmas.Iterator.{YieldsList}
use Rattle.std.proofs.lemmas.Iterator.Consumers.{YieldsList-so_far}
use Rattle.std.proofs.lemmas.List.{map-id, take-map, get_or-take, length-take}
use Rattle.std.specs.Iterator.{Yields}
use Rattle.std.specs.Iterator.Runs.{EachRunFrom, YieldsRun}
use Rattle.std.proofs.lemmas.Bool.{both_ways, eq-eqb, ne_eqb, cases_Bool, cases_eq, and_parts, or_cases, or_left, or_right, not_from_false, true≢false}
use Rattle.kits.specs.Labels.{Has}
use Rattle.kits.specs.Boxes.{In, Small, volume}
use Rattle.kits.proofs.LabelLaws.{bit_one, ones_zero}
use Rattle.kits.proofs.BoxLaws.{volume_small}
use Rattle.rule_books.specs.Rules.{is_row, same}
use Rattle.rule_books.specs.Narrowing.{some_no_row}
use Rattle.rule_books.specs.SomeLaws.{some_yes, small_tail}

-- the sum over the members, below n, of a label
sum_over : ℕ → ℕ → (ℕ → ℕ) → ℕ
sum_over zero l q = 0
sum_over (suc n) l q = (l % 2) * q 0 + sum_over n (l / 2) (λ v. q (suc v))

sum_add : (n l : ℕ) (p q : ℕ → ℕ) → sum_over n l (λ v. p v + q v) ≡ sum_over n l p + sum_over n l q
unfolding sum_over
sum_add zero l p q = refl
sum_add (suc n) l p q = omega (arith, sum_add n (l / 2) (λ v. p (suc v)) (λ v. q (suc v)), mul-add (l % 2) (p 0) (q 0))

sum_none : (n l : ℕ) (q : ℕ → ℕ) → ((v : ℕ) → q v ≡ 0) → sum_over n l q ≡ 0
unfolding sum_over
sum_none zero l q h = refl
sum_none (suc n) l q h =
    let a : (l % 2) * q 0 ≡ (l % 2) * 0 = ap (λ (y : ℕ). (l % 2) * y) (h 0) in
    omega (arith, a, sum_none n (l / 2) (λ v. q (suc v)) (λ v. h (suc v)))

sum_same : (n l : ℕ) (p q : ℕ → ℕ) → ((v : ℕ) → p v ≡ q v) → sum_over n l p ≡ sum_over n l q
unfolding sum_over
sum_same zero l p q h = refl
sum_same (suc n) l p q h = let a = h 0 in let b = sum_same n (l / 2) (λ v. p (suc v)) (λ v. q (suc v)) (λ v. h (suc v)) in rw (a, b) refl

sum_least : (n l m : ℕ) (q : ℕ → ℕ) → l < 2 ^ n → ((v : ℕ) → Has l v → m ≤ q v) → ones l * m ≤ sum_over n l q
unfolding sum_over
sum_least zero l m q h g = let z : l ≡ 0 = omega arith in rw (z, ones_zero) (omega (arith, zero-mul m))
sum_least (suc n) l m q h g =
    let ih = sum_least n (l / 2) m (λ v. q (suc v)) (omega (arith, pow-suc 2 n)) (λ v. g (suc v)) in
    let e : ones l * m ≡ ones (l / 2) * m + (l % 2) * m = ap (λ (y : ℕ). y * m) (step l) ∙ add-mul (ones (l / 2)) (l % 2) m in
    ⊎_elim
    (λ (p : l % 2 ≡ 1).
    let a : (l % 2) * m ≡ 1 * m = ap (λ (y : ℕ). y * m) p in
    let b : (l % 2) * q 0 ≡ 1 * q 0 = ap (λ (y : ℕ). y * q 0) p in
    omega (arith, ih, e, a, b, one-mul m, one-mul (q 0), g 0 p))
    (λ (p : l % 2 ≡ 0). let a : (l % 2) * m ≡ 0 * m = ap (λ (y : ℕ). y * m) p in omega (arith, ih, e, a, zero-mul m))
    (bit_one 0 l)
  where
    step : (l : ℕ) → ones l ≡ ones (l / 2) + l % 2
    step l = omega (arith, ones_step l)

-- 1 where the numbers are equal
one_at : ℕ → ℕ → ℕ
one_at x v = cond (eqb x v) 1 0

one_next : (x v : ℕ) → one_at (suc x) (suc v) ≡ one_at x v
unfolding one_at
one_next x v =
    ⊎_elim
    (λ (e : x ≡ v). rw (eq-eqb x v e, eq-eqb (suc x) (suc v) (ap suc e)) refl)
    (λ (n : x ≡ v → ⊥). rw (ne_eqb x v n, ne_eqb (suc x) (suc v) (λ e. n (omega arith))) refl)
    (cases_eq x v)

one_not : (x v : ℕ) → (x ≡ v → ⊥) → one_at x v ≡ 0
unfolding one_at
one_not x v n = rw (ne_eqb x v n) refl

one_same : one_at 0 0 ≡ 1
unfolding one_at
one_same = refl

sum_one : (n l x : ℕ) → sum_over n l (one_at x) ≤ 1
unfolding sum_over
sum_one zero l x = omega arith
sum_one (suc n) l zero =
    let z = sum_none n (l / 2) (λ v. one_at 0 (suc v)) (λ v. one_not 0 (suc v) (λ e. absurd (omega arith))) in
    let e : (l % 2) * one_at 0 0 ≡ (l % 2) * 1 = ap (λ (y : ℕ). (l % 2) * y) one_same in
    omega (arith, z, e)
sum_one (suc n) l (suc x) =
    let e = sum_same n (l / 2) (λ v. one_at (suc x) (suc v)) (one_at x) (one_next x) in
    let z : (l % 2) * one_at (suc x) 0 ≡ (l % 2) * 0 = ap (λ (y : ℕ). (l % 2) * y) (one_not (suc x) 0 (λ e. absurd (omega arith))) in
    omega (arith, sum_one n (l / 2) x, e, z)

-- the rest of the rows that begin with v
tails : ℕ → List (List ℕ) → List (List ℕ)
tails v [] = []
tails v ([] ∷ rows) = tails v rows
tails v ((x ∷ r) ∷ rows) = cond (eqb x v) (r ∷ tails v rows) (tails v rows)

tails_row : (v : ℕ) (g : List ℕ) (rows : List (List ℕ)) → is_row rows (v ∷ g) ≡ true → is_row (tails v rows) g ≡ true
unfolding tails
tails_row v g [] t = absurd (true≢false (sym t))
tails_row v g ([] ∷ rows) t = tails_row v g rows t
tails_row v g ((x ∷ r) ∷ rows) t =
    ⊎_elim
    (λ (s : (eqb x v && same r g) ≡ true). let a = and_parts (eqb x v) (same r g) s in rw a.0 (or_left (same r g) (is_row (tails v rows) g) a.1))
    (λ (s : is_row rows (v ∷ g) ≡ true).
    ⊎_elim
    (λ (e : eqb x v ≡ true). rw e (or_right (same r g) (is_row (tails v rows) g) (tails_row v g rows s)))
    (λ (e : eqb x v ≡ false). rw e (tails_row v g rows s))
    (cases_Bool (eqb x v)))
    (or_cases (eqb x v && same r g) (is_row rows (v ∷ g)) t)

tails_length : (x v : ℕ) (r : List ℕ) (rows : List (List ℕ)) → length (tails v ((x ∷ r) ∷ rows)) ≡ length (tails v rows) + one_at x v
unfolding tails one_at
tails_length x v r rows =
    ⊎_elim
    (λ (e : eqb x v ≡ true). rw e (omega arith))
    (λ (e : eqb x v ≡ false). rw e (omega arith))
    (cases_Bool (eqb x v))

sum_tails : (n l : ℕ) (rows : List (List ℕ)) → sum_over n l (λ v. length (tails v rows)) ≤ length rows
unfolding tails
sum_tails n l [] = omega (arith, sum_none n l (λ v. 0) (λ v. refl))
sum_tails n l ([] ∷ rows) = omega (arith, sum_tails n l rows)
sum_tails n l ((x ∷ r) ∷ rows) =
    let e = sum_same n l (λ v. length (tails v ((x ∷ r) ∷ rows))) (λ v. length (tails v rows) + one_at x v) (λ v. tails_length x v r rows) in
    let a = sum_add n l (λ v. length (tails v rows)) (one_at x) in
    subst (λ (y : ℕ). y ≤ suc (length rows)) (sym (e ∙ a)) (omega (arith, sum_tails n l rows, sum_one n l x))

covered : (labels : List ℕ) (rows : List (List ℕ)) → Small labels → ((g : List ℕ) → In g labels → is_row rows g ≡ true) → volume labels ≤ length rows
covered [] [] s h = absurd (true≢false (sym (h [] tt)))
covered [] (r ∷ rows) s h = omega arith
covered (l ∷ labels) rows s h =
    let a = sum_least 16 l (volume labels) (λ v. length (tails v rows)) (s 0 (omega arith)) (λ v m. covered labels (tails v rows) (small_tail l labels s) (λ g n. tails_row v g rows (h (v ∷ g) (m, n)))) in
    omega (arith, a, sum_tails 16 l rows)

-- more choices than rows: some choice is no row
pub no_row_left : (labels : List ℕ) (rows : List (List ℕ)) → Small labels → length rows < volume labels → some_no_row rows [] labels ≡ true
no_row_left labels rows s h =
    ⊎_elim
    (λ (e : some_no_row rows [] labels ≡ true). e)
    (λ (e : some_no_row rows [] labels ≡ false).
    absurd (omega (
      arith,
      covered labels rows s (λ g n.
          ⊎_elim
          (λ (t : is_row rows g ≡ true). t)
          (λ (t : is_row rows g ≡ false). absurd (both_ways (some_no_row rows [] labels) e (some_yes (λ f. not (is_row rows f)) labels g s n (not_from_false (is_row rows g) t))))
          (cases_Bool (is_row rows g))),
    )))
    (cases_Bool (some_no_row rows [] labels))

-- the numbers of members multiplied
product_from : (a : ℕ) (labels : List ℕ) → fold (λ n x. n * x) a (map ones labels) ≡ a * volume labels
product_from a [] = sym (mul-one a)
product_from a (l ∷ labels) = product_from (a * ones l) labels ∙ mul_assoc a (ones l) (volume labels)

pub product_all : (labels : List ℕ) → fold (λ n x. n * x) 1 (map ones labels) ≡ volume labels
product_all labels = product_from 1 labels ∙ one-mul (volume labels)

small_take : (k : ℕ) (labels : List ℕ) → Small labels → Small (take k labels)
small_take k labels s i h =
    let m = length-take k labels in
    subst (λ (x : ℕ). x < 2 ^ 16) (sym (get_or-take k labels i 0 (omega arith))) (s i (omega arith))

-- of so few labels the first choices are few too
pub product_fits : {S : Type 0} {steps : S → Option ℕ → S → Type 0} (labels : List ℕ) (s : S) → length labels ≤ 4 → Small labels → YieldsList steps (λ x. x) s (map ones labels)
    → EachRunFrom steps s (λ p. fold (λ n x. n * x) 1 p.items < 2 ^ 64)
unfolding YieldsRun
product_fits {S} {steps} labels s few small chain = λ p _ at.
    let xs = p.items in
    let y = subst (λ u. Yields steps u xs p.gave.0.0) at p.gave.0.1 in
    let k = length xs in
    let e : xs ≡ map ones (take k labels) = sym (map-id xs) ∙ YieldsList-so_far chain xs p.gave.0.0 y ∙ take-map ones k labels in
    let v : fold (λ n x. n * x) 1 xs ≡ volume (take k labels) = ap (fold (λ n x. n * x) 1) e ∙ product_all (take k labels) in
    let h : length (take k labels) ≤ 4 = omega (arith, length-take k labels) in
    let t : 16 ^ length (take k labels) ≤ 16 ^ 4 = pow-le-pow_right (omega arith) h in
    omega (arith, v, t, volume_small (take k labels) (small_take k labels small))
