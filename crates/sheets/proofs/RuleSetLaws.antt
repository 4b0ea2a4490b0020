-- Sets of rules: what joining, taking away and listing them comes to.
use Rattle.std.proofs.Common.{◌≡◌, ℕ, zero, suc, ◌+◌, ◌/◌, ◌%◌, ◌^◌, ◌<◌, ◌≤◌, min, max, Bool, true, false, not, ◌&&◌, ◌||◌, eqb, refl, ⊎_elim, pow-suc, arith}
use lib.Bits.{bit_and, bit_or, bit_xor}
use Rattle.std.proofs.lemmas.Bool.Decides.{nat_tests}
use Rattle.std.proofs.lemmas.Nat.Bits.{bit_at_or, bit_at_xor}
use Rattle.std.proofs.lemmas.Bool.{cases_Bool, cases_eq, cases_lt, eq-eqb}
use Rattle.kits.specs.Labels.{bit, Has, has_member, least}
use Rattle.kits.proofs.LabelLaws.{bit_is, bit_zero, bit_of_and, bit_one, bit_pow, pow_bit, bit_beyond, has_least, met}
use Rattle.sheets.specs.Searches.{Below}
use Rattle.sheets.specs.Sets.{numbers_from, members}
use Rattle.sheets.specs.Histories.{History, in_force, rules_in_force}
use Rattle.sheets.specs.Outcomes.{without}
use Rattle.sheets.specs.Refusals.{sets_lawful, SetsLawful}

bit_of_or : (v a b : ℕ) → bit v (bit_or a b) ≡ max (bit v a) (bit v b)
bit_of_or v a b = rw (bit_is v (bit_or a b), bit_is v a, bit_is v b) (bit_at_or a b v)

bit_of_xor : (v a b : ℕ) → bit v (bit_xor a b) ≡ (bit v a + bit v b) % 2
bit_of_xor v a b = rw (bit_is v (bit_xor a b), bit_is v a, bit_is v b) (bit_at_xor a b v)

-- a fact on the digits r of two sets, by the four cases
by_digits : (P : ℕ → ℕ → Type 0) (a b r : ℕ) → P 1 1 → P 1 0 → P 0 1 → P 0 0 → P (bit r a) (bit r b)
by_digits P a b r p q s t =
    ⊎_elim
    (λ (x : bit r a ≡ 1). ⊎_elim (λ (y : bit r b ≡ 1). rw (x, y) p) (λ (y : bit r b ≡ 0). rw (x, y) q) (bit_one r b))
    (λ (x : bit r a ≡ 0). ⊎_elim (λ (y : bit r b ≡ 1). rw (x, y) s) (λ (y : bit r b ≡ 0). rw (x, y) t) (bit_one r b))
    (bit_one r a)

pub has_or : (a b r : ℕ) → has_member (bit_or a b) r ≡ (has_member a r || has_member b r)
has_or a b r = rw (bit_of_or r a b) (by_digits (λ (x y : ℕ). eqb (max x y) 1 ≡ (eqb x 1 || eqb y 1)) a b r refl refl refl refl)

pub has_without : (a b r : ℕ) → has_member (without a b) r ≡ (has_member a r && not (has_member b r))
has_without a b r = rw (bit_of_xor r a (bit_and a b), bit_of_and r a b) (by_digits (λ (x y : ℕ). eqb ((x + min x y) % 2) 1 ≡ (eqb x 1 && not (eqb y 1))) a b r refl refl refl refl)

pub has_only : (q r : ℕ) → has_member (2 ^ q) r ≡ eqb q r
has_only q r =
    ⊎_elim
    (λ (e : q ≡ r). rw e (grind (arith, nat_tests, pow_bit r)))
    (λ (n : q ≡ r → ⊥). grind (arith, nat_tests, bit_pow r q))
    (cases_eq q r)

pub has_none : (r : ℕ) → has_member 0 r ≡ false
has_none r = rw (bit_zero r) refl

pub has_below : (s n r : ℕ) → s < 2 ^ n → has_member s r ≡ true → r < n
has_below s n r h e = grind (arith, nat_tests, bit_beyond n r s h)

-- a set that has only numbers below n is below 2 ^ n
below_has : (n s : ℕ) → ((r : ℕ) → Has s r → r < n) → s < 2 ^ n
below_has zero s h = ⊎_elim (λ x. x) (λ (p : 1 ≤ s). absurd (omega (arith, h (least s) (has_least s p)))) (cases_lt s 1)
below_has (suc n) s h = let k : s / 2 < 2 ^ n = below_has n (s / 2) (λ r e. omega (arith, h (suc r) e)) in omega (arith, pow-suc 2 n)

pub sets_lawful_means : SetsLawful
sets_lawful_means n f g = (to, from)
  where
    to : sets_lawful n f g ≡ true → ((r : ℕ) → Has f r → r < n) × ((r : ℕ) → Has g r → r < n) × ((r : ℕ) → Has f r → Has g r → ⊥)
    to e =
        let p : (f < 2 ^ n) × (g < 2 ^ n) × (bit_and f g ≡ 0) = grind (arith, nat_tests) in (
          λ r h. has_below f n r p.0 (eq-eqb _ _ h),
          λ r h. has_below g n r p.1 (eq-eqb _ _ h),
          λ r h k. omega (arith, rw p.2 at ((met f g r).1 (h, k)), bit_zero r),
        )

    from : ((r : ℕ) → Has f r → r < n) × ((r : ℕ) → Has g r → r < n) × ((r : ℕ) → Has f r → Has g r → ⊥) → sets_lawful n f g ≡ true
    from h =
        let m = bit_and f g in
        let z : m ≡ 0 = ⊎_elim (λ (x : m < 1). omega arith) (λ (x : 1 ≤ m). let k = (met f g (least m)).0 (has_least m x) in absurd (h.2 (least m) k.0 k.1)) (cases_lt m 1) in
        grind (arith, nat_tests, below_has n f h.0, below_has n g h.1)

same_from : (n r : ℕ) (p q : ℕ → Bool) → ((k : ℕ) → p k ≡ q k) → numbers_from n r p ≡ numbers_from n r q
same_from zero r p q h = refl
same_from (suc n) r p q h = rw (h r, same_from n (suc r) p q h) refl

-- the members of the set in force are the rules in force
pub members_in_force : (s : ℕ) (h : History) → ((r : ℕ) → has_member s r ≡ in_force h r) → members s ≡ rules_in_force h
unfolding members rules_in_force
members_in_force s h e = same_from 64 0 (has_member s) (in_force h) e

below_from : (m n r : ℕ) (p : ℕ → Bool) → ((k : ℕ) → p k ≡ true → k < m) → Below m (numbers_from n r p)
below_from m zero r p h = tt
below_from m (suc n) r p h =
    ⊎_elim
    (λ (e : p r ≡ true). rw e (h r e, below_from m n (suc r) p h))
    (λ (e : p r ≡ false). rw e (below_from m n (suc r) p h))
    (cases_Bool (p r))

pub rules_below : (m : ℕ) (h : History) → ((r : ℕ) → in_force h r ≡ true → r < m) → Below m (rules_in_force h)
unfolding rules_in_force
rules_below m h k = below_from m 64 0 (in_force h) k
