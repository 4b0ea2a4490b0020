-- Laws of a set of rule numbers: its lowest member comes first, then its other members.
use Rattle.std.proofs.Common.{◌≡◌, ℕ, zero, suc, ◌+◌, ◌-◌, ◌^◌, ◌<◌, ◌≤◌, [], ◌∷◌, refl, ap, ⊎_elim, arith}
use lib.Bits.{bit_and}
use lib.Count.{count_trailing_zeros}
use Rattle.std.proofs.lemmas.Bool.{cases_lt, eq-eqb, ne_eqb}
use Rattle.kits.specs.Labels.{bit, has_member, least, low, others}
use Rattle.kits.proofs.LabelLaws.{bit_zero, bit_sum, bit_pow, pow_bit, bit_one, bit_beyond, least_le, has_least, lt_pow, and_less, least_at}
use Rattle.sheets.specs.Sets.{numbers_from, members}

none_from : (n r : ℕ) → numbers_from n r (has_member 0) ≡ []
none_from zero r = refl
none_from (suc n) r = rw (bit_zero r) (none_from n (suc r))

pub members_none : members 0 ≡ []
unfolding members
members_none = none_from 64 0

-- a number other than the lowest member is a member of the set exactly if it is one of the others
others_bit : (s v : ℕ) → 0 < s → (v ≡ least s → ⊥) → bit v (others s) ≡ bit v s
others_bit s v p n =
    ⊎_elim
    (λ (x : bit v (low s) ≡ 1). absurd (n (bit_pow v (least s) x)))
    (λ (x : bit v (low s) ≡ 0). omega (arith, bit_sum s s v p (lt_pow s)))
    (bit_one v (low s))

others_from : (n r s : ℕ) → 0 < s → least s < r → numbers_from n r (has_member (others s)) ≡ numbers_from n r (has_member s)
others_from zero r s p h = refl
others_from (suc n) r s p h =
    rw (others_bit s r p (λ e. absurd (omega arith)), others_from n (suc r) s p (omega arith)) refl

least_from : (n r s : ℕ) → 0 < s → r ≤ least s → least s < r + n → numbers_from n r (has_member s) ≡ least s ∷ numbers_from n r (has_member (others s))
least_from zero r s p h k = absurd (omega arith)
least_from (suc n) r s p h k =
    ⊎_elim
    (λ (l : r < least s).
    let z : bit r s ≡ 0 = ⊎_elim (λ (x : bit r s ≡ 1). absurd (omega (arith, least_le s s r x))) (λ (x : bit r s ≡ 0). x) (bit_one r s) in
    rw (others_bit s r p (λ e. absurd (omega arith)), ne_eqb (bit r s) 1 (λ x. absurd (omega arith))) (least_from n (suc r) s p l (omega arith)))
    (λ (l : least s ≤ r).
    let e : r ≡ least s = omega arith in
    let x : bit r (others s) ≡ 0 = rw e (omega (arith, bit_sum s s (least s) p (lt_pow s), pow_bit (least s), has_least s p)) in
    let y : bit r s ≡ 1 = rw e (has_least s p) in
    rw (eq-eqb (bit r s) 1 y, ne_eqb (bit r (others s)) 1 (λ q. absurd (omega arith)), others_from n (suc r) s p (omega arith)) (ap (λ (v : ℕ). v ∷ numbers_from n (suc r) (has_member s)) e))
    (cases_lt r (least s))

pub members_least : (s : ℕ) → 0 < s → s < 2 ^ 64 → members s ≡ least s ∷ members (others s)
unfolding members
members_least s p h =
    let k : least s < 64 = ⊎_elim (λ x. x) (λ (n : 64 ≤ least s). absurd (omega (arith, has_least s p, bit_beyond 64 (least s) s h n))) (cases_lt (least s) 64) in
    least_from 64 0 s p (omega arith) (omega arith)

-- as the code finds them
pub members_lowest : (s : ℕ) → 0 < s → s < 2 ^ 64 → members s ≡ count_trailing_zeros 64 s ∷ members (bit_and s (s - 1))
members_lowest s p h = rw (members_least s p h, and_less 64 s p h, least_at 64 s p h) refl
