-- Laws of a label.
use Rattle.std.proofs.Common.{◌≡◌, ℕ, zero, suc, ◌+◌, ◌-◌, ◌/◌, ◌%◌, ◌^◌, ◌<◌, ◌≤◌, min, ◌⊎◌, sym, refl, ◌∙◌, subst, inl, inr, ⊎_elim, suc-le-suc, zero-le, pow-suc, arith}
use lib.Count.{ones, count_trailing_zeros, ones_step}
use lib.Bits.{bit_and, and_step, and_self}
use Rattle.std.proofs.lemmas.Nat.Bits.{bit_at_lowest, bit_at-suc, bit_at-zero, bit_at-lt, bit_at-pow_same, bit_at-pow_other, bit_at_and, bit_at_above}
use Rattle.std.specs.Int.{bit_at}
use Rattle.std.proofs.lemmas.Bool.{cases_lt, cases_eq}
use Rattle.kits.specs.Labels.{bit, Has, least, low, others}
use Rattle.kits.specs.Laws.{LowestMember, Met, LowestSplit}

-- bit v as the library counts it
pub bit_is : (v l : ℕ) → bit v l ≡ bit_at l v
bit_is zero l = sym (bit_at_lowest l)
bit_is (suc v) l = bit_is v (l / 2) ∙ sym (bit_at-suc l v)

-- the lowest digit is 0 or 1
parity : (l : ℕ) → (l % 2 ≡ 0) ⊎ (l % 2 ≡ 1)
parity l = ⊎_elim (λ (h : l % 2 < 1). inl (omega arith)) (λ (h : 1 ≤ l % 2). inr (omega arith)) (cases_lt (l % 2) 1)

pub bit_zero : (v : ℕ) → bit v 0 ≡ 0
bit_zero v = bit_is v 0 ∙ bit_at-zero v

pub bit_lt : (v l : ℕ) → bit v l < 2
bit_lt v l = rw (bit_is v l) (bit_at-lt l v)

pub bit_one : (v l : ℕ) → (bit v l ≡ 1) ⊎ (bit v l ≡ 0)
bit_one zero l = ⊎_elim inr inl (parity l)
bit_one (suc v) l = bit_one v (l / 2)

-- what holds of the place of the lowest member: of an odd label at 0, and of an even label at one more than of its half
by_lowest : (P : ℕ → ℕ → Type 0) → ((l : ℕ) → l % 2 ≡ 1 → P 0 l) → ((t l : ℕ) → 0 < l → l % 2 ≡ 0 → P t (l / 2) → P (suc t) l)
    → (k l : ℕ) → 0 < l → l < 2 ^ k → P (count_trailing_zeros k l) l
unfolding count_trailing_zeros
by_lowest P odd even zero l p h = absurd (omega arith)
by_lowest P odd even (suc k) l p h =
    ⊎_elim
    (λ (e : l % 2 ≡ 0). rw e (even (count_trailing_zeros k (l / 2)) l p e (by_lowest P odd even k (l / 2) (omega arith) (omega (arith, pow-suc 2 k)))))
    (λ (o : l % 2 ≡ 1). rw o (odd l o))
    (parity l)

-- each digit of a label is a digit of its lowest member or of its other members
pub bit_sum : (k l v : ℕ) → 0 < l → l < 2 ^ k → bit v (l - 2 ^ count_trailing_zeros k l) + bit v (2 ^ count_trailing_zeros k l) ≡ bit v l
bit_sum k l v p h = by_lowest (λ t l. (v : ℕ) → bit v (l - 2 ^ t) + bit v (2 ^ t) ≡ bit v l) odd even k l p h v
  where
    odd : (l : ℕ) → l % 2 ≡ 1 → (v : ℕ) → bit v (l - 1) + bit v 1 ≡ bit v l
    odd l o zero = omega arith
    odd l o (suc v) = let a : (l - 1) / 2 ≡ l / 2 = omega arith in rw a (omega (arith, bit_zero v))

    even : (t l : ℕ) → 0 < l → l % 2 ≡ 0 → ((v : ℕ) → bit v (l / 2 - 2 ^ t) + bit v (2 ^ t) ≡ bit v (l / 2)) → (v : ℕ) → bit v (l - 2 ^ suc t) + bit v (2 ^ suc t) ≡ bit v l
    even t l p e ih zero = omega (arith, pow-suc 2 t)
    even t l p e ih (suc v) =
        let a : (l - 2 ^ suc t) / 2 ≡ l / 2 - 2 ^ t = omega (arith, pow-suc 2 t) in
        let b : 2 ^ suc t / 2 ≡ 2 ^ t = omega (arith, pow-suc 2 t) in
        rw (a, b) (ih v)

pub ones_low : (t : ℕ) → ones (2 ^ t) ≡ 1
unfolding ones
ones_low zero = refl
ones_low (suc t) =
    let b : 2 ^ suc t / 2 ≡ 2 ^ t = omega (arith, pow-suc 2 t) in
    let c : 2 ^ suc t % 2 ≡ 0 = omega (arith, pow-suc 2 t) in
    ones_step (2 ^ suc t) ∙ rw (b, c) (omega (arith, ones_low t))

-- the other members are one fewer
pub ones_others : (k l : ℕ) → 0 < l → l < 2 ^ k → ones (l - 2 ^ count_trailing_zeros k l) + 1 ≡ ones l
ones_others = by_lowest (λ t l. ones (l - 2 ^ t) + 1 ≡ ones l) odd even
  where
    odd : (l : ℕ) → l % 2 ≡ 1 → ones (l - 1) + 1 ≡ ones l
    odd l o =
        let a : (l - 1) / 2 ≡ l / 2 = omega arith in
        let b : (l - 1) % 2 ≡ 0 = omega arith in
        omega (arith, rw (a, b) at (ones_step (l - 1)), ones_step l)

    even : (t l : ℕ) → 0 < l → l % 2 ≡ 0 → ones (l / 2 - 2 ^ t) + 1 ≡ ones (l / 2) → ones (l - 2 ^ suc t) + 1 ≡ ones l
    even t l p e ih =
        let a : (l - 2 ^ suc t) / 2 ≡ l / 2 - 2 ^ t = omega (arith, pow-suc 2 t) in
        let b : (l - 2 ^ suc t) % 2 ≡ 0 = omega (arith, pow-suc 2 t) in
        omega (arith, ih, rw (a, b) at (ones_step (l - 2 ^ suc t)), ones_step l)

-- the lowest member is the lowest
pub least_le : (k l v : ℕ) → Has l v → count_trailing_zeros k l ≤ v
unfolding count_trailing_zeros
least_le zero l v h = zero-le
least_le (suc k) l zero h = rw h zero-le
least_le (suc k) l (suc v) h =
    ⊎_elim
    (λ (e : l % 2 ≡ 0). rw e (suc-le-suc (least_le k (l / 2) v h)))
    (λ (o : l % 2 ≡ 1). rw o zero-le)
    (parity l)

-- a power has one digit
pub pow_bit : (t : ℕ) → bit t (2 ^ t) ≡ 1
pow_bit t = bit_is t (2 ^ t) ∙ bit_at-pow_same t

bit_other : (v t : ℕ) → (v ≡ t → ⊥) → bit v (2 ^ t) ≡ 0
bit_other v t n = bit_is v (2 ^ t) ∙ bit_at-pow_other t v n

pub bit_pow : (v t : ℕ) → bit v (2 ^ t) ≡ 1 → v ≡ t
bit_pow v t h = ⊎_elim (λ (e : v ≡ t). e) (λ (n : v ≡ t → ⊥). absurd (omega (arith, h, bit_other v t n))) (cases_eq v t)

pub lt_pow : (l : ℕ) → l < 2 ^ l
lt_pow zero = omega arith
lt_pow (suc l) = omega (arith, lt_pow l, pow-suc 2 l)

-- what `l & (l - 1)` is
pub and_less : (k l : ℕ) → 0 < l → l < 2 ^ k → bit_and l (l - 1) ≡ l - 2 ^ count_trailing_zeros k l
and_less = by_lowest (λ t l. bit_and l (l - 1) ≡ l - 2 ^ t) odd even
  where
    odd : (l : ℕ) → l % 2 ≡ 1 → bit_and l (l - 1) ≡ l - 1
    odd l o =
        let a : (l - 1) / 2 ≡ l / 2 = omega arith in
        let b : (l - 1) % 2 ≡ 0 = omega arith in
        omega (arith, rw (a, b, o, and_self (l / 2)) at (and_step l (l - 1)))

    even : (t l : ℕ) → 0 < l → l % 2 ≡ 0 → bit_and (l / 2) (l / 2 - 1) ≡ l / 2 - 2 ^ t → bit_and l (l - 1) ≡ l - 2 ^ suc t
    even t l p e ih = let a : (l - 1) / 2 ≡ l / 2 - 1 = omega arith in omega (arith, ih, rw (a, e) at (and_step l (l - 1)), pow-suc 2 t)

pub low_le : (k l : ℕ) → 0 < l → l < 2 ^ k → 2 ^ count_trailing_zeros k l ≤ l
low_le = by_lowest (λ t l. 2 ^ t ≤ l) (λ l o. omega arith) (λ t l p e h. omega (arith, h, pow-suc 2 t))

-- a label with a member counts one
pub ones_pos : (k l : ℕ) → 0 < l → l < 2 ^ k → 0 < ones l
ones_pos k l p h = omega (arith, ones_others k l p h)

pub ones_zero : ones 0 ≡ 0
unfolding ones
ones_zero = refl

pub others_pos : (k l : ℕ) → 0 < l → l < 2 ^ k → (ones l ≡ 1 → ⊥) → 0 < l - 2 ^ count_trailing_zeros k l
others_pos k l p h n = go (l - 2 ^ count_trailing_zeros k l) (ones_others k l p h)
  where
    go : (m : ℕ) → ones m + 1 ≡ ones l → 0 < m
    go zero e = absurd (n (omega (arith, e, ones_zero)))
    go (suc m) e = omega arith

pub has_low : (l v : ℕ) → 0 < l → Has (low l) v → Has l v
has_low l v p h = omega (arith, bit_sum l l v p (lt_pow l), bit_lt v l, h)

pub has_others : (l v : ℕ) → 0 < l → Has (others l) v → Has l v
has_others l v p h = omega (arith, bit_sum l l v p (lt_pow l), bit_lt v l, h)

-- the lowest member is below each other member
pub least_below : (l v : ℕ) → 0 < l → Has (others l) v → least l < v
least_below l v p h =
    let h1 = least_le l l v (has_others l v p h) in
    ⊎_elim
    (λ (e : v ≡ least l). let one : bit v (low l) ≡ 1 = rw e (pow_bit (least l)) in absurd (omega (arith, bit_sum l l v p (lt_pow l), bit_lt v l, h)))
    (λ (n : v ≡ least l → ⊥). omega (arith, h1))
    (cases_eq v (least l))

pub bit_of_and : (v a b : ℕ) → bit v (bit_and a b) ≡ min (bit v a) (bit v b)
bit_of_and v a b = rw (bit_is v (bit_and a b), bit_is v a, bit_is v b) (bit_at_and a b v)

-- a label with one member is a power
pub alone : (l : ℕ) → 0 < l → ones l ≡ 1 → l ≡ 2 ^ least l
alone l p o =
    let z : others l ≡ 0 = go (others l) (omega (arith, ones_others l l p (lt_pow l))) in
    omega (arith, z, low_le l l p (lt_pow l))
  where
    go : (m : ℕ) → ones m ≡ 0 → m ≡ 0
    go zero e = refl
    go (suc m) e = absurd (omega (arith, e, ones_pos (suc m) (suc m) (omega arith) (lt_pow (suc m))))

-- the places of a number's own length find the same lowest member as any that hold it
pub least_at : (k l : ℕ) → 0 < l → l < 2 ^ k → count_trailing_zeros k l ≡ least l
least_at k l p h =
    let a = low_le k l p h in
    let e : 2 ^ count_trailing_zeros k l ≡ 2 ^ least l = omega (arith, and_less k l p h, and_less l l p (lt_pow l), low_le l l p (lt_pow l)) in
    bit_pow (count_trailing_zeros k l) (least l) (subst (λ (x : ℕ). bit (count_trailing_zeros k l) x ≡ 1) e (pow_bit (count_trailing_zeros k l)))

-- past the length of a label there are no members
pub bit_beyond : (k v l : ℕ) → l < 2 ^ k → k ≤ v → bit v l ≡ 0
bit_beyond k v l h n = bit_is v l ∙ bit_at_above l k v h n

pub has_least : (l : ℕ) → 0 < l → Has l (least l)
has_least l p = has_low l (least l) p (pow_bit (least l))

pub least_small : (l : ℕ) → 0 < l → l < 2 ^ 16 → least l < 16
least_small l p h = ⊎_elim (λ x. x) (λ (n : 16 ≤ least l). absurd (omega (arith, has_least l p, bit_beyond 16 (least l) l h n))) (cases_lt (least l) 16)

pub lowest_member : LowestMember
lowest_member = record { member = has_least; lowest = λ l v h. least_le l l v h }

pub met : Met
met l m v = (to, λ h. omega (arith, bit_of_and v l m, h.0, h.1))
  where
    to : Has (bit_and l m) v → Has l v × Has m v
    to h = (omega (arith, bit_of_and v l m, bit_lt v l, h), omega (arith, bit_of_and v l m, bit_lt v m, h))

pub lowest_split : LowestSplit
lowest_split = record {
  first = λ l v p. (bit_pow v (least l), λ e. rw e (pow_bit (least l)));
  second = λ l v p. (λ h. (has_others l v p h, least_below l v p h), λ h. omega (arith, bit_sum l l v p (lt_pow l), bit_other v (least l) (λ e. absurd (omega (arith, h.1))), h.0));
}
