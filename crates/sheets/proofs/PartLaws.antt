-- Laws of a box whose labels are parts of another's.
use Rattle.std.proofs.Common.{◌≡◌, ℕ, zero, suc, ◌/◌, ◌%◌, ◌^◌, ◌<◌, ◌≤◌, true, List, [], ◌∷◌, length, sym, refl, ap, ◌∙◌, ap₂, ⊎_elim, zero-le, pow-suc, arith}
use lib.Count.{ones, ones_step}
use Rattle.std.proofs.lemmas.Nat.{mul-le}
use Rattle.std.proofs.lemmas.Bool.Decides.{nat_tests}
use Rattle.kits.specs.Books.{Part}
use Rattle.kits.specs.Boxes.{Full, In, volume, single, settled}
use Rattle.kits.specs.Labels.{Has, least}
use Rattle.kits.proofs.BoxLaws.{full_tail}
use Rattle.kits.proofs.HalfLaws.{has_one, single_head}
use Rattle.kits.proofs.LabelLaws.{alone, bit_one, has_least, lt_pow, ones_pos, ones_zero}

-- a part of a label has no more members
ones_part : (n k l : ℕ) → k < 2 ^ n → ((v : ℕ) → Has k v → Has l v) → ones k ≤ ones l
ones_part zero k l h p = let z : k ≡ 0 = omega arith in rw (z, ones_zero) zero-le
ones_part (suc n) k l h p =
    let ih = ones_part n (k / 2) (l / 2) (omega (arith, pow-suc 2 n)) (λ v. p (suc v)) in
    ⊎_elim
    (λ (o : k % 2 ≡ 1). omega (arith, ih, ones_step k, ones_step l, p 0 o))
    (λ (e : k % 2 ≡ 0). omega (arith, ih, ones_step k, ones_step l))
    (bit_one 0 k)

-- and one member where the label has one
one_part : (k l : ℕ) → 0 < k → ((v : ℕ) → Has k v → Has l v) → ones l ≡ 1 → ones k ≡ 1
one_part k l h p o = omega (arith, ones_part k k l (lt_pow k) p, ones_pos k k h (lt_pow k))

pub part_in : (f c b : List ℕ) → length c ≡ length b → Part c b → In f c → In f b
part_in [] [] [] n p i = tt
part_in [] [] (l ∷ b) n p i = absurd (omega (arith, n))
part_in [] (k ∷ c) b n p i = absurd i
part_in (v ∷ f) [] b n p i = absurd i
part_in (v ∷ f) (k ∷ c) [] n p i = absurd (omega (arith, n))
part_in (v ∷ f) (k ∷ c) (l ∷ b) n p i = (p 0 v i.0, part_in f c b (omega (arith, n)) (λ j. p (suc j)) i.1)

-- a part of a single box is that box
pub part_single : (c b : List ℕ) → length c ≡ length b → Full c → Full b → single b ≡ true → Part c b → c ≡ b
part_single [] [] n f u s p = refl
part_single [] (l ∷ b) n f u s p = absurd (omega (arith, n))
part_single (k ∷ c) [] n f u s p = absurd (omega (arith, n))
part_single (k ∷ c) (l ∷ b) n f u s p =
    let h = single_head l b s in
    let x = f 0 (omega arith) in
    let y = u 0 (omega arith) in
    let o = one_part k l x (p 0) h.0 in
    let e : least k ≡ least l = has_one l (least k) y h.0 (p 0 (least k) (has_least k x)) in
    let q : k ≡ l = alone k x o ∙ ap (λ (v : ℕ). 2 ^ v) e ∙ sym (alone l y h.0) in
    ap₂ (λ (v : ℕ) (d : List ℕ). v ∷ d) q (part_single c b (omega (arith, n)) (full_tail k c f) (full_tail l b u) h.1 (λ j. p (suc j)))

pub part_volume : (c b : List ℕ) → length c ≡ length b → Part c b → volume c ≤ volume b
part_volume [] [] n p = omega arith
part_volume [] (l ∷ b) n p = absurd (omega (arith, n))
part_volume (k ∷ c) [] n p = absurd (omega (arith, n))
part_volume (k ∷ c) (l ∷ b) n p =
    mul-le (ones k) (volume c) (ones l) (volume b) (ones_part k k l (lt_pow k) (p 0)) (part_volume c b (omega (arith, n)) (λ j. p (suc j)))

pub part_settled : (c b : List ℕ) → length c ≡ length b → Full c → Part c b → settled b ≤ settled c
part_settled c [] n f p = zero-le
part_settled [] (l ∷ b) n f p = absurd (omega (arith, n))
part_settled (k ∷ c) (l ∷ b) n f p =
    grind (arith, nat_tests, one_part k l (f 0 (omega arith)) (p 0), part_settled c b (omega (arith, n)) (full_tail k c f) (λ j. p (suc j)))
