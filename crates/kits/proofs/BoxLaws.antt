-- Laws of a box.
use Rattle.std.proofs.Common.{◌≡◌, ℕ, zero, suc, ◌+◌, ◌^◌, ◌<◌, ◌≤◌, Bool, true, false, not, ◌&&◌, eqb, ◌⊎◌, List, [], ◌∷◌, length, get_or, drop, set, Some, None, sym, refl, ap, ◌∙◌, inl, inr, ⊎_elim, suc-le-suc, le_of_suc-le-suc, add-mul, one-mul, pow-suc, arith}
use lib.Count.{ones, count_trailing_zeros}
use Rattle.std.proofs.lemmas.List.{length-set, get_or-set_same, get_or-set_other, get_or-map, length-map}
use Rattle.std.proofs.lemmas.Nat.{mul-le, ones-le}
use Rattle.std.proofs.lemmas.List.Recursion.{and_at}
use Rattle.std.proofs.lemmas.Bool.{not-true, ne_eqb, eqb-true, eqb-false, cases_Bool, cases_eq, true≢false}
use Rattle.std.proofs.lemmas.Bool.Decides.{nat_tests}
use Rattle.std.proofs.lemmas.Grind.{same_number_lists}
use Rattle.std.specs.List.{list_all, zip, position}
use Rattle.kits.specs.Labels.{bit, Has, has_member, least, low, others, if_any}
use Rattle.kits.specs.Boxes.{In, Full, all_some, Small, Boxed, holds, volume, single, settled, open_slot, halves, first_half, second_half, half, lowest_filling}
use Rattle.kits.specs.Fillings.{Numbers}
use Rattle.kits.specs.Laws.{OpenSlot}
use Rattle.kits.proofs.LabelLaws.{bit_sum, ones_low, ones_others, lt_pow, others_pos, bit_one, has_low, has_others, least_at, least_small, ones_pos}

pub some_full : (b : List ℕ) → all_some b ≡ true → Full b
some_full b s k h = let n = not-true _ (and_at all_some (λ l. not (eqb l 0)) refl (λ _ _. refl) b k 0 h s) in omega (arith, eqb-false _ _ n)

pub settled_within : (b : List ℕ) → single b ≡ false → settled b < length b
settled_within [] s = absurd (true≢false s)
settled_within (l ∷ b) s = let ih = settled_within b in grind (arith, nat_tests, ih)

pub settled_several : (b : List ℕ) → single b ≡ false → ones (get_or b (settled b) 0) ≡ 1 → ⊥
settled_several [] s = absurd (true≢false s)
settled_several (l ∷ b) s = let ih = settled_several b in grind (arith, nat_tests, ih)

-- the first slot with several members is the open slot
pub open_is : (b : List ℕ) → position (λ l. not (eqb (ones l) 1)) b ≡ open_slot b
open_is [] = refl
open_is (l ∷ b) = let ih = open_is b in grind (arith, nat_tests, ih)

-- a half is a write of the open slot
half_at : (part : ℕ → ℕ) (b : List ℕ) → half part b ≡ set b (settled b) (part (get_or b (settled b) 0))
half_at part [] = refl
half_at part (l ∷ b) = let ih = half_at part b in grind (arith, nat_tests, ih)

pub first_at : (b : List ℕ) → first_half b ≡ set b (settled b) (low (get_or b (settled b) 0))
first_at = half_at low

pub second_at : (b : List ℕ) → second_half b ≡ set b (settled b) (others (get_or b (settled b) 0))
second_at = half_at others

pub full_tail : (l : ℕ) (b : List ℕ) → Full (l ∷ b) → Full b
full_tail l b f k h = f (suc k) (suc-le-suc h)

pub volume_split : (b : List ℕ) → Full b → single b ≡ false → volume (first_half b) + volume (second_half b) ≡ volume b
volume_split [] f s = absurd (true≢false s)
volume_split (l ∷ b) f s =
    ⊎_elim
    (λ (e : eqb (ones l) 1 ≡ true).
    let o = eqb-true _ _ e in
    let ih = volume_split b (full_tail l b f) (rw e at s) in
    rw (e, o) (omega (arith, ih, one-mul (volume b), one-mul (volume (first_half b)), one-mul (volume (second_half b)))))
    (λ (e : eqb (ones l) 1 ≡ false).
    let n = ones_others l l (f 0 (omega arith)) (lt_pow l) in
    let d = add-mul (ones (others l)) 1 (volume b) in
    rw (e, ones_low (least l), ← n) (omega (arith, d)))
    (cases_Bool (eqb (ones l) 1))

-- a filling of the box is in one of the halves
pub in_split : (f b : List ℕ) → Full b → In f b → In f (first_half b) ⊎ In f (second_half b)
in_split [] [] u i = inl tt
in_split [] (l ∷ b) u i = absurd i
in_split (v ∷ f) [] u i = absurd i
in_split (v ∷ f) (l ∷ b) u i =
    ⊎_elim
    (λ (e : eqb (ones l) 1 ≡ true). rw e (⊎_elim (λ x. inl (i.0, x)) (λ x. inr (i.0, x)) (in_split f b (full_tail l b u) i.1)))
    (λ (e : eqb (ones l) 1 ≡ false).
    rw e (⊎_elim
    (λ (x : bit v (low l) ≡ 1). inl (x, i.1))
    (λ (x : bit v (low l) ≡ 0). inr ((omega (arith, bit_sum l l v (u 0 (omega arith)) (lt_pow l), i.0)), i.1))
    (bit_one v (low l))))
    (cases_Bool (eqb (ones l) 1))

-- a box with slots holds no filling of none
pub none_in : (part : ℕ → ℕ) (l : ℕ) (b : List ℕ) → In [] (half part (l ∷ b)) → ⊥
none_in part l b =
    ⊎_elim
    (λ (e : eqb (ones l) 1 ≡ true). rw e (λ i. i))
    (λ (e : eqb (ones l) 1 ≡ false). rw e (λ i. i))
    (cases_Bool (eqb (ones l) 1))

-- and nothing else is in them
half_in : (part : ℕ → ℕ) → ((l v : ℕ) → 0 < l → Has (part l) v → Has l v) → (f b : List ℕ) → Full b → In f (half part b) → In f b
half_in part p [] [] u = λ i. i
half_in part p (v ∷ f) [] u = λ i. i
half_in part p [] (l ∷ b) u = none_in part l b
half_in part p (v ∷ f) (l ∷ b) u =
    ⊎_elim
    (λ (e : eqb (ones l) 1 ≡ true). rw e (λ i. (i.0, half_in part p f b (full_tail l b u) i.1)))
    (λ (e : eqb (ones l) 1 ≡ false). rw e (λ i. (p l v (u 0 (omega arith)) i.0, i.1)))
    (cases_Bool (eqb (ones l) 1))

pub first_in : (f b : List ℕ) → Full b → In f (first_half b) → In f b
first_in = half_in low has_low

pub second_in : (f b : List ℕ) → Full b → In f (second_half b) → In f b
second_in = half_in others has_others

-- what holds of each label and of the one written holds of each label then
each_set : (P : ℕ → Type 0) (b : List ℕ) (i x : ℕ) → ((k : ℕ) → k < length b → P (get_or b k 0)) → P x → (k : ℕ) → k < length (set b i x) → P (get_or (set b i x) k 0)
each_set P b i x f p k h =
    ⊎_elim
    (λ (e : k ≡ i). let j : i < length b = rw (length-set, e) at h in rw e (rw get_or-set_same p))
    (λ (n : k ≡ i → ⊥). rw (get_or-set_other b i k x 0 n) (f k (rw length-set at h)))
    (cases_eq k i)

pub boxed_set : (b : List ℕ) (i x : ℕ) → Boxed b → 0 < x → x < 2 ^ 16 → Boxed (set b i x)
boxed_set b i x o p q = (length-set b i x ∙ o.0, each_set (λ l. 0 < l) b i x o.1 p, each_set (λ l. l < 2 ^ 16) b i x o.2 q)

-- an open slot that was found
opened : (b : List ℕ) (i : ℕ) → Some i ≡ open_slot b → (single b ≡ false) × (i ≡ settled b)
opened b i h =
    ⊎_elim
    (λ (e : single b ≡ true). let f = rw e at h in absurd (cc))
    (λ (e : single b ≡ false). let f : Some i ≡ Some (settled b) = rw e at h in (e, (cc)))
    (cases_Bool (single b))

settled_lower : (b : List ℕ) (j : ℕ) → j < settled b → ones (get_or b j 0) ≡ 1
settled_lower [] j h = absurd (omega arith)
settled_lower (l ∷ b) zero h = grind (arith, nat_tests)
settled_lower (l ∷ b) (suc j) h = let ih = settled_lower b j in grind (arith, nat_tests, ih)

pub open_law : OpenSlot
open_law b k o h =
    let e = opened b k (sym h) in
    let w : k < length b = omega (arith, settled_within b e.0) in
    let n : ones (get_or b k 0) ≡ 1 → ⊥ = rw e.1 (settled_several b e.0) in
    record {
      within = omega (arith, o.0);
      several = omega (arith, ones_pos (get_or b k 0) (get_or b k 0) (o.1 k w) (lt_pow (get_or b k 0)));
      lower = λ j i. settled_lower b j (omega arith);
    }

pub others_left : (b : List ℕ) → Boxed b → single b ≡ false → 0 < others (get_or b (settled b) 0)
others_left b o s =
    let l = get_or b (settled b) 0 in
    others_pos l l (o.1 (settled b) (settled_within b s)) (lt_pow l) (settled_several b s)

-- an open slot has other members
pub split_never : (b : List ℕ) (i l : ℕ) → Boxed b → Some i ≡ open_slot b → l ≡ get_or b i 0 → None ≡ if_any (others l) → ⊥
split_never b i l o h e n =
    let k = opened b i h in
    let p : 0 < others l = rw (e, k.1) (others_left b o k.0) in
    let m = rw (ne_eqb (others l) 0 (λ z. absurd (omega arith))) at n in
    let z : ◌≡◌ {A = ℕ} 0 1 = cc in
    omega arith

-- what the code of `split` makes
pub split_made : (b p q : List ℕ) (i l x y : ℕ) → Boxed b → Some i ≡ open_slot b → l ≡ get_or b i 0
    → x ≡ low l → p ≡ set b i x → Some y ≡ if_any (others l) → q ≡ set b i y → Some (p, q) ≡ halves b
split_made b p q i l x y o h e u v w t =
    let k = opened b i h in
    let n : 0 < others l = rw (e, k.1) (others_left b o k.0) in
    let m : Some y ≡ Some (others l) = rw (ne_eqb (others l) 0 (λ z. absurd (omega arith))) at w in
    let z : y ≡ others l = cc in
    rw (k.0, v, t, u, z, e, k.1, first_at b, second_at b) refl

pub in_at : (f b : List ℕ) (i : ℕ) → i < length b → In f b → Has (get_or b i 0) (get_or f i 0)
in_at [] [] i h n = absurd (omega arith)
in_at [] (l ∷ b) i h n = absurd n
in_at (v ∷ f) [] i h n = absurd n
in_at (v ∷ f) (l ∷ b) zero h n = n.0
in_at (v ∷ f) (l ∷ b) (suc i) h n = in_at f b i (le_of_suc-le-suc h) n.1

pub in_set : (f b : List ℕ) (i x : ℕ) → In f b → Has x (get_or f i 0) → In f (set b i x)
in_set [] [] i x n h = tt
in_set [] (l ∷ b) i x n h = absurd n
in_set (v ∷ f) [] i x n h = absurd n
in_set (v ∷ f) (l ∷ b) zero x n h = (h, n.1)
in_set (v ∷ f) (l ∷ b) (suc i) x n h = (n.0, in_set f b i x n.1 h)

pub single_at : (b : List ℕ) (i : ℕ) → i < length b → single b ≡ true → ones (get_or b i 0) ≡ 1
single_at b i h s = eqb-true _ _ (and_at single (λ l. eqb (ones l) 1) refl (λ _ _. refl) b i 0 h s)

pub lowest_numbers : (b : List ℕ) → Boxed b → Numbers (lowest_filling b)
lowest_numbers b o k h =
    let w : k < length b = rw (length-map b least) at h in
    rw (get_or-map least b k 0 0 w) (least_small (get_or b k 0) (o.1 k w) (o.2 k w))

-- volumes
pub volume_pos : (b : List ℕ) → Full b → 0 < volume b
volume_pos [] f = omega arith
volume_pos (l ∷ b) f = mul-le 1 1 (ones l) (volume b) (ones_pos l l (f 0 (omega arith)) (lt_pow l)) (volume_pos b (full_tail l b f))

pub volume_pos_drop : (b : List ℕ) (i : ℕ) → Full b → 0 < volume (drop i b)
volume_pos_drop b zero f = volume_pos b f
volume_pos_drop [] (suc i) f = omega arith
volume_pos_drop (l ∷ b) (suc i) f = volume_pos_drop b i (full_tail l b f)

pub volume_small : (b : List ℕ) → Small b → volume b ≤ 16 ^ length b
volume_small [] s = omega arith
volume_small (l ∷ b) s =
    let m = mul-le (ones l) (volume b) 16 (16 ^ length b) (ones-le 16 l (s 0 (omega arith))) (volume_small b (λ k h. s (suc k) (suc-le-suc h))) in
    omega (arith, m, pow-suc 16 (length b))

-- the same of the labels beside the numbers
pub holds_zip : (b f : List ℕ) → length b ≡ length f → list_all (λ p. has_member p.0 p.1) (zip b f) ≡ holds b f
holds_zip [] [] e = refl
holds_zip [] (v ∷ f) e = absurd (omega (arith, e))
holds_zip (l ∷ b) [] e = absurd (omega (arith, e))
holds_zip (l ∷ b) (v ∷ f) e = ap (λ (x : Bool). has_member l v && x) (holds_zip b f (omega (arith, e)))

-- the numbers made of the labels one by one
pub filled : (b f : List ℕ) → Boxed b → length f ≡ 24 → ((i : ℕ) → i < 24 → get_or f i 0 ≡ count_trailing_zeros 16 (get_or b i 0)) → f ≡ lowest_filling b
filled b f o n each = same_number_lists f (lowest_filling b) (n ∙ sym (length-map b least ∙ o.0)) place
  where
    place : (i : ℕ) → i < length f → get_or f i 0 ≡ get_or (lowest_filling b) i 0
    place i h =
        let w : i < length b = omega (arith, o.0) in
        each i (omega arith) ∙ least_at 16 (get_or b i 0) (o.1 i w) (o.2 i w) ∙ sym (get_or-map least b i 0 0 w)
