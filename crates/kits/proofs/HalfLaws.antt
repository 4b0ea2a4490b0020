-- What the halves of a box hold, and single boxes.
use Rattle.std.proofs.Common.{◌≡◌, ℕ, ◌^◌, ◌<◌, true, false, eqb, ◌⊎◌, List, [], ◌∷◌, get_or, sym, refl, ◌∙◌, subst, ap₂, inl, inr, ⊎_elim, arith}
use lib.Count.{ones}
use Rattle.std.proofs.lemmas.Nat.{pow_pos}
use Rattle.std.proofs.lemmas.Bool.{cases_Bool, eq-eqb, eqb-true, cases_order, true≢false, and_parts, and_from}
use Rattle.kits.specs.Labels.{bit, Has, has_member, least, low, others}
use Rattle.kits.specs.Fillings.{Before}
use Rattle.kits.specs.Boxes.{Boxed, Full, In, holds, single, settled, first_half, second_half, lowest_filling}
use Rattle.kits.specs.Laws.{Held, SingleHoldsOne, LowestFilling, SplitHalves}
use Rattle.kits.proofs.LabelLaws.{alone, bit_pow, has_least, least_le, least_below, low_le, lt_pow}
use Rattle.kits.proofs.BoxLaws.{full_tail, settled_within, boxed_set, others_left, first_at, second_at, in_split, none_in, first_in, second_in, volume_split}
use Rattle.kits.proofs.OrderLaws.{strict}

holds_in : (b f : List ℕ) → holds b f ≡ true → In f b
holds_in [] [] e = tt
holds_in [] (v ∷ f) e = absurd (true≢false (sym e))
holds_in (l ∷ b) [] e = absurd (true≢false (sym e))
holds_in (l ∷ b) (v ∷ f) e = let p = and_parts (has_member l v) (holds b f) e in (eqb-true _ _ p.0, holds_in b f p.1)

in_holds : (b f : List ℕ) → In f b → holds b f ≡ true
in_holds [] [] i = refl
in_holds [] (v ∷ f) i = absurd i
in_holds (l ∷ b) [] i = absurd i
in_holds (l ∷ b) (v ∷ f) i = and_from (has_member l v) (holds b f) (eq-eqb _ _ i.0) (in_holds b f i.1)

pub held : Held
held b f = (holds_in b f, in_holds b f)

-- the member of a label that has one
pub has_one : (l v : ℕ) → 0 < l → ones l ≡ 1 → Has l v → v ≡ least l
has_one l v p o h = bit_pow v (least l) (subst (λ (x : ℕ). bit v x ≡ 1) (alone l p o) h)

pub single_head : (l : ℕ) (b : List ℕ) → single (l ∷ b) ≡ true → (ones l ≡ 1) × (single b ≡ true)
single_head l b s = let p = and_parts (eqb (ones l) 1) (single b) s in (eqb-true _ _ p.0, p.1)

pub lowest_held : (b : List ℕ) → Full b → In (lowest_filling b) b
lowest_held [] f = tt
lowest_held (l ∷ b) f = (has_least l (f 0 (omega arith)), lowest_held b (full_tail l b f))

pub lowest_only : (f b : List ℕ) → Full b → single b ≡ true → In f b → f ≡ lowest_filling b
lowest_only [] [] u s i = refl
lowest_only [] (l ∷ b) u s i = absurd i
lowest_only (v ∷ f) [] u s i = absurd i
lowest_only (v ∷ f) (l ∷ b) u s i =
    let h = single_head l b s in
    ap₂ (λ (x : ℕ) (y : List ℕ). x ∷ y) (has_one l v (u 0 (omega arith)) h.0 i.0) (lowest_only f b (full_tail l b u) h.1 i.1)

lowest_first : (f b : List ℕ) → Full b → In f b → (f ≡ lowest_filling b) ⊎ Before (lowest_filling b) f
lowest_first [] [] u i = inl refl
lowest_first [] (l ∷ b) u i = absurd i
lowest_first (v ∷ f) [] u i = absurd i
lowest_first (v ∷ f) (l ∷ b) u i =
    ⊎_elim
    (λ (e : least l ≡ v).
    ⊎_elim
    (λ (s : f ≡ lowest_filling b). inl (ap₂ (λ (x : ℕ) (y : List ℕ). x ∷ y) (sym e) s))
    (λ (n : Before (lowest_filling b) f). inr (inr (e, n)))
    (lowest_first f b (full_tail l b u) i.1))
    (λ (n : (least l < v) ⊎ (v < least l)). inr (inl (⊎_elim (λ (h : least l < v). h) (λ (h : v < least l). absurd (omega (arith, least_le l l v i.0))) n)))
    (cases_order (least l) v)

pub lowest_law : LowestFilling
lowest_law b o = record {
  held = lowest_held b o.1;
  first = λ f i. lowest_first f b o.1 i;
  only = λ s f. (lowest_only f b o.1 s, λ e. rw e (lowest_held b o.1));
}

-- what the first half holds precedes what the second half holds
halves_ordered : (f g b : List ℕ) → Full b → single b ≡ false → In f (first_half b) → In g (second_half b) → Before f g
halves_ordered f g [] u s = absurd (true≢false s)
halves_ordered [] g (l ∷ b) u s = λ i j. none_in low l b i
halves_ordered (v ∷ f) [] (l ∷ b) u s = λ i j. absurd (none_in others l b j)
halves_ordered (v ∷ f) (x ∷ g) (l ∷ b) u s =
    let p = u 0 (omega arith) in
    ⊎_elim
    (λ (e : eqb (ones l) 1 ≡ true).
    let o = eqb-true _ _ e in
    let t : single b ≡ false = rw e at s in
    rw e (λ i j. inr (has_one l v p o i.0 ∙ sym (has_one l x p o j.0), halves_ordered f g b (full_tail l b u) t i.1 j.1)))
    (λ (e : eqb (ones l) 1 ≡ false).
    rw e (λ i j. let q : v ≡ least l = bit_pow v (least l) i.0 in inl (rw q (least_below l x p j.0))))
    (cases_Bool (eqb (ones l) 1))

pub boxed_halves : (b : List ℕ) → Boxed b → single b ≡ false → Boxed (first_half b) × Boxed (second_half b)
boxed_halves b o s =
    let i = settled b in
    let l = get_or b i 0 in
    let w = settled_within b s in
    let p : 0 < l = o.1 i w in
    let q : l < 2 ^ 16 = o.2 i w in
    let n = low_le l l p (lt_pow l) in
    (subst Boxed (sym (first_at b)) (boxed_set b i (low l) o (pow_pos (least l)) (omega arith)), subst Boxed (sym (second_at b)) (boxed_set b i (others l) o (others_left b o s) (omega arith)))

pub halves_law : SplitHalves
halves_law b o s = record {
  boxes = boxed_halves b o s;
  either = λ f. (in_split f b o.1, ⊎_elim (first_in f b o.1) (second_in f b o.1));
  apart = λ f i j. strict f (halves_ordered f f b o.1 s i j);
  ordered = λ f g. halves_ordered f g b o.1 s;
  volumes = volume_split b o.1 s;
}

-- a box that is not single holds two fillings
several : (b : List ℕ) → Boxed b → single b ≡ false → ((f g : List ℕ) → In f b → In g b → f ≡ g) → ⊥
several b o s same =
    let k = boxed_halves b o s in
    let i = lowest_held (first_half b) k.0.1 in
    let j = lowest_held (second_half b) k.1.1 in
    let e = same (lowest_filling (first_half b)) (lowest_filling (second_half b)) (first_in _ b o.1 i) (second_in _ b o.1 j) in
    let i2 : In (lowest_filling (second_half b)) (first_half b) = subst (λ (f : List ℕ). In f (first_half b)) e i in
    strict (lowest_filling (second_half b)) (halves_ordered (lowest_filling (second_half b)) (lowest_filling (second_half b)) b o.1 s i2 j)

pub single_law : SingleHoldsOne
single_law b o = (
  λ s f g i j. lowest_only f b o.1 s i ∙ sym (lowest_only g b o.1 s j),
  λ same. ⊎_elim (λ (s : single b ≡ true). s) (λ (s : single b ≡ false). absurd (several b o s same)) (cases_Bool (single b)),
)
