-- The laws of a book that matches two slots.
use Rattle.std.specs.Prelude.{◌≡◌, ℕ, zero, suc, ◌^◌, ◌<◌, ◌≤◌, true, false, List, length, is_some, Some, MatchOption, ◌==◌, nat_eq, slice_index, slice_index_or, slice_set, refl}
use Rattle.std.proofs.Common.{sym, ap, subst, ◌∙◌, ⊎_elim, arith}
use Rattle.std.proofs.lemmas.Nat.{and_le_l}
use Rattle.std.proofs.lemmas.List.{get_or-set_same, get_or-set_other, get_or-map, length-set}
use Rattle.std.proofs.lemmas.Grind.{common_steps}
use Rattle.std.proofs.lemmas.Bool.{eq-eqb, ne_eqb, eqb-true, eqb-false, cases_Bool, cases_eq}
use Rattle.kits.specs.Labels.{bit, Has, least}
use Rattle.kits.specs.Boxes.{Boxed, In, single, lowest_filling}
use Rattle.kits.specs.Books.{Laws, Part}
use Rattle.kits.proofs.LabelLaws.{bit_zero, has_least, met}
use Rattle.kits.proofs.BoxLaws.{boxed_set, in_at, in_set, single_at}
use Rattle.kits.proofs.HalfLaws.{has_one}
use Rattle.club_example.specs.Matches.{both, matched_allows, matched_narrowed, FoundInBoth, Matching}

-- a write of a part of a label is a part of the box
part_set : (b : List ℕ) (i x : ℕ) → i < length b → ((v : ℕ) → Has x v → Has (slice_index b i) v) → Part (slice_set b i x) b
part_set b i x h p k v m = let q = p v in grind (arith, common_steps, q)

-- a member of the label written and of the label at k is there at k
has_set : (b : List ℕ) (i k x v : ℕ) → i < length b → Has x v → Has (slice_index b k) v → Has (slice_index (slice_set b i x) k) v
has_set b i k x v h m n = grind (arith, common_steps)

-- the label written first is there after both writes
set_twice : (b : List ℕ) (i k x : ℕ) → i < length b → k < length (slice_set b i x) → slice_index (slice_set (slice_set b i x) k x) i ≡ x
set_twice b i k x h n = grind (arith, common_steps)

module _ (s t : ℕ) (within-s : s < 24) (within-t : t < 24) where
  -- the label that both slots get is a part of each
  both_one : (b : List ℕ) (v : ℕ) → Has (both s t b) v → Has (slice_index b s) v
  both_one b v h = ((met (slice_index b s) (slice_index b t) v).0 h).0

  both_other : (b : List ℕ) (v : ℕ) → Has (both s t b) v → Has (slice_index b t) v
  both_other b v h = ((met (slice_index b s) (slice_index b t) v).0 h).1

  -- where narrowing fits, some number is in both labels
  fitted : (b c : List ℕ) → matched_narrowed s t 0 b ≡ Some c → (0 < both s t b) × (c ≡ slice_set (slice_set b s (both s t b)) t (both s t b))
  fitted b c e =
      let x = both s t b in
      ⊎_elim
      (λ (z : nat_eq x 0 ≡ true). let f = rw z at e in absurd (cc))
      (λ (z : nat_eq x 0 ≡ false). let f = rw z at e in let n = eqb-false x 0 z in (omega arith, (cc)))
      (cases_Bool (x == 0))

  parts : (r : ℕ) (b c : List ℕ) → Boxed b → matched_narrowed s t r b ≡ Some c → Boxed c × Part c b
  parts (suc r) b c o e = let q : b ≡ c = cc in rw (sym q) (o, λ k v h. h)
  parts zero b c o e =
      let x = both s t b in
      let p = fitted b c e in
      let i : s < length b = omega (arith, o.0) in
      let j : t < length (slice_set b s x) = omega (arith, o.0, length-set b s x) in
      let u : x < 2 ^ 16 = omega (arith, and_le_l (slice_index b s) (slice_index b t), o.2 s i) in
      let first = part_set b s x i (both_one b) in
      let second = part_set (slice_set b s x) t x j (λ v h. has_set b s t x v i h (both_other b v h)) in
      rw p.1 (boxed_set (slice_set b s x) t x (boxed_set b s x o p.0 u) p.0 u, λ k v h. first k v (second k v h))

  keeps : (r : ℕ) (b f : List ℕ) → r < 1 → Boxed b → In f b → matched_allows s t r f ≡ true → MatchOption (matched_narrowed s t r b) ⊥ (λ c. In f c)
  keeps (suc r) b f h o n a = n
  keeps zero b f h o n a =
      let x = both s t b in
      let v = slice_index_or f s 0 in
      let e : slice_index_or f s 0 ≡ slice_index_or f t 0 = eqb-true _ _ a in
      let i : s < length b = omega (arith, o.0) in
      let j : t < length b = omega (arith, o.0) in
      let g : bit v x ≡ 1 = (met (slice_index b s) (slice_index b t) v).1 (in_at f b s i n, rw e (in_at f b t j n)) in
      let z : x ≡ 0 → ⊥ = λ q. absurd (omega (arith, bit_zero v, subst (λ (y : ℕ). bit v y ≡ 1) q g)) in
      rw (ne_eqb x 0 z) (in_set f (slice_set b s x) t x (in_set f b s x n g) (rw (sym e) g))

  judges : (r : ℕ) (b : List ℕ) → r < 1 → Boxed b → single b ≡ true → is_some (matched_narrowed s t r b) ≡ matched_allows s t r (lowest_filling b)
  judges (suc r) b h o one = absurd (omega arith)
  judges zero b h o one =
      let x = both s t b in
      let l = slice_index_or b s 0 in
      let m = slice_index_or b t 0 in
      let i : s < length b = omega (arith, o.0) in
      let j : t < length b = omega (arith, o.0) in
      let q : slice_index_or (lowest_filling b) s 0 ≡ least l = get_or-map least b s 0 0 i in
      let w : slice_index_or (lowest_filling b) t 0 ≡ least m = get_or-map least b t 0 0 j in
      ⊎_elim
      (λ (e : least l ≡ least m).
      let g : bit (least l) x ≡ 1 = (met l m (least l)).1 (has_least l (o.1 s i), rw e (has_least m (o.1 t j))) in
      let z : x ≡ 0 → ⊥ = λ a. absurd (omega (arith, bit_zero (least l), subst (λ (y : ℕ). bit (least l) y ≡ 1) a g)) in
      rw (q, w, eq-eqb _ _ e, ne_eqb x 0 z) refl)
      (λ (n : least l ≡ least m → ⊥).
      let none : (0 < x) → ⊥ = λ p.
      let h = (met l m (least x)).0 (has_least x p) in
      n (sym (has_one l (least x) (o.1 s i) (single_at b s i one) h.0) ∙ has_one m (least x) (o.1 t j) (single_at b t j one) h.1)
      in
      let z : x ≡ 0 = omega (arith, none) in
      rw (q, w, ne_eqb _ _ n, eq-eqb x 0 z) refl)
      (cases_eq (least l) (least m))

  pub match_laws : Laws 1 (matched_allows s t) (matched_narrowed s t)
  match_laws = record { few = omega arith; beyond = past; parts = parts; keeps = keeps; judges = judges }
    where
      past : (r : ℕ) (b : List ℕ) → 1 ≤ r → matched_narrowed s t r b ≡ Some b
      past zero b h = absurd (omega arith)
      past (suc r) b h = refl

  exact : (b c : List ℕ) → Boxed b → matched_narrowed s t 0 b ≡ Some c → FoundInBoth s t b c
  exact b c o e v =
      let x = both s t b in
      let i : s < length b = omega (arith, o.0) in
      let j : t < length (slice_set b s x) = omega (arith, o.0, length-set b s x) in
      let q = (fitted b c e).1 in
      let one : slice_index_or c s 0 ≡ x = ap (λ (y : List ℕ). slice_index y s) q ∙ set_twice b s t x i j in
      let other : slice_index_or c t 0 ≡ x = ap (λ (y : List ℕ). slice_index y t) q ∙ get_or-set_same (slice_set b s x) t x 0 j in
      rw (one, other) (met (slice_index b s) (slice_index b t) v, met (slice_index b s) (slice_index b t) v)

  pub matching : Matching s t
  matching = record {
    itself = λ e f. eq-eqb _ _ (ap (λ (k : ℕ). slice_index f k) e);
    exact = exact;
    others = λ b c e k n m. ap (λ (y : List ℕ). slice_index y k) (fitted b c e).1 ∙ get_or-set_other (slice_set b s (both s t b)) t k (both s t b) 0 m ∙ get_or-set_other b s k (both s t b) 0 n;
  }
