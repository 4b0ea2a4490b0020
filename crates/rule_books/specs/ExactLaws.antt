-- Exact narrowing keeps just what is found, and the laws of a book that follow.
use Rattle.std.specs.Prelude.{◌≡◌, ℕ, zero, suc, ◌+◌, ◌^◌, ◌<◌, ◌≤◌, Bool, true, false, List, [], ◌∷◌, length, is_some, Some, None, Option, MatchOption, ◌≢◌, slice_index, slice_index_or, slice_set}
use Rattle.std.proofs.Math.Path.{refl, ap}
use Rattle.std.proofs.Common.{sym, subst, ◌∙◌, suc-le-suc, le_of_suc-le-suc, zero-add, arith}
use Rattle.std.proofs.Math.Logic.{⊎_elim}
use Rattle.std.proofs.lemmas.List.{get_or-set_same, get_or-set_other, length-set, ext_get_or, get_or_past}
use Rattle.std.proofs.lemmas.Nat.{pow_below}
use Rattle.std.proofs.lemmas.Bool.{both_ways, eq-eqb, eqb-true, cases_Bool, cases_eq, cases_lt, true≢false}
use Rattle.kits.specs.Labels.{Has, has_member}
use Rattle.kits.specs.Boxes.{Boxed, Full, Small, In, single, lowest_filling}
use Rattle.kits.specs.Books.{Part}
use Rattle.kits.proofs.LabelLaws.{bit_zero, bit_pow, pow_bit}
use Rattle.kits.proofs.BoxLaws.{in_at, in_set}
use Rattle.kits.proofs.HalfLaws.{lowest_held, lowest_only}
use Rattle.rule_books.specs.Exact.{some_in, is_found, found_label, found_labels, exact, Found, KeepsFound, ExactMeans}
use Rattle.rule_books.specs.SomeLaws.{label_small, label_yes, label_says, same_label, member_small, some_yes, some_says}

pub small_set : (b : List ℕ) (i x : ℕ) → Small b → x < 2 ^ 16 → Small (slice_set b i x)
small_set b i x f p k h =
    ⊎_elim
    (λ (e : k ≡ i). let j : i < length b = rw (length-set, e) at h in rw e (rw get_or-set_same p))
    (λ (n : k ≡ i → ⊥). rw (get_or-set_other b i k x 0 n) (f k (rw length-set at h)))
    (cases_eq k i)

pub in_length : (f b : List ℕ) → In f b → length f ≡ length b
in_length [] [] n = refl
in_length [] (l ∷ b) n = absurd n
in_length (v ∷ f) [] n = absurd n
in_length (v ∷ f) (l ∷ b) n = ap suc (in_length f b n.1)

-- a filling is in a box slot by slot
pub in_by : (f b : List ℕ) → length f ≡ length b → ((k : ℕ) → k < length b → Has (slice_index b k) (slice_index f k)) → In f b
in_by [] [] e h = tt
in_by [] (l ∷ b) e h = absurd (omega arith)
in_by (v ∷ f) [] e h = absurd (omega arith)
in_by (v ∷ f) (l ∷ b) e h = (h 0 (omega arith), in_by f b (omega arith) (λ k g. h (suc k) (suc-le-suc g)))

-- what a box holds after a write of a part of a label, it held before
in_unset : (f b : List ℕ) (i x : ℕ) → In f (slice_set b i x) → ((v : ℕ) → Has x v → Has (slice_index b i) v) → In f b
in_unset [] [] i x n h = tt
in_unset (v ∷ f) [] i x n h = absurd n
in_unset [] (l ∷ b) zero x n h = absurd n
in_unset [] (l ∷ b) (suc i) x n h = absurd n
in_unset (v ∷ f) (l ∷ b) zero x n h = (h v n.0, n.1)
in_unset (v ∷ f) (l ∷ b) (suc i) x n h = (n.0, in_unset f b i x n.1 h)

-- a filling stays in the box with another member of a label
pub put_in : (f b : List ℕ) (i v : ℕ) → In f b → Has (slice_index b i) v → In (slice_set f i v) b
put_in [] [] i v n h = tt
put_in [] (l ∷ b) i v n h = absurd n
put_in (x ∷ f) [] i v n h = absurd n
put_in (x ∷ f) (l ∷ b) zero v n h = (h, n.1)
put_in (x ∷ f) (l ∷ b) (suc i) v n h = (n.0, put_in f b i v n.1 h)

-- a filling of a box with v alone in slot i
pub alone_in : (f b : List ℕ) (i v : ℕ) → i < length b → Has (slice_index b i) v → In f (slice_set b i (2 ^ v)) → In f b × (slice_index f i ≡ v)
alone_in f b i v h g n =
    let j : i < length (slice_set b i (2 ^ v)) = rw length-set h in
    let m : Has (2 ^ v) (slice_index f i) = subst (λ (y : ℕ). Has y (slice_index f i)) (get_or-set_same b i (2 ^ v) 0 h) (in_at f (slice_set b i (2 ^ v)) i j n) in
    (in_unset f b i (2 ^ v) n (λ u k. subst (λ (y : ℕ). Has (slice_index b i) y) (sym (bit_pow u v k)) g), bit_pow (slice_index f i) v m)

has_positive : (l v : ℕ) → Has l v → 0 < l
has_positive zero v g = absurd (omega (arith, bit_zero v))
has_positive (suc l) v g = omega arith

module _ (p : List ℕ → Bool) where
  pub found_yes : (b f : List ℕ) (k : ℕ) → Small b → k < length b → In f b → p f ≡ true → Has (found_label p b k) (slice_index f k)
  found_yes b f k s h n t =
      let v = slice_index_or f k 0 in
      let g : Has (slice_index b k) v = in_at f b k h n in
      let w : v < 16 = member_small (slice_index b k) v (s k h) g in
      label_yes 16 v (is_found p b k) w (rw (eq-eqb _ _ g) (some_yes p (slice_set b k (2 ^ v)) f (small_set b k (2 ^ v) s (pow_below v 16 w)) (in_set f b k (2 ^ v) n (pow_bit v)) t))

  pub found_says : (b : List ℕ) (k v : ℕ) → k < length b → Has (found_label p b k) v → Found p b k v
  found_says b k v h m =
      let t = (label_says 16 v (is_found p b k) m).1 in
      ⊎_elim
      (λ (e : has_member (slice_index b k) v ≡ true).
      let r = some_says p (slice_set b k (2 ^ v)) (rw e at t) in
      let i = alone_in r.0 b k v h (eqb-true _ _ e) r.1.0 in
      (r.0, (i.0, (r.1.1, i.1))))
      (λ (e : has_member (slice_index b k) v ≡ false). absurd (true≢false (sym (rw e at t))))
      (cases_Bool (has_member (slice_index b k) v))

  pub length_found : (b : List ℕ) (i : ℕ) (ls : List ℕ) → length (found_labels p b i ls) ≡ length ls
  unfolding found_labels
  length_found b i [] = refl
  length_found b i (l ∷ ls) = ap suc (length_found b (suc i) ls)

  found_from : (b : List ℕ) (i : ℕ) (ls : List ℕ) (k : ℕ) → k < length ls → slice_index (found_labels p b i ls) k ≡ found_label p b (i + k)
  unfolding found_labels
  found_from b i [] k h = absurd (omega arith)
  found_from b i (l ∷ ls) zero h = ap (found_label p b) (omega arith)
  found_from b i (l ∷ ls) (suc k) h = found_from b (suc i) ls k (le_of_suc-le-suc h) ∙ ap (found_label p b) (omega arith)

  pub found_at : (b : List ℕ) (k : ℕ) → k < length b → slice_index (found_labels p b 0 b) k ≡ found_label p b k
  found_at b k h = found_from b 0 b k h ∙ ap (found_label p b) (zero-add k)

  -- a member that is left is found, and a filling that passes is left
  pub left_says : (b : List ℕ) (k v : ℕ) → k < length b → Has (slice_index (found_labels p b 0 b) k) v → Found p b k v
  left_says b k v h g = found_says b k v h (subst (λ (y : ℕ). Has y v) (found_at b k h) g)

  pub left_yes : (b f : List ℕ) → Small b → In f b → p f ≡ true → In f (found_labels p b 0 b)
  left_yes b f s n t =
      in_by f (found_labels p b 0 b) (in_length f b n ∙ sym (length_found b 0 b))
      (λ k h.
      let w : k < length b = rw length_found at h in
      subst (λ (y : ℕ). Has y (slice_index f k)) (sym (found_at b k w)) (found_yes b f k s w n t))

  pub left_small : (b : List ℕ) → Small (found_labels p b 0 b)
  left_small b k h = let w : k < length b = rw length_found at h in subst (λ (y : ℕ). y < 2 ^ 16) (sym (found_at b k w)) (label_small 16 (is_found p b k))

  pub left_full : (b f : List ℕ) → Small b → In f b → p f ≡ true → Full (found_labels p b 0 b)
  left_full b f s n t k h = has_positive (slice_index (found_labels p b 0 b) k) (slice_index f k) (in_at f (found_labels p b 0 b) k h (left_yes b f s n t))

  pub exact_none : (b : List ℕ) → ((f : List ℕ) → In f b → p f ≢ true) → exact p b ≡ None
  unfolding exact
  exact_none b h =
      ⊎_elim
      (λ (e : some_in p b ≡ true). let r = some_says p b e in absurd (h r.0 r.1.0 r.1.1))
      (λ (e : some_in p b ≡ false). rw e refl)
      (cases_Bool (some_in p b))

  pub exact_some : (b f : List ℕ) → Small b → In f b → p f ≡ true → exact p b ≡ Some (found_labels p b 0 b)
  unfolding exact
  exact_some b f s n t = rw (some_yes p b f s n t) refl

  -- what a box that exact narrowing made is
  pub exact_cases : (b c : List ℕ) → exact p b ≡ Some c → (found_labels p b 0 b ≡ c) × (some_in p b ≡ true)
  unfolding exact
  exact_cases b c e =
      ⊎_elim
      (λ (t : some_in p b ≡ true). let g = rw t at e in let q : found_labels p b 0 b ≡ c = cc in (q, t))
      (λ (t : some_in p b ≡ false). let g = rw t at e in let z : ◌≡◌ {A = ℕ} 0 1 = cc in absurd (omega arith))
      (cases_Bool (some_in p b))

  -- sound and complete: a box with just the members that are found is the narrowed one
  pub exact_by : (b c f : List ℕ) → Small b → Small c → length c ≡ length b → In f b → p f ≡ true
      → ((k v : ℕ) → k < length b → Has (slice_index c k) v → Found p b k v)
      → ((g : List ℕ) → In g b → p g ≡ true → In g c)
      → exact p b ≡ Some c
  exact_by b c f s sc e n t sound complete =
      exact_some b f s n t
      ∙ ap Some (ext_get_or 0 (found_labels p b 0 b) c (length_found b 0 b ∙ sym e)
      (λ k h.
      let w : k < length b = rw length_found at h in
      let wc : k < length c = omega arith in
      found_at b k w
      ∙ same_label 16 (found_label p b k) (slice_index c k) (label_small 16 (is_found p b k)) (sc k wc)
      (λ v g.
      let r = found_says b k v w g in
      subst (λ (y : ℕ). Has (slice_index c k) y) r.1.1.1 (in_at r.0 c k wc (complete r.0 r.1.0 r.1.1.0)))
      (λ v g.
      let r = sound k v w g in
      subst (λ (y : ℕ). Has (found_label p b k) y) r.1.1.1 (found_yes b r.0 k s w r.1.0 r.1.1.0))))

  left_part : (b : List ℕ) → Part (found_labels p b 0 b) b
  left_part b k v h =
      ⊎_elim
      (λ (w : k < length b). let r = left_says b k v w h in subst (λ (y : ℕ). Has (slice_index b k) y) r.1.1.1 (in_at r.0 b k w r.1.0))
      (λ (w : length b ≤ k).
      let z : slice_index_or (found_labels p b 0 b) k 0 ≡ 0 = get_or_past (found_labels p b 0 b) k 0 (rw length_found w) in
      absurd (omega (arith, bit_zero v, subst (λ (y : ℕ). Has y v) z h)))
      (cases_lt k (length b))

  pub exact_parts : (b c : List ℕ) → Boxed b → exact p b ≡ Some c → Boxed c × Part c b
  exact_parts b c o e =
      let q = exact_cases b c e in
      let r = some_says p b q.1 in
      subst (λ (y : List ℕ). Boxed y × Part y b) q.0 ((length_found b 0 b ∙ o.0, left_full b r.0 o.2 r.1.0 r.1.1, left_small b), left_part b)

  pub exact_keeps : (b f : List ℕ) → Boxed b → In f b → p f ≡ true → MatchOption (exact p b) ⊥ (λ c. In f c)
  exact_keeps b f o n t = subst (λ (y : Option (List ℕ)). MatchOption y ⊥ (λ c. In f c)) (sym (exact_some b f o.2 n t)) (left_yes b f o.2 n t)

  pub exact_judges : (b : List ℕ) → Boxed b → single b ≡ true → is_some (exact p b) ≡ p (lowest_filling b)
  exact_judges b o s =
      ⊎_elim
      (λ (t : p (lowest_filling b) ≡ true). ap is_some (exact_some b (lowest_filling b) o.2 (lowest_held b o.1) t) ∙ sym t)
      (λ (t : p (lowest_filling b) ≡ false). ap is_some (exact_none b (λ f n u. both_ways (p f) (ap p (lowest_only f b o.1 s n) ∙ t) u)) ∙ sym t)
      (cases_Bool (p (lowest_filling b)))

  keeps_found : (b : List ℕ) → Small b → KeepsFound p b (found_labels p b 0 b)
  keeps_found b s = record {
    long = length_found b 0 b;
    members = λ k v h. (
      left_says b k v h,
      λ r. subst (λ (y : ℕ). Has y v) (sym (found_at b k h)) (subst (λ (y : ℕ). Has (found_label p b k) y) r.1.1.1 (found_yes b r.0 k s h r.1.0 r.1.1.0)),
    );
  }

pub exact_means : ExactMeans
exact_means p b o =
    ⊎_elim
    (λ (e : some_in p b ≡ true).
    let r = some_says p b e in
    subst Meant (sym (exact_some p b r.0 o.2 r.1.0 r.1.1)) (keeps_found p b o.2))
    (λ (e : some_in p b ≡ false).
    let none : (f : List ℕ) → In f b → p f ≡ true → ⊥ = λ f n t. both_ways (some_in p b) e (some_yes p b f o.2 n t) in
    subst Meant (sym (exact_none p b none)) none)
    (cases_Bool (some_in p b))
  where
    Meant : Option (List ℕ) → Type 0
    Meant y = MatchOption y ((f : List ℕ) → In f b → p f ≢ true) (λ c. KeepsFound p b c)

-- a test that all fillings pass leaves the box
pub exact_all : (p : List ℕ → Bool) (b : List ℕ) → Full b → Small b → ((f : List ℕ) → In f b → p f ≡ true) → exact p b ≡ Some b
exact_all p b full small h =
    let g = lowest_filling b in
    let n = lowest_held b full in
    exact_by p b b g small small refl n (h g n)
    (λ k v w y.
    let m = put_in g b k v n y in
    (slice_set g k v, (m, (h (slice_set g k v) m, get_or-set_same g k v 0 (omega (arith, in_length g b n))))))
    (λ f i t. i)

-- tests that agree on the box leave the same
pub exact_same : (p q : List ℕ → Bool) (b : List ℕ) → Small b → ((f : List ℕ) → In f b → p f ≡ q f) → exact p b ≡ exact q b
exact_same p q b small h =
    ⊎_elim
    (λ (e : some_in q b ≡ true).
    let r = some_says q b e in
    let n = r.1.0 in
    exact_by p b (found_labels q b 0 b) r.0 small (left_small q b) (length_found q b 0 b) n (h r.0 n ∙ r.1.1)
    (λ k v w y. let s = left_says q b k v w y in (s.0, (s.1.0, (h s.0 s.1.0 ∙ s.1.1.0, s.1.1.1))))
    (λ g i t. left_yes q b g small i (sym (h g i) ∙ t))
    ∙ sym (exact_some q b r.0 small n r.1.1))
    (λ (e : some_in q b ≡ false).
    let none : (f : List ℕ) → In f b → q f ≡ true → ⊥ = λ f i t. both_ways (some_in q b) e (some_yes q b f small i t) in
    exact_none p b (λ f i t. none f i (sym (h f i) ∙ t)) ∙ sym (exact_none q b none))
    (cases_Bool (some_in q b))
