-- What is found of a label, as the code works it out.
use Rattle.std.proofs.Common.{◌≡◌, ℕ, zero, suc, ◌+◌, ◌-◌, ◌*◌, ◌/◌, ◌%◌, ◌^◌, ◌<◌, ◌≤◌, max, Bool, true, false, cond, not, ◌&&◌, eqb, ◌⊎◌, List, [], ◌∷◌, ◌++◌, length, get_or, take, drop, set, sym, refl, ap, ◌∙◌, subst, inl, inr, ⊎_elim, zero-add, arith}
use lib.Bits.{bit_and, bit_or, or_step, or_shifted_r}
use Rattle.std.proofs.lemmas.List.Folds.{Any-from_list_any, list_any_at}
use Rattle.std.proofs.lemmas.List.FromFn.{length-enumerate_from, get_or-enumerate_from}
use Rattle.std.specs.List.{enumerate_from}
use Rattle.std.proofs.lemmas.List.{get_or_default, get_or_read, get_or-set_same, get_or-set_other, append_assoc, append-nil, take_all}
use Rattle.std.proofs.lemmas.Nat.{and_mask, pow_below, or_lt}
use Rattle.std.proofs.lemmas.Bool.{both_ways, eq-eqb, ne_eqb, eqb-true, eqb-false, cases_Bool, cases_eq, cases_lt, or_cases, and_parts, not-true, or_left, or_right, true≢false}
use Rattle.kits.specs.Labels.{bit, Has, has_member}
use Rattle.kits.specs.Boxes.{In, Full, Small, holds, lowest_filling}
use Rattle.kits.proofs.LabelLaws.{bit_one, bit_pow, pow_bit, bit_beyond}
use Rattle.kits.proofs.BoxLaws.{in_at}
use Rattle.kits.proofs.HalfLaws.{held, lowest_held}
use Rattle.rule_books.specs.Exact.{some_below, label_of, some_in, is_found, found_label}
use Rattle.rule_books.specs.Rules.{some_empty, same, is_row, goes, spares}
use Rattle.rule_books.specs.Narrowing.{supports, other_empty, some_no_row, no_row_with, is_spared}
use Rattle.rule_books.specs.SomeLaws.{no_true, below_same, label_small, label_says, same_label, member_small, small_tail, some_same}
use Rattle.rule_books.specs.ExactLaws.{in_length, put_in, alone_in, small_set, found_yes, found_says}
use Rattle.rule_books.proofs.RowLaws.{same_decides}

pub empty_at : (g : List ℕ) (j : ℕ) → j < length g → get_or g j 0 ≡ 0 → some_empty g ≡ true
empty_at g j h e = list_any_at (λ v. eqb v 0) g j 0 h (eq-eqb _ _ e)

empty_says : (g : List ℕ) → some_empty g ≡ true → (j : ℕ) × ((j < length g) × (get_or g j 0 ≡ 0))
empty_says g t =
    let r = Any-from_list_any (λ v. eqb v 0) g t in
    (r.0, (r.2, get_or_default g r.0 0 r.1 r.2 ∙ r.3 ∙ eqb-true _ _ r.4))

-- the members of either label
bit_of_or : (v a b : ℕ) → bit v (bit_or a b) ≡ max (bit v a) (bit v b)
bit_of_or zero a b = omega (arith, or_step a b)
bit_of_or (suc v) a b =
    let h : bit_or a b / 2 ≡ bit_or (a / 2) (b / 2) = omega (arith, or_step a b) in
    rw h (bit_of_or v (a / 2) (b / 2))

has_left : (v a b : ℕ) → Has a v → Has (bit_or a b) v
has_left v a b h = ⊎_elim (λ (x : bit v b ≡ 1). omega (arith, bit_of_or v a b)) (λ (x : bit v b ≡ 0). omega (arith, bit_of_or v a b)) (bit_one v b)

has_right : (v a b : ℕ) → Has b v → Has (bit_or a b) v
has_right v a b h = ⊎_elim (λ (x : bit v a ≡ 1). omega (arith, bit_of_or v a b)) (λ (x : bit v a ≡ 0). omega (arith, bit_of_or v a b)) (bit_one v a)

has_either : (v a b : ℕ) → Has (bit_or a b) v → Has a v ⊎ Has b v
has_either v a b h = ⊎_elim inl (λ (x : bit v a ≡ 0). inr (⊎_elim (λ y. y) (λ (y : bit v b ≡ 0). absurd (omega (arith, bit_of_or v a b))) (bit_one v b))) (bit_one v a)

module _ (labels : List ℕ) (place : ℕ) where
  -- a row that the labels hold, with v at the place
  abbrev Support : List (List ℕ) → ℕ → Type 0
  Support rows v = (r : List ℕ) × ((is_row rows r ≡ true) × (In r labels × (get_or r place 0 ≡ v)))

  supports_keep : (x v : ℕ) (rows : List (List ℕ)) → Has x v → Has (supports labels place x rows) v
  supports_keep x v [] h = h
  supports_keep x v (r ∷ rows) h =
      ⊎_elim
      (λ (e : holds labels r ≡ true). rw e (supports_keep (bit_or x (2 ^ get_or r place 0)) v rows (has_left v x (2 ^ get_or r place 0) h)))
      (λ (e : holds labels r ≡ false). rw e (supports_keep x v rows h))
      (cases_Bool (holds labels r))

  supports_yes : (x : ℕ) (rows : List (List ℕ)) (r : List ℕ) → is_row rows r ≡ true → In r labels → Has (supports labels place x rows) (get_or r place 0)
  supports_yes x [] r t n = absurd (true≢false (sym t))
  supports_yes x (s ∷ rows) r t n =
      ⊎_elim
      (λ (e : same s r ≡ true).
      let q : s ≡ r = (same_decides s r).0 e in
      let f : holds labels s ≡ true = subst (λ (y : List ℕ). holds labels y ≡ true) (sym q) ((held labels r).1 n) in
      rw f (supports_keep _ (get_or r place 0) rows (has_right (get_or r place 0) x (2 ^ get_or s place 0) (subst (λ (y : List ℕ). Has (2 ^ get_or y place 0) (get_or r place 0)) (sym q) (pow_bit (get_or r place 0))))))
      (λ (e : is_row rows r ≡ true). supports_yes (cond (holds labels s) (bit_or x (2 ^ get_or s place 0)) x) rows r e n)
      (or_cases (same s r) (is_row rows r) t)

  supports_says : (x v : ℕ) (rows : List (List ℕ)) → Has (supports labels place x rows) v → Has x v ⊎ Support rows v
  supports_says x v [] h = inl h
  supports_says x v (s ∷ rows) h =
      ⊎_elim
      (λ (e : holds labels s ≡ true).
      ⊎_elim
      (λ (a : Has (bit_or x (2 ^ get_or s place 0)) v).
      ⊎_elim inl
      (λ (y : Has (2 ^ get_or s place 0) v). inr (s, (or_left (same s s) (is_row rows s) ((same_decides s s).1 refl), ((held labels s).0 e, sym (bit_pow v _ y)))))
      (has_either v x (2 ^ get_or s place 0) a))
      (λ (w : Support rows v). inr (later w))
      (supports_says (bit_or x (2 ^ get_or s place 0)) v rows (rw e at h)))
      (λ (e : holds labels s ≡ false). ⊎_elim inl (λ (w : Support rows v). inr (later w)) (supports_says x v rows (rw e at h)))
      (cases_Bool (holds labels s))
    where
      later : Support rows v → Support (s ∷ rows) v
      later w = (w.0, (or_right (same s w.0) (is_row rows w.0) w.1.0, w.1.1))

  supports_small : (x : ℕ) (rows : List (List ℕ)) → Small labels → place < length labels → x < 2 ^ 16 → supports labels place x rows < 2 ^ 16
  supports_small x [] s h p = p
  supports_small x (r ∷ rows) s h p =
      ⊎_elim
      (λ (e : holds labels r ≡ true).
      let v = get_or r place 0 in
      let w : v < 16 = member_small (get_or labels place 0) v (s place h) (in_at r labels place h ((held labels r).0 e)) in
      rw e (supports_small (bit_or x (2 ^ v)) rows s h (or_lt 16 x (2 ^ v) p (pow_below v 16 w))))
      (λ (e : holds labels r ≡ false). rw e (supports_small x rows s h p))
      (cases_Bool (holds labels r))

label_same : (n : ℕ) (p q : ℕ → Bool) → ((v : ℕ) → v < n → p v ≡ q v) → label_of n p ≡ label_of n q
unfolding label_of
label_same zero p q h = refl
label_same (suc n) p q h = rw (h n (omega arith), label_same n p q (λ v g. h v (omega arith))) refl

-- a label that another slot can be empty beside
pub other_says : (labels : List ℕ) (place : ℕ) → other_empty labels place ≡ true → (j : ℕ) × ((j < length labels) × ((j ≡ place → ⊥) × Has (get_or labels j 0) 0))
other_says labels place o =
    let r = Any-from_list_any (λ (p : ℕ × ℕ). not (eqb p.0 place) && has_member p.1 0) (enumerate_from 0 labels) o in
    let j = r.0 in
    let x = r.1 in
    let h : j < length labels = omega (arith, r.2, length-enumerate_from 0 labels) in
    let e : x ≡ (0 + j, get_or labels j x.1) = sym r.3 ∙ get_or-enumerate_from 0 labels j x h in
    let t = and_parts _ _ r.4 in
    (j, (h, (λ w. eqb-false _ _ (not-true _ t.0) (ap (λ (p : ℕ × ℕ). p.0) e ∙ zero-add j ∙ w), eqb-true _ _ (subst (λ (l : ℕ). has_member l 0 ≡ true) (get_or_read labels j x.1 h (ap (λ (p : ℕ × ℕ). p.1) e) 0) t.1))))

-- where no other slot can be empty, an empty one is at the place
pub only_here : (labels : List ℕ) (place : ℕ) (f : List ℕ) → other_empty labels place ≡ false → In f labels → some_empty f ≡ true → (place < length labels) × (get_or f place 0 ≡ 0)
only_here labels place f o n t =
    let r = empty_says f t in
    let j = r.0 in
    let w : j < length labels = omega (arith, in_length f labels n, r.1.0) in
    ⊎_elim
    (λ (e : j ≡ place). subst (λ (y : ℕ). (y < length labels) × (get_or f y 0 ≡ 0)) e (w, r.1.1))
    (λ (e : j ≡ place → ⊥).
    let z : Has (get_or labels j 0) 0 = subst (λ (y : ℕ). Has (get_or labels j 0) y) r.1.1 (in_at f labels j w n) in
    absurd (both_ways (other_empty labels place) o (list_any_at _ (enumerate_from 0 labels) j (0, 0) (rw length-enumerate_from w) (rw (get_or-enumerate_from 0 labels j (0, 0) w, zero-add, ne_eqb j place e, eq-eqb _ _ z) refl))))
    (cases_eq j place)

module _ (labels : List ℕ) (place : ℕ) (full : Full labels) (small : Small labels) (at : place < length labels) where
  abbrev low : List ℕ
  low = lowest_filling labels

  -- a member of the label, with the lowest member of each other label
  one_more : (v : ℕ) → Has (get_or labels place 0) v → In (set low place v) labels × (get_or (set low place v) place 0 ≡ v)
  one_more v h =
      let n = lowest_held labels full in
      (put_in low labels place v n h, get_or-set_same low place v 0 (omega (arith, in_length low labels n)))

  found_by : (p : List ℕ → Bool) (f : List ℕ) (v : ℕ) → In f labels → p f ≡ true → get_or f place 0 ≡ v → Has (found_label p labels place) v
  found_by p f v n t e = subst (λ (y : ℕ). Has (found_label p labels place) y) e (found_yes p labels f place small at n t)

  -- where another slot can be empty, each member is found
  pub found_all : (p : List ℕ → Bool) → ((g : List ℕ) → some_empty g ≡ true → p g ≡ true) → other_empty labels place ≡ true → found_label p labels place ≡ get_or labels place 0
  found_all p passes o =
      let r = other_says labels place o in
      let j = r.0 in
      same_label 16 (found_label p labels place) (get_or labels place 0) (label_small 16 (is_found p labels place)) (small place at)
      (λ v h. let s = found_says p labels place v at h in subst (λ (y : ℕ). Has (get_or labels place 0) y) s.1.1.1 (in_at s.0 labels place at s.1.0))
      (λ v h.
      let a = one_more v h in
      let g = set low place v in
      let n : In (set g j 0) labels = put_in g labels j 0 a.0 r.1.1.1 in
      let t = empty_at (set g j 0) j (omega (arith, in_length (set g j 0) labels n, r.1.0)) (get_or-set_same g j 0 0 (omega (arith, in_length g labels a.0, r.1.0))) in
      found_by p (set g j 0) v n (passes (set g j 0) t) (get_or-set_other g j place 0 0 (λ w. r.1.1.0 (sym w)) ∙ a.1))

  found_empty : (p : List ℕ → Bool) → ((g : List ℕ) → some_empty g ≡ true → p g ≡ true) → Has (get_or labels place 0) 0 → Has (found_label p labels place) 0
  found_empty p passes h =
      let a = one_more 0 h in
      found_by p (set low place 0) 0 a.0 (passes _ (empty_at _ place (omega (arith, in_length _ labels a.0)) a.1)) a.1

  -- else, of a rule that wants rows, 0 and the numbers of the rows that the labels hold
  pub found_rows : (rows : List (List ℕ)) → other_empty labels place ≡ false → found_label (goes rows) labels place ≡ supports labels place (bit_and (get_or labels place 0) 1) rows
  found_rows rows o =
      let l = get_or labels place 0 in
      let x = bit_and l 1 in
      let m : x ≡ l % 2 = and_mask l 1 in
      same_label 16 (found_label (goes rows) labels place) (supports labels place x rows) (label_small 16 (is_found (goes rows) labels place)) (supports_small labels place x rows small at (omega arith))
      (λ v h.
      let r = found_says (goes rows) labels place v at h in
      let f = r.0 in
      ⊎_elim
      (λ (t : some_empty f ≡ true).
      let z : get_or f place 0 ≡ 0 = (only_here labels place f o r.1.0 t).1 in
      let y : Has l 0 = subst (λ (u : ℕ). Has l u) z (in_at f labels place at r.1.0) in
      let k : Has x 0 = omega arith in
      subst (λ (u : ℕ). Has (supports labels place x rows) u) (sym (sym r.1.1.1 ∙ z)) (supports_keep labels place x 0 rows k))
      (λ (t : is_row rows f ≡ true). subst (λ (u : ℕ). Has (supports labels place x rows) u) r.1.1.1 (supports_yes labels place x rows f t r.1.0))
      (or_cases (some_empty f) (is_row rows f) r.1.1.0))
      (λ v h.
      ⊎_elim
      (λ (a : Has x v).
      let z : v ≡ 0 = low_only v x (omega arith) a in
      let y : Has x 0 = subst (λ (u : ℕ). Has x u) z a in
      let k : Has l 0 = omega arith in
      subst (λ (u : ℕ). Has (found_label (goes rows) labels place) u) (sym z) (found_empty (goes rows) (λ g t. or_left (some_empty g) (is_row rows g) t) k))
      (λ (w : Support labels place rows v). found_by (goes rows) w.0 v w.1.1.0 (or_right (some_empty w.0) (is_row rows w.0) w.1.0) w.1.1.1)
      (supports_says labels place x v rows h))
    where
      low_only : (v x : ℕ) → x < 2 → Has x v → v ≡ 0
      low_only v x s h = ⊎_elim (λ (a : v < 1). omega arith) (λ (a : 1 ≤ v). absurd (omega (arith, bit_beyond 1 v x s a))) (cases_lt v 1)

  -- else, of a rule that wants no row, 0 and each number with which some choice is no row
  pub found_spared : (rows : List (List ℕ)) → other_empty labels place ≡ false → found_label (spares rows) labels place ≡ label_of 16 (is_spared rows labels place)
  found_spared rows o = label_same 16 (is_found (spares rows) labels place) (is_spared rows labels place) each
    where
      each : (v : ℕ) → v < 16 → is_found (spares rows) labels place v ≡ is_spared rows labels place v
      each v h =
          ⊎_elim
          (λ (e : has_member (get_or labels place 0) v ≡ true).
          let k : Has (get_or labels place 0) v = eqb-true _ _ e in
          rw e (⊎_elim
          (λ (z : v ≡ 0).
          let y = found_empty (spares rows) (λ g t. or_left (some_empty g) (not (is_row rows g)) t) (subst (λ (u : ℕ). Has (get_or labels place 0) u) z k) in
          let w : is_found (spares rows) labels place v ≡ true = subst (λ (u : ℕ). is_found (spares rows) labels place u ≡ true) (sym z) (label_says 16 0 (is_found (spares rows) labels place) y).1 in
          rw (eq-eqb v 0 z) (rw e at w))
          (λ (z : v ≡ 0 → ⊥).
          rw (ne_eqb v 0 z)
          (some_same (spares rows) (λ g. not (is_row rows g)) (set labels place (2 ^ v)) (small_set labels place (2 ^ v) small (pow_below v 16 h))
          (λ f n.
          let i = alone_in f labels place v at k n in
          rw (no_true (some_empty f) (λ t. z (sym i.1 ∙ (only_here labels place f o i.0 t).1))) refl)))
          (cases_eq v 0)))
          (λ (e : has_member (get_or labels place 0) v ≡ false). rw e refl)
          (cases_Bool (has_member (get_or labels place 0) v))

-- the search for a choice that is no row, by its next number and at its end
module _ (rows : List (List ℕ)) (chosen : List ℕ) where
  pub no_row_more : (labels : List ℕ) → 0 < length labels → Small labels → some_no_row rows chosen labels ≡ some_below 16 (no_row_with rows chosen (get_or labels 0 0) (take (length labels - 1) (drop 1 labels)))
  unfolding some_in
  no_row_more [] h s = absurd (omega arith)
  no_row_more (l ∷ others) h s =
      let e : length others ≡ length (l ∷ others) - 1 = omega arith in
      rw (take_all (length (l ∷ others) - 1) others (omega arith))
      (below_same 16 _ _ (λ v h. ap (λ (t : Bool). cond (has_member l v) t false) (some_same (λ f. not (is_row rows (chosen ++ v ∷ f))) (λ f. not (is_row rows ((chosen ++ v ∷ []) ++ f))) others (small_tail l others s) (λ f n. ap (λ (x : List ℕ). not (is_row rows x)) (sym (append_assoc chosen (v ∷ []) f))))))

  pub no_row_end : some_no_row rows chosen [] ≡ not (is_row rows chosen)
  unfolding some_in
  no_row_end = ap (λ (x : List ℕ). not (is_row rows x)) (append-nil chosen)

-- the loop that makes a label, one number on
pub label_more : (n : ℕ) (q : ℕ → Bool) → label_of (n + 1) q ≡ cond (q n) (bit_or (label_of n q) (2 ^ n)) (label_of n q)
unfolding label_of
label_more n q =
    let e : n + 1 ≡ suc n = omega arith in
    let a : bit_or (label_of n q) (1 * 2 ^ n) ≡ 1 * 2 ^ n + label_of n q = or_shifted_r 1 n (label_of n q) (label_small n q) in
    let b : 1 * 2 ^ n ≡ 2 ^ n = omega arith in
    let d : bit_or (label_of n q) (2 ^ n) ≡ label_of n q + 2 ^ n = omega (arith, rw b at a) in
    rw (e, d) refl

pub spared_first : (rows : List (List ℕ)) (labels : List ℕ) (place : ℕ) → bit_and (get_or labels place 0) 1 ≡ label_of 1 (is_spared rows labels place)
unfolding label_of
spared_first rows labels place =
    let l = get_or labels place 0 in
    let m : bit_and l 1 ≡ l % 2 = and_mask l 1 in
    ⊎_elim
    (λ (e : bit 0 l ≡ 1). rw (eq-eqb (l % 2) 1 e) (omega arith))
    (λ (e : bit 0 l ≡ 0). rw (ne_eqb (l % 2) 1 (λ x. absurd (omega arith))) (omega arith))
    (bit_one 0 l)
