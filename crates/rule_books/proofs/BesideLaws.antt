-- Narrowing by a rule that wants a slot beside those of its rows to have a number of a mask.
use Rattle.std.proofs.Common.{◌≡◌, ℕ, ◌<◌, Bool, true, false, cond, not, ◌||◌, eqb, List, length, get_or, set, Some, sym, refl, ap, ◌∙◌, subst, inl, inr, ⊎_elim, arith}
use lib.Bits.{bit_and, and_le_l}
use Rattle.std.proofs.lemmas.List.{get_or-set_same, get_or-set_other, length-set}
use Rattle.std.proofs.lemmas.Bool.{both_ways, eq-eqb, ne_eqb, eqb-true, cases_eq, or_left, or_right, or_cases, true≢false}
use Rattle.catalogue.specs.declared.model.Kind.{Kind}
use Rattle.catalogue.specs.declared.model.Kind.TheVariants.{Needs, Bars}
use Rattle.catalogue.specs.Catalogues.{Rule}
use Rattle.kits.specs.Labels.{Has, has_member, least}
use Rattle.kits.specs.Boxes.{Boxed, In, lowest_filling}
use Rattle.kits.proofs.LabelLaws.{bit_zero, has_least, met}
use Rattle.kits.proofs.BoxLaws.{in_at, in_set}
use Rattle.kits.proofs.HalfLaws.{lowest_held}
use Rattle.rule_books.specs.Exact.{some_below, some_in, exact, Found}
use Rattle.rule_books.specs.Rules.{at_slots, spares, kind_allows, rule_allows}
use Rattle.rule_books.specs.Scope.{put_at, Within, Aside, Distinct}
use Rattle.rule_books.specs.Narrowing.{beside_test, Beside}
use Rattle.rule_books.specs.SomeLaws.{no_true, below_yes, some_yes, some_says, member_small}
use Rattle.rule_books.specs.ExactLaws.{in_length, put_in, small_set, exact_by, exact_all, exact_same}
use Rattle.rule_books.proofs.ScopeLaws.{put_other, in_slots, small_slots, within_box, around}

or_false : (x y : Bool) → y ≡ false → (x || y) ≡ x
or_false true y e = refl
or_false false y e = e

module _ (r : Rule) (t mask : ℕ) (b : List ℕ) (o : Boxed b) (within : Within 24 r.slots) (distinct : Distinct r.slots) (t_within : t < 24) (aside : Aside t r.slots) where
  inside : Within (length b) r.slots
  inside = within_box r.slots b o within

  at : t < length b
  at = omega (arith, o.0)

  -- the members of slot t that the mask has
  abbrev wanted : ℕ
  wanted = bit_and (get_or b t 0) mask

  abbrev test : List ℕ → Bool
  test = beside_test t mask r

  both : (v : ℕ) → Has (bit_and (get_or b t 0) mask) v → Has (get_or b t 0) v × Has mask v
  both v = (met (get_or b t 0) mask v).0

  passes : (f : List ℕ) → Has mask (get_or f t 0) → beside_test t mask r f ≡ true
  passes f h = or_right (spares r.rows (at_slots r.slots f)) (has_member mask (get_or f t 0)) (eq-eqb _ _ h)

  pub beside_all : bit_and (get_or b t 0) mask ≡ get_or b t 0 → exact (beside_test t mask r) b ≡ Some b
  beside_all e =
      exact_all test b o.1 o.2 (λ f n. passes f (both (get_or f t 0) (subst (λ (y : ℕ). Has y (get_or f t 0)) (sym e) (in_at f b t at n))).1)

  pub beside_none : bit_and (get_or b t 0) mask ≡ 0 → exact (beside_test t mask r) b ≡ exact (λ f. spares r.rows (at_slots r.slots f)) b
  beside_none e =
      exact_same test (λ f. spares r.rows (at_slots r.slots f)) b o.2 (λ f n.
      or_false (spares r.rows (at_slots r.slots f)) (has_member mask (get_or f t 0)) (ne_eqb _ _ (λ m.
      let h : Has wanted (get_or f t 0) = (met (get_or b t 0) mask (get_or f t 0)).1 (in_at f b t at n, m) in
      omega (arith, bit_zero (get_or f t 0), subst (λ (y : ℕ). Has y (get_or f t 0)) e h))))

  module _ (some-wanted : bit_and (get_or b t 0) mask ≡ 0 → ⊥) where
    abbrev low : List ℕ
    low = lowest_filling b

    held : In low b
    held = lowest_held b o.1

    -- a wanted number in slot t passes, with any member of another label
    found_here : (v : ℕ) → Has (bit_and (get_or b t 0) mask) v → Found (beside_test t mask r) b t v
    found_here v h =
        let e : get_or (set low t v) t 0 ≡ v = get_or-set_same low t v 0 (omega (arith, in_length low b held)) in
        (set low t v, (put_in low b t v held (both v h).0, (passes (set low t v) (subst (λ (u : ℕ). Has mask u) (sym e) (both v h).1), e)))

    found_other : (k v : ℕ) → k < length b → (k ≡ t → ⊥) → Has (get_or b k 0) v → Found (beside_test t mask r) b k v
    found_other k v h d y =
        let w = least wanted in
        let hw : Has wanted w = has_least wanted (omega arith) in
        let m = put_in low b k v held y in
        let f = set (set low k v) t w in
        let e : get_or f t 0 ≡ w = get_or-set_same (set low k v) t w 0 (omega (arith, in_length (set low k v) b m)) in
        (f, (put_in (set low k v) b t w m (both w hw).0, (passes f (subst (λ (u : ℕ). Has mask u) (sym e) (both w hw).1), get_or-set_other (set low k v) t k w 0 d ∙ get_or-set_same low k v 0 (omega (arith, in_length low b held)))))

    first : Found (beside_test t mask r) b t (least (bit_and (get_or b t 0) mask))
    first = found_here (least wanted) (has_least wanted (omega arith))

    -- a choice that spares a row passes with any member of slot t
    pub beside_spared : some_in (spares r.rows) (at_slots r.slots b) ≡ true → exact (beside_test t mask r) b ≡ Some b
    beside_spared a =
        exact_by test b b first.0 o.2 o.2 refl first.1.0 first.1.1.0
        (λ k v h y.
        ⊎_elim
        (λ (e : k ≡ t).
        let s = some_says (spares r.rows) (at_slots r.slots b) a in
        let g = s.0 in
        let base = set low t v in
        let m : In base b = put_in low b t v held (subst (λ (u : ℕ). Has (get_or b u 0) v) e y) in
        let i = around (spares r.rows) r.slots b o.1 o.2 inside distinct base g m s.1.0 s.1.1 in
        let f = put_at r.slots g base in
        let q : get_or f t 0 ≡ v = put_other r.slots g base t aside ∙ get_or-set_same low t v 0 (omega (arith, in_length low b held)) in
        (f, (i.0, (or_left (spares r.rows (at_slots r.slots f)) (has_member mask (get_or f t 0)) i.1, subst (λ (u : ℕ). get_or f u 0 ≡ v) (sym e) q))))
        (λ (d : k ≡ t → ⊥). found_other k v h d y)
        (cases_eq k t))
        (λ g i u. i)

    pub beside_met : some_in (spares r.rows) (at_slots r.slots b) ≡ false → exact (beside_test t mask r) b ≡ Some (set b t (bit_and (get_or b t 0) mask))
    beside_met a =
        exact_by test b (set b t wanted) first.0 o.2 (small_set b t wanted o.2 (omega (arith, and_le_l (get_or b t 0) mask, o.2 t at))) (length-set b t wanted) first.1.0 first.1.1.0
        (λ k v h y.
        ⊎_elim
        (λ (e : k ≡ t).
        let m : Has wanted v = subst (λ (u : ℕ). Has u v) (get_or-set_same b t wanted 0 at) (subst (λ (u : ℕ). Has (get_or (set b t wanted) u 0) v) e y) in
        subst (λ (u : ℕ). Found test b u v) (sym e) (found_here v m))
        (λ (d : k ≡ t → ⊥). found_other k v h d (subst (λ (u : ℕ). Has u v) (get_or-set_other b t k wanted 0 d) y))
        (cases_eq k t))
        (λ g i u.
        ⊎_elim
        (λ (s : spares r.rows (at_slots r.slots g) ≡ true).
        absurd (both_ways (some_in (spares r.rows) (at_slots r.slots b)) a (some_yes (spares r.rows) (at_slots r.slots b) (at_slots r.slots g) (small_slots r.slots b inside o.2) (in_slots g r.slots b inside i) s)))
        (λ (s : has_member mask (get_or g t 0) ≡ true). in_set g b t wanted i ((met (get_or b t 0) mask (get_or g t 0)).1 (in_at g b t at i, eqb-true _ _ s)))
        (or_cases (spares r.rows (at_slots r.slots g)) (has_member mask (get_or g t 0)) u))

-- the masks of the numbers that fill a slot, and of the one that leaves it empty
differ : Bool → Bool → Bool
differ x y = cond x (not y) y

differ_not : (x y : Bool) → differ x y ≡ false → x ≡ y
unfolding differ
differ_not true true e = refl
differ_not true false e = absurd (true≢false e)
differ_not false true e = absurd (true≢false e)
differ_not false false e = refl

agree : (p q : ℕ → Bool) → some_below 16 (λ u. differ (p u) (q u)) ≡ false → (v : ℕ) → v < 16 → p v ≡ q v
agree p q s v h = differ_not (p v) (q v) (no_true _ (λ t. both_ways (some_below 16 (λ u. differ (p u) (q u))) s (below_yes 16 v _ h t)))

filled_mask : (v : ℕ) → v < 16 → has_member 65534 v ≡ not (eqb v 0)
unfolding some_below differ
filled_mask = agree (has_member 65534) (λ u. not (eqb u 0)) refl

empty_mask : (v : ℕ) → v < 16 → has_member 1 v ≡ eqb v 0
unfolding some_below differ
empty_mask = agree (has_member 1) (λ u. eqb u 0) refl

module _ (r : Rule) (t : ℕ) (b : List ℕ) (o : Boxed b) (beside : Beside r.kind r.slots) where
  number_small : (f : List ℕ) → t < 24 → In f b → get_or f t 0 < 16
  number_small f h n = let at : t < length b = omega (arith, o.0) in member_small (get_or b t 0) (get_or f t 0) (o.2 t at) (in_at f b t at n)

  -- a rule of kind needs or bars, and its mask
  pub needs_mask : r.kind ≡ Needs t → exact (rule_allows r) b ≡ exact (beside_test t 65534 r) b
  needs_mask e =
      let h = (beside t (inl e)).0 in
      ap (λ (k : Kind). exact (kind_allows k r.slots r.rows) b) e
      ∙ exact_same (kind_allows (Needs t) r.slots r.rows) (beside_test t 65534 r) b o.2
      (λ f n. ap (λ (x : Bool). spares r.rows (at_slots r.slots f) || x) (sym (filled_mask (get_or f t 0) (number_small f h n))))

  pub bars_mask : r.kind ≡ Bars t → exact (rule_allows r) b ≡ exact (beside_test t 1 r) b
  bars_mask e =
      let h = (beside t (inr e)).0 in
      ap (λ (k : Kind). exact (kind_allows k r.slots r.rows) b) e
      ∙ exact_same (kind_allows (Bars t) r.slots r.rows) (beside_test t 1 r) b o.2
      (λ f n. ap (λ (x : Bool). spares r.rows (at_slots r.slots f) || x) (sym (empty_mask (get_or f t 0) (number_small f h n))))
