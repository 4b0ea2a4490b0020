-- Narrowing the labels of a rule's slots, and whether these can be spared a row.
use Rattle.std.proofs.Common.{◌≡◌, ℕ, ◌<◌, ◌≤◌, Bool, true, false, not, eqb, List, [], length, get_or, take, set, Some, None, sym, refl, ap, ◌∙◌, subst, ⊎_elim, arith}
use Rattle.std.proofs.lemmas.List.{get_or-set_same, get_or_default, take_all}
use Rattle.std.proofs.lemmas.List.Folds.{Any-from_list_any}
use Rattle.std.proofs.lemmas.Bool.{eq-eqb, ne_eqb, eqb-true, cases_eq, or_left}
use Rattle.kits.specs.Labels.{Has, least, if_any}
use Rattle.kits.specs.Boxes.{Full, Small, lowest_filling}
use Rattle.kits.proofs.LabelLaws.{bit_zero, bit_pow, has_least}
use Rattle.kits.proofs.BoxLaws.{in_at}
use Rattle.kits.proofs.HalfLaws.{lowest_held}
use Rattle.rule_books.specs.Exact.{some_in, found_label, found_labels, exact}
use Rattle.rule_books.specs.Rules.{some_empty, is_row, spares}
use Rattle.rule_books.specs.Narrowing.{other_empty, only_empty, some_no_row}
use Rattle.rule_books.specs.SomeLaws.{no_true, some_yes, some_same}
use Rattle.rule_books.specs.ExactLaws.{in_length, put_in, found_yes, found_says, found_at, length_found, left_small, exact_none, exact_some, exact_all}
use Rattle.rule_books.proofs.FoundLaws.{empty_at, other_says, only_here}

-- a label of members, if there are any
pub any_some : (n b : ℕ) → Some b ≡ if_any n → b ≡ n
any_some n b e =
    ⊎_elim
    (λ (z : n ≡ 0). let f : Some b ≡ None = rw (eq-eqb n 0 z) at e in let x : ◌≡◌ {A = ℕ} 0 1 = cc in absurd (omega arith))
    (λ (z : n ≡ 0 → ⊥). let f : Some b ≡ Some n = rw (ne_eqb n 0 z) at e in cc)
    (cases_eq n 0)

pub any_none : (n : ℕ) → None ≡ if_any n → n ≡ 0
any_none n e =
    ⊎_elim
    (λ z. z)
    (λ (z : n ≡ 0 → ⊥). let f : None ≡ Some n = rw (ne_eqb n 0 z) at e in let x : ◌≡◌ {A = ℕ} 0 1 = cc in absurd (omega arith))
    (cases_eq n 0)

-- what the labels keep tells whether narrowing fits
module _ (p : List ℕ → Bool) (labels : List ℕ) (small : Small labels) where
  pub narrow_fails : (place : ℕ) → place < length labels → found_label p labels place ≡ 0 → exact p labels ≡ None
  narrow_fails place at z =
      exact_none p labels (λ f n t.
      let h : Has (found_label p labels place) (get_or f place 0) = found_yes p labels f place small at n t in
      omega (arith, bit_zero (get_or f place 0), subst (λ (y : ℕ). Has y (get_or f place 0)) z h))

  pub narrow_fits : 0 < length labels → 0 < found_label p labels 0 → exact p labels ≡ Some (found_labels p labels 0 labels)
  narrow_fits some h =
      let l = found_label p labels 0 in
      let r = found_says p labels 0 (least l) some (has_least l h) in
      exact_some p labels r.0 small r.1.0 r.1.1.0

  -- all labels have been worked out, and none of them is without a member
  pub narrowed_all : (out : List ℕ) (place : ℕ) → 0 < length labels → length labels ≤ place → out ≡ take place (found_labels p labels 0 labels) → ((k : ℕ) → k < place → 0 < found_label p labels k)
      → (length out ≡ length labels) × (Full out × (Small out × (exact p labels ≡ Some out)))
  narrowed_all out place some all left each =
      let found = found_labels p labels 0 labels in
      let n = length_found p labels 0 labels in
      let e : out ≡ found = left ∙ take_all place found (omega (arith, n)) in
      let full : Full found = λ k h. omega (arith, n, found_at p labels k (omega (arith, n)), each k (omega (arith, n))) in
      (ap length e ∙ n, (subst Full (sym e) full, (subst Small (sym e) (left_small p labels), narrow_fits some (each 0 (omega arith)) ∙ ap Some (sym e))))

-- a slot that can only be empty allows all that pass with one empty
pub only_empty_all : (p : List ℕ → Bool) (labels : List ℕ) → ((g : List ℕ) → some_empty g ≡ true → p g ≡ true) → Full labels → Small labels → only_empty labels ≡ true → exact p labels ≡ Some labels
only_empty_all p labels passes full small o =
    let r = Any-from_list_any (λ l. eqb l 1) labels o in
    let j = r.0 in
    let e : get_or labels j 0 ≡ 1 = get_or_default labels j 0 r.1 r.2 ∙ r.3 ∙ eqb-true _ _ r.4 in
    exact_all p labels full small (λ f n.
    let h : Has 1 (get_or f j 0) = subst (λ (y : ℕ). Has y (get_or f j 0)) e (in_at f labels j r.2 n) in
    passes f (empty_at f j (omega (arith, in_length f labels n, r.2)) (bit_pow (get_or f j 0) 0 h)))

-- some choice is no row, or leaves a slot empty
pub spares_empty : (rows : List (List ℕ)) (labels : List ℕ) (place : ℕ) → Full labels → Small labels → other_empty labels place ≡ true → some_in (spares rows) labels ≡ true
spares_empty rows labels place full small o =
    let r = other_says labels place o in
    let j = r.0 in
    let low = lowest_filling labels in
    let n = lowest_held labels full in
    let m = put_in low labels j 0 n r.1.1.1 in
    let t = empty_at (set low j 0) j (omega (arith, in_length (set low j 0) labels m, r.1.0)) (get_or-set_same low j 0 0 (omega (arith, in_length low labels n, r.1.0))) in
    some_yes (spares rows) labels (set low j 0) small m (or_left (some_empty (set low j 0)) _ t)

pub spares_filled : (rows : List (List ℕ)) (labels : List ℕ) (place : ℕ) → length labels ≤ place → Small labels → other_empty labels place ≡ false → some_in (spares rows) labels ≡ some_no_row rows [] labels
spares_filled rows labels place past small o =
    some_same (spares rows) (λ g. not (is_row rows g)) labels small (λ f n.
    rw (no_true (some_empty f) (λ t. omega (arith, (only_here labels place f o n t).0))) refl)
