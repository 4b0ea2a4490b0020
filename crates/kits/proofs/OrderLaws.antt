-- Laws of the order of fillings.
use Rattle.std.proofs.Common.{◌≡◌, ℕ, ◌<◌, true, false, eqb, ◌⊎◌, List, [], ◌∷◌, length, Some, sym, refl, ◌∙◌, ap₂, inl, inr, ⊎_elim, arith}
use Rattle.std.proofs.lemmas.Bool.{cases_Bool, cases_eq, cases_order, eq-eqb, ne_eqb, eqb-true, lt-ltb, ltb-true, true≢false}
use Rattle.std.proofs.lemmas.Bool.Decides.{nat_tests}
use Rattle.std.specs.Ordering.{nat_cmp, is_lt, is_some_and}
use Rattle.std.specs.Cmp.Lexicographic.{slice_partial_cmp}
use Rattle.kits.specs.Fillings.{Before, before}
use Rattle.kits.specs.Kits.{Emptied}
use Rattle.kits.specs.Laws.{Order}

-- what the derived comparison of two lists of one length answers
pub before_lt : (f g : List ℕ) → length f ≡ length g → is_some_and is_lt (slice_partial_cmp (λ x y. Some (nat_cmp x y)) f g) ≡ before f g
before_lt [] [] e = refl
before_lt [] (v ∷ g) e = absurd (omega (arith, e))
before_lt (u ∷ f) [] e = absurd (omega (arith, e))
before_lt (u ∷ f) (v ∷ g) e = let ih = before_lt f g (omega (arith, e)) in grind (arith, nat_tests, ih)

before_is : (f g : List ℕ) → before f g ≡ true → Before f g
before_is [] g e = absurd (true≢false (sym e))
before_is (u ∷ f) [] e = absurd (true≢false (sym e))
before_is (u ∷ f) (v ∷ g) e =
    ⊎_elim
    (λ (t : eqb u v ≡ true). inr (eqb-true u v t, before_is f g (rw t at e)))
    (λ (t : eqb u v ≡ false). inl (ltb-true u v (rw t at e)))
    (cases_Bool (eqb u v))

is_before : (f g : List ℕ) → Before f g → before f g ≡ true
is_before [] g n = absurd n
is_before (u ∷ f) [] n = absurd n
is_before (u ∷ f) (v ∷ g) n =
    ⊎_elim
    (λ (h : u < v). rw (ne_eqb u v (λ e. absurd (omega arith))) (lt-ltb u v h))
    (λ (h : (u ≡ v) × Before f g). rw (eq-eqb u v h.0) (is_before f g h.1))
    n

pub strict : (f : List ℕ) → Before f f → ⊥
strict [] n = n
strict (u ∷ f) n = ⊎_elim (λ (h : u < u). absurd (omega arith)) (λ (h : (u ≡ u) × Before f f). strict f h.1) n

chain : (f g h : List ℕ) → Before f g → Before g h → Before f h
chain [] g h m n = m
chain (u ∷ f) [] h m n = absurd m
chain (u ∷ f) (v ∷ g) [] m n = n
chain (u ∷ f) (v ∷ g) (w ∷ h) m n =
    ⊎_elim
    (λ (a : u < v). ⊎_elim (λ (b : v < w). inl (omega arith)) (λ (b : (v ≡ w) × Before g h). inl (omega (arith, b.0))) n)
    (λ (a : (u ≡ v) × Before f g).
    ⊎_elim (λ (b : v < w). inl (omega (arith, a.0))) (λ (b : (v ≡ w) × Before g h). inr (a.0 ∙ b.0, chain f g h a.1 b.1)) n)
    m

total : (f g : List ℕ) → length f ≡ length g → (f ≡ g) ⊎ (Before f g ⊎ Before g f)
total [] [] e = inl refl
total [] (v ∷ g) e = absurd (omega (arith, e))
total (u ∷ f) [] e = absurd (omega (arith, e))
total (u ∷ f) (v ∷ g) e =
    ⊎_elim
    (λ (a : u ≡ v).
    ⊎_elim
    (λ (s : f ≡ g). inl (ap₂ (λ (x : ℕ) (y : List ℕ). x ∷ y) a s))
    (λ (s : Before f g ⊎ Before g f). inr (⊎_elim (λ (b : Before f g). inl (inr (a, b))) (λ (b : Before g f). inr (inr (sym a, b))) s))
    (total f g (omega (arith, e))))
    (λ (a : (u < v) ⊎ (v < u)). inr (⊎_elim (λ (b : u < v). inl (inl b)) (λ (b : v < u). inr (inl b)) a))
    (cases_order u v)

emptied : (f g : List ℕ) → Emptied f g → (g ≡ f) ⊎ Before g f
emptied [] [] e = inl refl
emptied [] (v ∷ g) e = absurd e
emptied (u ∷ f) [] e = absurd e
emptied (u ∷ f) (v ∷ g) e =
    ⊎_elim
    (λ (a : v ≡ u).
    ⊎_elim
    (λ (s : g ≡ f). inl (ap₂ (λ (x : ℕ) (y : List ℕ). x ∷ y) a s))
    (λ (b : Before g f). inr (inr (a, b)))
    (emptied f g e.1))
    (λ (n : v ≡ u → ⊥). inr (inl (⊎_elim (λ (z : v ≡ 0). omega arith) (λ (s : v ≡ u). absurd (n s)) e.0)))
    (cases_eq v u)

pub order : Order
order = record {
  means = λ f g. (before_is f g, is_before f g);
  strict = strict;
  chain = chain;
  total = total;
  emptied = emptied;
}
