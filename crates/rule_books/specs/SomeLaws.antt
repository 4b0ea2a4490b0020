-- Laws of some_below, label_of and some_in.
use Rattle.std.specs.Prelude.{◌≡◌, ℕ, zero, suc, ◌+◌, ◌/◌, ◌%◌, ◌^◌, ◌<◌, ◌≤◌, Bool, true, false, cond, ◌⊎◌, List, [], ◌∷◌, ◌≢◌, refl}
use Rattle.std.proofs.Common.{sym, ap, ◌∙◌, inl, inr, ⊎_elim, suc-le-suc, pow-suc, arith}
use Rattle.std.proofs.lemmas.Bool.{both_ways, eq-eqb, eqb-true, cases_Bool, cases_eq, cases_lt, true≢false}
use Rattle.kits.specs.Labels.{bit, Has, has_member}
use Rattle.kits.specs.Boxes.{In, Small}
use Rattle.kits.proofs.LabelLaws.{bit_one, bit_zero, bit_beyond}
use Rattle.rule_books.specs.Exact.{some_below, label_of, some_in}

pub no_true : (t : Bool) → (t ≢ true) → t ≡ false
no_true t n = ⊎_elim (λ (e : t ≡ true). absurd (n e)) (λ e. e) (cases_Bool t)

-- a number that passes is not the one that does not
passes_below : (n v : ℕ) (q : ℕ → Bool) → v < suc n → q v ≡ true → q n ≡ false → v < n
passes_below n v q h t e =
    ⊎_elim
    (λ (w : v ≡ n). absurd (both_ways (q v) (rw w e) t))
    (λ (w : v ≡ n → ⊥). omega arith)
    (cases_eq v n)

pub below_yes : (n v : ℕ) (q : ℕ → Bool) → v < n → q v ≡ true → some_below n q ≡ true
unfolding some_below
below_yes zero v q h t = absurd (omega arith)
below_yes (suc n) v q h t =
    ⊎_elim
    (λ (e : q n ≡ true). rw e refl)
    (λ (e : q n ≡ false). rw e (below_yes n v q (passes_below n v q h t e) t))
    (cases_Bool (q n))

pub below_says : (n : ℕ) (q : ℕ → Bool) → some_below n q ≡ true → (v : ℕ) × ((v < n) × (q v ≡ true))
unfolding some_below
below_says zero q s = absurd (true≢false (sym s))
below_says (suc n) q s =
    ⊎_elim
    (λ (e : q n ≡ true). (n, (omega arith, e)))
    (λ (e : q n ≡ false). let r = below_says n q (rw e at s) in (r.0, (omega (arith, r.1.0), r.1.1)))
    (cases_Bool (q n))

pub below_same : (n : ℕ) (p q : ℕ → Bool) → ((v : ℕ) → v < n → p v ≡ q v) → some_below n p ≡ some_below n q
unfolding some_below
below_same zero p q h = refl
below_same (suc n) p q h = rw (h n (omega arith), below_same n p q (λ v g. h v (omega arith))) refl

-- the loop of a search, before its first number and one number on
pub below_none : (q : ℕ → Bool) → some_below 0 q ≡ false
unfolding some_below
below_none q = refl

pub below_more : (n : ℕ) (q : ℕ → Bool) → some_below (n + 1) q ≡ cond (q n) true (some_below n q)
unfolding some_below
below_more n q = let e : n + 1 ≡ suc n = omega arith in rw e refl

-- a label of numbers below n has n bits
pub label_small : (n : ℕ) (q : ℕ → Bool) → label_of n q < 2 ^ n
unfolding label_of
label_small zero q = omega arith
label_small (suc n) q =
    let p = pow-suc 2 n in
    let h = label_small n q in
    ⊎_elim
    (λ (e : q n ≡ true). rw e (omega arith))
    (λ (e : q n ≡ false). rw e (omega arith))
    (cases_Bool (q n))

-- one bit more on top
bit_top : (n x : ℕ) → x < 2 ^ n → bit n (x + 2 ^ n) ≡ 1
bit_top zero x h = let z : x ≡ 0 = omega arith in rw z refl
bit_top (suc n) x h =
    let a : (x + 2 ^ suc n) / 2 ≡ x / 2 + 2 ^ n = omega (arith, pow-suc 2 n) in
    rw a (bit_top n (x / 2) (omega (arith, pow-suc 2 n)))

bit_other : (n v x : ℕ) → x < 2 ^ n → (v ≢ n) → bit v (x + 2 ^ n) ≡ bit v x
bit_other zero zero x h d = absurd (d refl)
bit_other zero (suc v) x h d = let z : x ≡ 0 = omega arith in rw z refl
bit_other (suc n) zero x h d = omega (arith, pow-suc 2 n)
bit_other (suc n) (suc v) x h d =
    let a : (x + 2 ^ suc n) / 2 ≡ x / 2 + 2 ^ n = omega (arith, pow-suc 2 n) in
    rw a (bit_other n v (x / 2) (omega (arith, pow-suc 2 n)) (λ e. d (ap suc e)))

pub label_yes : (n v : ℕ) (q : ℕ → Bool) → v < n → q v ≡ true → Has (label_of n q) v
unfolding label_of
label_yes zero v q h t = absurd (omega arith)
label_yes (suc n) v q h t =
    let s = label_small n q in
    ⊎_elim
    (λ (e : q n ≡ true).
    rw e (⊎_elim
    (λ (w : v ≡ n). rw w (bit_top n (label_of n q) s))
    (λ (w : v ≡ n → ⊥). bit_other n v (label_of n q) s w ∙ label_yes n v q (omega arith) t)
    (cases_eq v n)))
    (λ (e : q n ≡ false). rw e (label_yes n v q (passes_below n v q h t e) t))
    (cases_Bool (q n))

pub label_says : (n v : ℕ) (q : ℕ → Bool) → Has (label_of n q) v → (v < n) × (q v ≡ true)
unfolding label_of
label_says zero v q h = absurd (omega (arith, bit_zero v))
label_says (suc n) v q h =
    ⊎_elim
    (λ (e : q n ≡ true).
    ⊎_elim
    (λ (w : v ≡ n). (omega arith, rw w e))
    (λ (w : v ≡ n → ⊥). let r = label_says n v q (sym (bit_other n v (label_of n q) (label_small n q) w) ∙ (rw e at h)) in (omega (arith, r.0), r.1))
    (cases_eq v n))
    (λ (e : q n ≡ false). let r = label_says n v q (rw e at h) in (omega (arith, r.0), r.1))
    (cases_Bool (q n))

-- labels with the same members are equal
pub same_label : (n a b : ℕ) → a < 2 ^ n → b < 2 ^ n → ((v : ℕ) → Has a v → Has b v) → ((v : ℕ) → Has b v → Has a v) → a ≡ b
same_label zero a b ha hb f g = omega arith
same_label (suc n) a b ha hb f g =
    let ih = same_label n (a / 2) (b / 2) (omega (arith, pow-suc 2 n)) (omega (arith, pow-suc 2 n)) (λ v. f (suc v)) (λ v. g (suc v)) in
    go (bit_one 0 a) (bit_one 0 b) ih
  where
    go : (a % 2 ≡ 1) ⊎ (a % 2 ≡ 0) → (b % 2 ≡ 1) ⊎ (b % 2 ≡ 0) → a / 2 ≡ b / 2 → a ≡ b
    go (inl x) (inl y) e = omega arith
    go (inl x) (inr y) e = absurd (omega (arith, f 0 x))
    go (inr x) (inl y) e = absurd (omega (arith, g 0 y))
    go (inr x) (inr y) e = omega arith

-- a member of a label of 16 bits is below 16
pub member_small : (l v : ℕ) → l < 2 ^ 16 → Has l v → v < 16
member_small l v s h = ⊎_elim (λ (x : v < 16). x) (λ (x : 16 ≤ v). absurd (omega (arith, bit_beyond 16 v l s x))) (cases_lt v 16)

pub small_tail : (l : ℕ) (b : List ℕ) → Small (l ∷ b) → Small b
small_tail l b f k h = f (suc k) (suc-le-suc h)

pub some_yes : (p : List ℕ → Bool) (b f : List ℕ) → Small b → In f b → p f ≡ true → some_in p b ≡ true
unfolding some_in
some_yes p [] [] s i t = t
some_yes p [] (v ∷ f) s i t = absurd i
some_yes p (l ∷ b) [] s i t = absurd i
some_yes p (l ∷ b) (v ∷ f) s i t =
    below_yes 16 v _ (member_small l v (s 0 (omega arith)) i.0) (rw (eq-eqb _ _ i.0) (some_yes (λ g. p (v ∷ g)) b f (small_tail l b s) i.1 t))

pub some_says : (p : List ℕ → Bool) (b : List ℕ) → some_in p b ≡ true → (f : List ℕ) × (In f b × (p f ≡ true))
unfolding some_in
some_says p [] t = ([], (tt, t))
some_says p (l ∷ b) t =
    let r = below_says 16 _ t in
    let v = r.0 in
    ⊎_elim
    (λ (e : has_member l v ≡ true).
    let w : some_in (λ f. p (v ∷ f)) b ≡ true = rw e at r.1.1 in
    let k = some_says (λ f. p (v ∷ f)) b w in
    (v ∷ k.0, ((eqb-true _ _ e, k.1.0), k.1.1)))
    (λ (e : has_member l v ≡ false). absurd (true≢false (sym (rw e at r.1.1))))
    (cases_Bool (has_member l v))

-- tests that agree on the box
pub some_same : (p q : List ℕ → Bool) (b : List ℕ) → Small b → ((f : List ℕ) → In f b → p f ≡ q f) → some_in p b ≡ some_in q b
some_same p q b s h =
    ⊎_elim
    (λ (e : some_in p b ≡ true). let r = some_says p b e in e ∙ sym (some_yes q b r.0 s r.1.0 (sym (h r.0 r.1.0) ∙ r.1.1)))
    (λ (e : some_in p b ≡ false). e ∙ sym (no_true (some_in q b) (λ t. let r = some_says q b t in both_ways (some_in p b) e (some_yes p b r.0 s r.1.0 (h r.0 r.1.0 ∙ r.1.1)))))
    (cases_Bool (some_in p b))
