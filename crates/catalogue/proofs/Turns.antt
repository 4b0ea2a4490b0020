-- A turn of a loop that reads one thing after another.
use Rattle.std.proofs.Common.{◌≡◌, ℕ, zero, suc, ◌-◌, ◌<◌, List, [], ◌∷◌, ◌++◌, length, Ok, Err, Result, sym, refl, ap, ◌∙◌, append_assoc, arith}
use Rattle.std.specs.List.{flat_map}
use Rattle.fields.specs.declared.fault.Fault.{Fault}
use Rattle.fields.specs.Lines.{Position}
use Rattle.fields.specs.Results.{then, mapped_ok}
use Rattle.fields.proofs.Chains.{then_case, mapped_ok_case}
use Rattle.catalogue.specs.Reading.{repeated}
use Rattle.catalogue.specs.declared.storing.Kept.{Kept}
use Rattle.catalogue.specs.Keeping.{kept, stored}
use Rattle.catalogue.proofs.Keeping.{kept_none, kept_then}

-- things in front of those that come
abbrev pub after_front : {T : Type 0} → List T → Result (List T × Position) Fault → Result (List T × Position) Fault
after_front xs r = mapped_ok (λ ys. (xs ++ ys.0, ys.1)) r

module _ {T : Type 0} (one : Position → Result (T × Position) Fault) where
  step : (n : ℕ) (p : Position) → 0 < n → repeated one n p ≡ then (one p) (λ x. mapped_ok (λ xs. (x.0 ∷ xs.0, xs.1)) (repeated one (n - 1) x.1))
  step zero p h = absurd (omega arith)
  step (suc n) p h = let e : suc n - 1 ≡ n = omega arith in rw e

  module _ (n : ℕ) (p : Position) (h : 0 < n) where
    step_ok : (x : T) (q : Position) → Ok (x, q) ≡ one p → repeated one n p ≡ mapped_ok (λ xs. (x ∷ xs.0, xs.1)) (repeated one (n - 1) q)
    step_ok x q e = step n p h ∙ rw (← e)

    pub step_err : (f : Fault) → Err f ≡ one p → repeated one n p ≡ Err f
    step_err f e = step n p h ∙ rw (← e)

    pub front_more : (xs : List T) (x : T) (q : Position) → Ok (x, q) ≡ one p → after_front xs (repeated one n p) ≡ after_front (xs ++ x ∷ []) (repeated one (n - 1) q)
    front_more xs x q e = ap (after_front xs) (step_ok x q e) ∙ joins (repeated one (n - 1) q)
      where
        joins : (r : Result (List T × Position) Fault) → after_front xs (mapped_ok (λ ys. (x ∷ ys.0, ys.1)) r) ≡ after_front (xs ++ x ∷ []) r
        joins (Ok ys) = rw append_assoc
        joins (Err f) = refl

-- cells in front of those of what is read, where together they are the cells of what it makes up
pub stored_after : {T U : Type 0} {N : ℕ} (old : Kept N) (front : List ℕ) (cells : T → List ℕ) (whole : U → List ℕ) (make : T → U) (r : Result (T × Position) Fault)
    → ((x : T × Position) → r ≡ Ok x → front ++ cells x.0 ≡ whole (make x.0))
    → mapped_ok (stored cells (kept old front)) r ≡ mapped_ok (stored whole old) (mapped_ok (λ x. (make x.0, x.1)) r)
stored_after old front cells whole make (Ok x) joins = rw (kept_then old front (cells x.0), joins x refl)
stored_after old front cells whole make (Err f) joins = refl

-- where nothing is still to be read and stored
pub turn_over : {T : Type 0} {N : ℕ} (cells : T → List ℕ) (old : Kept N) (one : Position → Result (T × Position) Fault) (n : ℕ) (p : Position) (R : Result (Kept N × Position) Fault) → n ≡ 0
    → mapped_ok (stored (flat_map cells) old) (repeated one n p) ≡ R → Ok (old, p) ≡ R
turn_over {N = N} cells old one n p R e inv = ap (λ (k : Kept N). Ok (k, p)) (sym (kept_none old)) ∙ (rw e at inv)

-- where n things are still to be read and stored
module _ {T : Type 0} {N : ℕ} (cells : T → List ℕ) (old : Kept N) (one : Position → Result (T × Position) Fault) (n : ℕ) (p : Position) (R : Result (Kept N × Position) Fault) (h : 0 < n) (inv : mapped_ok (stored (flat_map cells) old) (repeated one n p) ≡ R) where
  pub turn_ok : (x : T) (q : Position) → Ok (x, q) ≡ one p → mapped_ok (stored (flat_map cells) (kept old (cells x))) (repeated one (n - 1) q) ≡ R
  turn_ok x q e =
      stored_after old (cells x) (flat_map cells) (flat_map cells) (λ xs. x ∷ xs) (repeated one (n - 1) q) (λ xs e. refl)
      ∙ sym (ap (mapped_ok (stored (flat_map cells) old)) (step_ok one n p h x q e))
      ∙ inv

  pub turn_err : (f : Fault) → Err f ≡ one p → Err f ≡ R
  turn_err f e = sym (ap (mapped_ok (stored (flat_map cells) old)) (step_err one n p h f e)) ∙ inv

  -- the same, by what is stored of the thing
  pub turn_stored : (new : Kept N) (q : Position) → Ok (new, q) ≡ mapped_ok (stored cells old) (one p) → mapped_ok (stored (flat_map cells) new) (repeated one (n - 1) q) ≡ R
  turn_stored new q e = go (one p) refl e
    where
      go : (r : Result (T × Position) Fault) → one p ≡ r → Ok (new, q) ≡ mapped_ok (stored cells old) r → mapped_ok (stored (flat_map cells) new) (repeated one (n - 1) q) ≡ R
      go (Ok x) is k =
          let t : (new, q) ≡ stored cells old x = cc in
          rw (ap (λ (y : Kept N × Position). y.0) t, ap (λ (y : Kept N × Position). y.1) t) (turn_ok x.0 x.1 (sym is))
      go (Err f) is k = let z : ◌≡◌ {A = ℕ} 0 1 = cc in absurd (omega arith)

  pub turn_refused : (f : Fault) → Err f ≡ mapped_ok (stored cells old) (one p) → Err f ≡ R
  turn_refused f e = go (one p) refl e
    where
      go : (r : Result (T × Position) Fault) → one p ≡ r → Err f ≡ mapped_ok (stored cells old) r → Err f ≡ R
      go (Ok x) is k = let z : ◌≡◌ {A = ℕ} 0 1 = cc in absurd (omega arith)
      go (Err g) is k = let same : f ≡ g = cc in rw same (turn_err g (sym is))

-- as many things are read as are due
pub repeated_length : {T : Type 0} (one : Position → Result (T × Position) Fault) (n : ℕ) (p : Position) (xs : List T × Position) → repeated one n p ≡ Ok xs → length xs.0 ≡ n
repeated_length {T} one zero p xs e = let same : ◌≡◌ {A = List T × Position} ([], p) xs = cc in ap (λ (y : List T × Position). length y.0) (sym same)
repeated_length {T} one (suc n) p xs e =
    then_case (one p) _ xs e (λ x is more.
    mapped_ok_case _ (repeated one n x.1) xs more (λ ys others same.
    sym (ap (λ (y : List T × Position). length y.0) same) ∙ ap suc (repeated_length one n x.1 ys others)))
