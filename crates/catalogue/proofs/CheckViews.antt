-- The checks on lists that slice patterns take apart.
use Rattle.std.proofs.Common.{◌≡◌, ℕ, ◌<◌, Bool, true, false, ◌&&◌, ltb, leb, List, [], ◌∷◌, map, length, get_or, refl, ap, ◌+◌, zero, suc, arith}
use Rattle.std.specs.List.{IsAllAdjacentAnswer, zip}
use Rattle.catalogue.specs.Lawful.{all, rising_after, rising, row_lawful}

-- each number is below the next
rises_from : (x : ℕ) (xs : List ℕ) → ((k : ℕ) → k < length xs → true ≡ ltb (get_or (x ∷ xs) k 0) (get_or (x ∷ xs) (k + 1) 0)) → true ≡ rising_after x xs
rises_from x [] h = refl
rises_from x (y ∷ ys) h = rw (← h 0 (omega arith)) (rises_from y ys (λ k l. let e : suc k + 1 ≡ suc (k + 1) = omega arith in rw e at (h (suc k) (omega arith))))

falls_from : (x : ℕ) (xs : List ℕ) (k : ℕ) → k < length xs → false ≡ ltb (get_or (x ∷ xs) k 0) (get_or (x ∷ xs) (k + 1) 0) → false ≡ rising_after x xs
falls_from x [] k l h = absurd (omega arith)
falls_from x (y ∷ ys) zero l h = rw (← h)
falls_from x (y ∷ ys) (suc k) l h =
    let e : suc k + 1 ≡ suc (k + 1) = omega arith in
    rw (← falls_from y ys k (omega arith) (rw e at h)) (grind arith)

pub rises : (xs : List ℕ) (r : Bool) → IsAllAdjacentAnswer (λ x y b. b ≡ ltb x y) xs r → r ≡ rising xs
rises [] true h = refl
rises [] false h = absurd (omega (arith, h.1))
rises (x ∷ xs) true h = rises_from x xs (λ k l. h k 0 (omega arith))
rises (x ∷ xs) false h = falls_from x xs h.0 (omega (arith, h.1)) (h.2 0)

-- a row and the slots that it fills, side by side
pub row_beside : (f : ℕ → ℕ) (of row : List ℕ) → length of ≡ length row → row_lawful (map f of) row ≡ all (λ p. leb 1 p.1 && leb p.1 (f p.0)) (zip of row)
row_beside f [] [] h = refl
row_beside f [] (v ∷ row) h = absurd (omega arith)
row_beside f (s ∷ of) [] h = absurd (omega arith)
row_beside f (s ∷ of) (v ∷ row) h = ap (λ b. (leb 1 v && leb v (f s)) && b) (row_beside f of row (omega arith))

pub row_uneven : (f : ℕ → ℕ) (of row : List ℕ) → (length of ≡ length row → ⊥) → false ≡ row_lawful (map f of) row
row_uneven f [] [] h = absurd (h refl)
row_uneven f [] (v ∷ row) h = refl
row_uneven f (s ∷ of) [] h = refl
row_uneven f (s ∷ of) (v ∷ row) h = rw (← row_uneven f of row (λ e. h (omega (arith, e)))) (grind arith)
