-- Numbers of a line, one after the other.
use Rattle.std.proofs.Common.{◌≡◌, ℕ, suc, ◌-◌, ◌<◌, cond, eqb, ltb, false, List, [], ◌∷◌, ◌++◌, length, Some, None, Option, refl, append_assoc, arith, length-append}
use Rattle.std.proofs.lemmas.Bool.Decides.{nat_tests}
use Rattle.fields.specs.Numbers.{number_at, after_space, numbers_up_to, led}
use Rattle.fields.specs.Results.{and_then}

-- the numbers xs, of at most k, and those that the text goes on with
abbrev pub read_on : ℕ → List ℕ → List ℕ → Option (List ℕ)
read_on k xs t = led xs (numbers_up_to (k - length xs) t)

-- one more number, and the end of the text or a space and more numbers
abbrev pub read_more : ℕ → List ℕ → ℕ × List ℕ → Option (List ℕ)
read_more k xs p = cond (eqb (length p.1) 0) (Some (xs ++ p.0 ∷ [])) (and_then (after_space p.1) (read_on k (xs ++ p.0 ∷ [])))

led_twice : (xs ys : List ℕ) (o : Option (List ℕ)) → led xs (led ys o) ≡ led (xs ++ ys) o
led_twice xs ys None = refl
led_twice xs ys (Some zs) = rw append_assoc

read_last : (k : ℕ) (xs t : List ℕ) → ltb (length xs) k ≡ false → read_on k xs t ≡ None
unfolding numbers_up_to
read_last k xs t h = let e : k - length xs ≡ 0 = grind (arith, nat_tests) in rw e

read_step : (k m : ℕ) (xs t : List ℕ) → k - length xs ≡ suc m → read_on k xs t ≡ and_then (number_at 99999 t) (read_more k xs)
unfolding numbers_up_to
read_step k m xs t e =
    let less : (n : ℕ) → k - length (xs ++ n ∷ []) ≡ m = λ n. simp length-append (omega arith) in
    rw e (grind (arith, nat_tests, led_twice, less))

pub reads_on : (k : ℕ) (xs t : List ℕ) → read_on k xs t ≡ cond (ltb (length xs) k) (and_then (number_at 99999 t) (read_more k xs)) None
reads_on k xs t =
    let step : length xs < k → read_on k xs t ≡ and_then (number_at 99999 t) (read_more k xs) = λ h. read_step k (k - length xs - 1) xs t (omega arith) in
    grind (arith, nat_tests, step, read_last k xs t)
