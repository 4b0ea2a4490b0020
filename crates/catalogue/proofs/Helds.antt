-- What is held of items that come piece by piece.
use Rattle.std.proofs.Common.{◌≡◌, ℕ, zero, suc, ◌+◌, ◌-◌, ◌<◌, ◌≤◌, List, [], ◌∷◌, ◌++◌, length, get_or, set, take, min, sym, ap, ◌∙◌, append_assoc, append-nil, arith, length-append, length-take}
use Rattle.std.proofs.lemmas.List.{take_all, take_min, take_more, take_more_set}
use Rattle.std.proofs.Math.Seq.{take-nil}
use Rattle.catalogue.specs.Storing.{held}

take_both : {T : Type 0} (n : ℕ) (xs ys : List T) → take n (xs ++ ys) ≡ take n xs ++ take (n - length xs) ys
take_both zero xs ys = let e : 0 - length xs ≡ 0 = omega arith in rw e
take_both (suc n) [] ys = let e : suc n - 0 ≡ suc n = omega arith in rw e
take_both (suc n) (x ∷ xs) ys =
    let e : suc n - suc (length xs) ≡ n - length xs = omega arith in
    rw e (ap (λ zs. x ∷ zs) (take_both n xs ys))

pub held_none : {T : Type 0} (n : ℕ) (old : List T) → held n old [] ≡ old
unfolding held
held_none n old = rw take-nil (append-nil old)

pub held_then : {T : Type 0} (n : ℕ) (old xs ys : List T) → held n (held n old xs) ys ≡ held n old (xs ++ ys)
unfolding held
held_then n old xs ys =
    let e : n - length (old ++ take (n - length old) xs) ≡ n - length old - length xs =
    omega (arith, length-append old (take (n - length old) xs), length-take (n - length old) xs) in
    rw (e, append_assoc, take_both (n - length old) xs ys)

-- where there is room
pub held_fits : {T : Type 0} (n : ℕ) (old xs : List T) → length old + length xs ≤ n → held n old xs ≡ old ++ xs
unfolding held
held_fits n old xs h = ap (λ ys. old ++ ys) (take_all _ xs (omega arith))

-- items laid over places from one on
pub laid_on : {T : Type 0} (n at : ℕ) (places items : List T) → at ≤ n → length places ≡ n → take at places ++ take (min (at + length items) (length places) - at) items ≡ held n (take at places) items
unfolding held
laid_on n at places items h long =
    let few : n - length (take at places) ≡ n - at = omega (arith, length-take at places) in
    let m : min (at + length items) (length places) - at ≡ min (n - at) (length items) = omega arith in
    rw (few, m, take_min)

-- a turn of a loop that lays items over places
pub laid_turn : {T : Type 0} (old now xs : List T) (at end i : ℕ) (x : T) → end ≡ at + i → end < length now → i < length xs → x ≡ get_or xs i x → take end now ≡ take at old ++ take (end - at) xs → take (end + 1) (set now end x) ≡ take at old ++ take (end + 1 - at) xs
laid_turn old now xs at end i x e room h is laid =
    let before : end - at ≡ i = omega arith in
    let after : end + 1 - at ≡ i + 1 = omega arith in
    let more : take (i + 1) xs ≡ take i xs ++ x ∷ [] = take_more xs i x h ∙ ap (λ y. take i xs ++ y ∷ []) (sym is) in
    take_more_set now end x room ∙ ap (λ ys. ys ++ x ∷ []) laid ∙ rw (before, after, more) (append_assoc (take at old) (take i xs) (x ∷ []))

-- texts that come one after another
pub ruleset joins = (held_then, held_none, append_assoc)
