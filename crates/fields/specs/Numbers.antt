-- Numbers in a line: decimal digits without a leading zero.
use Rattle.std.specs.Prelude.{ℕ, zero, suc, ◌+◌, ◌-◌, ◌*◌, Bool, false, cond, ◌&&◌, List, [], ◌∷◌, ◌++◌, length, Some, None, Option, ◌==◌, nat_le}
use Rattle.fields.specs.Results.{and_then}
use Rattle.fields.specs.Words.{after_word}

abbrev pub is_digit : ℕ → Bool
is_digit c = nat_le 48 c && nat_le c 57

-- does the text begin with a digit?
abbrev pub digit_first : List ℕ → Bool
digit_first [] = false
digit_first (c ∷ cs) = is_digit c

-- the digits at the front, after the number v, with what follows them; none past max
abbrev pub number_on : ℕ → ℕ → List ℕ → Option (ℕ × List ℕ)
number_on max v [] = Some (v, [])
number_on max v (c ∷ cs) =
    cond (is_digit c) (cond (nat_le (v * 10 + (c - 48)) max) (number_on max (v * 10 + (c - 48)) cs) None) (Some (v, c ∷ cs))

-- the number at the front, with what follows it; none past max
abbrev pub number_at : ℕ → List ℕ → Option (ℕ × List ℕ)
number_at max [] = None
number_at max (c ∷ cs) =
    cond (c == 48) (cond (digit_first cs) None (Some (0, cs))) (cond (is_digit c) (number_on max 0 (c ∷ cs)) None)

-- the number that is the whole text; none past max
abbrev pub whole_number : ℕ → List ℕ → Option ℕ
whole_number max t = and_then (number_at max t) (λ p. cond (length p.1 == 0) (Some p.0) None)

-- the number of 1 to 5 digits that is the whole text
abbrev pub only_number : List ℕ → Option ℕ
only_number = whole_number 99999

-- what follows one space
abbrev pub after_space : List ℕ → Option (List ℕ)
after_space t = after_word t (32 ∷ [])

-- numbers in front of those that come
abbrev pub led : List ℕ → Option (List ℕ) → Option (List ℕ)
led ns None = None
led ns (Some ms) = Some (ns ++ ms)

-- a number alone, or after one space more of them
abbrev pub and_more : (List ℕ → Option (List ℕ)) → ℕ × List ℕ → Option (List ℕ)
and_more more p = cond (length p.1 == 0) (Some (p.0 ∷ [])) (and_then (after_space p.1) (λ t. led (p.0 ∷ []) (more t)))

-- one to m numbers of 1 to 5 digits, one space apart, that are the whole text
unfoldable pub numbers_up_to : ℕ → List ℕ → Option (List ℕ)
numbers_up_to zero t = None
numbers_up_to (suc m) t = and_then (number_at 99999 t) (and_more (numbers_up_to m))
