-- What reading a number means, in terms of writing it.
use Rattle.std.specs.Prelude.{◌≡◌, ℕ, ◌^◌, ◌<◌, ◌≤◌, false, List, ◌++◌, Some, decimal}
use Rattle.fields.specs.Numbers.{digit_first, number_at}

-- t is n in decimal digits, and then rest, where no more digits follow
pub record Written (max : ℕ) (t : List ℕ) (n : ℕ) (rest : List ℕ) : Type 0 where
  pub text : t ≡ decimal n ++ rest
  pub small : n ≤ max
  pub ends : digit_first rest ≡ false

-- a number is read from its decimal digits, and from nothing else
abbrev pub ReadsDigits : Type 0
ReadsDigits = (max : ℕ) → max < 2 ^ 64 → (t : List ℕ) (n : ℕ) (rest : List ℕ)
    → (number_at max t ≡ Some (n, rest) → Written max t n rest) × (Written max t n rest → number_at max t ≡ Some (n, rest))
