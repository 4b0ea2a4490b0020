-- Sets of rule numbers in 64 bits, bit r standing for rule r.
use Rattle.std.specs.Prelude.{ℕ, zero, suc, Bool, cond, List, [], ◌∷◌}
use Rattle.kits.specs.Labels.{has_member}

-- those of the n numbers from r on of which p holds, rising
abbrev pub numbers_from : ℕ → ℕ → (ℕ → Bool) → List ℕ
numbers_from zero r p = []
numbers_from (suc n) r p = cond (p r) (r ∷ numbers_from n (suc r) p) (numbers_from n (suc r) p)

-- the members of the set s, rising
unfoldable pub members : ℕ → List ℕ
members s = numbers_from 64 0 (has_member s)
