-- A label: a set of numbers, bit v standing for v.
use Rattle.std.specs.Prelude.{◌≡◌, ℕ, zero, suc, ◌-◌, ◌/◌, ◌%◌, ◌^◌, Bool, cond, Some, None, Option, ◌==◌}
use Rattle.std.specs.Int.Count.{count_trailing_zeros}

-- bit v of the label l
abbrev pub bit : ℕ → ℕ → ℕ
bit zero l = l % 2
bit (suc v) l = bit v (l / 2)

-- v is a member of the label l
abbrev pub Has : ℕ → ℕ → Type 0
Has l v = bit v l ≡ 1

-- is v a member of the label l?
abbrev pub has_member : ℕ → ℕ → Bool
has_member l v = bit v l == 1

-- the lowest member of a label that has one
abbrev pub least : ℕ → ℕ
least l = count_trailing_zeros l l

-- the lowest member alone
abbrev pub low : ℕ → ℕ
low l = 2 ^ least l

-- the other members
abbrev pub others : ℕ → ℕ
others l = l - low l

-- the label, if it has a member
abbrev pub if_any : ℕ → Option ℕ
if_any l = cond (l == 0) None (Some l)
