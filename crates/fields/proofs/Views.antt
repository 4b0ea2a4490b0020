-- A list that a slice pattern takes apart.
use Rattle.std.proofs.Common.{ℕ, ◌-◌, List, length, take, drop}

-- what a slice pattern `[b, rest @ ..]` calls `rest`
abbrev pub rest : List ℕ → List ℕ
rest xs = take (length xs - 1) (drop 1 xs)
