-- What is kept of cells that come piece by piece.
use Rattle.std.proofs.Common.{◌≡◌, ℕ, ◌+◌, ◌-◌, ◌^◌, ◌≤◌, min, List, [], ◌++◌, length, ap, append_assoc, arith, length-append}
use Rattle.catalogue.specs.declared.storing.Kept.{Kept}
use Rattle.catalogue.specs.Keeping.{nothing_kept, kept}
use Rattle.catalogue.proofs.Helds.{held_none, held_then, held_fits}

pub kept_none : {N : ℕ} (k : Kept N) → kept k [] ≡ k
unfolding kept
kept_none {N} k =
    let e : k.count + min 0 (2 ^ 64 - 1 - k.count) ≡ k.count = omega arith in
    rw (held_none N k.cells.items, e)

pub kept_then : {N : ℕ} (k : Kept N) (xs ys : List ℕ) → kept (kept k xs) ys ≡ kept k (xs ++ ys)
unfolding kept
kept_then {N} k xs ys =
    let n = k.count + min (length xs) (2 ^ 64 - 1 - k.count) in
    let e : n + min (length ys) (2 ^ 64 - 1 - n) ≡ k.count + min (length (xs ++ ys)) (2 ^ 64 - 1 - k.count) = omega (arith, length-append xs ys) in
    rw (held_then N k.cells.items xs ys, e)

-- cells that come one after another
pub ruleset keeps = (kept_then, kept_none, append_assoc)

-- what is kept of all cells
pub kept_count : (N : ℕ) (xs : List ℕ) → (kept {N = N} nothing_kept xs).count ≡ min (length xs) (2 ^ 64 - 1)
unfolding kept
kept_count N xs = omega arith

pub kept_cells : (N : ℕ) (xs : List ℕ) → length xs ≤ N → (kept {N = N} nothing_kept xs).cells.items ≡ xs
unfolding kept
kept_cells N xs h = held_fits N [] xs (omega arith)
