-- The steps of a search, one after the other.
use Rattle.std.specs.Prelude.{ℕ, zero, suc, Bool, true, false, cond, List, [], ◌∷◌, Option}
use Rattle.sheets.specs.Steps.{Standing, paused, kit, no_kit, SearchState, stepped}

-- the search over the box b, before its first step
abbrev pub started : List ℕ → SearchState
started b = record { boxes = b ∷ []; standing = paused }

abbrev pub ended : Standing → Bool
ended paused = false
ended (kit f) = true
ended no_kit = true

-- one step, unless the search has ended
abbrev pub continued : (ℕ → List ℕ → Option (List ℕ)) → List ℕ → List (List ℕ) → Standing → SearchState
continued narrowed rs w paused = stepped narrowed rs w
continued narrowed rs w (kit f) = record { boxes = w; standing = kit f }
continued narrowed rs w no_kit = record { boxes = w; standing = no_kit }

-- the state after n steps
abbrev pub run : (ℕ → List ℕ → Option (List ℕ)) → List ℕ → ℕ → SearchState → SearchState
run narrowed rs zero s = s
run narrowed rs (suc n) s = run narrowed rs n (continued narrowed rs s.boxes s.standing)

-- how many of the n steps are made before the search has ended
abbrev pub made : (ℕ → List ℕ → Option (List ℕ)) → List ℕ → ℕ → SearchState → ℕ
made narrowed rs zero s = 0
made narrowed rs (suc n) s = cond (ended s.standing) 0 (suc (made narrowed rs n (continued narrowed rs s.boxes s.standing)))
