-- Exact narrowing: by any test on fillings, a box keeps the members found in some filling of it that passes.
use Rattle.std.specs.Prelude.{◌≡◌, ℕ, zero, suc, ◌+◌, ◌^◌, ◌<◌, Bool, true, false, cond, List, [], ◌∷◌, length, Some, None, Option, MatchOption, ◌≢◌, slice_index, slice_set}
use Rattle.kits.specs.Labels.{Has, has_member}
use Rattle.kits.specs.Boxes.{Boxed, In}
use Rattle.kits.specs.Laws.{Iff}

-- does some number below n pass?
unfoldable pub some_below : ℕ → (ℕ → Bool) → Bool
some_below zero q = false
some_below (suc n) q = cond (q n) true (some_below n q)

-- the label of the numbers below n that pass
unfoldable pub label_of : ℕ → (ℕ → Bool) → ℕ
label_of zero q = 0
label_of (suc n) q = cond (q n) (label_of n q + 2 ^ n) (label_of n q)

-- does some filling of the box pass?
unfoldable pub some_in : (List ℕ → Bool) → List ℕ → Bool
some_in p [] = p []
some_in p (l ∷ b) = some_below 16 (λ v. cond (has_member l v) (some_in (λ f. p (v ∷ f)) b) false)

-- has some filling of the box that passes the number v in slot k?
abbrev pub is_found : (List ℕ → Bool) → List ℕ → ℕ → ℕ → Bool
is_found p b k v = cond (has_member (slice_index b k) v) (some_in p (slice_set b k (2 ^ v))) false

-- the numbers found in slot k
abbrev pub found_label : (List ℕ → Bool) → List ℕ → ℕ → ℕ
found_label p b k = label_of 16 (is_found p b k)

-- the same of each slot from k on, as many as the last list has
unfoldable pub found_labels : (List ℕ → Bool) → List ℕ → ℕ → List ℕ → List ℕ
found_labels p b k [] = []
found_labels p b k (l ∷ ls) = found_label p b k ∷ found_labels p b (suc k) ls

-- what exact narrowing makes of the box, unless no filling of it passes
unfoldable pub exact : (List ℕ → Bool) → List ℕ → Option (List ℕ)
exact p b = cond (some_in p b) (Some (found_labels p b 0 b)) None

-- some filling of the box that passes has the number v in slot k
abbrev pub Found : (List ℕ → Bool) → List ℕ → ℕ → ℕ → Type 0
Found p b k v = (f : List ℕ) × (In f b × ((p f ≡ true) × (slice_index f k ≡ v)))

-- c has exactly the members of b that are found
pub record KeepsFound (p : List ℕ → Bool) (b c : List ℕ) : Type 0 where
  pub long : length c ≡ length b
  pub members : (k v : ℕ) → k < length b → Iff (Has (slice_index c k) v) (Found p b k v)

-- exact narrowing fails where no filling of the box passes, and else keeps exactly the members found
abbrev pub ExactMeans : Type 0
ExactMeans = (p : List ℕ → Bool) (b : List ℕ) → Boxed b → MatchOption (exact p b) ((f : List ℕ) → In f b → p f ≢ true) (λ c. KeepsFound p b c)
