-- A book of one rule: the slots s and t have the same number.
use Rattle.std.specs.Prelude.{◌≡◌, ℕ, zero, suc, Bool, true, cond, List, Some, None, Option, ◌==◌, ◌≢◌, bit_and, slice_index, slice_set}
use Rattle.kits.specs.Labels.{Has}
use Rattle.kits.specs.Boxes.{Boxed}
use Rattle.kits.specs.Laws.{Iff}

-- do the slots have the same number?
abbrev pub matched_allows : ℕ → ℕ → ℕ → List ℕ → Bool
matched_allows s t r f = slice_index f s == slice_index f t

-- the members of both labels
abbrev pub both : ℕ → ℕ → List ℕ → ℕ
both s t b = bit_and (slice_index b s) (slice_index b t)

-- both slots have the members of both labels
abbrev pub matched : ℕ → ℕ → List ℕ → Option (List ℕ)
matched s t b = cond (both s t b == 0) None (Some (slice_set (slice_set b s (both s t b)) t (both s t b)))

-- narrowing by rule 0; there is no other
abbrev pub matched_narrowed : ℕ → ℕ → ℕ → List ℕ → Option (List ℕ)
matched_narrowed s t zero b = matched s t b
matched_narrowed s t (suc r) b = Some b

-- the slots s and t of c have the members found in both labels of b
abbrev pub FoundInBoth : ℕ → ℕ → List ℕ → List ℕ → Type 0
FoundInBoth s t b c = (v : ℕ)
    → Iff (Has (slice_index c s) v) (Has (slice_index b s) v × Has (slice_index b t) v) × Iff (Has (slice_index c t) v) (Has (slice_index b s) v × Has (slice_index b t) v)

-- what matching the slots s and t comes to
pub record Matching (s t : ℕ) : Type 0 where
  pub itself : s ≡ t → (f : List ℕ) → matched_allows s t 0 f ≡ true
  pub exact : (b c : List ℕ) → Boxed b → matched_narrowed s t 0 b ≡ Some c → FoundInBoth s t b c
  pub others : (b c : List ℕ) → matched_narrowed s t 0 b ≡ Some c → (k : ℕ) → (k ≢ s) → (k ≢ t) → slice_index c k ≡ slice_index b k
