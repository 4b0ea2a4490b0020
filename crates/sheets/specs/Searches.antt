-- What a search comes to, over every book that keeps its laws.
use Rattle.std.specs.Prelude.{◌≡◌, ℕ, ◌-◌, ◌*◌, ◌<◌, ◌≤◌, Bool, true, ◌⊎◌, List, [], ◌∷◌, length, Option}
use Rattle.kits.specs.Books.{Laws}
use Rattle.kits.specs.Boxes.{Boxed, volume}
use Rattle.kits.specs.Fillings.{Before}
use Rattle.kits.specs.Kits.{Kit, Minimal}
use Rattle.sheets.specs.Steps.{SearchState, kit, no_kit}
use Rattle.sheets.specs.Runs.{started, run, ended}

-- each number of the list is below n
abbrev pub Below : ℕ → List ℕ → Type 0
Below n [] = Unit {0}
Below n (r ∷ rs) = (r < n) × Below n rs

-- a kit of the box b under the rules rs that precedes every other
pub record FirstKit (allows : ℕ → List ℕ → Bool) (rs b f : List ℕ) : Type 0 where
  pub is_kit : Kit allows rs b f
  pub first : (g : List ℕ) → Kit allows rs b g → (g ≡ f) ⊎ Before f g

-- what is right of the state s that the search over the box b has after n steps
pub record RightState (allows : ℕ → List ℕ → Bool) (rs b : List ℕ) (n : ℕ) (s : SearchState) : Type 0 where
  -- a named kit is the first, and no other comes of it by emptying filled slots
  pub first : (f : List ℕ) → s.standing ≡ kit f → FirstKit allows rs b f
  pub minimal : (f : List ℕ) → s.standing ≡ kit f → Minimal allows rs b f
  -- where it ended with no kit there is none
  pub none : s.standing ≡ no_kit → (f : List ℕ) → Kit allows rs b f → ⊥
  -- it has ended by as many steps as twice the fillings of the box, less one
  pub ends : 2 * volume b - 1 ≤ n → ended s.standing ≡ true
  -- never do more than 25 boxes wait
  pub few : length s.boxes ≤ 25

abbrev pub SearchRight : Type 0
SearchRight = (count : ℕ) (allows : ℕ → List ℕ → Bool) (narrowed : ℕ → List ℕ → Option (List ℕ)) → Laws count allows narrowed
    → (rs : List ℕ) → Below count rs → (b : List ℕ) → Boxed b → (n : ℕ) → RightState allows rs b n (run narrowed rs n (started b))
