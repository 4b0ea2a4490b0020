-- Kits: fillings of the opening box that every rule in force allows.
use Rattle.std.specs.Prelude.{◌≡◌, ℕ, Bool, true, ◌⊎◌, List, [], ◌∷◌}
use Rattle.kits.specs.Boxes.{In}

-- each rule of the list allows the filling
abbrev pub Allowed : (ℕ → List ℕ → Bool) → List ℕ → List ℕ → Type 0
Allowed allows [] f = Unit {0}
Allowed allows (r ∷ rs) f = (allows r f ≡ true) × Allowed allows rs f

-- a kit of the box b under the rules rs
pub record Kit (allows : ℕ → List ℕ → Bool) (rs b f : List ℕ) : Type 0 where
  pub inside : In f b
  pub allowed : Allowed allows rs f

-- g comes of f by emptying some of its filled slots, or none
abbrev pub Emptied : List ℕ → List ℕ → Type 0
Emptied [] [] = Unit {0}
Emptied [] (v ∷ g) = ⊥
Emptied (u ∷ f) [] = ⊥
Emptied (u ∷ f) (v ∷ g) = ((v ≡ 0) ⊎ (v ≡ u)) × Emptied f g

-- a kit of which no other kit comes by emptying filled slots
pub record Minimal (allows : ℕ → List ℕ → Bool) (rs b f : List ℕ) : Type 0 where
  pub kit : Kit allows rs b f
  pub least : (g : List ℕ) → Kit allows rs b g → Emptied f g → g ≡ f
