-- Where the rules of a catalogue begin in its cells.
use Rattle.std.specs.Prelude.{◌≡◌, ℕ, ◌-◌, ◌<◌, List, [], length, take, drop, Some, None, Option, slice_index, slice_index_or}
use Rattle.catalogue.specs.declared.model.Kind.TheVariants.{Goes}
use Rattle.catalogue.specs.Catalogues.{Rule}
use Rattle.catalogue.specs.Cells.{rule_cells}

-- xs are the last of the cells
abbrev pub Last : List ℕ → List ℕ → Type 0
Last xs cells = xs ≡ drop (length cells - length xs) cells

-- what stands where there is no rule
abbrev pub no_rule : Rule
no_rule = record { kind = Goes; slots = []; rows = [] }

-- the cells of the rule begin at a place
abbrev pub Begins : List ℕ → ℕ → Rule → Type 0
Begins cells place r = take (length (rule_cells r)) (drop place cells) ≡ rule_cells r

-- as many places as rules, and each rule of the list begins at its place
abbrev pub Placed : List ℕ → List ℕ → List Rule → Type 0
Placed cells places rules = (length places ≡ length rules) × ((r : ℕ) → r < length rules → Begins cells (slice_index places r) (slice_index_or rules r no_rule))

-- the places of the rules, where these are found
abbrev pub PlacesFound : List ℕ → Option (List Rule) → Option (List ℕ) → Type 0
PlacesFound cells None None = Unit {0}
PlacesFound cells None (Some places) = ⊥
PlacesFound cells (Some rules) None = ⊥
PlacesFound cells (Some rules) (Some places) = Placed cells places rules
