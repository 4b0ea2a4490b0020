-- What a catalogue says.
use Rattle.std.specs.Prelude.{ℕ, List}
use Rattle.catalogue.specs.declared.model.Kind.{Kind}
use Rattle.catalogue.specs.declared.model.Slot.{Slot}

-- a rule: its kind, the slots that it looks at, and rows of parts for these
pub record Rule : Type 0 where
  pub kind : Kind
  pub slots : List ℕ
  pub rows : List (List ℕ)

-- a catalogue: its mark, the used slots from slot 0 on, and the rules from rule 0 on
pub record Catalogue : Type 0 where
  pub mark : ℕ
  pub slots : List Slot
  pub rules : List Rule
