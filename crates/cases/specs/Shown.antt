-- What the test programs print of a fault.
use Rattle.std.specs.Prelude.{ℕ, List, [], ◌++◌, codes, Some, None, Option}
use Rattle.fields.specs.declared.fault.Layer.{Layer}
use Rattle.fields.specs.Faults.{layer_of, fault_text}
use Rattle.cases.specs.declared.shown.Shown.{Shown}

abbrev none_part : Option Layer → List ℕ
none_part None = codes " layer=none"
none_part (Some l) = []

-- its text, and where no layer asked that too
abbrev pub shown_text : Shown → List ℕ
shown_text s = fault_text s.0 ++ none_part (layer_of s.0.kind)
