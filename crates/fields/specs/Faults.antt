-- Faults: their numbers, layers and texts.
use Rattle.std.specs.Prelude.{ℕ, List, [], ◌++◌, codes, decimal, Some, None, Option}
use Rattle.fields.specs.declared.fault.Fault.{Fault}
use Rattle.fields.specs.declared.fault.FaultKind.{FaultKind}
use Rattle.fields.specs.declared.fault.FaultKind.TheVariants.{TextTooLong, LineMissing, LineTooLong, WrongKey, WrongForm, OutOfRange, SlotsNotRising, TargetAmongSlots, NoStandardSlot, TextAfterEnd, TooManyCells, UnlawfulCells, TextDoesNotFit}
use Rattle.fields.specs.declared.fault.Layer.{Layer}
use Rattle.fields.specs.declared.fault.Layer.TheVariants.{Line, Field, Catalogue}
use Rattle.fields.specs.declared.fault.Source.{Source}

-- the number of each fault
abbrev pub number_of : FaultKind → ℕ
number_of TextTooLong = 1
number_of LineMissing = 2
number_of LineTooLong = 3
number_of WrongKey = 4
number_of WrongForm = 5
number_of OutOfRange = 6
number_of SlotsNotRising = 7
number_of TargetAmongSlots = 8
number_of NoStandardSlot = 9
number_of TextAfterEnd = 10
number_of TooManyCells = 11
number_of UnlawfulCells = 12
number_of TextDoesNotFit = 13

-- the layer that asks each question
abbrev pub layer_of : FaultKind → Option Layer
layer_of TextTooLong = Some Line
layer_of LineMissing = Some Line
layer_of LineTooLong = Some Line
layer_of WrongKey = Some Field
layer_of WrongForm = Some Field
layer_of OutOfRange = Some Catalogue
layer_of SlotsNotRising = Some Catalogue
layer_of TargetAmongSlots = Some Catalogue
layer_of NoStandardSlot = Some Catalogue
layer_of TextAfterEnd = Some Catalogue
layer_of TooManyCells = Some Catalogue
layer_of UnlawfulCells = None
layer_of TextDoesNotFit = None

abbrev of_layer : Option Layer → Option Source
of_layer None = None
of_layer (Some l) = Some Source.Catalogue

-- the text that each fault is about
abbrev pub source_of : FaultKind → Option Source
source_of k = of_layer (layer_of k)

abbrev pub fault : FaultKind → ℕ → Fault
fault k n = record { kind = k; line = n }

-- what a layer is called
abbrev pub layer_name : Layer → List ℕ
layer_name Line = codes "line"
layer_name Field = codes "field"
layer_name Catalogue = codes "catalogue"

abbrev layer_part : Option Layer → List ℕ
layer_part None = []
layer_part (Some l) = codes " layer=" ++ layer_name l

-- line=L code=C, and layer=NAME where a layer asked
abbrev pub fault_text : Fault → List ℕ
fault_text f = codes "line=" ++ decimal f.line ++ codes " code=" ++ decimal (number_of f.kind) ++ layer_part (layer_of f.kind)
