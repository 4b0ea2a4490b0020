-- The text of a catalogue before its rules.
use Rattle.std.specs.Prelude.{ℕ, List, [], length, codes}
use Rattle.catalogue.specs.declared.model.Slot.{Slot}
use Rattle.catalogue.specs.Writing.{line, number_text, slots_text}

-- its mark, its slots, and how many rules come
abbrev pub head_text : ℕ → List Slot → ℕ → List ℕ
head_text mark slots rules =
    line (number_text (codes "mark") mark)
    (line (number_text (codes "slots") (length slots))
    (slots_text slots
    (line (number_text (codes "rules") rules) [])))
