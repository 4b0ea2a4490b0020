-- The text of a catalogue.
use Rattle.std.specs.Prelude.{ℕ, Bool, cond, List, [], ◌∷◌, ◌++◌, length, codes, decimal}
use Rattle.fields.specs.Texts.{numbers_text, keyed_text}
use Rattle.catalogue.specs.declared.model.Kind.{Kind}
use Rattle.catalogue.specs.declared.model.Kind.TheVariants.{Goes, Needs, Bars}
use Rattle.catalogue.specs.declared.model.Slot.{Slot}
use Rattle.catalogue.specs.Catalogues.{Rule, Catalogue}

-- a line, its end, and what follows
abbrev pub line : List ℕ → List ℕ → List ℕ
line l rest = l ++ (10 ∷ rest)

-- key=number
abbrev pub number_text : List ℕ → ℕ → List ℕ
number_text key n = keyed_text key (decimal n)

abbrev pub standing_word : Bool → List ℕ
standing_word standard = cond standard (codes "standard") (codes "optional")

-- slot=parts standard, slot=parts optional
abbrev pub slot_text : Slot → List ℕ
slot_text s = keyed_text (codes "slot") (decimal s.parts ++ (32 ∷ standing_word s.standard))

abbrev pub kind_words : Kind → List ℕ
kind_words Goes = codes "goes"
kind_words (Needs t) = codes "needs" ++ (32 ∷ decimal t)
kind_words (Bars t) = codes "bars" ++ (32 ∷ decimal t)

-- of=slots, row=parts
abbrev pub list_text : List ℕ → List ℕ → List ℕ
list_text key ns = keyed_text key (numbers_text ns)

abbrev pub slots_text : List Slot → List ℕ → List ℕ
slots_text [] rest = rest
slots_text (s ∷ ss) rest = line (slot_text s) (slots_text ss rest)

abbrev pub rows_text : List (List ℕ) → List ℕ → List ℕ
rows_text [] rest = rest
rows_text (row ∷ rows) rest = line (list_text (codes "row") row) (rows_text rows rest)

abbrev pub rule_text : Rule → List ℕ → List ℕ
rule_text r rest =
    line (keyed_text (codes "rule") (kind_words r.kind))
    (line (list_text (codes "of") r.slots)
    (line (number_text (codes "rows") (length r.rows))
    (rows_text r.rows rest)))

abbrev pub rules_text : List Rule → List ℕ → List ℕ
rules_text [] rest = rest
rules_text (r ∷ rs) rest = rule_text r (rules_text rs rest)

abbrev pub text_of : Catalogue → List ℕ
text_of c =
    line (number_text (codes "mark") c.mark)
    (line (number_text (codes "slots") (length c.slots))
    (slots_text c.slots
    (line (number_text (codes "rules") (length c.rules))
    (rules_text c.rules []))))
