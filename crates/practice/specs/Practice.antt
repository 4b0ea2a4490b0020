-- The practice catalogue: its text, its cells, and what the definitions say of them.
use Rattle.std.specs.Prelude.{◌≡◌, ℕ, true, false, List, [], ◌∷◌, length, replicate, Ok, codes}
use Rattle.catalogue.specs.declared.model.Slot.{Slot}
use Rattle.catalogue.specs.Catalogues.{Rule}
use Rattle.catalogue.specs.Cells.{catalogue_of}
use Rattle.catalogue.specs.Outcomes.{read_into, write_into}
use Rattle.catalogue.specs.Writing.{line}
use Rattle.kits.specs.declared.choices.Choice.TheVariants.{Free}
use Rattle.kits.specs.Boxes.{volume}
use Rattle.kits.specs.Kits.{Kit, Minimal}
use Rattle.forms.specs.Opening.{opening_box}
use Rattle.forms.specs.Said.{slots_or}
use Rattle.rule_books.specs.Tables.{table_rules, table_allows}

abbrev pub practice_text : List ℕ
practice_text =
    line (codes "mark=7") (line (codes "slots=3")
    (line (codes "slot=2 standard") (line (codes "slot=2 standard") (line (codes "slot=2 optional")
    (line (codes "rules=4")
    (line (codes "rule=goes") (line (codes "of=0 1") (line (codes "rows=3") (line (codes "row=1 1") (line (codes "row=2 1") (line (codes "row=2 2")
    (line (codes "rule=needs 2") (line (codes "of=0") (line (codes "rows=1") (line (codes "row=1")
    (line (codes "rule=bars 2") (line (codes "of=1") (line (codes "rows=1") (line (codes "row=2")
    (line (codes "rule=goes") (line (codes "of=1 2") (line (codes "rows=1") (line (codes "row=1 2") [])))))))))))))))))))))))

abbrev rule_0 : List ℕ → List ℕ
rule_0 rest = 0 ∷ 0 ∷ 2 ∷ 0 ∷ 1 ∷ 3 ∷ 1 ∷ 1 ∷ 2 ∷ 1 ∷ 2 ∷ 2 ∷ rest

abbrev rules_1_2 : List ℕ → List ℕ
rules_1_2 rest = 1 ∷ 2 ∷ 1 ∷ 0 ∷ 1 ∷ 1 ∷ 2 ∷ 2 ∷ 1 ∷ 1 ∷ 1 ∷ 2 ∷ rest

abbrev rule_3 : List ℕ
rule_3 = 0 ∷ 0 ∷ 2 ∷ 1 ∷ 2 ∷ 1 ∷ 1 ∷ 2 ∷ []

abbrev pub practice_cells : List ℕ
practice_cells = 7 ∷ 3 ∷ 258 ∷ 258 ∷ 2 ∷ 4 ∷ rule_0 (rules_1_2 rule_3)

abbrev pub practice_rules : List Rule
practice_rules = table_rules practice_cells

abbrev pub practice_slots : List Slot
practice_slots = slots_or (catalogue_of practice_cells) []

-- the opening box without choices
abbrev pub practice_box : List ℕ
practice_box = opening_box practice_slots (replicate 24 Free)

-- the filling with these numbers in the three used slots
abbrev pub filling : ℕ → ℕ → ℕ → List ℕ
filling a b c = a ∷ b ∷ c ∷ replicate 21 0

abbrev pub all_four : List ℕ
all_four = 0 ∷ 1 ∷ 2 ∷ 3 ∷ []

pub record PracticeFacts : Type 0 where
  -- the text has 212 bytes and reads to its 38 cells
  pub bytes : length practice_text ≡ 212
  pub cells : length practice_cells ≡ 38
  pub reads : read_into 38 practice_text ≡ Ok practice_cells
  -- and these are written as that text
  pub writes : write_into 212 practice_cells ≡ Ok practice_text

-- what the definitions say of its rules and kits
pub record RuleFacts : Type 0 where
  -- rule 0: parts 1 and 1 go, 1 and 2 do not, and an empty slot goes with any part
  pub goes : table_allows practice_rules 0 (filling 1 1 0) ≡ true
  pub goes_not : table_allows practice_rules 0 (filling 1 2 0) ≡ false
  pub goes_empty : table_allows practice_rules 0 (filling 0 2 0) ≡ true
  -- rule 1: part 1 in slot 0 needs slot 2 filled, and part 2 does not
  pub needs : table_allows practice_rules 1 (filling 2 1 0) ≡ true
  pub needs_not : table_allows practice_rules 1 (filling 1 1 0) ≡ false
  -- rule 2: part 2 in slot 1 bars slot 2
  pub bars_not : table_allows practice_rules 2 (filling 2 2 1) ≡ false
  -- with all four rules two fillings are kits, and the first is not minimal, since the second comes of it
  pub kit : Kit (table_allows practice_rules) all_four practice_box (filling 2 1 2)
  pub smaller : Kit (table_allows practice_rules) all_four practice_box (filling 2 1 0)
  pub not_minimal : Minimal (table_allows practice_rules) all_four practice_box (filling 2 1 2) → ⊥
  -- without choices there are twelve fillings
  pub fillings : volume practice_box ≡ 12
