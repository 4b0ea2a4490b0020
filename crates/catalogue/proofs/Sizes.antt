-- How long the text of a lawful catalogue is, and how many cells a lawful rule has.
use Rattle.std.proofs.Common.{◌≡◌, ℕ, ◌+◌, ◌*◌, ◌^◌, ◌<◌, ◌≤◌, Bool, true, false, ltb, List, [], ◌∷◌, map, length, codes, decimal, refl, ap, mul-le-mul, arith, length-append}
use lib.ListN.{length-map}
use Rattle.std.specs.List.{flat_map, AllByRecursion}
use Rattle.std.proofs.lemmas.Fmt.{length-decimal-le}
use Rattle.std.proofs.ByRecursion.{All-weaker}
use Rattle.std.proofs.lemmas.Bool.{and_parts, ltb-true}
use Rattle.std.proofs.lemmas.Bool.Decides.{nat_tests}
use Rattle.fields.specs.Texts.{spaced_text, numbers_text}
use Rattle.catalogue.specs.declared.model.Kind.{Kind}
use Rattle.catalogue.specs.declared.model.Kind.TheVariants.{Goes, Needs, Bars}
use Rattle.catalogue.specs.declared.model.Slot.{Slot}
use Rattle.catalogue.specs.Catalogues.{Rule, Catalogue}
use Rattle.catalogue.specs.Cells.{slot_cell, rule_cells, cells_of}
use Rattle.catalogue.specs.Headed.{head_text}
use Rattle.catalogue.specs.Lawful.{all, slot_lawful, kind_lawful, offered, row_lawful, rule_lawful, lawful}
use Rattle.catalogue.specs.Writing.{line, number_text, standing_word, kind_words, list_text, slot_text, slots_text, rows_text, rule_text, rules_text, text_of}
use Rattle.catalogue.proofs.CellLaws.{row_wide, rows_length}
use Rattle.catalogue.proofs.LawfulParts.{all_means, limits_few, row_few}
use Rattle.catalogue.proofs.TextPieces.{head_then_rules}

-- lines
line_length : (l rest : List ℕ) → length (line l rest) ≡ length l + 1 + length rest
line_length l rest = simp length-append (omega arith)

number_line_short : (key : List ℕ) (k n : ℕ) (rest : List ℕ) → 0 < k → n < 10 ^ k → n < 2 ^ 64
    → length (line (number_text key n) rest) ≤ length key + k + 2 + length rest
number_line_short key k n rest some below fits =
    omega (arith, length-decimal-le k n some below fits, length-append key (61 ∷ decimal n), line_length (number_text key n) rest)

two_digits : (n : ℕ) → n < 100 → length (decimal n) ≤ 2
two_digits n h = length-decimal-le 2 n (omega arith) h (omega arith)

-- numbers of at most two digits
abbrev Small : List ℕ → Type 0
Small ns = AllByRecursion (λ n. n < 100) ns

spaced_short : (ns : List ℕ) → Small ns → length (spaced_text ns) ≤ 3 * length ns
spaced_short [] h = omega arith
spaced_short (n ∷ ns) h = omega (arith, two_digits n h.0, spaced_short ns h.1, length-append (decimal n) (spaced_text ns))

numbers_short : (ns : List ℕ) → 1 ≤ length ns → Small ns → length (numbers_text ns) + 1 ≤ 3 * length ns
numbers_short [] some h = absurd (omega arith)
numbers_short (n ∷ ns) some h = omega (arith, spaced_short (n ∷ ns) h)

list_line_short : (key ns rest : List ℕ) → 1 ≤ length ns → Small ns
    → length (line (list_text key ns) rest) ≤ length key + 1 + 3 * length ns + length rest
list_line_short key ns rest some h =
    omega (arith, numbers_short ns some h, length-append key (61 ∷ numbers_text ns), line_length (list_text key ns) rest)

-- slots
standing_length : (b : Bool) → length (standing_word b) ≡ 8
standing_length true = refl
standing_length false = refl

slot_short : (s : Slot) → slot_lawful s ≡ true → length (slot_text s) ≤ 16
slot_short s h =
    let few : s.parts < 100 = grind (arith, nat_tests) in
    let word = standing_word s.standard in
    omega (arith, two_digits s.parts few, standing_length s.standard, length-append (decimal s.parts) (32 ∷ word))

slots_short : (ss : List Slot) (rest : List ℕ) → all slot_lawful ss ≡ true
    → length (slots_text ss rest) ≤ 17 * length ss + length rest
slots_short [] rest h = omega arith
slots_short (s ∷ ss) rest h =
    let b = and_parts (slot_lawful s) (all slot_lawful ss) h in
    omega (arith, slot_short s b.0, slots_short ss rest b.1, line_length (slot_text s) (slots_text ss rest))

used_small : (used : ℕ) → used ≤ 24 → (ns : List ℕ) → all (λ n. ltb n used) ns ≡ true → Small ns
used_small used few ns h = all_means (λ n. ltb n used) (λ n below. omega (arith, ltb-true n used below)) ns h

-- rules over the same lawful slots
module _ (slots : List Slot) (few : length slots ≤ 24) (offer : all slot_lawful slots ≡ true) where
  parts_small : (own row : List ℕ) → row_lawful (map (offered slots) own) row ≡ true → Small row
  parts_small own row h = All-weaker (λ n. n ≤ 15) (λ n. n < 100) (λ n most. omega arith) row (row_few (map (offered slots) own) row (limits_few slots offer own) h).0

  -- 4 bytes for each row and 3 for each of its parts, of which it has at least one
  rows_short : (own : List ℕ) → 1 ≤ length own → (rows : List (List ℕ)) (rest : List ℕ)
      → all (row_lawful (map (offered slots) own)) rows ≡ true
      → (length rows ≤ length (flat_map (λ row. row) rows))
      × (length (rows_text rows rest) ≤ 4 * length rows + 3 * length (flat_map (λ row. row) rows) + length rest)
  rows_short own some [] rest h = (omega arith, omega arith)
  rows_short own some (row ∷ rows) rest h =
      let limits = map (offered slots) own in
      let b = and_parts (row_lawful limits row) (all (row_lawful limits) rows) h in
      let wide : 1 ≤ length row = omega (arith, row_wide limits row b.0, length-map own (offered slots)) in
      let this = list_line_short (codes "row") row (rows_text rows rest) wide (parts_small own row b.0) in
      let others = rows_short own some rows rest b.1 in
      let cells = length-append row (flat_map (λ row. row) rows) in
      (omega arith, omega arith)

  kind_short : (k : Kind) → kind_lawful (length slots) k ≡ true → length (kind_words k) ≤ 8
  kind_short Goes h = omega arith
  kind_short (Needs t) h = omega (arith, two_digits t (omega (arith, ltb-true t (length slots) h)))
  kind_short (Bars t) h = omega (arith, two_digits t (omega (arith, ltb-true t (length slots) h)))

  rule_short : (r : Rule) (rest : List ℕ) → rule_lawful slots r ≡ true
      → (length r.rows + 4 ≤ length (rule_cells r))
      × (length (rule_text r rest) ≤ 4 * length r.rows + 3 * length (rule_cells r) + 14 + length rest)
  rule_short r rest h =
      let target : kind_lawful (length slots) r.kind ≡ true = grind (arith, nat_tests) in
      let some : 1 ≤ length r.slots = grind (arith, nat_tests) in
      let used : all (λ s. ltb s (length slots)) r.slots ≡ true = grind (arith, nat_tests) in
      let most : length r.rows ≤ 255 = grind (arith, nat_tests) in
      let each : all (row_lawful (map (offered slots) r.slots)) r.rows ≡ true = grind (arith, nat_tests) in
      let after-count = rows_text r.rows rest in
      let after-of = line (number_text (codes "rows") (length r.rows)) after-count in
      let after-kind = line (list_text (codes "of") r.slots) after-of in
      let cells = length-append r.slots (length r.rows ∷ flat_map (λ row. row) r.rows) in
      let rows = rows_short r.slots some r.rows rest each in (
        omega arith,
        omega (
          arith,
          kind_short r.kind target,
          line_length (kind_words r.kind) after-kind,
          list_line_short (codes "of") r.slots after-of some (used_small (length slots) few r.slots used),
          number_line_short (codes "rows") 3 (length r.rows) after-count (omega arith) (omega arith) (omega arith),
        ),
      )

  rules_short : (rs : List Rule) (rest : List ℕ) → all (rule_lawful slots) rs ≡ true
      → length (rules_text rs rest) ≤ 7 * length (flat_map rule_cells rs) + length rest
  rules_short [] rest h = omega arith
  rules_short (r ∷ rs) rest h =
      let b = and_parts (rule_lawful slots r) (all (rule_lawful slots) rs) h in
      omega (
        arith,
        rule_short r (rules_text rs rest) b.0,
        rules_short rs rest b.1,
        length-append (rule_cells r) (flat_map rule_cells rs),
      )

-- 17 bytes for each slot, and the lines of mark and counts
pub head_text_short : (mark : ℕ) (slots : List Slot) (rules : ℕ) → mark ≤ 65535 → length slots ≤ 24 → all slot_lawful slots ≡ true → rules ≤ 64
    → length (head_text mark slots rules) ≤ 17 * length slots + 29
head_text_short mark slots rules fits few offer most =
    let after_slots = line (number_text (codes "rules") rules) [] in
    let after-used = slots_text slots after_slots in
    let after-mark = line (number_text (codes "slots") (length slots)) after-used in
    omega (
      arith,
      number_line_short (codes "mark") 5 mark after-mark (omega arith) (omega arith) (omega arith),
      number_line_short (codes "slots") 2 (length slots) after-used (omega arith) (omega arith) (omega arith),
      slots_short slots after_slots offer,
      number_line_short (codes "rules") 2 rules [] (omega arith) (omega arith) (omega arith),
    )

-- 7 bytes for each cell, 10 more for each slot, and 8 more for the lines of mark and counts
pub text_short : (c : Catalogue) → lawful c ≡ true → length (text_of c) ≤ 7 * length (cells_of c) + 248
text_short c h =
    let mark : c.mark ≤ 65535 = grind (arith, nat_tests) in
    let few : length c.slots ≤ 24 = grind (arith, nat_tests) in
    let offer : all slot_lawful c.slots ≡ true = grind (arith, nat_tests) in
    let most : length c.rules ≤ 64 = grind (arith, nat_tests) in
    let each : all (rule_lawful c.slots) c.rules ≡ true = grind (arith, nat_tests) in
    omega (
      arith,
      ap length (head_then_rules c),
      length-append (head_text c.mark c.slots (length c.rules)) (rules_text c.rules []),
      head_text_short c.mark c.slots (length c.rules) mark few offer most,
      rules_short c.slots few offer c.rules [] each,
      length-append (map slot_cell c.slots) (length c.rules ∷ flat_map rule_cells c.rules),
      length-map c.slots slot_cell,
    )

pub text_fits : (c : Catalogue) → lawful c ≡ true → length (cells_of c) ≤ 8192 → length (text_of c) ≤ 65536
text_fits c h few = omega (arith, text_short c h)

pub rule_cells_few : (slots : List Slot) (r : Rule) → rule_lawful slots r ≡ true → length (rule_cells r) ≤ 1028
rule_cells_few slots r h =
    let limits = map (offered slots) r.slots in
    let narrow : length r.slots ≤ 4 = grind (arith, nat_tests) in
    let wide : length limits ≤ 4 = omega (arith, length-map r.slots (offered slots)) in
    let most : length r.rows ≤ 255 = grind (arith, nat_tests) in
    let each : all (row_lawful limits) r.rows ≡ true = grind (arith, nat_tests) in
    omega (
      arith,
      mul-le-mul most wide,
      rows_length limits r.rows each,
      length-append r.slots (length r.rows ∷ flat_map (λ row. row) r.rows),
    )

pub rule_text_short : (slots : List Slot) (r : Rule) → rule_lawful slots r ≡ true → length slots ≤ 24 → all slot_lawful slots ≡ true → length (rule_text r []) ≤ 5000
rule_text_short slots r h few offer =
    let most : length r.rows ≤ 255 = grind (arith, nat_tests) in
    let short = rule_short slots few offer r [] h in
    omega (arith, rule_cells_few slots r h)
