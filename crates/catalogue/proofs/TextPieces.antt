-- The text of a catalogue in the pieces that are written one after another.
use Rattle.std.proofs.Common.{◌≡◌, ℕ, zero, suc, ◌+◌, ◌-◌, ◌*◌, ◌<◌, List, [], ◌∷◌, ◌++◌, length, get_or, take, drop, codes, sym, refl, ap, ◌∙◌, append_assoc, suc-mul, arith}
use Rattle.std.proofs.lemmas.List.{at_drop_more}
use Rattle.fields.specs.Texts.{keyed_text}
use Rattle.fields.proofs.Views.{rest}
use Rattle.catalogue.specs.declared.model.Slot.{Slot}
use Rattle.catalogue.specs.Catalogues.{Rule, Catalogue}
use Rattle.catalogue.specs.Cells.{rows_of}
use Rattle.catalogue.specs.Headed.{head_text}
use Rattle.catalogue.specs.Writing.{line, number_text, slot_text, kind_words, list_text, slots_text, rows_text, rule_text, rules_text, text_of}

-- what follows a text
line_onto : (l x rest : List ℕ) {y : List ℕ} → y ≡ x ++ rest → line l y ≡ line l x ++ rest
line_onto l x rest e = ap (λ z. line l z) e ∙ sym (append_assoc l (10 ∷ x) rest)

pub line_rest : (l rest : List ℕ) → line l rest ≡ line l [] ++ rest
line_rest l rest = line_onto l [] rest refl

slots_onto : (slots : List Slot) (x rest : List ℕ) {y : List ℕ} → y ≡ x ++ rest → slots_text slots y ≡ slots_text slots x ++ rest
slots_onto [] x rest e = e
slots_onto (s ∷ slots) x rest e = line_onto (slot_text s) (slots_text slots x) rest (slots_onto slots x rest e)

rows_onto : (rows : List (List ℕ)) (rest : List ℕ) → rows_text rows rest ≡ rows_text rows [] ++ rest
rows_onto [] rest = refl
rows_onto (row ∷ rows) rest = line_onto (list_text (codes "row") row) (rows_text rows []) rest (rows_onto rows rest)

-- what a loop writes next
pub slots_next : (xs : List Slot) (i : ℕ) (d : Slot) → i < length xs → slots_text (drop i xs) [] ≡ line (slot_text (get_or xs i d)) [] ++ slots_text (drop (i + 1) xs) []
slots_next xs i d h = at_drop_more (λ ss. slots_text ss []) xs i d h ∙ line_rest (slot_text (get_or xs i d)) (slots_text (drop (i + 1) xs) [])

pub rows_next : (n wide : ℕ) (cs : List ℕ) → 0 < n → rows_text (rows_of n wide cs) [] ≡ line (list_text (codes "row") (take wide cs)) [] ++ rows_text (rows_of (n - 1) wide (drop wide cs)) []
rows_next zero wide cs h = absurd (omega arith)
rows_next (suc n) wide cs h =
    let e : suc n - 1 ≡ n = omega arith in
    rw e (line_rest (list_text (codes "row") (take wide cs)) (rows_text (rows_of n wide (drop wide cs)) []))

-- the cells of one row and those of the others
pub row_cells : (n wide : ℕ) → 0 < n → n * wide ≡ wide + (n - 1) * wide
row_cells zero wide h = absurd (omega arith)
row_cells (suc n) wide h = let e : suc n - 1 ≡ n = omega arith in rw e (omega (arith, suc-mul n wide))

-- the pieces that are written one after another
pub rule_pieces : (r : Rule) → rule_text r []
    ≡ line (keyed_text (codes "rule") (kind_words r.kind)) []
    ++ (line (list_text (codes "of") r.slots) [] ++ (line (number_text (codes "rows") (length r.rows)) [] ++ rows_text r.rows []))
rule_pieces r =
    let rows = rows_text r.rows [] in
    let kind = keyed_text (codes "rule") (kind_words r.kind) in
    let own = list_text (codes "of") r.slots in
    let count = number_text (codes "rows") (length r.rows) in
    line_rest kind (line own (line count rows)) ∙ ap (λ x. line kind [] ++ x) (line_rest own (line count rows) ∙ ap (λ x. line own [] ++ x) (line_rest count rows))

pub head_pieces : (mark : ℕ) (slots : List Slot) (rules : ℕ) → head_text mark slots rules
    ≡ line (number_text (codes "mark") mark) []
    ++ (line (number_text (codes "slots") (length slots)) [] ++ (slots_text slots [] ++ line (number_text (codes "rules") rules) []))
head_pieces mark slots rules =
    let count = line (number_text (codes "rules") rules) [] in
    let first = number_text (codes "mark") mark in
    let used = number_text (codes "slots") (length slots) in
    line_rest first (line used (slots_text slots count)) ∙ ap (λ x. line first [] ++ x) (line_rest used (slots_text slots count) ∙ ap (λ x. line used [] ++ x) (slots_onto slots [] count refl))

-- a rule and what follows it
pub rule_then_rest : (r : Rule) (rest : List ℕ) → rule_text r rest ≡ rule_text r [] ++ rest
rule_then_rest r rest =
    let rows = rows_text r.rows [] in
    let count = line (number_text (codes "rows") (length r.rows)) rows in
    line_onto (keyed_text (codes "rule") (kind_words r.kind)) (line (list_text (codes "of") r.slots) count) rest
    (line_onto (list_text (codes "of") r.slots) count rest
    (line_onto (number_text (codes "rows") (length r.rows)) rows rest (rows_onto r.rows rest)))

-- a catalogue's head and its rules
pub head_then_rules : (c : Catalogue) → text_of c ≡ head_text c.mark c.slots (length c.rules) ++ rules_text c.rules []
head_then_rules c =
    let rules = rules_text c.rules [] in
    let count = line (number_text (codes "rules") (length c.rules)) [] in
    let slots = slots_text c.slots count in
    line_onto (number_text (codes "mark") c.mark) (line (number_text (codes "slots") (length c.slots)) slots) rules
    (line_onto (number_text (codes "slots") (length c.slots)) slots rules
    (slots_onto c.slots count rules
    (line_onto (number_text (codes "rules") (length c.rules)) [] rules refl)))
