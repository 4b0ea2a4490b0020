-- A rule and a catalogue, from their parts.
use Rattle.std.proofs.Common.{◌≡◌, ℕ, true, eqb, List, [], ◌∷◌, ◌++◌, map, length, Ok, Err, codes, Result, sym, refl, ap, ◌∙◌, append_assoc, arith}
use Rattle.std.specs.List.{flat_map}
use Rattle.fields.specs.declared.fault.Fault.{Fault}
use Rattle.fields.specs.Lines.{Position, begun}
use Rattle.fields.specs.Results.{mapped_ok}
use Rattle.catalogue.specs.declared.model.Kind.{Kind}
use Rattle.catalogue.specs.declared.model.Slot.{Slot}
use Rattle.catalogue.specs.Catalogues.{Rule, Catalogue}
use Rattle.catalogue.specs.Cells.{slot_cell, kind_cell, target_cell, rule_cells, cells_of}
use Rattle.catalogue.specs.Lawful.{offered}
use Rattle.catalogue.specs.Reading.{kind_line, of_line, number_line, row_line, rows_lines, rule_lines, rules_lines, head_lines, reading}
use Rattle.catalogue.specs.declared.storing.Kept.{Kept}
use Rattle.catalogue.specs.Keeping.{kept, stored}
use Rattle.catalogue.specs.Storing.{rule_head, catalogue_head}
use Rattle.catalogue.proofs.Keeping.{kept_then}
use Rattle.catalogue.proofs.Turns.{stored_after, repeated_length}

abbrev rule_from : Kind → List ℕ → List (List ℕ) → Rule
rule_from k slots rows = record { kind = k; slots = slots; rows = rows }

-- a rule's lines, once its rows are due
module _ {N : ℕ} (used : List Slot) (old : Kept N) (p p1 p2 p3 : Position) (k : Kind) (slots : List ℕ) (n : ℕ)
    (kinds : Ok (k, p1) ≡ kind_line (length used) p) (ofs : Ok (slots, p2) ≡ of_line (length used) k p1) (counts : Ok (n, p3) ≡ number_line (codes "rows") 0 255 p2) where
  pub rule_stored : mapped_ok (stored (flat_map (λ row. row)) (kept old (rule_head k slots n))) (rows_lines n (map (offered used) slots) p3) ≡ mapped_ok (stored rule_cells old) (rule_lines used p)
  rule_stored =
      stored_after old (rule_head k slots n) (flat_map (λ row. row)) rule_cells (rule_from k slots) (rows_lines n (map (offered used) slots) p3)
      (λ x e. let m = repeated_length (row_line (map (offered used) slots)) n p3 x e in
      rw (← m) (ap (λ (cs : List ℕ). kind_cell k ∷ target_cell k ∷ length slots ∷ cs) (append_assoc slots (length x.0 ∷ []) (flat_map (λ row. row) x.0))))
      ∙ rw (← kinds, ← ofs, ← counts)

-- a text, once its rules are read and stored
module _ {N : ℕ} (t : List ℕ) (old new : Kept N) (mark n : ℕ) (slots : List Slot) (p p1 p2 : Position)
    (start : Ok p ≡ begun t) (heads : Ok ((mark, slots, n), p1) ≡ head_lines p)
    (rules : Ok (new, p2) ≡ mapped_ok (stored (flat_map rule_cells) (kept old (catalogue_head mark slots n))) (rules_lines n slots p1))
    (over-now : true ≡ eqb (length p2.text) 0) where
  from_rules : (rs : List Rule × Position) → rules_lines n slots p1 ≡ Ok rs → (new, p2) ≡ stored (flat_map rule_cells) (kept old (catalogue_head mark slots n)) rs
      → Ok new ≡ mapped_ok (λ c. kept old (cells_of c)) (reading t)
  from_rules rs is same =
      let whole : Catalogue = record { mark = mark; slots = slots; rules = rs.0 } in
      let many = repeated_length (rule_lines slots) n p1 rs is in
      let joins : catalogue_head mark slots n ++ flat_map rule_cells rs.0 ≡ cells_of whole =
      rw (← many) (ap (λ (cs : List ℕ). mark ∷ length slots ∷ cs) (append_assoc (map slot_cell slots) (length rs.0 ∷ []) (flat_map rule_cells rs.0))) in
      let done : eqb (length rs.1.text) 0 ≡ true = sym (over-now ∙ ap (λ (y : Kept N × Position). eqb (length y.1.text) 0) same) in
      let cells : new ≡ kept old (cells_of whole) =
      ap (λ (y : Kept N × Position). y.0) same ∙ kept_then old (catalogue_head mark slots n) (flat_map rule_cells rs.0) ∙ ap (kept old) joins in
      rw (← start, ← heads, is, done, cells)

  pub text_stored : Ok new ≡ mapped_ok (λ c. kept old (cells_of c)) (reading t)
  text_stored = go (rules_lines n slots p1) refl rules
    where
      go : (r : Result (List Rule × Position) Fault) → rules_lines n slots p1 ≡ r → Ok (new, p2) ≡ mapped_ok (stored (flat_map rule_cells) (kept old (catalogue_head mark slots n))) r
          → Ok new ≡ mapped_ok (λ c. kept old (cells_of c)) (reading t)
      go (Ok rs) is e = from_rules rs is (cc)
      go (Err f) is e = let z : ◌≡◌ {A = ℕ} 0 1 = cc in absurd (omega arith)
