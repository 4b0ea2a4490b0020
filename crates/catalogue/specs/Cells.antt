-- A catalogue as cells, and the catalogue that cells say.
use Rattle.std.specs.Prelude.{ℕ, zero, suc, ◌+◌, ◌-◌, ◌*◌, true, false, cond, ◌&&◌, List, [], ◌∷◌, ◌++◌, map, length, take, drop, Some, None, Option, ◌==◌, nat_le}
use Rattle.std.specs.Option.{option_map}
use Rattle.std.specs.List.{flat_map}
use Rattle.fields.specs.Results.{and_then}
use Rattle.catalogue.specs.declared.model.Kind.{Kind}
use Rattle.catalogue.specs.declared.model.Kind.TheVariants.{Goes, Needs, Bars}
use Rattle.catalogue.specs.declared.model.Slot.{Slot}
use Rattle.catalogue.specs.Catalogues.{Rule, Catalogue}
use Rattle.catalogue.specs.Lawful.{head_lawful, rule_lawful}

-- a slot's part count, plus 256 where the slot is standard
abbrev pub slot_cell : Slot → ℕ
slot_cell s = cond s.standard (s.parts + 256) s.parts

abbrev pub kind_cell : Kind → ℕ
kind_cell Goes = 0
kind_cell (Needs t) = 1
kind_cell (Bars t) = 2

-- t, or 0 where the kind has none
abbrev pub target_cell : Kind → ℕ
target_cell Goes = 0
target_cell (Needs t) = t
target_cell (Bars t) = t

-- kind, t, slot count, slots, row count, rows
abbrev pub rule_cells : Rule → List ℕ
rule_cells r = kind_cell r.kind ∷ target_cell r.kind ∷ length r.slots ∷ (r.slots ++ (length r.rows ∷ flat_map (λ row. row) r.rows))

-- mark, used slots, slots, rule count, rules
abbrev pub cells_of : Catalogue → List ℕ
cells_of c = c.mark ∷ length c.slots ∷ (map slot_cell c.slots ++ (length c.rules ∷ flat_map rule_cells c.rules))

-- the slot of a cell
abbrev pub slot_of : ℕ → Option Slot
slot_of c = cond (nat_le 1 c && nat_le c 15) (Some (record { parts = c; standard = false })) (cond (nat_le 257 c && nat_le c 271) (Some (record { parts = c - 256; standard = true })) None)

abbrev pub slot_first : Slot → Option (List Slot × List ℕ) → Option (List Slot × List ℕ)
slot_first s o = option_map (λ p. (s ∷ p.0, p.1)) o

-- the slots of n cells, and the cells after them
abbrev pub slots_of : ℕ → List ℕ → Option (List Slot × List ℕ)
slots_of zero cs = Some ([], cs)
slots_of (suc n) [] = None
slots_of (suc n) (c ∷ cs) = and_then (slot_of c) (λ s. slot_first s (slots_of n cs))

abbrev pub kind_of : ℕ → ℕ → Option Kind
kind_of k t = cond (k == 0) (cond (t == 0) (Some Goes) None) (cond (k == 1) (Some (Needs t)) (cond (k == 2) (Some (Bars t)) None))

-- the first n cells, and those after them
abbrev pub cut_cells : ℕ → List ℕ → Option (List ℕ × List ℕ)
cut_cells n cs = cond (nat_le n (length cs)) (Some (take n cs, drop n cs)) None

-- a count, and the cells after it
abbrev pub counted : List ℕ → Option (ℕ × List ℕ)
counted [] = None
counted (c ∷ cs) = Some (c, cs)

-- the first n rows of so many cells each
abbrev pub rows_of : ℕ → ℕ → List ℕ → List (List ℕ)
rows_of zero wide cs = []
rows_of (suc n) wide cs = take wide cs ∷ rows_of n wide (drop wide cs)

-- the rule that begins cells, lawful or not, and the cells after it
abbrev pub rule_begun : List ℕ → Option (Rule × List ℕ)
rule_begun [] = None
rule_begun (kind ∷ []) = None
rule_begun (kind ∷ t ∷ []) = None
rule_begun (kind ∷ t ∷ arity ∷ cs) =
    and_then (kind_of kind t) (λ k.
    and_then (cut_cells arity cs) (λ own.
    and_then (counted own.1) (λ n.
    option_map (λ rows. (record { kind = k; slots = own.0; rows = rows_of n.0 arity rows.0 }, rows.1)) (cut_cells (n.0 * arity) n.1))))

abbrev pub lawful_rule : List Slot → Rule → List ℕ → Option (Rule × List ℕ)
lawful_rule slots r cs = cond (rule_lawful slots r) (Some (r, cs)) None

-- the lawful rule that begins cells, and the cells after it
abbrev pub rule_of : List Slot → List ℕ → Option (Rule × List ℕ)
rule_of slots [] = None
rule_of slots (kind ∷ []) = None
rule_of slots (kind ∷ t ∷ []) = None
rule_of slots (kind ∷ t ∷ arity ∷ cs) =
    and_then (kind_of kind t) (λ k.
    and_then (cut_cells arity cs) (λ own.
    and_then (counted own.1) (λ n.
    and_then (cut_cells (n.0 * arity) n.1) (λ rows.
    lawful_rule slots (record { kind = k; slots = own.0; rows = rows_of n.0 arity rows.0 }) rows.1))))

-- n lawful rules that are all the cells
abbrev pub rules_of : ℕ → List Slot → List ℕ → Option (List Rule)
rules_of zero slots cs = cond (length cs == 0) (Some []) None
rules_of (suc n) slots cs = and_then (rule_of slots cs) (λ p. option_map (λ rs. p.0 ∷ rs) (rules_of n slots p.1))

abbrev pub lawful_head : List ℕ → Catalogue → Option Catalogue
lawful_head cs c = cond (nat_le (length cs) 8192 && head_lawful c) (Some c) None

-- the lawful catalogue that at most 8,192 cells say
abbrev pub catalogue_of : List ℕ → Option Catalogue
catalogue_of [] = None
catalogue_of (mark ∷ []) = None
catalogue_of (mark ∷ used ∷ cs) =
    and_then (slots_of used cs) (λ s.
    and_then (counted s.1) (λ n.
    and_then (rules_of n.0 s.0 n.1) (λ rs.
    lawful_head (mark ∷ used ∷ cs) (record { mark = mark; slots = s.0; rules = rs }))))
