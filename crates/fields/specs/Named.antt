-- The line that a fault names, in the text that the fault is about.
use Rattle.std.specs.Prelude.{ℕ, ◌+◌, ◌-◌, List, length, take, drop, Option}
use Rattle.std.specs.Borrow.{Bor}
use Rattle.std.specs.Option.{option_map}
use Rattle.fields.specs.declared.fault.Fault.{Fault}
use Rattle.fields.specs.declared.fault.Source.{Source}
use Rattle.fields.specs.declared.fault.Source.TheVariants.{Catalogue, Orders}
use Rattle.fields.specs.Faults.{source_of}
use Rattle.fields.specs.Results.{and_then}
use Rattle.fields.specs.TextLines.{lines, line_at, line_start}

-- the catalogue's or the orders'
abbrev pub of_source : {A : Type 0} → Source → A → A → A
of_source Catalogue c o = c
of_source Orders c o = o

-- from where to where line n of a text lies
abbrev pub line_place : ℕ → List ℕ → Option (ℕ × ℕ)
line_place n t = option_map (λ l. (line_start n (lines t), line_start n (lines t) + length l.bytes)) (line_at n (lines t))

-- what lies from one place to another
abbrev pub part : List ℕ → ℕ × ℕ → List ℕ
part t p = take (p.1 - p.0) (drop p.0 t)

-- the bytes of the line that a fault names
abbrev pub named_bytes : Fault → List ℕ → List ℕ → Option (List ℕ)
named_bytes f c o = and_then (source_of f.kind) (λ s. option_map (λ l. l.bytes) (line_at f.line (lines (of_source s c o))))

abbrev place_in : ℕ → Bor (List ℕ) → Option (ℕ × ℕ)
place_in n t = option_map (λ p. (t.ref_ptr.0, t.ref_ptr.1 + p.0)) (line_place n t.now)

-- where the line that a fault names begins, in one of two lent texts
abbrev pub named_place : Fault → Bor (List ℕ) → Bor (List ℕ) → Option (ℕ × ℕ)
named_place f c o = and_then (source_of f.kind) (λ s. place_in f.line (of_source s c o))
