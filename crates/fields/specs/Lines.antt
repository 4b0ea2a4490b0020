-- Lines of a text, in turn.
use Rattle.std.specs.Prelude.{ℕ, ◌+◌, cond, List, [], ◌∷◌, length, Some, None, Ok, Err, Option, Result, ◌==◌, nat_le}
use Rattle.fields.specs.declared.fault.Fault.{Fault}
use Rattle.fields.specs.declared.fault.FaultKind.TheVariants.{TextTooLong, LineMissing, LineTooLong, WrongKey}
use Rattle.fields.specs.Faults.{fault}
use Rattle.fields.specs.Results.{then, mapped_ok, found_or}
use Rattle.fields.specs.Words.{value_of}

-- a place in a text at the start of a line: its number, from 1, and the bytes from there on
pub record Position : Type 0 where
  pub line : ℕ
  pub text : List ℕ

abbrev pub position : ℕ → List ℕ → Position
position k t = record { line = k; text = t }

-- the start of a text of at most 65,536 bytes
abbrev pub begun : List ℕ → Result Position Fault
begun t = cond (nat_le (length t) 65536) (Ok (position 1 t)) (Err (fault TextTooLong 0))

abbrev pub longer : ℕ → Option (List ℕ × List ℕ) → Option (List ℕ × List ℕ)
longer c None = None
longer c (Some p) = Some (c ∷ p.0, p.1)

-- the bytes before the first byte 10, and those after it
abbrev pub cut_line : List ℕ → Option (List ℕ × List ℕ)
cut_line [] = None
cut_line (c ∷ cs) = cond (c == 10) (Some ([], cs)) (longer c (cut_line cs))

-- a line of at most 80 bytes, and the place after it
abbrev pub measured : ℕ → List ℕ × List ℕ → Result (List ℕ × Position) Fault
measured k p = cond (nat_le (length p.0) 80) (Ok (p.0, position (k + 1) p.1)) (Err (fault LineTooLong k))

-- the line that begins at a place, and the place after it
abbrev pub next_line : Position → Result (List ℕ × Position) Fault
next_line p = then (found_or (fault LineMissing p.line) (cut_line p.text)) (measured p.line)

-- what follows the due key and "=" in the line, and the place after it
abbrev pub keyed_line : List ℕ → Position → Result (List ℕ × Position) Fault
keyed_line key p = then (next_line p) (λ l. mapped_ok (λ v. (v, l.1)) (found_or (fault WrongKey p.line) (value_of l.0 key)))
