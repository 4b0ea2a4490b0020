-- The lines of a text, the last of them ended or not.
use Rattle.std.specs.Prelude.{◌≡◌, ℕ, zero, suc, ◌+◌, Bool, true, false, cond, List, [], ◌∷◌, length, Some, None, Option, ◌==◌}
use Rattle.fields.specs.Lines.{cut_line}

-- a line: its bytes without its end, and whether byte 10 ends it
pub record Line : Type 0 where
  pub bytes : List ℕ
  pub ended : Bool

abbrev pub line : List ℕ → Bool → Line
line bs e = record { bytes = bs; ended = e }

-- one more byte at the front of the first line
abbrev pub byte_first : ℕ → List Line → List Line
byte_first c [] = line (c ∷ []) false ∷ []
byte_first c (l ∷ ls) = line (c ∷ l.bytes) l.ended ∷ ls

-- a rest of the text that is not ended is one more line, and after the last byte 10 there is none
abbrev pub lines : List ℕ → List Line
lines [] = []
lines (c ∷ cs) = cond (c == 10) (line [] true ∷ lines cs) (byte_first c (lines cs))

abbrev pub cut_or_all : List ℕ → Option (List ℕ × List ℕ) → Line × List ℕ
cut_or_all t None = (line t false, [])
cut_or_all t (Some p) = (line p.0 true, p.1)

-- the first line and the text after it, if the text has any bytes
abbrev pub first_line : List ℕ → Option (Line × List ℕ)
first_line t = cond (length t == 0) None (Some (cut_or_all t (cut_line t)))

abbrev pub lines_from : Option (Line × List ℕ) → List Line
lines_from None = []
lines_from (Some p) = p.0 ∷ lines p.1

-- the lines of a text are its first and those of the text after it
abbrev pub LinesInTurn : Type 0
LinesInTurn = (t : List ℕ) → lines t ≡ lines_from (first_line t)

-- line n, from 1
abbrev pub line_at : ℕ → List Line → Option Line
line_at n [] = None
line_at zero (l ∷ ls) = None
line_at (suc zero) (l ∷ ls) = Some l
line_at (suc (suc n)) (l ∷ ls) = line_at (suc n) ls

-- how many bytes stand before line n
abbrev pub line_start : ℕ → List Line → ℕ
line_start n [] = 0
line_start zero (l ∷ ls) = 0
line_start (suc zero) (l ∷ ls) = 0
line_start (suc (suc n)) (l ∷ ls) = length l.bytes + 1 + line_start (suc n) ls
