-- What each call answers, and what a lent buffer holds afterwards.
use Rattle.std.specs.Prelude.{ℕ, Bool, ◌&&◌, List, ◌++◌, length, drop, is_some, Ok, Err, Result, nat_le}
use Rattle.fields.specs.declared.fault.Fault.{Fault}
use Rattle.fields.specs.declared.fault.FaultKind.TheVariants.{TooManyCells, UnlawfulCells, TextDoesNotFit}
use Rattle.fields.specs.Faults.{fault}
use Rattle.fields.specs.Results.{then, found_or}
use Rattle.catalogue.specs.Cells.{cells_of, catalogue_of}
use Rattle.catalogue.specs.Reading.{asked, reading}
use Rattle.catalogue.specs.Writing.{text_of}

-- the cells that a text reads to, at most 8,192 and as many as are lent, or its fault
abbrev pub read_into : ℕ → List ℕ → Result (List ℕ) Fault
read_into room t = then (reading t) (λ c. asked TooManyCells 0 (nat_le (length (cells_of c)) 8192 && nat_le (length (cells_of c)) room) (cells_of c))

-- are cells lawful?
abbrev pub lawful_cells : List ℕ → Bool
lawful_cells cs = is_some (catalogue_of cs)

-- the text of lawful cells, where so many bytes are lent
abbrev pub write_into : ℕ → List ℕ → Result (List ℕ) Fault
write_into room cs = then (found_or (fault UnlawfulCells 0) (catalogue_of cs)) (λ c. asked TextDoesNotFit 0 (nat_le (length (text_of c)) room) (text_of c))

-- a result at the front of a lent buffer, which a refusal leaves
abbrev pub laid : Result (List ℕ) Fault → List ℕ → List ℕ
laid (Ok xs) old = xs ++ drop (length xs) old
laid (Err f) old = old
