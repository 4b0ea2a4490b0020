-- What the values of a program stand for.
use Rattle.std.specs.Prelude.{ℕ, List, take}
use Rattle.fields.specs.declared.numbers.Numbers.{Numbers}
use Rattle.fields.specs.declared.reader.Reader.{Reader}
use Rattle.fields.specs.declared.text_line.TextLine.{TextLine}
use Rattle.fields.specs.Lines.{Position, position}
use Rattle.fields.specs.TextLines.{Line, line}

-- where a reader stands
abbrev pub place_of : Reader → Position
place_of r = position r.line r.text.now

-- the numbers of a line
abbrev pub values_of : Numbers → List ℕ
values_of n = take n.count n.values

abbrev pub line_of : TextLine → Line
line_of l = line l.bytes.now l.ended
