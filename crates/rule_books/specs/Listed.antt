-- Numbers in the first places of an array.
use Rattle.std.specs.Prelude.{ℕ, List, take}
use Rattle.rule_books.specs.declared.listed.Listed.{Listed}

-- the numbers that are listed
abbrev pub listed : {N : ℕ} → Listed N → List ℕ
listed l = take l.count l.numbers
