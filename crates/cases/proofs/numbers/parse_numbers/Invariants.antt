use Rattle.std.specs.Str.Iter.{split_whitespace_rest}
use Rattle.cases.proofs.Words.{SaidBefore}
use Rattle.cases.proofs.numbers.parse_numbers.Given as goal

abbrev pub invariant-loop-word : goal.invariant-loop-word
invariant-loop-word l = SaidBefore l.text (split_whitespace_rest l.word-iterator) l.numbers.items
