use Rattle.std.proofs.Common.{◌≡◌, drop}
use Rattle.fields.specs.Texts.{spaced_text}
use Rattle.catalogue.specs.Storing.{held}
use Rattle.catalogue.proofs.writing.put_numbers.Given as goal

abbrev pub invariant-loop-n : goal.invariant-loop-n
invariant-loop-n l = held 65536 l.out.items (spaced_text (drop l.n-index l.others)) ≡ held 65536 l.initial.out.items (spaced_text l.others)
