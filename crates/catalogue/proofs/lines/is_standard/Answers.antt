use Rattle.std.proofs.Common.{codes, refl, rules, arith}
use Rattle.std.proofs.lemmas.Slice.Eq.{text_from_reads}
use Rattle.catalogue.proofs.lines.is_standard.Goals as goal

pub returns-in-standard : goal.returns-in-standard
returns-in-standard c = rw (text_from_reads c.args.word.now (codes "standard") (omega arith) (search rules)) refl

pub returns-in-optional : goal.returns-in-optional
returns-in-optional c = rw (text_from_reads c.args.word.now (codes "optional") (omega arith) (search rules)) refl
