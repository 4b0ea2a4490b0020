use Rattle.std.proofs.Common.{sym, ap, ◌∙◌}
use Rattle.std.proofs.lemmas.List.{at_drop_more, at_drop_all, nil_from_length}
use Rattle.fields.specs.Texts.{spaced_text}
use Rattle.catalogue.specs.Storing.{held}
use Rattle.catalogue.proofs.Helds.{held_none, held_then}
use Rattle.catalogue.proofs.writing.put_numbers.Goals as goal

pub loop-n-preserved : goal.loop-n-preserved
loop-n-preserved c =
    rw (c.put_number-in-loop-n.ensures, c.keep.ensures, held_then, held_then)
    (sym (ap (held 65536 c.loop-n.out.items) (at_drop_more spaced_text c.in-Some.others.now c.loop-n.n-index 0 c.loop-n-test.true)) ∙ c.loop-n.invariant)

pub returns-after-loop-n : goal.returns-after-loop-n
returns-after-loop-n c =
    let left = at_drop_all spaced_text c.in-Some.others.now c.loop-n.n-index c.loop-n-test.false in
    rw c.in-Some.ensures.cases.0
    (sym (held_none 65536 c.loop-n.out.items) ∙ sym (ap (held 65536 c.loop-n.out.items) left) ∙ c.loop-n.invariant ∙ rw (c.put_number.ensures, held_then))

pub returns-in_default : goal.returns-in_default
returns-in_default c = rw (nil_from_length c.args.numbers.now c.in_default.ensures.cases) (sym (held_none 65536 c.args.out.now.items))
