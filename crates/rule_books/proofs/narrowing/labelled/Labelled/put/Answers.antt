use Rattle.std.proofs.Common.{length, ◌∙◌, rules}
use Rattle.std.proofs.lemmas.List.{length_push}
use Rattle.std.proofs.lemmas.Slice.Zip.{zip_turn}
use Rattle.rule_books.specs.Listed.{listed}
use Rattle.rule_books.proofs.ScopeLaws.{put_more}
use Rattle.rule_books.proofs.narrowing.labelled.Labelled.put.Goals as goal

pub loop-slot-preserved : goal.loop-slot-preserved
loop-slot-preserved c =
    let self = c.args.self.now in
    let turn = zip_turn self.rule.cells.slots.now (listed self.labels) c.loop-slot.yielded c.into_iter-slot-iterator.result c.loop-slot.slot-iterator c.next.new.self _ (search rules) (search rules) c.loop-slot.yielded_by _ c.in-Some.is c.next.ensures.steps in
    rw (length_push, c.put.ensures, c.slot_number.ensures, c.from.ensures, turn.2 0, c.label_of.ensures, turn.3 0)
    (put_more self.rule.cells.slots.now (listed self.labels) c.loop-slot.b.labels (length c.loop-slot.yielded) turn.0 turn.1 ∙ c.loop-slot.invariant)
