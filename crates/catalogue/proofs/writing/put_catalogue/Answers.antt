use Rattle.std.proofs.Common.{ap, ◌∙◌}
use Rattle.std.specs.Option.{option_map}
use Rattle.catalogue.specs.Listed.{listed}
use Rattle.catalogue.specs.Storing.{held}
use Rattle.catalogue.specs.Writing.{text_of}
use Rattle.catalogue.proofs.RuleWrites.{catalogue_made, whole_written}
use Rattle.catalogue.proofs.writing.put_catalogue.Goals as goal

pub returns : goal.returns
returns c =
    let catalogue = c.in_ok-catalogue.catalogue in
    let slots = listed c.in_ok-slots.slots in
    (rw c.put_head.ensures at c.put_rules.ensures)
    ∙ whole_written 65536 c.args.out.now.items catalogue.mark catalogue.count slots catalogue.rules.now
    ∙ ap (option_map (λ x. held 65536 c.args.out.now.items (text_of x)))
    (catalogue_made catalogue.mark catalogue.count catalogue.slots.now catalogue.rules.now slots c.in_ok-slots.ensures ∙ c.in_ok-catalogue.ensures.value)
