use Rattle.std.proofs.Common.{◌≡◌, ◌-◌, []}
use Rattle.std.specs.Option.{option_map}
use Rattle.catalogue.specs.Cells.{rules_of}
use Rattle.catalogue.specs.Listed.{listed}
use Rattle.catalogue.specs.Storing.{held}
use Rattle.catalogue.specs.Writing.{rules_text}
use Rattle.catalogue.proofs.writing.put_rules.Given as goal

abbrev pub invariant-loop : goal.invariant-loop
invariant-loop l =
    option_map (λ rs. held 65536 l.out.items (rules_text rs [])) (rules_of (l.count - l.counter) (listed l.slots) l.left)
    ≡ option_map (λ rs. held 65536 l.initial.out.items (rules_text rs [])) (rules_of l.count (listed l.slots) l.cells)
