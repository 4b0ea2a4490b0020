use Rattle.std.proofs.Common.{◌≡◌, ◌-◌, is_some}
use Rattle.catalogue.specs.Cells.{rules_of}
use Rattle.catalogue.specs.Listed.{listed}
use Rattle.catalogue.proofs.cells.pass_rules.Given as goal

abbrev pub invariant-loop : goal.invariant-loop
invariant-loop l = is_some (rules_of (l.count - l.counter) (listed l.slots) l.left) ≡ is_some (rules_of l.count (listed l.slots) l.cells)
