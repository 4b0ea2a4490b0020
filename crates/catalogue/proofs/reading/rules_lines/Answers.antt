use Rattle.std.proofs.Common.{◌≡◌, ◌+◌, ◌-◌, arith}
use Rattle.std.proofs.lemmas.Result.{err_from_is_err_and}
use Rattle.fields.specs.Values.{place_of}
use Rattle.catalogue.specs.Cells.{rule_cells}
use Rattle.catalogue.specs.Listed.{listed}
use Rattle.catalogue.specs.Reading.{rule_lines}
use Rattle.catalogue.proofs.Turns.{turn_over, turn_stored, turn_refused}
use Rattle.catalogue.proofs.reading.rules_lines.Goals as goal

pub returns-in_err-rule_lines : goal.returns-in_err-rule_lines
returns-in_err-rule_lines g c =
    let p = err_from_is_err_and c.from_residual.result c.from_residual.ensures.1 in
    rw (p.1, p.2)
    (turn_refused rule_cells c.loop.out (rule_lines (listed c.args.slots.now)) (c.args.rules - c.loop.counter) (place_of c.loop.reader) _ (omega arith) c.loop.invariant _ c.in_err-rule_lines.ensures)

pub loop-preserved : goal.loop-preserved
loop-preserved g c =
    let m : c.args.rules - (c.loop.counter + 1) ≡ c.args.rules - c.loop.counter - 1 = omega arith in
    rw m
    (turn_stored rule_cells c.loop.out (rule_lines (listed c.args.slots.now)) (c.args.rules - c.loop.counter) (place_of c.loop.reader) _ (omega arith) c.loop.invariant c.rule_lines.new.out (place_of c.rule_lines.new.reader) c.in_ok-rule_lines.ensures)

pub returns : goal.returns
returns g c =
    turn_over rule_cells c.loop.out (rule_lines (listed c.args.slots.now)) (c.args.rules - c.loop.counter) (place_of c.loop.reader) _ (omega arith) c.loop.invariant
