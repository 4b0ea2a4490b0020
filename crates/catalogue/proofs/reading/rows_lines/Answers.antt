use Rattle.std.proofs.Common.{◌≡◌, ℕ, ◌+◌, ◌-◌, List, map, arith}
use Rattle.std.proofs.lemmas.Result.{err_from_is_err_and}
use Rattle.fields.specs.Values.{place_of, values_of}
use Rattle.catalogue.specs.Lawful.{offered}
use Rattle.catalogue.specs.Listed.{listed}
use Rattle.catalogue.specs.Reading.{row_line}
use Rattle.catalogue.proofs.Turns.{turn_over, turn_ok, turn_err}
use Rattle.catalogue.proofs.reading.rows_lines.Goals as goal

pub returns-in_err-row : goal.returns-in_err-row
returns-in_err-row g c =
    let p = err_from_is_err_and c.from_residual.result c.from_residual.ensures.1 in
    rw (p.1, p.2)
    (turn_err (λ (row : List ℕ). row) c.loop.out (row_line (map (offered (listed c.args.slots.now)) c.args.of.now)) (c.args.rows - c.loop.counter) (place_of c.loop.reader) _ (omega arith) c.loop.invariant _ c.in_err-row.ensures)

pub loop-preserved : goal.loop-preserved
loop-preserved g c =
    let m : c.args.rows - (c.loop.counter + 1) ≡ c.args.rows - c.loop.counter - 1 = omega arith in
    rw (m, c.extend.ensures, c.as_slice.ensures.value)
    (turn_ok (λ (row : List ℕ). row) c.loop.out (row_line (map (offered (listed c.args.slots.now)) c.args.of.now)) (c.args.rows - c.loop.counter) (place_of c.loop.reader) _ (omega arith) c.loop.invariant (values_of c.in_ok-row.row) (place_of c.row_line.new.reader) c.in_ok-row.ensures)

pub returns : goal.returns
returns g c =
    turn_over (λ (row : List ℕ). row) c.loop.out (row_line (map (offered (listed c.args.slots.now)) c.args.of.now)) (c.args.rows - c.loop.counter) (place_of c.loop.reader) _ (omega arith) c.loop.invariant
