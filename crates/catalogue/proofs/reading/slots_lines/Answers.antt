use Rattle.std.proofs.Common.{◌≡◌, ◌+◌, ◌-◌, sym, ap, ◌∙◌, arith}
use Rattle.std.proofs.lemmas.List.{length_push}
use Rattle.std.proofs.lemmas.Result.{err_from_is_err_and}
use Rattle.fields.specs.Values.{place_of}
use Rattle.catalogue.specs.Listed.{listed}
use Rattle.catalogue.specs.Reading.{slot_line}
use Rattle.catalogue.proofs.Turns.{after_front, step_err, front_more}
use Rattle.catalogue.proofs.reading.slots_lines.Goals as goal

pub returns-in_err-slot_line : goal.returns-in_err-slot_line
returns-in_err-slot_line c =
    let p = err_from_is_err_and c.from_residual.result c.from_residual.ensures.1 in
    rw (p.1, p.2) (sym (ap (after_front (listed c.loop.slots)) (step_err slot_line (c.args.used - c.loop.counter) (place_of c.loop.reader) (omega arith) _ c.in_err-slot_line.ensures)) ∙ c.loop.invariant.1)

pub loop-preserved : goal.loop-preserved
loop-preserved c =
    let m : c.args.used - (c.loop.counter + 1) ≡ c.args.used - c.loop.counter - 1 = omega arith in
    rw (c.push.ensures, m) (
      length_push (listed c.loop.slots) c.in_ok-slot_line.field-0 ∙ ap (λ n. n + 1) c.loop.invariant.0,
      sym (front_more slot_line (c.args.used - c.loop.counter) (place_of c.loop.reader) (omega arith) (listed c.loop.slots) c.in_ok-slot_line.field-0 (place_of c.slot_line.new.reader) c.in_ok-slot_line.ensures) ∙ c.loop.invariant.1,
    )
