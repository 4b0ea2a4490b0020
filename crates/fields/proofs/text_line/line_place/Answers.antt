use Rattle.std.proofs.Common.{◌≡◌, suc, ◌+◌, ◌-◌, rules, refl, arith}
use Rattle.fields.specs.Values.{line_of}
use Rattle.fields.proofs.LineLists.{past_end, one_on, found}
use Rattle.fields.proofs.text_line.line_place.Goals as goal

pub returns-in_err-bytes : goal.returns-in_err-bytes
returns-in_err-bytes c =
    let more : c.args.line - c.loop.counter ≡ suc (c.args.line - (c.loop.counter + 1)) = omega arith in
    let none = past_end _ _ _ _ (rw more at c.loop.invariant) c.in_err-bytes.ensures in
    rw c.from_residual.ensures (record { within = tt; place = rw none; bytes = rw none })

pub loop-preserved : goal.loop-preserved
loop-preserved c =
    let more : c.args.line - c.loop.counter ≡ suc (c.args.line - (c.loop.counter + 1)) = omega arith in
    one_on _ _ _ _ (rw more at c.loop.invariant) _ _ c.in_ok-bytes.ensures

pub returns : goal.returns
returns c =
    let done : c.args.line - c.loop.counter ≡ 0 = omega arith in
    let f = found c.args.text.now c.args.line c.loop.from 0 (rw done at c.loop.invariant) (line_of c.in_ok-first.first) _ c.in_ok-first.ensures.value in
    record { within = (omega arith, f.0); place = search rules; bytes = rw (f.1, f.2) refl }
