use Rattle.std.proofs.Common.{◌-◌, sym, ◌∙◌, arith}
use Rattle.sheets.specs.Sets.{members}
use Rattle.sheets.specs.States.{state_of}
use Rattle.sheets.proofs.RunLaws.{run_more, run_all, run_ended}
use Rattle.sheets.proofs.SearchLaws.{search_right}
use Rattle.sheets.proofs.search.Search.work.Goals as goal

pub loop-steps-preserved : goal.loop-steps-preserved
loop-steps-preserved g c =
    let i = c.loop-steps.invariant in
    let m = run_more (g.B.Book.narrowed c.args.book.now) (members c.args.rules.bits) c.args.budget c.loop-steps.steps (state_of c.loop-steps.self) (state_of c.step.new.self) c.loop-steps-test.true (sym c.if-is_ended.ensures) c.step.ensures in
    record { after = m.0 ∙ i.after; made = omega (arith, m.1, i.made) }

pub returns-then-is_ended : goal.returns-then-is_ended
returns-then-is_ended g c =
    let i = c.loop-steps.invariant in
    let s = state_of c.loop-steps.self in
    let m = run_ended (g.B.Book.narrowed c.args.book.now) (members c.args.rules.bits) (c.args.budget - c.loop-steps.steps) s.boxes s.standing (sym c.if-is_ended.ensures) in
    record { value = omega (arith, m.1, i.made); after = sym m.0 ∙ i.after; law = search_right }

pub returns : goal.returns
returns g c =
    let i = c.loop-steps.invariant in
    let m = run_all (g.B.Book.narrowed c.args.book.now) (members c.args.rules.bits) c.args.budget c.loop-steps.steps (state_of c.loop-steps.self) c.loop-steps-test.false in
    record { value = omega (arith, m.1, i.made); after = sym m.0 ∙ i.after; law = search_right }
