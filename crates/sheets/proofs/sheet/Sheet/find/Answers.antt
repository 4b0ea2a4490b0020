use Rattle.std.proofs.Common.{Bool, is_some, sym, ap, subst}
use Rattle.sheets.specs.SheetHistories.{Matches, find_history}
use Rattle.sheets.specs.Sheets.{the_slip, contents_of, work_result, setting}
use Rattle.sheets.proofs.FindLaws.{was_idle, find_right}
use Rattle.sheets.proofs.sheet.Sheet.find.Goals as goal

pub returns : goal.returns
returns g c =
    let k = g.B.Book in
    let s = c.args.self.now in
    let x = c.begin.new.self in
    let y = c.work-answer.new.self in
    let z = c.close.new.self in
    let w = work_result c.work-answer.result in
    let began = c.in_ok-slip.ensures.outcome in
    let work = c.work-answer.ensures.outcome in
    let close = c.in-Ok.ensures.outcome in
    let idle = was_idle k.narrowed the_slip c.in_ok-slip.slip c.args.budget w tt s x y z began work close in
    record {
      outcome = find_right k.narrowed the_slip c.in_ok-slip.slip c.args.budget w tt s x y z began work close;
      history = λ h i. subst (λ (q : Bool). Matches (setting k z) (find_history h c.args.budget q w) (contents_of z.state)) (sym (ap is_some idle)) (c.in-Ok.ensures.history _ (c.work-answer.ensures.history _ (c.in_ok-slip.ensures.history h i)));
      law = c.close.ensures.law;
    }
