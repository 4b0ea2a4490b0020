use Rattle.sheets.specs.Histories.Call.{Rejoin}
use Rattle.sheets.specs.Outcomes.{rejoined}
use Rattle.sheets.specs.SheetHistories.{answer_of}
use Rattle.sheets.specs.Sheets.{contents_of}
use Rattle.sheets.proofs.CallLaws.{rejoin_has}
use Rattle.sheets.proofs.RuleSetLaws.{sets_lawful_means}
use Rattle.sheets.proofs.SheetLaws.{call_right}
use Rattle.sheets.proofs.sheet.Sheet.rejoin.Goals as goal

pub returns : goal.returns
returns g c =
    let s = c.args.self.now in
    let p = c.args.copy in
    let r = call_right g.B.Book g.met.B.Book.points s c.rejoin.new.self (Rejoin p.mark p.force p.gone) answer_of c.rejoin.result (rejoined (g.B.Book.rules s.book) s.mark p.mark p.force p.gone (contents_of s.state)) (rw c.count.ensures at c.rejoin.ensures) (λ h i. rejoin_has _ h _ i _ _ _) in
    record { outcome = r.outcome; sets = sets_lawful_means; history = r.history; law = r.law }
