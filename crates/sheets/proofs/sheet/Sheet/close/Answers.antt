use Rattle.sheets.specs.Histories.Call.{Close}
use Rattle.sheets.specs.SheetHistories.{close_answer}
use Rattle.sheets.proofs.CallLaws.{close_has}
use Rattle.sheets.proofs.SheetLaws.{call_right}
use Rattle.sheets.proofs.sheet.Sheet.close.Goals as goal

pub returns : goal.returns
returns g c =
    call_right g.B.Book g.met.B.Book.points c.args.self.now c.close.new.self Close close_answer c.close.result _ c.close.ensures (λ h i. close_has _ h _ i _)
