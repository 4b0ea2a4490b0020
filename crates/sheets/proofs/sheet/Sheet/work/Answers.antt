use Rattle.sheets.specs.Histories.Call.{Work}
use Rattle.sheets.specs.SheetHistories.{work_answer}
use Rattle.sheets.specs.Sheets.{work_result}
use Rattle.sheets.proofs.CallLaws.{work_has}
use Rattle.sheets.proofs.SheetLaws.{call_right}
use Rattle.sheets.proofs.sheet.Sheet.work.Goals as goal

pub returns : goal.returns
returns g c =
    call_right g.B.Book g.met.B.Book.points c.args.self.now c.work.new.self (Work c.args.budget) work_answer (work_result c.work.result) _ c.work.ensures (λ h i. work_has _ h _ i _)
