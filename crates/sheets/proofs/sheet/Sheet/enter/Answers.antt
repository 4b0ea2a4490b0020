use Rattle.sheets.specs.Histories.Call.{Enter}
use Rattle.sheets.specs.SheetHistories.{answer_of}
use Rattle.sheets.proofs.CallLaws.{enter_has}
use Rattle.sheets.proofs.SheetLaws.{call_right}
use Rattle.sheets.proofs.sheet.Sheet.enter.Goals as goal

pub returns : goal.returns
returns g c =
    call_right g.B.Book g.met.B.Book.points c.args.self.now c.enter.new.self (Enter c.args.rule) answer_of c.enter.result _ (rw c.count.ensures at c.enter.ensures) (λ h i. enter_has _ h _ i _)
