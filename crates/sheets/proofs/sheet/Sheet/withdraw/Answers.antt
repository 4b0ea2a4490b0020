use Rattle.sheets.specs.Histories.Call.{Withdraw}
use Rattle.sheets.specs.SheetHistories.{answer_of}
use Rattle.sheets.proofs.CallLaws.{withdraw_has}
use Rattle.sheets.proofs.SheetLaws.{call_right}
use Rattle.sheets.proofs.sheet.Sheet.withdraw.Goals as goal

pub returns : goal.returns
returns g c =
    call_right g.B.Book g.met.B.Book.points c.args.self.now c.withdraw.new.self (Withdraw c.args.rule) answer_of c.withdraw.result _ (rw c.count.ensures at c.withdraw.ensures) (λ h i. withdraw_has _ h _ i _)
