use Rattle.sheets.specs.Histories.Call.{Bar}
use Rattle.sheets.specs.SheetHistories.{answer_of}
use Rattle.sheets.proofs.CallLaws.{bar_has}
use Rattle.sheets.proofs.SheetLaws.{call_right}
use Rattle.sheets.proofs.sheet.Sheet.bar.Goals as goal

pub returns : goal.returns
returns g c =
    call_right g.B.Book g.met.B.Book.points c.args.self.now c.bar.new.self (Bar c.args.slot) answer_of c.bar.result _ c.bar.ensures (λ h i. bar_has _ h _ i _)
