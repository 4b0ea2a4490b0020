use Rattle.sheets.specs.Histories.Call.{Begin}
use Rattle.sheets.specs.SheetHistories.{answer_of}
use Rattle.sheets.proofs.CallLaws.{begin_has}
use Rattle.sheets.proofs.SheetLaws.{call_right}
use Rattle.sheets.proofs.sheet.Sheet.begin.Goals as goal

pub returns : goal.returns
returns g c =
    call_right g.B.Book g.met.B.Book.points c.args.self.now c.begin.new.self Begin answer_of c.begin.result _ c.begin.ensures (λ h i. begin_has _ h _ i _)
