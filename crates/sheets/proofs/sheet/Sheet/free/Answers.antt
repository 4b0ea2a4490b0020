use Rattle.sheets.specs.Histories.Call.{Free}
use Rattle.sheets.specs.SheetHistories.{answer_of}
use Rattle.sheets.proofs.CallLaws.{free_has}
use Rattle.sheets.proofs.SheetLaws.{call_right}
use Rattle.sheets.proofs.sheet.Sheet.free.Goals as goal

pub returns : goal.returns
returns g c =
    call_right g.B.Book g.met.B.Book.points c.args.self.now c.free.new.self (Free c.args.slot) answer_of c.free.result _ c.free.ensures (λ h i. free_has _ h _ i _)
