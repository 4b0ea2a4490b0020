use Rattle.sheets.specs.Histories.Call.{Fix}
use Rattle.sheets.specs.SheetHistories.{answer_of}
use Rattle.sheets.proofs.CallLaws.{fix_has}
use Rattle.sheets.proofs.SheetLaws.{call_right}
use Rattle.sheets.proofs.sheet.Sheet.fix.Goals as goal

pub returns : goal.returns
returns g c =
    call_right g.B.Book g.met.B.Book.points c.args.self.now c.fix.new.self (Fix c.args.slot c.args.part) answer_of c.fix.result _ c.fix.ensures (λ h i. fix_has _ h _ i _ _)
