use Rattle.sheets.proofs.CallLaws.{waiting_has}
use Rattle.sheets.proofs.SheetLaws.{keeps_law}
use Rattle.sheets.proofs.sheet.Sheet.waiting.Goals as goal

pub returns-clause-history : goal.returns-clause-history
returns-clause-history g c = λ h i. rw c.waiting.ensures.outcome (waiting_has _ h _ i)

pub returns-clause-law : goal.returns-clause-law
returns-clause-law g c = keeps_law g.B.Book g.met.B.Book.points c.args.self.now
