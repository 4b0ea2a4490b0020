use Rattle.sheets.proofs.CallLaws.{opened_has}
use Rattle.sheets.proofs.CallListLaws.{law_over_calls}
use Rattle.sheets.proofs.SheetLaws.{keeps_law}
use Rattle.sheets.proofs.sheet.Sheet.new.Goals as goal

pub returns-clause-history : goal.returns-clause-history
returns-clause-history g c = rw c.new.ensures (opened_has _)

pub returns-clause-law : goal.returns-clause-law
returns-clause-law g c = keeps_law g.B.Book g.met.B.Book.points (record { form = c.args.form; book = c.args.book; mark = c.args.mark; state = c.new.result })

pub returns-clause-calls : goal.returns-clause-calls
returns-clause-calls g c = law_over_calls
