-- The law over every list of calls, with any arguments, from opening on.
use Rattle.std.specs.Prelude.{◌≡◌, true, List, [], ◌∷◌}
use Rattle.forms.specs.Forms.{form_lawful}
use Rattle.kits.specs.Books.{Laws}
use Rattle.sheets.specs.Histories.{Call, Answer, History}
use Rattle.sheets.specs.Histories.Call.{Enter, Withdraw, Rejoin, Fix, Bar, Free, Begin, Work, Close, Waiting, Copy}
use Rattle.sheets.specs.Histories.Answer.{Copied}
use Rattle.sheets.specs.Histories.History.{Opened, Then}
use Rattle.sheets.specs.Law.{Setting, Lawful}
use Rattle.sheets.specs.Harms.{Harmless}
use Rattle.sheets.specs.Outcomes.{Contents, at_opening, entered, withdrawn, rejoined, fixed, barred, freed, begun, worked, closed, waiting_in}
use Rattle.sheets.specs.SheetHistories.{answer_of, work_answer, close_answer, waiting_answer}

-- the answer to a call on a sheet that holds s, and what the sheet holds then
abbrev pub called : Setting → Contents → Call → Answer × Contents
called t s (Enter r) = (answer_of (entered t.rules r s).0, (entered t.rules r s).1)
called t s (Withdraw r) = (answer_of (withdrawn t.rules r s).0, (withdrawn t.rules r s).1)
called t s (Rejoin m f g) = (answer_of (rejoined t.rules t.mark m f g s).0, (rejoined t.rules t.mark m f g s).1)
called t s (Fix k v) = (answer_of (fixed t.slots k v s).0, (fixed t.slots k v s).1)
called t s (Bar k) = (answer_of (barred t.slots k s).0, (barred t.slots k s).1)
called t s (Free k) = (answer_of (freed t.slots k s).0, (freed t.slots k s).1)
called t s Begin = (answer_of (begun {A = Unit {0}} t.slots tt s).0, (begun {A = Unit {0}} t.slots tt s).1)
called t s (Work b) = (work_answer (worked t.narrowed b s).0, (worked t.narrowed b s).1)
called t s Close = (close_answer (closed {A = Unit {0}} tt s).0, (closed {A = Unit {0}} tt s).1)
called t s Waiting = (waiting_answer (waiting_in s.search), s)
called t s Copy = (Copied t.mark s.force s.gone, s)

-- the history h with the calls of the list made in turn on a sheet that holds s
abbrev pub with_calls : Setting → History → Contents → List Call → History
with_calls t h s [] = h
with_calls t h s (c ∷ cs) = with_calls t (Then h c (called t s c).0) (called t s c).1 cs

-- the history of a sheet on which the calls of the list were made
abbrev pub history_of : Setting → List Call → History
history_of t cs = with_calls t Opened at_opening cs

-- over every form and every book that keeps its laws
abbrev pub LawOverCalls : Type 0
LawOverCalls = (t : Setting) → Laws t.rules t.allows t.narrowed → form_lawful t.slots ≡ true
    → (cs : List Call) → Lawful t (history_of t cs) × Harmless t (history_of t cs)
