-- Sheets: what they hold, their histories, and the law that they keep.
use Rattle.std.specs.Prelude.{ℕ, List, Option, Result}
use Rattle.std.specs.Option.{option_map}
use Rattle.fields.specs.Results.{mapped_ok}
use Rattle.forms.specs.declared.form.Form.{Form}
use Rattle.forms.specs.Said.{used_slots}
use Rattle.kits.specs.declared.book.Book.{Ghosts}
use Rattle.kits.specs.declared.label_box.LabelBox.{LabelBox}
use Rattle.sheets.specs.declared.refusal.Refusal.{Refusal}
use Rattle.sheets.specs.declared.search.End.{End}
use Rattle.sheets.specs.declared.sheet.Sheet.{Sheet}
use Rattle.sheets.specs.declared.sheet_copy.SheetCopy.{SheetCopy}
use Rattle.sheets.specs.declared.sheet_state.SheetState.{SheetState}
use Rattle.sheets.specs.declared.slip.Slip.{Slip}
use Rattle.sheets.specs.States.{standing_of, state_of}
use Rattle.sheets.specs.Steps.{Standing}
use Rattle.sheets.specs.Histories.{Call, Answer, History}
use Rattle.sheets.specs.Histories.Answer.{Copied}
use Rattle.sheets.specs.Histories.History.{Then}
use Rattle.sheets.specs.Law.{Setting, Lawful}
use Rattle.sheets.specs.Harms.{Harmless}
use Rattle.sheets.specs.Outcomes.{Contents}
use Rattle.sheets.specs.SheetHistories.{Matches}

-- slips are alike
abbrev pub the_slip : Slip
the_slip = record { seal = tt }

abbrev pub contents_of : SheetState → Contents
contents_of s = record { force = s.force.bits; gone = s.gone.bits; choices = s.choices.list; search = option_map state_of s.search }

-- everything that a sheet has
abbrev pub whole : {B : Type 0} → Sheet B → Form × B × ℕ × Contents
whole s = (s.form, s.book, s.mark, contents_of s.state)

-- an outcome on a sheet: form, book and mark stay
abbrev pub on_sheet : {A B : Type 0} → A × Contents → Sheet B → A × (Form × B × ℕ × Contents)
on_sheet o s = (o.0, (s.form, s.book, s.mark, o.1))

-- how the search stands, and the steps made
abbrev pub work_result : Result (End × ℕ) Refusal → Result (Standing × ℕ) Refusal
work_result r = mapped_ok (λ x. (standing_of x.0, x.1)) r

-- how many boxes wait, and the labels of the first
abbrev pub waiting_result : Result (ℕ × Option LabelBox) Refusal → Result (ℕ × Option (List ℕ)) Refusal
waiting_result r = mapped_ok (λ x. (x.0, option_map (λ b. b.labels) x.1)) r

abbrev pub copy_of : {B : Type 0} → Sheet B → SheetCopy
copy_of s = record { mark = s.mark; force = s.state.force.bits; gone = s.state.gone.bits }

abbrev pub copy_answer : SheetCopy → Answer
copy_answer c = Copied c.mark c.force c.gone

-- sheets over the books of a type, by what such a book means
module _ {B : Type 0} (book : Ghosts B) where
  abbrev pub setting : Sheet B → Setting
  setting s = record { slots = used_slots s.form; rules = book.rules s.book; allows = book.allows s.book; narrowed = book.narrowed s.book; mark = s.mark }

  -- the sheet has the history h
  abbrev pub HasHistory : Sheet B → History → Type 0
  HasHistory s h = Matches (setting s) h (contents_of s.state)

  -- whatever history the sheet s has, the sheet x has it with the call c and its answer a at the end
  abbrev pub Extends : Sheet B → Sheet B → Call → Answer → Type 0
  Extends s x c a = (h : History) → HasHistory s h → HasHistory x (Then h c a)

  -- in whatever history the sheet has, each call got the answer that it must get, and no harm happened
  abbrev pub KeepsLaw : Sheet B → Type 0
  KeepsLaw s = (h : History) → HasHistory s h → Lawful (setting s) h × Harmless (setting s) h
