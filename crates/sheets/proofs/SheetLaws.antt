-- What the contracts of a sheet's calls share.
use Rattle.std.proofs.Common.{◌≡◌, sym, ap, subst}
use Rattle.kits.specs.declared.book.Book.{Ghosts}
use Rattle.kits.specs.Books.{Laws}
use Rattle.sheets.specs.declared.sheet.Sheet.{Sheet}
use Rattle.sheets.specs.declared.sheet_state.SheetState.{SheetState}
use Rattle.sheets.specs.Histories.{Call, Answer, History}
use Rattle.sheets.specs.Histories.History.{Then}
use Rattle.sheets.specs.Outcomes.{Contents}
use Rattle.sheets.specs.SheetHistories.{Matches}
use Rattle.sheets.specs.Sheets.{contents_of, whole, on_sheet, setting, HasHistory, Extends, KeepsLaw}
use Rattle.sheets.proofs.HarmLaws.{harmless}

module _ {B : Type 0} (book : Ghosts B) (laws : (b : B) → Laws (book.rules b) (book.allows b) (book.narrowed b)) where
  pub keeps_law : (s : Sheet B) → KeepsLaw book s
  keeps_law s h k = (k.lawful, harmless (setting book s) (laws s.book) s.form.lawful h k.lawful)

  -- the sheet after a call
  abbrev pub with_state : Sheet B → SheetState → Sheet B
  with_state s x = record { form = s.form; book = s.book; mark = s.mark; state = x }

  -- a call that has the result and the state of an outcome keeps to its contract, if the outcome extends every history
  pub call_right : {A : Type 0} (s : Sheet B) (x : SheetState) (c : Call) (answer : A → Answer) (r : A) (o : A × Contents) → (r, contents_of x) ≡ o
      → ((h : History) → HasHistory book s h → Matches (setting book s) (Then h c (answer o.0)) o.1)
      → record { outcome : ◌≡◌ (r, whole (with_state s x)) (on_sheet o s); history : Extends book s (with_state s x) c (answer r); law : KeepsLaw book (with_state s x) }
  call_right {A} s x c answer r o e more = record {
    outcome = ap (λ (p : A × Contents). on_sheet p s) e;
    history = λ h k. subst (λ (p : A × Contents). Matches (setting book s) (Then h c (answer p.0)) p.1) (sym e) (more h k);
    law = keeps_law (with_state s x);
  }
