-- Begin, one work and close, one after the other.
use Rattle.std.proofs.Common.{◌≡◌, ℕ, List, is_some, Some, None, Ok, Option, Result, sym, refl, ap, ◌∙◌, ap₂}
use Rattle.catalogue.specs.declared.model.Slot.{Slot}
use Rattle.forms.specs.declared.form.Form.{Form}
use Rattle.forms.specs.Opening.{opening_box}
use Rattle.forms.specs.Said.{used_slots}
use Rattle.sheets.specs.Steps.{Standing, SearchState}
use Rattle.sheets.specs.Runs.{started}
use Rattle.sheets.specs.declared.refusal.Refusal.{Refusal}
use Rattle.sheets.specs.declared.sheet.Sheet.{Sheet}
use Rattle.sheets.specs.Refusals.{begin_refusal, close_refusal}
use Rattle.sheets.specs.Outcomes.{Contents, unless_refused, with_search, begun, worked, closed_by, closed, ended_with, find_over, find_outcome}
use Rattle.sheets.specs.Sheets.{contents_of, whole, on_sheet}

abbrev begun_search : List Slot → Contents → Contents
begun_search slots s = with_search s (Some (started (opening_box slots s.choices)))

-- where begin is accepted no search was open
begun_ok : {A : Type 0} (slots : List Slot) (a slip : A) (s y : Contents) → ◌≡◌ {A = Result A Refusal × Contents} (Ok slip, y) (begun slots a s) → (s.search ≡ None) × (y ≡ begun_search slots s)
begun_ok {A} slots a slip s y e = go s.search refl e
  where
    go : (o : Option SearchState) → s.search ≡ o → ◌≡◌ {A = Result A Refusal × Contents} (Ok slip, y) (unless_refused (begin_refusal (is_some o)) a (begun_search slots s) s) → (s.search ≡ None) × (y ≡ begun_search slots s)
    go None q f = (q, ap (λ (p : Result A Refusal × Contents). p.1) f)
    go (Some x) q f = let r = ap (λ (p : Result A Refusal × Contents). p.0) f in cc

closed_ok : {A : Type 0} (slip : A) (u : Unit {0}) (s y : Contents) → ◌≡◌ {A = Result (Unit {0}) (Refusal × A) × Contents} (Ok u, y) (closed slip s) → y ≡ with_search s None
closed_ok {A} slip u s y e = go (close_refusal (is_some s.search)) e
  where
    go : (o : Option Refusal) → ◌≡◌ {A = Result (Unit {0}) (Refusal × A) × Contents} (Ok u, y) (closed_by o slip s) → y ≡ with_search s None
    go None f = ap (λ (p : Result (Unit {0}) (Refusal × A) × Contents). p.1) f
    go (Some x) f = let r = ap (λ (p : Result (Unit {0}) (Refusal × A) × Contents). p.0) f in cc

abbrev WorkResult : Type 0
WorkResult = Result (Standing × ℕ) Refusal

find_by_parts : (slots : List Slot) (narrowed : ℕ → List ℕ → Option (List ℕ)) (b : ℕ) (w : WorkResult) (s x y z : Contents) → s.search ≡ None → x ≡ begun_search slots s → ◌≡◌ {A = WorkResult × Contents} (w, y) (worked narrowed b x) → z ≡ with_search y None
    → ◌≡◌ {A = WorkResult × Contents} (w, z) (find_outcome slots narrowed b s)
find_by_parts slots narrowed b w s x y z none began work close =
    ap (λ (c : Contents). (w, c)) close
    ∙ ap ended_with (work ∙ ap (worked narrowed b) began)
    ∙ sym (ap (λ (o : Option SearchState). find_over o slots narrowed b s) none)

module _ {B : Type 0} (narrowed : B → ℕ → List ℕ → Option (List ℕ)) where
  -- what stays of a sheet
  abbrev Frame : Type 0
  Frame = Form × B × ℕ

  abbrev frame : Sheet B → Frame
  frame s = (s.form, s.book, s.mark)

  same_frame : {A : Type 0} (s x : Sheet B) (r : A) (o : A × Contents) → ◌≡◌ {A = A × (Form × B × ℕ × Contents)} (r, whole x) (on_sheet o s) → frame x ≡ frame s
  same_frame {A} s x r o e = ap (λ (p : A × (Form × B × ℕ × Contents)). (p.1.0, p.1.1, p.1.2)) e

  same_outcome : {A : Type 0} (s x : Sheet B) (r : A) (o : A × Contents) → ◌≡◌ {A = A × (Form × B × ℕ × Contents)} (r, whole x) (on_sheet o s) → ◌≡◌ {A = A × Contents} (r, contents_of x.state) o
  same_outcome {A} s x r o e = ap (λ (p : A × (Form × B × ℕ × Contents)). (p.0, p.1.3)) e

  -- the sheet s, then x after begin, y after work and z after close
  module _ {A : Type 0} (a slip : A) (b : ℕ) (w : WorkResult) (u : Unit {0}) (s x y z : Sheet B)
      (began : ◌≡◌ {A = Result A Refusal × (Form × B × ℕ × Contents)} (Ok slip, whole x) (on_sheet (begun (used_slots s.form) a (contents_of s.state)) s))
      (work : ◌≡◌ {A = WorkResult × (Form × B × ℕ × Contents)} (w, whole y) (on_sheet (worked (narrowed x.book) b (contents_of x.state)) x))
      (close : ◌≡◌ {A = Result (Unit {0}) (Refusal × A) × (Form × B × ℕ × Contents)} (Ok u, whole z) (on_sheet (closed slip (contents_of y.state)) y)) where
    pub was_idle : (contents_of s.state).search ≡ None
    was_idle = (begun_ok _ a slip (contents_of s.state) _ (same_outcome s x _ _ began)).0

    pub find_right : ◌≡◌ {A = WorkResult × (Form × B × ℕ × Contents)} (w, whole z) (on_sheet (find_outcome (used_slots s.form) (narrowed s.book) b (contents_of s.state)) s)
    find_right =
        let f = same_frame s x _ _ began in
        let o = same_outcome x y w _ work ∙ ap (λ (p : Frame). worked (narrowed p.1) b (contents_of x.state)) f in
        ap₂ (λ (p : Frame) (q : WorkResult × Contents). (q.0, (p.0, p.1, p.2, q.1)))
        (same_frame y z _ _ close ∙ same_frame x y w _ work ∙ f)
        (find_by_parts (used_slots s.form) (narrowed s.book) b w (contents_of s.state) (contents_of x.state) (contents_of y.state) (contents_of z.state) was_idle (begun_ok _ a slip (contents_of s.state) _ (same_outcome s x _ _ began)).1 o (closed_ok slip u (contents_of y.state) _ (same_outcome y z _ _ close)))
