-- Lines in turn: what is read is what was written.
use Rattle.std.proofs.Common.{◌≡◌, ℕ, zero, suc, ◌+◌, ◌≤◌, Bool, true, false, ◌&&◌, ltb, leb, List, [], ◌∷◌, length, Ok, codes, Option, Result, sym, refl, ap, ◌∙◌, arith, length-append}
use Rattle.std.specs.List.{AllByRecursion}
use Rattle.std.proofs.ByRecursion.{All-weaker}
use Rattle.std.proofs.lemmas.Bool.{and_parts, and_from, ltb-true, le-leb}
use Rattle.fields.specs.declared.fault.Fault.{Fault}
use Rattle.fields.specs.declared.fault.FaultKind.{FaultKind}
use Rattle.fields.specs.declared.fault.FaultKind.TheVariants.{WrongForm, OutOfRange, SlotsNotRising}
use Rattle.fields.specs.Faults.{fault}
use Rattle.fields.specs.Lines.{Position, position, keyed_line}
use Rattle.fields.specs.Numbers.{numbers_up_to}
use Rattle.fields.specs.Results.{then, found_or}
use Rattle.fields.specs.Texts.{keyed_text}
use Rattle.fields.proofs.Chains.{then_case, mapped_ok_case, found_some, cond_ok}
use Rattle.fields.proofs.LineTexts.{no_end, no_end_append, keyed_reads, keyed_writes}
use Rattle.fields.proofs.NumberTexts.{Few}
use Rattle.catalogue.specs.declared.model.Kind.{Kind}
use Rattle.catalogue.specs.Lawful.{all, slot_lawful, kind_lawful, rising, apart, row_lawful}
use Rattle.catalogue.specs.Reading.{repeated, asked, formed_line, number_line, slot_line, kind_line, of_line, row_line}
use Rattle.catalogue.specs.Writing.{line, number_text, slot_text, kind_words, list_text}
use Rattle.catalogue.proofs.FormLaws.{Form, number_form, numbers_form, row_form, slot_form, kind_form}
use Rattle.catalogue.proofs.LawfulParts.{of_lawful, OfParts, of_parts, of_from, all_means, within, target_few, row_few}

-- A step reads what is good from its text, and from nothing else.
pub record Step {T : Type 0} (step : Position → Result (T × Position) Fault) (text : T → List ℕ → List ℕ) (good : T → Bool) : Type 0 where
  pub reads : (p : Position) (x : T × Position) → step p ≡ Ok x → (good x.0 ≡ true) × (p.text ≡ text x.0 x.1.text)
  pub writes : (x : T) → good x ≡ true → (rest : List ℕ) (k : ℕ) → (j : ℕ) × (step (position k (text x rest)) ≡ Ok (x, position j rest))

-- Steps read so many good things from their texts in turn, and from nothing else.
pub record Steps {T : Type 0} (steps : ℕ → Position → Result (List T × Position) Fault) (texts : List T → List ℕ → List ℕ) (good : T → Bool) : Type 0 where
  pub reads : (n : ℕ) (p : Position) (x : List T × Position) → steps n p ≡ Ok x
      → (length x.0 ≡ n) × (all good x.0 ≡ true) × (p.text ≡ texts x.0 x.1.text)
  pub writes : (xs : List T) → all good xs ≡ true → (rest : List ℕ) (k : ℕ)
      → (j : ℕ) × (steps (length xs) (position k (texts xs rest)) ≡ Ok (xs, position j rest))

-- one step again and again
module _ {T : Type 0} {step : Position → Result (T × Position) Fault} {text : T → List ℕ → List ℕ} {good : T → Bool}
    (law : Step step text good)
    (texts : List T → List ℕ → List ℕ)
    (empty : (rest : List ℕ) → texts [] rest ≡ rest)
    (first : (x : T) (xs : List T) (rest : List ℕ) → texts (x ∷ xs) rest ≡ text x (texts xs rest)) where
  steps_read : (n : ℕ) (p : Position) (x : List T × Position) → repeated step n p ≡ Ok x
      → (length x.0 ≡ n) × (all good x.0 ≡ true) × (p.text ≡ texts x.0 x.1.text)
  steps_read zero p x h =
      let same : ([], p) ≡ x = cc in
      rw (← same) (refl, refl, sym (empty p.text))
  steps_read (suc n) p x h =
      then_case (step p) _ x h (λ y y-is h.
      mapped_ok_case _ (repeated step n y.1) x h (λ ys ys-is same.
      let a = law.reads p y y-is in
      let b = steps_read n y.1 ys ys-is in
      rw (← same) (ap suc b.0, and_from _ _ a.0 b.1, a.1 ∙ ap (text y.0) b.2 ∙ sym (first y.0 ys.0 ys.1.text))))

  steps_write : (xs : List T) → all good xs ≡ true → (rest : List ℕ) (k : ℕ)
      → (j : ℕ) × (repeated step (length xs) (position k (texts xs rest)) ≡ Ok (xs, position j rest))
  steps_write [] h rest k = (k, rw (empty rest))
  steps_write (x ∷ xs) h rest k =
      let e = and_parts (good x) (all good xs) h in
      let a = law.writes x e.0 (texts xs rest) k in
      let b = steps_write xs e.1 rest a.0 in
      (b.0, rw (first x xs rest, a.1, b.1))

  pub steps_of : Steps (repeated step) texts good
  steps_of = record { reads = steps_read; writes = steps_write }

-- a line of a key and a form
module _ {T : Type 0} {form : List ℕ → Option T} {text : T → List ℕ} {Fits : T → Type 0} (law : Form form text Fits) (key : List ℕ) where
  formed_reads : (p : Position) (x : T × Position) → formed_line key form p ≡ Ok x
      → Fits x.0 × (p.text ≡ line (keyed_text key (text x.0)) x.1.text)
  formed_reads p x h =
      then_case (keyed_line key p) _ x h (λ v v-is h.
      mapped_ok_case _ (found_or (fault WrongForm p.line) (form v.0)) x h (λ y y-is same.
      let r = law.reads v.0 y (found_some _ _ y y-is) in
      rw (← same) (r.0, rw (← r.1) (keyed_reads key p v v-is).0)))

  module _ (plain : no_end key ≡ true) (few : length key ≤ 9) where
    formed_writes : (x : T) → Fits x → (rest : List ℕ) (k : ℕ)
        → formed_line key form (position k (line (keyed_text key (text x)) rest)) ≡ Ok (x, position (k + 1) rest)
    formed_writes x fits rest k =
        let clean = no_end_append key (61 ∷ text x) plain (law.clean x fits) in
        let short : length (keyed_text key (text x)) ≤ 80 = simp length-append (omega (arith, law.short x fits)) in
        rw (keyed_writes key (text x) rest k clean short, law.writes x fits)

    -- with one question
    asked_step : (kind : FaultKind) (good : T → Bool) → ((x : T) → good x ≡ true → Fits x)
        → Step (λ p. then (formed_line key form p) (λ x. asked kind p.line (good x.0) x)) (λ x rest. line (keyed_text key (text x)) rest) good
    asked_step kind good fits = record {
      reads = λ p x h.
          then_case (formed_line key form p) _ x h (λ y y-is h.
          let e = cond_ok (good y.0) y x _ h in
          rw (← e.1) (e.0, (formed_reads p y y-is).1));
      writes = λ x h rest k. (k + 1, rw (formed_writes x (fits x h) rest k, h));
    }

pub number_step : (key : List ℕ) (low high : ℕ) → no_end key ≡ true → length key ≤ 9 → high ≤ 99999
    → Step (number_line key low high) (λ n rest. line (number_text key n) rest) (λ n. leb low n && leb n high)
number_step key low high plain few small =
    asked_step number_form key plain few OutOfRange (λ n. leb low n && leb n high) (λ n h. omega (arith, (within low high n h).1))

-- a number with no lower bound
abbrev pub UpTo : List ℕ → ℕ → Type 0
UpTo key high = Step (number_line key 0 high) (λ n rest. line (number_text key n) rest) (λ n. leb n high)

pub up_to_step : (key : List ℕ) (high : ℕ) → no_end key ≡ true → length key ≤ 9 → high ≤ 99999 → UpTo key high
up_to_step key high plain few small =
    let law = number_step key 0 high plain few small in
    record {
      reads = λ p x h. let r = law.reads p x h in ((and_parts (leb 0 x.0) (leb x.0 high) r.0).1, r.1);
      writes = λ n h. law.writes n (and_from _ _ (le-leb 0 n (omega arith)) h);
    }

pub slot_step : Step slot_line (λ s rest. line (slot_text s) rest) slot_lawful
slot_step =
    asked_step slot_form (codes "slot") refl (omega arith) OutOfRange slot_lawful (λ s h. omega (arith, (within 1 15 s.parts h).1))

pub kind_step : (used : ℕ) → used ≤ 24
    → Step (kind_line used) (λ k rest. line (keyed_text (codes "rule") (kind_words k)) rest) (kind_lawful used)
kind_step used few =
    asked_step kind_form (codes "rule") refl (omega arith) OutOfRange (kind_lawful used) (λ k h. omega (arith, target_few used few k h))

pub asked_case : {T U G : Type 0} (k : FaultKind) (n : ℕ) (b : Bool) (x : T) (f : T → Result U Fault) (y : U)
    → then (asked k n b x) f ≡ Ok y → (b ≡ true → f x ≡ Ok y → G) → G
asked_case k n true x f y h g = g refl h
asked_case k n false x f y h g = let z : ◌≡◌ {A = ℕ} 0 1 = cc in absurd (omega arith)

pub of_step : (used : ℕ) → used ≤ 24 → (kind : Kind)
    → Step (of_line used kind) (λ ns rest. line (list_text (codes "of") ns) rest) (of_lawful used kind)
of_step used small kind = record {
  reads = λ p x h.
      then_case (formed_line (codes "of") (numbers_up_to 4) p) _ x h (λ o o_is h.
      asked_case OutOfRange p.line (all (λ s. ltb s used) o.0) o _ x h (λ below h.
      asked_case SlotsNotRising p.line (rising o.0) o _ x h (λ rises h.
      let e = cond_ok (apart kind o.0) o x _ h in
      let r = formed_reads numbers_form (codes "of") p o o_is in
      let parts : OfParts used kind o.0 = record { some = r.0.0; few = r.0.1; below = below; rises = rises; without = e.0 } in
      rw (← e.1) (of_from used kind o.0 parts, r.1))));
  writes = λ ns h rest k.
      let parts = of_parts used kind ns h in
      let short = all_means (λ s. ltb s used) (λ s l. omega (arith, ltb-true s used l)) ns parts.below in
      let fits : Few 4 ns = (parts.some, parts.few, short) in
      (k + 1, rw (formed_writes numbers_form (codes "of") refl (omega arith) ns fits rest k, parts.below, parts.rises, parts.without));
}

pub row_step : (limits : List ℕ) → 1 ≤ length limits → length limits ≤ 4 → AllByRecursion (λ p. p ≤ 15) limits
    → Step (row_line limits) (λ row rest. line (list_text (codes "row") row) rest) (row_lawful limits)
row_step limits some few small =
    asked_step (row_form (length limits)) (codes "row") refl (omega arith) OutOfRange (row_lawful limits)
    (λ row h.
    let r = row_few limits row small h in
    ((omega arith, omega arith, All-weaker (λ n. n ≤ 15) (λ n. n ≤ 99999) (λ n l. omega arith) row r.0), r.1))
