-- Values of a line: what is read is what was written.
use Rattle.std.proofs.Common.{◌≡◌, ℕ, ◌≤◌, Bool, true, false, eqb, List, ◌∷◌, ◌++◌, length, Some, None, codes, decimal, Option, refl, ap, ◌∙◌, arith, length-append}
use Rattle.std.specs.Option.{option_map}
use Rattle.std.specs.Str.{bytes_eq}
use Rattle.std.proofs.lemmas.Fmt.{length-decimal-le}
use Rattle.std.proofs.lemmas.Slice.Eq.{bytes_eq-Decides}
use Rattle.std.proofs.lemmas.Bool.{eqb-true, eq-eqb}
use Rattle.fields.specs.Numbers.{number_at, only_number, numbers_up_to, after_space}
use Rattle.fields.specs.Texts.{numbers_text}
use Rattle.fields.specs.Words.{after_word}
use Rattle.fields.proofs.Chains.{and_then_case, mapped_case, cond_case, cond_some}
use Rattle.fields.proofs.LineTexts.{no_end, no_end_append, no_end_decimal, no_end_numbers, length_numbers_le}
use Rattle.fields.proofs.NumberTexts.{five, number_reads, number_writes, only_reads, only_writes, Few, numbers_read, numbers_write}
use Rattle.fields.proofs.Words.{word_reads, space_reads}
use Rattle.catalogue.specs.declared.model.Kind.{Kind}
use Rattle.catalogue.specs.declared.model.Kind.TheVariants.{Goes, Needs, Bars}
use Rattle.catalogue.specs.declared.model.Slot.{Slot}
use Rattle.catalogue.specs.Cells.{target_cell}
use Rattle.catalogue.specs.Reading.{standing, slot_value, word_number, or_else, kind_value, row_value}
use Rattle.catalogue.specs.Writing.{standing_word, kind_words}

-- A form reads what fits from its text, of one line, and from nothing else.
pub record Form {T : Type 0} (form : List ℕ → Option T) (text : T → List ℕ) (Fits : T → Type 0) : Type 0 where
  pub reads : (t : List ℕ) (x : T) → form t ≡ Some x → Fits x × (t ≡ text x)
  pub writes : (x : T) → Fits x → form (text x) ≡ Some x
  pub clean : (x : T) → Fits x → no_end (text x) ≡ true
  pub short : (x : T) → Fits x → length (text x) ≤ 70

short_decimal : (n : ℕ) → n ≤ 99999 → length (decimal n) ≤ 5
short_decimal n h = length-decimal-le 5 n (omega arith) (omega arith) (omega arith)

pub number_form : Form only_number decimal (λ n. n ≤ 99999)
number_form = record {
  reads = only_reads;
  writes = only_writes;
  clean = λ n h. no_end_decimal n (omega arith);
  short = λ n h. omega (arith, short_decimal n h);
}

pub numbers_form : Form (numbers_up_to 4) numbers_text (Few 4)
numbers_form = record {
  reads = numbers_read 4;
  writes = numbers_write 4;
  clean = λ ns h. no_end_numbers ns h.2;
  short = λ ns h. omega (arith, length_numbers_le ns h.2);
}

pub row_form : (n : ℕ) → Form (row_value n) numbers_text (λ ns. Few 4 ns × (length ns ≡ n))
row_form n = record {
  reads = λ t ns h.
      and_then_case (numbers_up_to 4 t) _ ns h (λ ms ms-is h.
      let e = cond_some (eqb (length ms) n) (Some ms) ns h in
      let same : ms ≡ ns = cc in
      let r = numbers_form.reads t ms ms-is in
      rw (← same) ((r.0, eqb-true _ n e.0), r.1));
  writes = λ ns h. rw (numbers_form.writes ns h.0, eq-eqb (length ns) n h.1);
  clean = λ ns h. numbers_form.clean ns h.0;
  short = λ ns h. numbers_form.short ns h.0;
}

standing_reads : (w : List ℕ) (b : Bool) → standing w ≡ Some b → w ≡ standing_word b
standing_reads w b h =
    cond_case (bytes_eq w (codes "standard")) _ _ (Some b) h
    (λ y h. let e : true ≡ b = cc in (bytes_eq-Decides w (codes "standard")).0 y ∙ ap standing_word e)
    (λ n h.
    let o = cond_some (bytes_eq w (codes "optional")) (Some false) b h in
    let e : false ≡ b = cc in
    (bytes_eq-Decides w (codes "optional")).0 o.0 ∙ ap standing_word e)

standing_writes : (b : Bool) → standing (standing_word b) ≡ Some b
standing_writes true = refl
standing_writes false = refl

no_end_standing : (b : Bool) → no_end (standing_word b) ≡ true
no_end_standing true = refl
no_end_standing false = refl

length_standing : (b : Bool) → length (standing_word b) ≡ 8
length_standing true = refl
length_standing false = refl

abbrev pub slot_words : Slot → List ℕ
slot_words s = decimal s.parts ++ (32 ∷ standing_word s.standard)

pub slot_form : Form slot_value slot_words (λ s. s.parts ≤ 99999)
slot_form = record {
  reads = λ t s h.
      and_then_case (number_at 99999 t) _ s h (λ n n-is h.
      and_then_case (after_space n.1) _ s h (λ w w-is h.
      mapped_case _ (standing w) s h (λ b b-is same.
      let d = number_reads 99999 five t n n-is in
      let e : n.1 ≡ 32 ∷ standing_word b = space_reads n.1 w w-is ∙ ap (λ l. 32 ∷ l) (standing_reads w b b-is) in
      rw (← same) (d.small, rw (← e) d.text))));
  writes = λ s h. rw (number_writes 99999 five s.parts (32 ∷ standing_word s.standard) h refl, standing_writes s.standard);
  clean = λ s h. no_end_append (decimal s.parts) _ (no_end_decimal _ (omega arith)) (no_end_standing s.standard);
  short = λ s h. simp length-append (omega (arith, short_decimal s.parts h, length_standing s.standard));
}

word_number_reads : (w t : List ℕ) (n : ℕ) → word_number w t ≡ Some n → (n ≤ 99999) × (t ≡ w ++ (32 ∷ decimal n))
word_number_reads w t n h =
    and_then_case (after_word t w) _ n h (λ d d-is h.
    and_then_case (after_space d) _ n h (λ u u-is h.
    let r = only_reads u n h in
    (r.0, word_reads t w d d-is ∙ ap (λ l. w ++ l) (space_reads d u u-is ∙ ap (λ l. 32 ∷ l) r.1))))

pub or_case : {T G : Type 0} (a b : Option T) (y : T) → or_else a b ≡ Some y → (a ≡ Some y → G) → (b ≡ Some y → G) → G
or_case None b y h f g = g h
or_case (Some x) b y h f g = f h

kind_reads : (t : List ℕ) (k : Kind) → kind_value t ≡ Some k → (target_cell k ≤ 99999) × (t ≡ kind_words k)
kind_reads t k h =
    cond_case (bytes_eq t (codes "goes")) _ _ (Some k) h
    (λ y h. let e : Goes ≡ k = cc in rw (← e) (omega arith, (bytes_eq-Decides t (codes "goes")).0 y))
    (λ n h.
    or_case (option_map Needs (word_number (codes "needs") t)) (option_map Bars (word_number (codes "bars") t)) k h
    (λ h. mapped_case Needs (word_number (codes "needs") t) k h (λ u u-is same. rw (← same) (word_number_reads (codes "needs") t u u-is)))
    (λ h. mapped_case Bars (word_number (codes "bars") t) k h (λ u u-is same. rw (← same) (word_number_reads (codes "bars") t u u-is))))

kind_writes : (k : Kind) → target_cell k ≤ 99999 → kind_value (kind_words k) ≡ Some k
kind_writes Goes h = refl
kind_writes (Needs t) h = rw (only_writes t h)
kind_writes (Bars t) h = rw (only_writes t h)

kind_clean : (k : Kind) → target_cell k ≤ 99999 → no_end (kind_words k) ≡ true
kind_clean Goes h = refl
kind_clean (Needs t) h = number_form.clean t h
kind_clean (Bars t) h = number_form.clean t h

kind_short : (k : Kind) → target_cell k ≤ 99999 → length (kind_words k) ≤ 70
kind_short Goes h = omega arith
kind_short (Needs t) h = omega (arith, short_decimal t h)
kind_short (Bars t) h = omega (arith, short_decimal t h)

pub kind_form : Form kind_value kind_words (λ k. target_cell k ≤ 99999)
kind_form = record { reads = kind_reads; writes = kind_writes; clean = kind_clean; short = kind_short }
