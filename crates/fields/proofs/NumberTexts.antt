-- Numbers of a line: what is read is what was written.
use Rattle.std.proofs.Common.{◌≡◌, ℕ, zero, suc, ◌^◌, ◌<◌, ◌≤◌, false, eqb, List, [], ◌∷◌, ◌++◌, length, Some, None, decimal, Option, sym, refl, ap, ◌∙◌, append-nil, arith}
use Rattle.std.specs.List.{AllByRecursion}
use Rattle.std.proofs.lemmas.List.{nil_from_length}
use Rattle.std.proofs.lemmas.Bool.{eqb-true, ne_eqb}
use Rattle.fields.specs.Law.{Written}
use Rattle.fields.specs.Numbers.{digit_first, number_at, only_number, whole_number, after_space, led, numbers_up_to}
use Rattle.fields.specs.Texts.{spaced_text, numbers_text}
use Rattle.fields.proofs.Chains.{and_then_case, cond_case, cond_some}
use Rattle.fields.proofs.Digits.{reads_digits}
use Rattle.fields.proofs.Words.{space_reads}

module _ (max : ℕ) (fits : max < 2 ^ 64) where
  pub number_reads : (t : List ℕ) (p : ℕ × List ℕ) → number_at max t ≡ Some p → Written max t p.0 p.1
  number_reads t p h = (reads_digits max fits t p.0 p.1).0 h

  pub number_writes : (n : ℕ) (rest : List ℕ) → n ≤ max → digit_first rest ≡ false → number_at max (decimal n ++ rest) ≡ Some (n, rest)
  number_writes n rest h e = (reads_digits max fits (decimal n ++ rest) n rest).1 (record { text = refl; small = h; ends = e })

  pub whole_reads : (t : List ℕ) (n : ℕ) → whole_number max t ≡ Some n → (n ≤ max) × (t ≡ decimal n)
  whole_reads t n h =
      and_then_case (number_at max t) _ n h (λ p p-is h.
      let w = number_reads t p p-is in
      let e = cond_some (eqb (length p.1) 0) (Some p.0) n h in
      let a : p.0 ≡ n = cc in
      let b = nil_from_length p.1 (eqb-true _ 0 e.0) in
      (omega arith, w.text ∙ rw (a, b, append-nil (decimal n))))

  pub whole_writes : (n : ℕ) → n ≤ max → whole_number max (decimal n) ≡ Some n
  whole_writes n h = rw (← append-nil (decimal n), number_writes n [] h refl)

-- numbers of 1 to 5 digits
pub five : 99999 < 2 ^ 64
five = omega arith

pub only_reads : (t : List ℕ) (n : ℕ) → only_number t ≡ Some n → (n ≤ 99999) × (t ≡ decimal n)
only_reads = whole_reads 99999 five

pub only_writes : (n : ℕ) → n ≤ 99999 → only_number (decimal n) ≡ Some n
only_writes = whole_writes 99999 five

spaced_is : (ns : List ℕ) → 1 ≤ length ns → spaced_text ns ≡ 32 ∷ numbers_text ns
spaced_is [] h = absurd (omega arith)
spaced_is (n ∷ ns) h = refl

led_case : {G : Type 0} (xs ns : List ℕ) (o : Option (List ℕ)) → led xs o ≡ Some ns → ((ms : List ℕ) → o ≡ Some ms → xs ++ ms ≡ ns → G) → G
led_case xs ns None h g = absurd cc
led_case xs ns (Some ms) h g = g ms refl (cc)

-- numbers of 1 to 5 digits, at least one and at most m
abbrev pub Few : ℕ → List ℕ → Type 0
Few m ns = (1 ≤ length ns) × (length ns ≤ m) × AllByRecursion (λ n. n ≤ 99999) ns

pub numbers_read : (m : ℕ) (t ns : List ℕ) → numbers_up_to m t ≡ Some ns → Few m ns × (t ≡ numbers_text ns)
unfolding numbers_up_to
numbers_read zero t ns h = absurd cc
numbers_read (suc m) t ns h =
    and_then_case (number_at 99999 t) _ ns h (λ p p-is h.
    let w = number_reads 99999 five t p p-is in
    cond_case (eqb (length p.1) 0) _ _ (Some ns) h
    (λ z h.
    let same : p.0 ∷ [] ≡ ns = cc in
    let none = nil_from_length p.1 (eqb-true _ 0 z) in
    rw (← same) ((omega arith, omega arith, (w.small, tt)), rw (← none) w.text))
    (λ z h.
    and_then_case (after_space p.1) _ ns h (λ u u-is h.
    led_case (p.0 ∷ []) ns (numbers_up_to m u) h (λ ms ms-is same.
    let r = numbers_read m u ms ms-is in
    let s : p.1 ≡ spaced_text ms = space_reads p.1 u u-is ∙ ap (λ l. 32 ∷ l) r.1 ∙ sym (spaced_is ms r.0.0) in
    rw (← same) ((omega arith, omega (arith, r.0.1), (w.small, r.0.2)), rw (← s) w.text)))))

pub numbers_write : (m : ℕ) (ns : List ℕ) → Few m ns → numbers_up_to m (numbers_text ns) ≡ Some ns
unfolding numbers_up_to
numbers_write zero ns h = absurd (omega arith)
numbers_write (suc m) [] h = absurd (omega arith)
numbers_write (suc m) (n ∷ []) h = rw (number_writes 99999 five n [] h.2.0 refl)
numbers_write (suc m) (n ∷ k ∷ ks) h =
    let more : eqb (length (spaced_text (k ∷ ks))) 0 ≡ false = ne_eqb _ 0 (λ e. omega arith) in
    rw (number_writes 99999 five n (spaced_text (k ∷ ks)) h.2.0 refl, more, numbers_write m (k ∷ ks) (omega arith, omega arith, h.2.1))
