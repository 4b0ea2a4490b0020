-- Lines of a text: what is read is what was written.
use Rattle.std.proofs.Common.{◌≡◌, ℕ, ◌+◌, ◌*◌, ◌^◌, ◌<◌, ◌≤◌, Bool, true, not, ◌&&◌, eqb, leb, List, [], ◌∷◌, ◌++◌, length, Some, Ok, decimal, refl, arith, length-append}
use Rattle.std.specs.List.{AllByRecursion}
use Rattle.std.proofs.lemmas.Fmt.{decimal_by_steps, length-decimal-le}
use Rattle.std.proofs.lemmas.Bool.{and_parts, and_from, le-leb, not-true}
use Rattle.std.proofs.lemmas.Bool.Decides.{nat_tests}
use Rattle.fields.specs.declared.fault.FaultKind.TheVariants.{LineMissing, WrongKey}
use Rattle.fields.specs.Faults.{fault}
use Rattle.fields.specs.Lines.{Position, position, cut_line, next_line, keyed_line}
use Rattle.fields.specs.Results.{found_or}
use Rattle.fields.specs.Texts.{spaced_text, numbers_text, keyed_text}
use Rattle.fields.specs.Words.{value_of}
use Rattle.fields.proofs.Chains.{then_case, mapped_ok_case, found_some, cond_ok}
use Rattle.fields.proofs.LineViews.{cut_reads}
use Rattle.fields.proofs.Words.{value_reads, value_writes}

line_reads : (p : Position) (x : List ℕ × Position) → next_line p ≡ Ok x → (p.text ≡ x.0 ++ (10 ∷ x.1.text)) × (x.1.line ≡ p.line + 1)
line_reads p x h =
    then_case (found_or (fault LineMissing p.line) (cut_line p.text)) _ x h (λ c c-is h.
    let same = (cond_ok (leb (length c.0) 80) (c.0, position (p.line + 1) c.1) x _ h).1 in
    rw (← same) (cut_reads p.text c (found_some _ _ c c-is), refl))

-- the line of a key, and where it ends
pub keyed_reads : (key : List ℕ) (p : Position) (x : List ℕ × Position) → keyed_line key p ≡ Ok x
    → (p.text ≡ keyed_text key x.0 ++ (10 ∷ x.1.text)) × (x.1.line ≡ p.line + 1)
keyed_reads key p x h =
    then_case (next_line p) _ x h (λ l l-is h.
    mapped_ok_case _ (found_or (fault WrongKey p.line) (value_of l.0 key)) x h (λ v v-is same.
    let r = line_reads p l l-is in
    let k = value_reads l.0 key v (found_some _ _ v v-is) in
    rw (← same) (rw (← k) r.0, r.1)))

-- no byte 10
abbrev pub no_end : List ℕ → Bool
no_end [] = true
no_end (c ∷ cs) = not (eqb c 10) && no_end cs

pub no_end_append : (a b : List ℕ) → no_end a ≡ true → no_end b ≡ true → no_end (a ++ b) ≡ true
no_end_append [] b h k = k
no_end_append (c ∷ a) b h k = let p = and_parts (not (eqb c 10)) (no_end a) h in and_from _ _ p.0 (no_end_append a b p.1 k)

pub no_end_decimal : (n : ℕ) → n < 2 ^ 64 → no_end (decimal n) ≡ true
no_end_decimal = decimal_by_steps (λ n ds. no_end ds ≡ true) (λ n h. grind (arith, nat_tests)) (λ n ds h k. no_end_append ds _ k (grind (arith, nat_tests)))

no_end_spaced : (ns : List ℕ) → AllByRecursion (λ n. n ≤ 99999) ns → no_end (spaced_text ns) ≡ true
no_end_spaced [] h = refl
no_end_spaced (n ∷ ns) h = no_end_append (decimal n) (spaced_text ns) (no_end_decimal n (omega arith)) (no_end_spaced ns h.1)

pub no_end_numbers : (ns : List ℕ) → AllByRecursion (λ n. n ≤ 99999) ns → no_end (numbers_text ns) ≡ true
no_end_numbers [] h = refl
no_end_numbers (n ∷ ns) h = no_end_spaced (n ∷ ns) h

length_spaced_le : (ns : List ℕ) → AllByRecursion (λ n. n ≤ 99999) ns → length (spaced_text ns) ≤ 6 * length ns
length_spaced_le [] h = omega arith
length_spaced_le (n ∷ ns) h =
    simp length-append (omega (arith, length-decimal-le 5 n (omega arith) (omega arith) (omega arith), length_spaced_le ns h.1))

pub length_numbers_le : (ns : List ℕ) → AllByRecursion (λ n. n ≤ 99999) ns → length (numbers_text ns) ≤ 6 * length ns
length_numbers_le [] h = omega arith
length_numbers_le (n ∷ ns) h = omega (arith, length_spaced_le (n ∷ ns) h)

-- a line is cut where it was ended
cut_writes : (l r : List ℕ) → no_end l ≡ true → cut_line (l ++ (10 ∷ r)) ≡ Some (l, r)
cut_writes [] r h = refl
cut_writes (c ∷ l) r h =
    let p = and_parts (not (eqb c 10)) (no_end l) h in
    rw (not-true (eqb c 10) p.0, cut_writes l r p.1)

pub keyed_writes : (key v rest : List ℕ) (k : ℕ) → no_end (keyed_text key v) ≡ true → length (keyed_text key v) ≤ 80
    → keyed_line key (position k (keyed_text key v ++ (10 ∷ rest))) ≡ Ok (v, position (k + 1) rest)
keyed_writes key v rest k clean short =
    rw (cut_writes (keyed_text key v) rest clean, le-leb (length (keyed_text key v)) 80 short, value_writes key v)
