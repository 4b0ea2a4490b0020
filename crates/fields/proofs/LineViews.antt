-- Where a line is cut.
use Rattle.std.proofs.Common.{◌≡◌, ℕ, ◌+◌, eqb, List, [], ◌∷◌, ◌++◌, length, take, drop, Some, None, Option, sym, refl, ap, arith, length-append}
use Rattle.std.specs.Option.{option_map}
use Rattle.std.specs.List.{position}
use Rattle.std.proofs.lemmas.Bool.Decides.{nat_tests}
use Rattle.std.proofs.lemmas.Grind.{common_steps}
use Rattle.fields.specs.Lines.{cut_line}

-- a text is cut where its first byte 10 is
abbrev Cut : List ℕ → Type 0
Cut t = cut_line t ≡ option_map (λ i. (take i t, drop (i + 1) t)) (position (λ b. eqb b 10) t)

cut_more : (c : ℕ) (cs : List ℕ) → Cut cs → Cut (c ∷ cs)
cut_more c cs h = grind (arith, nat_tests, common_steps)

pub cut_position : (t : List ℕ) → Cut t
cut_position [] = refl
cut_position (c ∷ cs) = cut_more c cs (cut_position cs)

-- a line, its end and what follows make up the text
abbrev Cuts : List ℕ → Option (List ℕ × List ℕ) → Type 0
Cuts t None = Unit {0}
Cuts t (Some p) = t ≡ p.0 ++ (10 ∷ p.1)

cuts_more : (c : ℕ) (cs : List ℕ) → Cuts cs (cut_line cs) → Cuts (c ∷ cs) (cut_line (c ∷ cs))
cuts_more c cs h = grind (arith, nat_tests)

cuts : (t : List ℕ) → Cuts t (cut_line t)
cuts [] = tt
cuts (c ∷ cs) = cuts_more c cs (cuts cs)

pub cut_reads : (t : List ℕ) (p : List ℕ × List ℕ) → cut_line t ≡ Some p → t ≡ p.0 ++ (10 ∷ p.1)
cut_reads t p e = rw e at (cuts t)

pub cut_length : (t l r : List ℕ) → Some (l, r) ≡ cut_line t → length l + 1 + length r ≡ length t
cut_length t l r e = omega (arith, simp length-append at (ap length (cut_reads t (l, r) (sym e))))
