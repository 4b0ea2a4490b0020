-- Words and keys: what is read is what was written.
use Rattle.std.proofs.Common.{cond, length, take, drop, ◌≡◌, ℕ, eqb, List, [], ◌∷◌, ◌++◌, Some, None, refl, arith}
use Rattle.std.specs.Cmp.Lexicographic.{pointwise}
use Rattle.std.proofs.lemmas.Bool.Decides.{nat_tests}
use Rattle.std.proofs.lemmas.Bool.{eqb-true, eq-eqb}
use Rattle.fields.specs.Numbers.{after_space}
use Rattle.fields.specs.Words.{after_word, after_equals, value_of}
use Rattle.fields.proofs.Chains.{and_then_case, cond_some}

pub word_reads : (t w r : List ℕ) → after_word t w ≡ Some r → t ≡ w ++ r
word_reads t [] r h = cc
word_reads [] (w ∷ ws) r h = absurd cc
word_reads (c ∷ cs) (w ∷ ws) r h =
    let e = cond_some (eqb c w) (after_word cs ws) r h in
    rw (eqb-true c w e.0, word_reads cs ws r e.1)

pub word_writes : (w r : List ℕ) → after_word (w ++ r) w ≡ Some r
word_writes [] r = refl
word_writes (w ∷ ws) r = rw (eq-eqb w w refl, word_writes ws r)

-- what `strip_prefix` answers
abbrev Stripped : List ℕ → List ℕ → Type 0
Stripped t w = after_word t w ≡ cond (pointwise eqb (take (length w) t) w) (Some (drop (length w) t)) None

strips_more : (c w : ℕ) (cs ws : List ℕ) → Stripped cs ws → Stripped (c ∷ cs) (w ∷ ws)
strips_more c w cs ws h = grind (arith, nat_tests)

pub strips : (t w : List ℕ) → Stripped t w
strips t [] = refl
strips [] (w ∷ ws) = refl
strips (c ∷ cs) (w ∷ ws) = strips_more c w cs ws (strips cs ws)

pub space_reads : (t v : List ℕ) → after_space t ≡ Some v → t ≡ 32 ∷ v
space_reads t v h = word_reads t (32 ∷ []) v h

pub value_reads : (l key v : List ℕ) → value_of l key ≡ Some v → l ≡ key ++ (61 ∷ v)
value_reads l key v h =
    and_then_case (after_word l key) after_equals v h (λ r r-is h. rw (← word_reads r (61 ∷ []) v h) (word_reads l key r r-is))

pub value_writes : (key v : List ℕ) → value_of (key ++ (61 ∷ v)) key ≡ Some v
value_writes key v = rw (word_writes key (61 ∷ v))
