-- How many slots of a box come before the first with several members.
use Rattle.std.proofs.Common.{◌≡◌, ℕ, ◌<◌, ◌≤◌, true, false, List, [], ◌∷◌, length, Some, ap, ⊎_elim, zero-le, arith}
use Rattle.std.proofs.lemmas.Bool.{cases_Bool, true≢false}
use Rattle.std.proofs.lemmas.Bool.Decides.{nat_tests}
use Rattle.kits.specs.Boxes.{single, settled, halves, first_half, second_half}
use Rattle.kits.specs.Labels.{least}
use Rattle.kits.proofs.LabelLaws.{ones_low}

pub settled_length : (b : List ℕ) → settled b ≤ length b
settled_length [] = zero-le
settled_length (l ∷ b) = grind (arith, nat_tests, settled_length b)

-- the first half has one more
pub settled_first : (b : List ℕ) → single b ≡ false → settled b < settled (first_half b)
settled_first [] s = absurd (true≢false s)
settled_first (l ∷ b) s = grind (arith, nat_tests, settled_first b, ones_low (least l))

pub settled_second : (b : List ℕ) → settled b ≤ settled (second_half b)
settled_second [] = zero-le
settled_second (l ∷ b) = grind (arith, nat_tests, settled_second b)

-- what `split` answers has at least as many, and its first box more
pub settled_halves : (b p q : List ℕ) → Some (p, q) ≡ halves b → (settled b < settled p) × (settled b ≤ settled q)
settled_halves b p q h =
    ⊎_elim
    (λ (s : single b ≡ true). let n = rw s at h in cc)
    (λ (s : single b ≡ false).
    let n : Some (p, q) ≡ Some (first_half b, second_half b) = rw s at h in
    let e : ◌≡◌ {A = List ℕ × List ℕ} (p, q) (first_half b, second_half b) = cc in
    rw (ap (λ (x : List ℕ × List ℕ). x.0) e, ap (λ (x : List ℕ × List ℕ). x.1) e) (settled_first b s, settled_second b))
    (cases_Bool (single b))
