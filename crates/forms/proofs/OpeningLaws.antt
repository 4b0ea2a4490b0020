-- What an opening box holds.
use Rattle.std.proofs.Common.{◌≡◌, ℕ, zero, suc, ◌+◌, ◌-◌, ◌/◌, ◌^◌, ◌<◌, ◌≤◌, Bool, true, false, cond, leb, ◌⊎◌, List, [], ◌∷◌, length, get_or, take, set, sym, refl, ap, ◌∙◌, inl, inr, ⊎_elim, le_of_suc-le-suc, pow-suc, arith}
use Rattle.std.proofs.lemmas.List.{take_more, take_more_set}
use Rattle.std.proofs.lemmas.Nat.{pow_pos}
use Rattle.std.proofs.lemmas.Bool.{and_parts, leb-true, cases_lt, cases_Bool, ne_eqb, true≢false}
use Rattle.catalogue.specs.declared.model.Slot.{Slot}
use Rattle.catalogue.specs.Lawful.{all, slot_lawful}
use Rattle.kits.specs.declared.choices.Choice.{Choice}
use Rattle.kits.specs.declared.choices.Choice.TheVariants.{Free, Fixed, Barred}
use Rattle.kits.specs.Labels.{bit, Has}
use Rattle.kits.specs.Boxes.{all_some}
use Rattle.kits.specs.Laws.{Iff}
use Rattle.kits.proofs.LabelLaws.{bit_beyond, bit_pow, pow_bit}
use Rattle.forms.specs.Opening.{chosen_label, slot_label, opening_box, Takes, OpeningMeans}

pub opening_length : (slots : List Slot) (cs : List Choice) → length (opening_box slots cs) ≡ length cs
opening_length slots [] = refl
opening_length [] (c ∷ cs) = ap suc (opening_length [] cs)
opening_length (s ∷ slots) (c ∷ cs) = ap suc (opening_length slots cs)

opening_at : (slots : List Slot) (cs : List Choice) (k : ℕ) → k < length cs → get_or (opening_box slots cs) k 0 ≡ slot_label slots k (get_or cs k Free)
opening_at slots [] k h = absurd (omega arith)
opening_at [] (c ∷ cs) zero h = refl
opening_at [] (c ∷ cs) (suc k) h = opening_at [] cs k (le_of_suc-le-suc h)
opening_at (s ∷ slots) (c ∷ cs) zero h = refl
opening_at (s ∷ slots) (c ∷ cs) (suc k) h = opening_at slots cs k (le_of_suc-le-suc h)

-- one label more
pub opening_more : (slots : List Slot) (cs : List Choice) (labels : List ℕ) (i x : ℕ) → i < length cs → i < length labels → x ≡ slot_label slots i (get_or cs i Free)
    → take i labels ≡ take i (opening_box slots cs) → take (i + 1) (set labels i x) ≡ take (i + 1) (opening_box slots cs)
opening_more slots cs labels i x h g e t =
    let m = take_more (opening_box slots cs) i 0 (rw opening_length h) in
    take_more_set labels i x g ∙ rw (t, e) (sym (rw (opening_at slots cs i h) at m))

-- the n lowest numbers make the label 2 ^ n - 1
bit_below : (n v : ℕ) → v < n → bit v (2 ^ n - 1) ≡ 1
bit_below zero v h = absurd (omega arith)
bit_below (suc n) zero h = omega (arith, pow-suc 2 n, pow_pos n)
bit_below (suc n) (suc v) h =
    let e : (2 ^ suc n - 1) / 2 ≡ 2 ^ n - 1 = omega (arith, pow-suc 2 n, pow_pos n) in
    rw e (bit_below n v (le_of_suc-le-suc h))

-- the parts 1 to p, with 0 unless the slot is standard
offer_means : (standard : Bool) (p v : ℕ) → Iff (Has (cond standard (2 ^ suc p - 2) (2 ^ suc p - 1)) v) (((1 ≤ v) × (v ≤ p)) ⊎ ((v ≡ 0) × (standard ≡ false)))
offer_means false p v = (λ h. go (cases_lt v (suc p)) h, back)
  where
    go : (v < suc p) ⊎ (suc p ≤ v) → Has (2 ^ suc p - 1) v → ((1 ≤ v) × (v ≤ p)) ⊎ ((v ≡ 0) × (false ≡ false))
    go (inl w) h = ⊎_elim (λ (z : v < 1). inr (omega arith, refl)) (λ (z : 1 ≤ v). inl (z, omega arith)) (cases_lt v 1)
    go (inr w) h = absurd (omega (arith, bit_beyond (suc p) v (2 ^ suc p - 1) (omega (arith, pow_pos (suc p))) w))

    back : ((1 ≤ v) × (v ≤ p)) ⊎ ((v ≡ 0) × (false ≡ false)) → Has (2 ^ suc p - 1) v
    back (inl w) = bit_below (suc p) v (omega (arith, w.1))
    back (inr w) = bit_below (suc p) v (omega (arith, w.0))
offer_means true p zero = (λ h. absurd (omega (arith, h, pow-suc 2 p)), λ w. ⊎_elim (λ (x : (1 ≤ 0) × (0 ≤ p)). absurd (omega (arith, x.0))) (λ (x : (zero ≡ 0) × (true ≡ false)). absurd (true≢false x.1)) w)
offer_means true p (suc v) = (λ h. go (cases_lt v p) (rw half at h), λ w. rw half (⊎_elim (λ (x : (1 ≤ suc v) × (suc v ≤ p)). bit_below p v x.1) (λ (x : (suc v ≡ 0) × (true ≡ false)). absurd (true≢false x.1)) w))
  where
    half : (2 ^ suc p - 2) / 2 ≡ 2 ^ p - 1
    half = omega (arith, pow-suc 2 p, pow_pos p)

    go : (v < p) ⊎ (p ≤ v) → Has (2 ^ p - 1) v → ((1 ≤ suc v) × (suc v ≤ p)) ⊎ ((suc v ≡ 0) × (true ≡ false))
    go (inl w) h = inl (omega arith, w)
    go (inr w) h = absurd (omega (arith, bit_beyond p v (2 ^ p - 1) (omega (arith, pow_pos p)) w))

only_means : (p v : ℕ) → Iff (Has (2 ^ p) v) (v ≡ p)
only_means p v = (bit_pow v p, λ e. rw e (pow_bit p))

chosen_means : (c : Choice) (s : Slot) (v : ℕ) → Iff (Has (chosen_label c s) v) (Takes c s v)
chosen_means Free s v = offer_means s.standard s.parts v
chosen_means (Fixed p) s v = only_means p v
chosen_means Barred s v = only_means 0 v

pub opening_means : OpeningMeans
opening_means slots [] k v h = absurd (omega arith)
opening_means [] (c ∷ cs) zero v h = only_means 0 v
opening_means [] (c ∷ cs) (suc k) v h = opening_means [] cs k v (le_of_suc-le-suc h)
opening_means (s ∷ slots) (c ∷ cs) zero v h = chosen_means c s v
opening_means (s ∷ slots) (c ∷ cs) (suc k) v h = opening_means slots cs k v (le_of_suc-le-suc h)

-- each label has a member
chosen_some : (c : Choice) (s : Slot) → slot_lawful s ≡ true → 0 < chosen_label c s
chosen_some Free s l =
    let p : 1 ≤ s.parts = leb-true _ _ (and_parts (leb 1 s.parts) (leb s.parts 15) l).0 in
    ⊎_elim
    (λ (e : s.standard ≡ true). rw e (omega (arith, pow-suc 2 s.parts, pow_more s.parts p)))
    (λ (e : s.standard ≡ false). rw e (omega (arith, pow-suc 2 s.parts, pow_pos s.parts)))
    (cases_Bool s.standard)
  where
    pow_more : (n : ℕ) → 1 ≤ n → 2 ≤ 2 ^ n
    pow_more zero h = absurd (omega arith)
    pow_more (suc n) h = omega (arith, pow-suc 2 n, pow_pos n)
chosen_some (Fixed p) s l = pow_pos p
chosen_some Barred s l = omega arith

pub opening_some : (slots : List Slot) (cs : List Choice) → all slot_lawful slots ≡ true → all_some (opening_box slots cs) ≡ true
opening_some slots [] l = refl
opening_some [] (c ∷ cs) l = opening_some [] cs l
opening_some (s ∷ slots) (c ∷ cs) l =
    let p = and_parts (slot_lawful s) (all slot_lawful slots) l in
    let n : chosen_label c s ≡ 0 → ⊥ = λ e. absurd (omega (arith, chosen_some c s p.0)) in
    rw (ne_eqb _ _ n) (opening_some slots cs p.1)
