-- The volume of a box is the number of its fillings.
use Rattle.std.proofs.Common.{◌≡◌, ℕ, zero, suc, ◌*◌, ◌^◌, ◌<◌, ◌≤◌, true, false, List, [], ◌∷◌, ◌++◌, map, length, take, Option, None, sym, refl, ap, ◌∙◌, subst, inl, inr, ⊎_elim, mul_assoc, mul-one, one-mul, arith, length-append}
use lib.Count.{ones}
use Rattle.std.specs.Bool.{⊤}
use Rattle.std.specs.Iterator.{Yields, Drains}
use Rattle.std.specs.Iterator.Runs.{EachRunFrom, YieldsRun}
use Rattle.std.specs.List.{fold, Contains}
use Rattle.std.proofs.lemmas.List.Elements.{Contains-append_left, Contains-append_right, Contains-append_cases, Contains-push_cases}
use Rattle.std.proofs.lemmas.Bool.{cases_Bool}
use Rattle.std.proofs.lemmas.Iterator.{YieldsList}
use Rattle.std.proofs.lemmas.Iterator.Consumers.{YieldsList-so_far, YieldsList-end}
use Rattle.std.proofs.lemmas.List.{map-id}
use Rattle.std.proofs.lemmas.Nat.{mul-le}
use Rattle.kits.specs.Fillings.{Before, Rising}
use Rattle.kits.specs.Boxes.{Boxed, Full, In, volume, single, first_half, second_half, lowest_filling}
use Rattle.kits.specs.Laws.{FillingsOf, VolumeCounts}
use Rattle.kits.proofs.BoxLaws.{full_tail, volume_split, volume_pos, volume_small}
use Rattle.kits.proofs.HalfLaws.{single_head, lowest_held, lowest_only, boxed_halves, halves_law}

rising_joined : (fs gs : List (List ℕ)) → Rising fs → Rising gs → ((f g : List ℕ) → Contains fs f → Contains gs g → Before f g) → Rising (fs ++ gs)
rising_joined [] gs p q h = q
rising_joined (f ∷ fs) gs p q h = (
  λ g m. ⊎_elim (λ (a : Contains fs g). p.0 g a) (λ (a : Contains gs g). h f g (0, omega arith, refl) a) (Contains-append_cases fs gs g m),
  rising_joined fs gs p.1 q (λ x y a c. h x y (Contains-append_right (f ∷ []) fs x a) c),
)

volume_one : (b : List ℕ) → single b ≡ true → volume b ≡ 1
volume_one [] s = refl
volume_one (l ∷ b) s = let h = single_head l b s in rw (h.0, volume_one b h.1) refl

one_filling : (b : List ℕ) → Boxed b → single b ≡ true → FillingsOf b (lowest_filling b ∷ [])
one_filling b o s = record {
  all = λ f. (λ i. (0, omega arith, sym (lowest_only f b o.1 s i)), held f);
  rising = (λ g m. absurd (omega (arith, m.1)), tt);
  many = sym (volume_one b s);
}
  where
    held : (f : List ℕ) → Contains (lowest_filling b ∷ []) f → In f b
    held f m =
        ⊎_elim
        (λ (n : Contains [] f). absurd (omega (arith, n.1)))
        (λ (e : lowest_filling b ≡ f). subst (λ (g : List ℕ). In g b) e (lowest_held b o.1))
        (Contains-push_cases [] (lowest_filling b) f m)

both_fillings : (b : List ℕ) (fs gs : List (List ℕ)) → Boxed b → single b ≡ false
    → FillingsOf (first_half b) fs → FillingsOf (second_half b) gs → FillingsOf b (fs ++ gs)
both_fillings b fs gs o s p q =
    let k = halves_law b o s in
    record {
      all = λ f. (
        λ i. ⊎_elim
            (λ (a : In f (first_half b)). Contains-append_left fs gs f ((p.all f).0 a))
            (λ (a : In f (second_half b)). Contains-append_right fs gs f ((q.all f).0 a))
            ((k.either f).0 i),
        λ m. (k.either f).1 (⊎_elim (λ (a : Contains fs f). inl ((p.all f).1 a)) (λ (a : Contains gs f). inr ((q.all f).1 a)) (Contains-append_cases fs gs f m)),
      );
      rising = rising_joined fs gs p.rising q.rising (λ f g a c. k.ordered f g ((p.all f).1 a) ((q.all g).1 c));
      many = omega (arith, length-append fs gs, p.many, q.many, k.volumes);
    }

fillings_of : (n : ℕ) (b : List ℕ) → Boxed b → volume b ≤ n → (fs : List (List ℕ)) × FillingsOf b fs
fillings_of zero b o h = absurd (omega (arith, volume_pos b o.1))
fillings_of (suc n) b o h =
    ⊎_elim
    (λ (s : single b ≡ true). (lowest_filling b ∷ [], one_filling b o s))
    (λ (s : single b ≡ false).
    let k = boxed_halves b o s in
    let v = volume_split b o.1 s in
    let p = fillings_of n (first_half b) k.0 (omega (arith, v, volume_pos (second_half b) k.1.1)) in
    let q = fillings_of n (second_half b) k.1 (omega (arith, v, volume_pos (first_half b) k.0.1)) in
    (p.0 ++ q.0, both_fillings b p.0 q.0 o s p.1 q.1))
    (cases_Bool (single b))

one_only : (b : List ℕ) → Boxed b → volume b ≡ 1 → single b ≡ true
one_only b o e =
    ⊎_elim
    (λ (s : single b ≡ true). s)
    (λ (s : single b ≡ false).
    let k = boxed_halves b o s in
    absurd (omega (arith, e, volume_split b o.1 s, volume_pos (first_half b) k.0.1, volume_pos (second_half b) k.1.1)))
    (cases_Bool (single b))

pub volume_law : VolumeCounts
volume_law b o = record { fillings = fillings_of (volume b) b o (omega arith); one = (volume_one b, one_only b o) }

-- the product of the counts of the labels, one by one
pub volume_fold : (v : ℕ) (b : List ℕ) → fold (λ (x l : ℕ). x * l) v (map ones b) ≡ v * volume b
volume_fold v [] = sym (mul-one v)
volume_fold v (l ∷ b) = volume_fold (v * ones l) b ∙ mul_assoc v (ones l) (volume b)

-- that of the first n is no more
volume_front : (v n : ℕ) (b : List ℕ) → Full b → fold (λ (x l : ℕ). x * l) v (take n (map ones b)) ≤ v * volume b
volume_front v zero b f = let m = mul-le v 1 v (volume b) (omega arith) (volume_pos b f) in omega (arith, m)
volume_front v (suc n) [] f = omega (arith, mul-one v)
volume_front v (suc n) (l ∷ b) f = let ih = volume_front (v * ones l) n b (full_tail l b f) in omega (arith, ih, mul_assoc v (ones l) (volume b))

-- a chain that gives the count of each label
module _ {S : Type 0} {steps : S → Option ℕ → S → Type 0} (s : S) (b : List ℕ) where
  pub product_fits : Boxed b → YieldsList steps (λ x. x) s (map ones b) → EachRunFrom steps s (λ p. fold (λ x l. x * l) 1 p.items < 2 ^ 128)
  unfolding YieldsRun
  product_fits o y = λ p _ at. fits p.items (sym (map-id p.items) ∙ YieldsList-so_far y p.items p.gave.0.0 (subst (λ u. Yields steps u p.items p.gave.0.0) at p.gave.0.1))
    where
      fits : (xs : List ℕ) → xs ≡ take (length xs) (map ones b) → fold (λ (x l : ℕ). x * l) 1 xs < 2 ^ 128
      fits xs e = omega (arith, ap (fold (λ (x l : ℕ). x * l) 1) e, volume_front 1 (length xs) b o.1, volume_small b o.2, ap (λ (n : ℕ). 16 ^ n) o.0)

  pub product_is : (r : ℕ) → ((xs : List ℕ) × (⊤ → Drains steps s xs) × (r ≡ fold (λ x l. x * l) 1 xs)) → YieldsList steps (λ x. x) s (map ones b) → r ≡ volume b
  product_is r h y = h.2 ∙ ap (fold (λ (x l : ℕ). x * l) 1) (sym (map-id h.0) ∙ all (h.1 tt)) ∙ volume_fold 1 b ∙ one-mul (volume b)
    where
      all : Drains steps s h.0 → map (λ (x : ℕ). x) h.0 ≡ map ones b
      all d = (YieldsList-end y h.0 d.1.0 d.1.1 None d.0 refl d.1.2).0
