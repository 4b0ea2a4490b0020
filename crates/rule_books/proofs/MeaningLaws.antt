-- Kits are the solutions of the problem that their form, choices and rules mean.
use Rattle.std.proofs.Common.{◌≡◌, ℕ, zero, suc, ◌<◌, ◌≤◌, true, eqb, leb, ◌⊎◌, List, [], ◌∷◌, map, length, get_or, Some, None, Option, unwrap_or, sym, refl, ap, ◌∙◌, subst, inl, inr, ⊎_elim, le_of_suc-le-suc, arith}
use mathlib.Core.Path.{fun_ext}
use Rattle.std.proofs.lemmas.List.FromFn.{length-map-range_with_len, get_or-map-range_with_len}
use Rattle.std.proofs.lemmas.List.{ext_get_or, get_or_past}
use Rattle.std.proofs.lemmas.Bool.{and_parts, cases_Bool, cases_lt, eqb-true, eqb-false, leb-true}
use Rattle.std.specs.List.{range_with_len}
use Rattle.catalogue.specs.Catalogues.{Rule}
use Rattle.catalogue.specs.Lawful.{all, any, slot_lawful}
use Rattle.catalogue.specs.declared.model.Slot.{Slot}
use Rattle.kits.specs.Kits.{Kit, Minimal, Emptied}
use Rattle.kits.specs.Labels.{bit, Has}
use Rattle.kits.specs.Laws.{Iff}
use Rattle.kits.specs.declared.choices.Choice.{Choice}
use Rattle.kits.proofs.BoxLaws.{in_at}
use Rattle.kits.proofs.LabelLaws.{bit_one}
use Rattle.forms.specs.Forms.{form_lawful}
use Rattle.forms.specs.Opening.{opening_box, MayTake}
use Rattle.forms.proofs.OpeningLaws.{opening_length, opening_means}
use Rattle.rule_books.specs.Conditional.{Assignment, Solution, Subset, Agree, MinimalSolution}
use Rattle.rule_books.specs.Meaning.{rules_at, problem, slot_value, assigned, SameSolutions, KitsAreSolutions}
use Rattle.rule_books.specs.Tables.{table_allows}
use Rattle.rule_books.specs.ExactLaws.{in_length, in_by}
use Rattle.rule_books.proofs.MeaningRules.{Satisfied, value_number, value_some, value_is, filled, rules_satisfied}

-- an unused slot may take 0 only
unused : (slots : List Slot) (choices : List Choice) (k v : ℕ) → length slots ≤ k → k < length choices → Iff (MayTake slots choices k v) (v ≡ 0)
unused slots [] k v h w = absurd (omega arith)
unused [] (c ∷ cs) zero v h w = (λ m. m, λ e. e)
unused [] (c ∷ cs) (suc k) v h w = unused [] cs k v (omega arith) (le_of_suc-le-suc w)
unused (s ∷ slots) (c ∷ cs) zero v h w = absurd (omega arith)
unused (s ∷ slots) (c ∷ cs) (suc k) v h w = unused slots cs k v (le_of_suc-le-suc h) (le_of_suc-le-suc w)

-- the filling of an assignment
abbrev filling : Assignment → List ℕ
filling S = map (λ x. unwrap_or (S x) 0) (range_with_len 0 24)

filling_length : (S : Assignment) → length (filling S) ≡ 24
filling_length S = length-map-range_with_len (λ x. unwrap_or (S x) 0) 0 24

filling_at : (S : Assignment) (x : ℕ) (o : Option ℕ) → x < 24 → S x ≡ o → get_or (filling S) x 0 ≡ unwrap_or o 0
filling_at S x o w e = get_or-map-range_with_len (λ x. unwrap_or (S x) 0) 0 24 x x 0 w (omega arith) ∙ ap (λ o. unwrap_or o 0) e

-- an assignment is of one filling of each length
same_filling : (f g : List ℕ) → length f ≡ length g → Agree (assigned f) (assigned g) → f ≡ g
same_filling f g e a = ext_get_or 0 f g e (λ k w. sym (value_number (get_or f k 0)) ∙ ap (λ o. unwrap_or o 0) (a k) ∙ value_number (get_or g k 0))

-- what comes by emptying slots is a subset
emptied_subset : (f g : List ℕ) → Emptied f g → Subset (assigned g) (assigned f)
emptied_subset [] [] m x v e = e
emptied_subset [] (w ∷ g) m x v e = absurd m
emptied_subset (u ∷ f) [] m x v e = absurd m
emptied_subset (u ∷ f) (w ∷ g) m zero v e =
    ⊎_elim
    (λ (z : w ≡ 0). let n : None ≡ Some v = sym (ap slot_value z) ∙ e in absurd (grind arith))
    (λ (s : w ≡ u). sym (ap slot_value s) ∙ e)
    m.0
emptied_subset (u ∷ f) (w ∷ g) m (suc x) v e = emptied_subset f g m.1 x v e

subset_emptied : (f g : List ℕ) → length f ≡ length g → Subset (assigned g) (assigned f) → Emptied f g
subset_emptied [] [] e s = tt
subset_emptied [] (w ∷ g) e s = absurd (omega arith)
subset_emptied (u ∷ f) [] e s = absurd (omega arith)
subset_emptied (u ∷ f) (w ∷ g) e s = (head w (s 0), subset_emptied f g (omega arith) (λ x. s (suc x)))
  where
    head : (w : ℕ) → ((v : ℕ) → slot_value w ≡ Some v → slot_value u ≡ Some v) → (w ≡ 0) ⊎ (w ≡ u)
    head zero h = inl refl
    head (suc p) h = inr (sym (value_is (u ∷ f) 0 (suc p) (h (suc p) refl)))

module _ (slots : List Slot) (choices : List Choice) (rules : List Rule) (rs : List ℕ)
    (lawful : form_lawful slots ≡ true) (long : length choices ≡ 24) where
  abbrev box : List ℕ
  box = opening_box slots choices

  abbrev IsKit : List ℕ → Type 0
  IsKit f = Kit (table_allows rules) rs box f

  abbrev Solves : Assignment → Type 0
  Solves S = Solution (problem slots choices (rules_at rules rs)) S

  abbrev IsMinimal : List ℕ → Type 0
  IsMinimal f = Minimal (table_allows rules) rs box f

  abbrev SolvesMinimally : Assignment → Type 0
  SolvesMinimally S = MinimalSolution (problem slots choices (rules_at rules rs)) S

  slots_fit : length slots ≤ 24
  slots_fit =
      let sizes = (and_parts _ (all slot_lawful slots) (and_parts _ (any (λ s. s.standard) slots) lawful).0).0 in
      leb-true _ _ (and_parts (leb 1 (length slots)) _ sizes).1

  box_length : length box ≡ 24
  box_length = opening_length slots choices ∙ long

  kit_length : (f : List ℕ) → IsKit f → length f ≡ 24
  kit_length f k = in_length f box k.inside ∙ box_length

  taken : (x v : ℕ) → x < 24 → Iff (Has (get_or box x 0) v) (MayTake slots choices x v)
  taken x v w = opening_means slots choices x v (omega arith)

  kit_takes : (f : List ℕ) → IsKit f → (x v : ℕ) → x < 24 → get_or f x 0 ≡ v → MayTake slots choices x v
  kit_takes f k x v w e = (taken x v w).0 (subst (Has (get_or box x 0)) e (in_at f box x (omega (arith, box_length)) k.inside))

  -- a filled slot is used
  filled_used : (f : List ℕ) → IsKit f → (x v : ℕ) → get_or f x 0 ≡ v → 0 < v → x < length slots
  filled_used f k x v e p =
      ⊎_elim
      (λ (w : x < 24).
      ⊎_elim
      (λ (u : x < length slots). u)
      (λ (u : length slots ≤ x). absurd (omega (arith, (unused slots choices x v u (omega arith)).0 (kit_takes f k x v w e))))
      (cases_lt x (length slots)))
      (λ (w : 24 ≤ x). absurd (omega (arith, get_or_past f x 0 (omega (arith, kit_length f k)))))
      (cases_lt x 24)

  kit_solves : (f : List ℕ) → IsKit f → Solves (assigned f)
  kit_solves f k = record {
    values = λ x v a.
        let e = value_is f x v a in
        let n = eqb-false _ _ ((filled (get_or f x 0)).1 (v, a)) in
        let p : 0 < v = omega arith in
        let u = filled_used f k x v e p in
        (u, (p, kit_takes f k x v (omega (arith, slots_fit)) e));
    initials = λ x u i.
        ⊎_elim
        (λ (z : eqb (get_or f x 0) 0 ≡ true). absurd (i (kit_takes f k x 0 (omega (arith, slots_fit)) (eqb-true _ _ z))))
        (filled (get_or f x 0)).0
        (cases_Bool (eqb (get_or f x 0) 0));
    constraints = (rules_satisfied f rules rs).0 k.allowed;
  }

  module _ (S : Assignment) (s : Solves S) where
    agrees : Agree (assigned (filling S)) S
    agrees x = by (S x) refl
      where
        by : (o : Option ℕ) → S x ≡ o → assigned (filling S) x ≡ o
        by None e =
            ap slot_value
            (⊎_elim
            (λ (w : x < 24). filling_at S x None w e)
            (λ (w : 24 ≤ x). get_or_past (filling S) x 0 (omega (arith, filling_length S)))
            (cases_lt x 24))
        by (Some v) e =
            let d = s.values x v e in
            ap slot_value (filling_at S x (Some v) (omega (arith, slots_fit, d.0)) e) ∙ value_some v d.1.0

    -- a slot without a value may be empty
    takes : (x : ℕ) → x < 24 → (o : Option ℕ) → S x ≡ o → MayTake slots choices x (unwrap_or o 0)
    takes x w None e =
        ⊎_elim
        (λ (u : x < length slots).
        ⊎_elim
        (taken x 0 w).0
        (λ (n : bit 0 (get_or box x 0) ≡ 0). let a = (s.initials x u (λ m. absurd (omega (arith, (taken x 0 w).1 m)))).1 in absurd (grind arith))
        (bit_one 0 (get_or box x 0)))
        (λ (u : length slots ≤ x). (unused slots choices x 0 u (omega arith)).1 refl)
        (cases_lt x (length slots))
    takes x w (Some v) e = (s.values x v e).1.1

    found_kit : IsKit (filling S)
    found_kit = record {
      inside = in_by (filling S) box (filling_length S ∙ sym box_length) (λ x w.
          let h : x < 24 = omega (arith, box_length) in
          (taken x _ h).1 (subst (MayTake slots choices x) (sym (filling_at S x (S x) h refl)) (takes x h (S x) refl)));
      allowed = (rules_satisfied (filling S) rules rs).1 (subst (λ T. Satisfied T (rules_at rules rs)) (fun_ext (λ x. sym (agrees x))) s.constraints);
    }

  kits_once : (f g : List ℕ) → IsKit f → IsKit g → Agree (assigned f) (assigned g) → f ≡ g
  kits_once f g k j a = same_filling f g (kit_length f k ∙ sym (kit_length g j)) a

  minimal_solves : (f : List ℕ) → IsMinimal f → SolvesMinimally (assigned f)
  minimal_solves f m = record {
    solution = kit_solves f m.kit;
    least = λ T t s.
        let k = found_kit T t in
        let a = agrees T t in
        let h = subset_emptied f (filling T) (kit_length f m.kit ∙ sym (filling_length T)) (λ x v e. s x v (sym (a x) ∙ e)) in
        λ x. sym (a x) ∙ ap (λ g. assigned g x) (m.least (filling T) k h);
  }

  found_minimal : (S : Assignment) → SolvesMinimally S → IsMinimal (filling S)
  found_minimal S m =
      let k = found_kit S m.solution in
      let a = agrees S m.solution in
      record {
        kit = k;
        least = λ g j h.
            let e = m.least (assigned g) (kit_solves g j) (λ x v e. sym (a x) ∙ emptied_subset (filling S) g h x v e) in
            kits_once g (filling S) j k (λ x. e x ∙ sym (a x));
      }

  same_solutions : SameSolutions slots choices rules rs
  same_solutions = record {
    kits = record { solves = kit_solves; found = λ S s. (filling S, (found_kit S s, agrees S s)); once = kits_once };
    minimal = record {
      solves = minimal_solves;
      found = λ S m. (filling S, (found_minimal S m, agrees S m.solution));
      once = λ f g m n. kits_once f g m.kit n.kit;
    };
  }

pub kits_are_solutions : KitsAreSolutions
kits_are_solutions = same_solutions
