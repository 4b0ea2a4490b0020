-- Cells that are taken apart as those of a whole catalogue.
use Rattle.std.proofs.Common.{◌≡◌, ℕ, zero, suc, ◌+◌, ◌<◌, ◌≤◌, Bool, true, false, cond, ◌&&◌, leb, List, [], ◌∷◌, ◌++◌, length, get_or, drop, Some, None, Option, sym, refl, ap, ◌∙◌, arith}
use Rattle.std.specs.Option.{option_map}
use Rattle.std.proofs.lemmas.List.{take_rest, drop_at, drop-drop}
use Rattle.std.proofs.lemmas.Bool.{false≢true, cond-true, cond-false, cond_both}
use Rattle.std.proofs.lemmas.Bool.Decides.{nat_tests}
use Rattle.fields.specs.Results.{and_then}
use Rattle.catalogue.specs.declared.model.Slot.{Slot}
use Rattle.catalogue.specs.Catalogues.{Rule, Catalogue}
use Rattle.catalogue.specs.Cells.{slot_of, slot_first, slots_of, cut_cells, counted, rules_of, lawful_head, catalogue_of}
use Rattle.catalogue.specs.Lawful.{any}
use Rattle.catalogue.specs.Listed.{slots_in}
use Rattle.catalogue.proofs.CellLaws.{slots_say, cut_says, rules_say}
use Rattle.catalogue.proofs.CellViews.{rest_after, counted_none}

nothing : {T U : Type 0} (o : Option T) → ◌≡◌ {A = Option U} (and_then o (λ x. None)) None
nothing None = refl
nothing (Some x) = refl

chained : {T U V : Type 0} (f : T → U) (g : U → Option V) (o : Option T) → and_then (option_map f o) g ≡ and_then o (λ x. g (f x))
chained f g None = refl
chained f g (Some x) = refl

any_some : {X : Type 0} (p : X → Bool) (xs : List X) → any p xs ≡ true → 0 < length xs
any_some p [] h = absurd (false≢true h)
any_some p (x ∷ xs) h = omega arith

-- the slots of cells are found whatever comes after them
slots_before : (own after : List ℕ) → slots_of (length own) (own ++ after) ≡ option_map (λ s. (s.0, after)) (slots_of (length own) own)
slots_before [] after = refl
slots_before (c ∷ own) after = ap (λ o. and_then (slot_of c) (λ s. slot_first s o)) (slots_before own after) ∙ moved (slot_of c) (slots_of (length own) own)
  where
    moved : (o : Option Slot) (q : Option (List Slot × List ℕ)) → and_then o (λ s. slot_first s (option_map (λ p. (p.0, after)) q)) ≡ option_map (λ p. (p.0, after)) (and_then o (λ s. slot_first s q))
    moved None q = refl
    moved (Some s) None = refl
    moved (Some s) (Some p) = refl

slots_short : (n : ℕ) (cs : List ℕ) → length cs < n → slots_of n cs ≡ None
slots_short zero cs h = absurd (omega arith)
slots_short (suc n) [] h = refl
slots_short (suc n) (c ∷ cs) h = ap (λ o. and_then (slot_of c) (λ s. slot_first s o)) (slots_short n cs (omega arith)) ∙ nothing (slot_of c)

-- a test of slots and rules is a test of neither, then one of the slots
tested : (b c : Bool) (test : List Rule → Bool) (make : List Slot → List Rule → Catalogue) (rules : List Slot → Option (List Rule)) (ss : List Slot) (o : Option (List Rule))
    → rules ss ≡ o → ((rs : List Rule) → o ≡ Some rs → test rs ≡ (b && c))
    → and_then o (λ rs. cond (test rs) (Some (make ss rs)) None) ≡ cond b (and_then (cond c (Some ss) None) (λ x. option_map (make x) (rules x))) None
tested true true test make rules ss None e h = rw e
tested true true test make rules ss (Some rs) e h = rw (e, h rs refl)
tested true false test make rules ss None e h = refl
tested true false test make rules ss (Some rs) e h = rw (h rs refl)
tested false c test make rules ss None e h = refl
tested false c test make rules ss (Some rs) e h = rw (h rs refl)

-- at most 8,192 cells, and at most 64 rules
abbrev few : List ℕ → ℕ → Bool
few cs rules = leb (length cs) 8192 && leb rules 64

abbrev with_rules : ℕ → List Slot → List Rule → Catalogue
with_rules mark slots rules = record { mark = mark; slots = slots; rules = rules }

-- a count and so many rules that are all the cells
abbrev after_slots : List ℕ → List Slot × List ℕ → Option Catalogue
after_slots cs s =
    and_then (counted s.1) (λ n.
    and_then (rules_of n.0 s.0 n.1) (λ rs.
    lawful_head cs (with_rules (get_or cs 0 0) s.0 rs)))

catalogue_some : (cs : List ℕ) (used : ℕ) → 1 < length cs → used ≡ get_or cs 1 0 → catalogue_of cs ≡ and_then (slots_of used (rest_after 2 cs)) (after_slots cs)
catalogue_some [] used l e = absurd (omega arith)
catalogue_some (a ∷ []) used l e = absurd (omega arith)
catalogue_some (a ∷ b ∷ cs) used l e = rw (e, take_rest (a ∷ b ∷ cs) 2)

module _ (cs : List ℕ) {used : ℕ} (long : 1 < length cs) (second : used ≡ get_or cs 1 0) where
  pub catalogue_slotless : length (rest_after 2 cs) < used → None ≡ catalogue_of cs
  catalogue_slotless h = sym (catalogue_some cs used long second ∙ rw (slots_short used (rest_after 2 cs) h))

  -- where the cells of the slots are found
  module _ {own after : List ℕ} (cut : Some (own, after) ≡ cut_cells used (rest_after 2 cs)) where
    own_slots : slots_of used (rest_after 2 cs) ≡ option_map (λ s. (s.0, after)) (slots_of (length own) own)
    own_slots = let b = cut_says used (rest_after 2 cs) (own, after) (sym cut) in rw (← b.1, ← b.0) (slots_before own after)

    catalogue_from : catalogue_of cs ≡ and_then (slots_of (length own) own) (λ s. after_slots cs (s.0, after))
    catalogue_from = catalogue_some cs used long second ∙ rw own_slots (chained _ _ (slots_of (length own) own))

    pub catalogue_countless : length after < 1 → None ≡ catalogue_of cs
    catalogue_countless h = sym (catalogue_from ∙ rw (counted_none after h) (nothing (slots_of (length own) own)))

    -- where the count is found, and the mark is one of 16 bits
    module _ {count : ℕ} {left : List ℕ} (is : after ≡ count ∷ left) (mark : get_or cs 0 0 ≤ 65535) where
      weighed : catalogue_of cs ≡ cond (few cs count) (and_then (slots_in own) (λ ss. option_map (with_rules (get_or cs 0 0) ss) (rules_of count ss left))) None
      weighed = catalogue_from ∙ rw is (go (slots_of (length own) own) refl)
        where
          go : (o : Option (List Slot × List ℕ)) → slots_of (length own) own ≡ o
              → and_then o (λ s. and_then (rules_of count s.0 left) (λ rs. lawful_head cs (with_rules (get_or cs 0 0) s.0 rs)))
              ≡ cond (few cs count) (and_then (and_then o (λ s. cond (leb (length own) 24 && any (λ x. x.standard) s.0) (Some s.0) None)) (λ ss. option_map (with_rules (get_or cs 0 0) ss) (rules_of count ss left))) None
          go None e = cond_both (few cs count) None None (λ x. None ≡ x) (λ y. refl) (λ y. refl)
          go (Some s) e =
              let size = (slots_say (length own) own s e).0 in
              let nonempty = any_some (λ x. x.standard) s.0 in
              tested (few cs count) (leb (length own) 24 && any (λ x. x.standard) s.0) _ (with_rules (get_or cs 0 0)) (λ ss. rules_of count ss left) s.0 _ refl
              (λ rs found. let many = (rules_say s.0 count left rs found).0 in grind (arith, nat_tests))

      pub catalogue_large : few cs count ≡ false → None ≡ catalogue_of cs
      catalogue_large e = sym (weighed ∙ cond-false _ _ _ e)

      pub catalogue_whole : few cs count ≡ true → and_then (slots_in own) (λ ss. option_map (with_rules (get_or cs 0 0) ss) (rules_of count ss left)) ≡ catalogue_of cs
      catalogue_whole e = sym (weighed ∙ cond-true _ _ _ e)

-- the rules begin after the mark, the count of slots, the slots and the count of rules
pub rules_begin : (cs : List ℕ) (used : ℕ) {own after : List ℕ} {count : ℕ} {left : List ℕ} → Some (own, after) ≡ cut_cells used (rest_after 2 cs) → after ≡ count ∷ left → left ≡ drop (3 + length own) cs
rules_begin cs used {own} {after} {count} {left} cut is =
    let b = cut_says used (rest_after 2 cs) (own, after) (sym cut) in
    let tail : after ≡ drop (length own) (drop 2 cs) = sym (drop_at own after (length own) refl) ∙ ap (drop (length own)) (b.1 ∙ take_rest cs 2) in
    let place : 2 + length own + 1 ≡ 3 + length own = omega arith in
    sym (ap (drop 1) is) ∙ ap (drop 1) tail ∙ ap (drop 1) (drop-drop (length own) 2 cs) ∙ drop-drop 1 (2 + length own) cs ∙ ap (λ (n : ℕ). drop n cs) place
