-- Cells that are taken apart: by slice patterns, and by loops that go on with what is left.
use Rattle.std.proofs.Common.{◌≡◌, ℕ, zero, suc, ◌+◌, ◌-◌, ◌*◌, ◌<◌, Bool, true, false, cond, ◌&&◌, List, [], ◌∷◌, ◌++◌, map, length, get_or, take, drop, is_some, Some, None, Option, sym, refl, ap, ◌∙◌, ⊎_elim, append_assoc, arith, length-take}
use lib.ListN.{length-map}
use Rattle.std.specs.Bool.{then_some}
use Rattle.std.specs.Option.{option_map}
use Rattle.std.proofs.lemmas.List.{take_rest, at_drop_more}
use Rattle.std.proofs.lemmas.Bool.{cases_Bool}
use Rattle.fields.proofs.Views.{rest}
use Rattle.fields.specs.Results.{and_then}
use Rattle.catalogue.specs.declared.model.Kind.{Kind}
use Rattle.catalogue.specs.declared.model.Slot.{Slot}
use Rattle.catalogue.specs.Catalogues.{Rule}
use Rattle.catalogue.specs.Cells.{slot_of, slot_first, slots_of, kind_of, cut_cells, counted, rows_of, rule_begun, rule_of, rules_of}
use Rattle.catalogue.specs.Lawful.{all, row_lawful}
use Rattle.catalogue.proofs.CellLaws.{cut_says, row_wide}

-- what a slice pattern calls `rest` after its first k elements
abbrev pub rest_after : ℕ → List ℕ → List ℕ
rest_after k xs = take (length xs - k) (drop k xs)

pub counted_none : (cs : List ℕ) → length cs < 1 → counted cs ≡ None
counted_none [] h = refl
counted_none (c ∷ cs) h = absurd (omega arith)

pub counted_some : (cs : List ℕ) → 0 < length cs → counted cs ≡ Some (get_or cs 0 0, rest cs)
counted_some [] h = absurd (omega arith)
counted_some (c ∷ cs) h = rw (take_rest (c ∷ cs) 1)

-- slots that are found, in front of those that come
abbrev pub with_front : List Slot → Option (List Slot × List ℕ) → Option (List Slot × List ℕ)
with_front xs o = option_map (λ p. (xs ++ p.0, p.1)) o

slots_step : (n c : ℕ) (cs : List ℕ) → 0 < n → slots_of n (c ∷ cs) ≡ and_then (slot_of c) (λ s. slot_first s (slots_of (n - 1) cs))
slots_step zero c cs h = absurd (omega arith)
slots_step (suc n) c cs h = let e : suc n - 1 ≡ n = omega arith in rw e

-- where i slots are found
module _ (cs : List ℕ) (i : ℕ) (xs : List Slot) {R : Option (List Slot × List ℕ)} (h : i < length cs) (inv : with_front xs (slots_of (length cs - i) (drop i cs)) ≡ R) where
  next : slots_of (length cs - i) (drop i cs) ≡ and_then (slot_of (get_or cs i 0)) (λ s. slot_first s (slots_of (length cs - i - 1) (drop (i + 1) cs)))
  next = at_drop_more (slots_of (length cs - i)) cs i 0 h ∙ slots_step (length cs - i) (get_or cs i 0) (drop (i + 1) cs) (omega arith)

  pub slots_failed : None ≡ slot_of (get_or cs i 0) → None ≡ R
  slots_failed e =
      let none : slots_of (length cs - i) (drop i cs) ≡ None = next ∙ rw (← e) in
      sym (ap (with_front xs) none) ∙ inv

  pub slots_passed : {s : Slot} → Some s ≡ slot_of (get_or cs i 0) → with_front (xs ++ s ∷ []) (slots_of (length cs - (i + 1)) (drop (i + 1) cs)) ≡ R
  slots_passed {s} e =
      let m : length cs - (i + 1) ≡ length cs - i - 1 = omega arith in
      let some : slots_of (length cs - i) (drop i cs) ≡ slot_first s (slots_of (length cs - i - 1) (drop (i + 1) cs)) = next ∙ rw (← e) in
      rw m (sym (ap (with_front xs) some ∙ joins (slots_of (length cs - i - 1) (drop (i + 1) cs))) ∙ inv)
    where
      joins : (o : Option (List Slot × List ℕ)) → with_front xs (slot_first s o) ≡ with_front (xs ++ s ∷ []) o
      joins None = refl
      joins (Some p) = rw append_assoc

-- n rows that are still to be looked at
module _ (p : List ℕ → Bool) (n wide : ℕ) (cs : List ℕ) (h : 0 < n) where
  rows_step : all p (rows_of n wide cs) ≡ (p (take wide cs) && all p (rows_of (n - 1) wide (drop wide cs)))
  rows_step = go n h
    where
      go : (k : ℕ) → 0 < k → all p (rows_of k wide cs) ≡ (p (take wide cs) && all p (rows_of (k - 1) wide (drop wide cs)))
      go zero l = absurd (omega arith)
      go (suc k) l = let e : suc k - 1 ≡ k = omega arith in rw e

  pub rows_failed : p (take wide cs) ≡ false → all p (rows_of n wide cs) ≡ false
  rows_failed e = rows_step ∙ rw e

  pub rows_passed : p (take wide cs) ≡ true → all p (rows_of n wide cs) ≡ all p (rows_of (n - 1) wide (drop wide cs))
  rows_passed e = rows_step ∙ rw e

-- a row that the cells do not fill
pub rows_short : (f : ℕ → ℕ) (of : List ℕ) (n : ℕ) (cs : List ℕ) → 0 < n → length cs < length of → all (row_lawful (map f of)) (rows_of n (length of) cs) ≡ false
rows_short f of n cs h short =
    ⊎_elim
    (λ (e : row_lawful (map f of) (take (length of) cs) ≡ true). absurd (omega (arith, row_wide (map f of) _ e, length-take (length of) cs, length-map of f)))
    (λ e. rows_failed (row_lawful (map f of)) n (length of) cs h e)
    (cases_Bool (row_lawful (map f of) (take (length of) cs)))

-- a rule's count and rows, and the cells after them
abbrev after_own : Kind → ℕ → List ℕ × List ℕ → Option (Rule × List ℕ)
after_own k wide own =
    and_then (counted own.1) (λ n.
    option_map (λ rows. (record { kind = k; slots = own.0; rows = rows_of n.0 wide rows.0 }, rows.1)) (cut_cells (n.0 * wide) n.1))

rule_some : (cs : List ℕ) (wide : ℕ) → 2 < length cs → wide ≡ get_or cs 2 0
    → rule_begun cs ≡ and_then (kind_of (get_or cs 0 0) (get_or cs 1 0)) (λ k. and_then (cut_cells wide (rest_after 3 cs)) (after_own k wide))
rule_some [] wide l e = absurd (omega arith)
rule_some (a ∷ []) wide l e = absurd (omega arith)
rule_some (a ∷ b ∷ []) wide l e = absurd (omega arith)
rule_some (a ∷ b ∷ c ∷ cs) wide l e = rw (e, take_rest (a ∷ b ∷ c ∷ cs) 3)

-- where a rule's kind and slots are found
module _ (cs : List ℕ) {k : Kind} {wide : ℕ} {own after : List ℕ} (long : 2 < length cs) (kind : Some k ≡ kind_of (get_or cs 0 0) (get_or cs 1 0)) (third : wide ≡ get_or cs 2 0) (cut : Some (own, after) ≡ cut_cells wide (rest_after 3 cs)) where
  rule_from : rule_begun cs ≡ after_own k wide (own, after)
  rule_from = rule_some cs wide long third ∙ rw (← kind, ← cut)

  pub rule_countless : length after < 1 → None ≡ rule_begun cs
  rule_countless h = sym (rule_from ∙ rw (counted_none after h))

  module _ {n : ℕ} (h : 0 < length after) (first : n ≡ get_or after 0 0) where
    pub rule_rowless : None ≡ cut_cells (n * wide) (rest after) → None ≡ rule_begun cs
    rule_rowless e = sym (rule_from ∙ rw (counted_some after h, ← first, ← e))

    pub rule_whole : {rows left : List ℕ} → Some (rows, left) ≡ cut_cells (n * wide) (rest after) → Some (record { kind = k; slots = own; rows = rows_of n (length own) rows }, left) ≡ rule_begun cs
    rule_whole e = sym (rule_from ∙ rw (counted_some after h, ← first, ← e, (cut_says wide (rest_after 3 cs) (own, after) (sym cut)).0))

-- n rules that are still to be taken
module _ (slots : List Slot) (n : ℕ) (cs : List ℕ) (h : 0 < n) where
  rules_step : rules_of n slots cs ≡ and_then (rule_of slots cs) (λ p. option_map (λ rs. p.0 ∷ rs) (rules_of (n - 1) slots p.1))
  rules_step = go n h
    where
      go : (k : ℕ) → 0 < k → rules_of k slots cs ≡ and_then (rule_of slots cs) (λ p. option_map (λ rs. p.0 ∷ rs) (rules_of (k - 1) slots p.1))
      go zero l = absurd (omega arith)
      go (suc k) l = let e : suc k - 1 ≡ k = omega arith in rw e

  pub rules_failed : None ≡ rule_of slots cs → rules_of n slots cs ≡ None
  rules_failed e = rules_step ∙ rw (← e)

  pub rules_passed : {r : Rule} {left : List ℕ} → Some (r, left) ≡ rule_of slots cs → rules_of n slots cs ≡ option_map (λ rs. r ∷ rs) (rules_of (n - 1) slots left)
  rules_passed e = rules_step ∙ rw (← e)

  pub some_passed : {r : Rule} {left : List ℕ} → Some (r, left) ≡ rule_of slots cs → is_some (rules_of (n - 1) slots left) ≡ is_some (rules_of n slots cs)
  some_passed {r} {left} e = sym (ap is_some (rules_passed e) ∙ counts (rules_of (n - 1) slots left))
    where
      counts : (o : Option (List Rule)) → is_some (option_map (λ rs. r ∷ rs) o) ≡ is_some o
      counts None = refl
      counts (Some rs) = refl

-- what is answered where a test holds
pub then_mapped : {X Y : Type 0} (f : X → Y) (x : X) (b : Bool) → option_map f (then_some b x) ≡ cond b (Some (f x)) None
then_mapped f x true = refl
then_mapped f x false = refl
