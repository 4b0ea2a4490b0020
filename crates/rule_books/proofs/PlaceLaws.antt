-- Where the rules of a catalogue begin, found one after another.
use Rattle.std.proofs.Common.{◌≡◌, ℕ, ◌+◌, ◌-◌, ◌<◌, ◌≤◌, true, false, eqb, List, [], ◌∷◌, ◌++◌, length, get_or, take, drop, is_some, Some, None, Option, sym, refl, ap, ◌∙◌, subst, ⊎_elim, arith}
use Rattle.std.specs.Option.{option_map}
use Rattle.std.proofs.lemmas.List.{get_or_push, get_or_append_left, length-append, length-drop, take_at, drop_at, drop-drop, drop_all, drop_more}
use Rattle.std.proofs.lemmas.Bool.{cases_eq, cases_lt, true≢false}
use Rattle.fields.proofs.Chains.{mapped_case}
use Rattle.catalogue.specs.declared.model.Slot.{Slot}
use Rattle.catalogue.specs.Catalogues.{Rule, Catalogue}
use Rattle.catalogue.specs.declared.cells.CatalogueCells.{CatalogueCells}
use Rattle.catalogue.specs.Cells.{rule_cells, rule_of, rules_of, catalogue_of}
use Rattle.catalogue.specs.Listed.{slots_in, catalogue_in}
use Rattle.catalogue.proofs.CellLaws.{rule_says, rules_say}
use Rattle.catalogue.proofs.CellViews.{rules_failed, rules_passed, some_passed}
use Rattle.rule_books.specs.Index.{Last, no_rule, Begins, Placed, PlacesFound}
use Rattle.rule_books.specs.Tables.{rules_or_none, table_rules}

-- the first i of the rules are found at their places, and the others are those of what is left
pub record Placing (cells : List ℕ) (slots : List Slot) (count : ℕ) (rules places : List ℕ) (i : ℕ) (left : List ℕ) : Type 0 where
  pub all : is_some (rules_of (count - i) slots left) ≡ is_some (rules_of count slots rules)
  pub others : (rs : List Rule) → rules_of count slots rules ≡ Some rs → rules_of (count - i) slots left ≡ Some (drop i rs)
  pub placed : (rs : List Rule) → rules_of count slots rules ≡ Some rs → (r : ℕ) → r < i → Begins cells (get_or places r 0) (get_or rs r no_rule)

pub placing_none : (cells : List ℕ) (slots : List Slot) (count : ℕ) (rules places : List ℕ) → Placing cells slots count rules places 0 rules
placing_none cells slots count rules places =
    let e : count - 0 ≡ count = omega arith in
    record {
      all = rw e refl;
      others = λ rs h. rw e h;
      placed = λ rs h r l. absurd (omega arith);
    }

-- what comes after the first of the last cells is the last of the cells too
pub last_after : (xs ys front cells : List ℕ) → Last xs cells → length xs ≤ length cells → front ++ ys ≡ xs → Last ys cells × (length ys ≤ length cells)
last_after xs ys front cells last few e =
    let n = length-append front ys in
    let m = ap length e in
    let k : length cells - length xs + length front ≡ length cells - length ys = omega arith in
    let tail : ys ≡ drop (length front) (drop (length cells - length xs) cells) = sym (drop_at front ys (length front) refl) ∙ ap (drop (length front)) (e ∙ last) in
    (tail ∙ drop-drop (length front) (length cells - length xs) cells ∙ ap (λ (j : ℕ). drop j cells) k, omega arith)

pub last_drop : (n : ℕ) (cells : List ℕ) → Last (drop n cells) cells
last_drop n cells =
    ⊎_elim
    (λ (h : length cells < n). let k : length cells - (length cells - n) ≡ length cells = omega arith in rw (length-drop n cells, k) (drop_all n cells (omega arith) ∙ sym (drop_all (length cells) cells (omega arith))))
    (λ (h : n ≤ length cells). let k : length cells - (length cells - n) ≡ n = omega arith in rw (length-drop n cells, k) refl)
    (cases_lt (length cells) n)

-- a lawful rule is taken off the front of its cells
taken_begins : (slots : List Slot) (cells cs : List ℕ) (x : ℕ) (p : Rule × List ℕ) → rule_of slots cs ≡ Some p → cs ≡ drop x cells → Begins cells x p.0
taken_begins slots cells cs x p h at =
    let n = length (rule_cells p.0) in
    ap (take n) (sym ((rule_says slots cs p h).1 ∙ at)) ∙ take_at (rule_cells p.0) p.1 n refl

-- where there are no rules no places are found
none_found : (cells : List ℕ) (o : Option (List Rule)) → is_some o ≡ false → PlacesFound cells o None
none_found cells None h = tt
none_found cells (Some rs) h = absurd (true≢false h)

module _ (cells : List ℕ) (slots : List Slot) (count : ℕ) (rules places : List ℕ) (i : ℕ) (left : List ℕ) (inv : Placing cells slots count rules places i left) (more : i < count) where
  -- where the next rule is unlawful there are no rules
  pub placing_failed : None ≡ rule_of slots left → PlacesFound cells (rules_of count slots rules) None
  placing_failed e = none_found cells (rules_of count slots rules) (sym inv.all ∙ ap is_some (rules_failed slots (count - i) left (omega arith) e))

  pub placing_more : (p : Rule × List ℕ) (x : ℕ) → length places ≡ i → Some p ≡ rule_of slots left → left ≡ drop x cells → Placing cells slots count rules (places ++ x ∷ []) (i + 1) p.1
  placing_more p x long e at =
      let n : count - (i + 1) ≡ count - i - 1 = omega arith in
      record {
        all = rw n (some_passed slots (count - i) left (omega arith) e ∙ inv.all);
        others = λ rs h. rw n (next rs h).1;
        placed = placed;
      }
    where
      next : (rs : List Rule) → rules_of count slots rules ≡ Some rs → (get_or rs i no_rule ≡ p.0) × (rules_of (count - i - 1) slots p.1 ≡ Some (drop (i + 1) rs))
      next rs h =
          let a = inv.others rs h in
          let b = rules_passed slots (count - i) left (omega arith) e in
          mapped_case (λ qs. p.0 ∷ qs) (rules_of (count - i - 1) slots p.1) (drop i rs) (sym b ∙ a) (λ qs c d.
          let l : i < length rs = omega (arith, (rules_say slots count rules rs h).0) in
          let f : p.0 ∷ qs ≡ get_or rs i no_rule ∷ drop (i + 1) rs = d ∙ drop_more rs i no_rule l in
          (cc, c ∙ ap Some (cc)))

      placed : (rs : List Rule) → rules_of count slots rules ≡ Some rs → (r : ℕ) → r < i + 1 → Begins cells (get_or (places ++ x ∷ []) r 0) (get_or rs r no_rule)
      placed rs h r l =
          ⊎_elim
          (λ (s : r ≡ i).
          let y : get_or (places ++ x ∷ []) r 0 ≡ x = rw s (get_or_push places x 0 i long) in
          rw (y, s) (subst (Begins cells x) (sym (next rs h).0) (taken_begins slots cells left x p (sym e) at)))
          (λ (s : r ≡ i → ⊥). rw (get_or_append_left places (x ∷ []) 0 r (omega arith)) (inv.placed rs h r (omega arith)))
          (cases_eq r i)

-- all rules are found
module _ (cells : List ℕ) (slots : List Slot) (count : ℕ) (rules places : List ℕ) (i : ℕ) (left : List ℕ) (inv : Placing cells slots count rules places i left) (all : count ≤ i) where
  done : count - i ≡ 0
  done = omega arith

  pub placing_all : length places ≡ i → i ≤ count → eqb (length left) 0 ≡ true → PlacesFound cells (rules_of count slots rules) (Some places)
  placing_all long end h = go (rules_of count slots rules) refl (sym inv.all ∙ rw (done, h) refl)
    where
      go : (o : Option (List Rule)) → rules_of count slots rules ≡ o → is_some o ≡ true → PlacesFound cells o (Some places)
      go None e t = absurd (true≢false (sym t))
      go (Some rs) e t = let n = (rules_say slots count rules rs e).0 in (omega (arith, n), λ r l. inv.placed rs e r (omega (arith, n)))

  pub placing_unfinished : eqb (length left) 0 ≡ false → PlacesFound cells (rules_of count slots rules) None
  placing_unfinished h = none_found cells (rules_of count slots rules) (sym inv.all ∙ rw (done, h) refl)

pub no_cells : table_rules [] ≡ []
unfolding table_rules
no_cells = refl

pub unsaid : (cells : List ℕ) → None ≡ catalogue_of cells → table_rules cells ≡ []
unfolding table_rules
unsaid cells e = ap rules_or_none (sym e)

-- what the parts of cells say of the rules in them
module _ (cells : List ℕ) (c : CatalogueCells) (said : catalogue_in c ≡ catalogue_of cells) where
  pub slotless : None ≡ slots_in c.slots.now → table_rules cells ≡ []
  unfolding table_rules
  slotless e = ap rules_or_none {y = None} (sym said ∙ rw (← e) refl)

  module _ (slots : List Slot) (own : Some slots ≡ slots_in c.slots.now) where
    abbrev with_rules : Option (List Rule) → Option Catalogue
    with_rules o = option_map (λ rs. record { mark = c.mark; slots = slots; rules = rs }) o

    rules_said : table_rules cells ≡ rules_or_none (with_rules (rules_of c.count slots c.rules.now))
    unfolding table_rules
    rules_said = ap rules_or_none {y = with_rules (rules_of c.count slots c.rules.now)} (sym said ∙ rw (← own) refl)

    pub ruleless : PlacesFound cells (rules_of c.count slots c.rules.now) None → table_rules cells ≡ []
    ruleless f = rules_said ∙ go (rules_of c.count slots c.rules.now) f
      where
        go : (o : Option (List Rule)) → PlacesFound cells o None → rules_or_none (with_rules o) ≡ []
        go None f = refl
        go (Some rs) f = absurd f

    pub ruled : (places : List ℕ) → PlacesFound cells (rules_of c.count slots c.rules.now) (Some places)
        → (c.count ≡ length (table_rules cells)) × Placed cells places (table_rules cells)
    ruled places f = go (rules_of c.count slots c.rules.now) refl f
      where
        go : (o : Option (List Rule)) → rules_of c.count slots c.rules.now ≡ o → PlacesFound cells o (Some places) → (c.count ≡ length (table_rules cells)) × Placed cells places (table_rules cells)
        go None e f = absurd f
        go (Some rs) e f = rw (rules_said, e) (sym (rules_say slots c.count c.rules.now rs e).0, f)
