-- The rules that cells say, and the rule at a place.
use Rattle.std.specs.Prelude.{◌≡◌, ℕ, zero, suc, ◌+◌, ◌-◌, ◌<◌, ◌≤◌, Bool, true, List, [], ◌∷◌, ◌++◌, length, take, drop, Some, None, Option, slice_index_or, slice_range, refl}
use Rattle.std.proofs.Common.{sym, ap, ◌∙◌, le_of_suc-le-suc, arith}
use Rattle.std.proofs.Math.Path.{fun_ext}
use Rattle.std.proofs.lemmas.List.{take-append-drop, drop-take, length-take, length-drop}
use Rattle.std.proofs.lemmas.Bool.{and_parts, leb-true, lt-ltb}
use Rattle.catalogue.specs.declared.model.Slot.{Slot}
use Rattle.catalogue.specs.Catalogues.{Rule, Catalogue}
use Rattle.catalogue.specs.Cells.{rule_cells, rule_begun, catalogue_of}
use Rattle.catalogue.specs.Lawful.{all, slot_lawful, rule_lawful}
use Rattle.catalogue.proofs.CellLaws.{cells_say, rule_begins}
use Rattle.catalogue.proofs.LawfulParts.{lawful_parts, within}
use Rattle.rule_books.specs.Exact.{exact}
use Rattle.rule_books.specs.Index.{no_rule, Begins}
use Rattle.rule_books.specs.Rules.{rule_allows}
use Rattle.rule_books.specs.Tables.{rules_or_none, table_rules, table_allows, table_narrowed}

-- the rules that cells say are lawful over some slots
pub record LawfulRules (rules : List Rule) : Type 0 where
  pub slots : List Slot
  pub used : length slots ≤ 24
  pub parts : all slot_lawful slots ≡ true
  pub few : length rules ≤ 64
  pub lawful : all (rule_lawful slots) rules ≡ true

pub rules_lawful : (cells : List ℕ) → LawfulRules (table_rules cells)
unfolding table_rules
rules_lawful cells = go (catalogue_of cells) refl
  where
    go : (o : Option Catalogue) → catalogue_of cells ≡ o → LawfulRules (rules_or_none o)
    go None e = record { slots = []; used = omega arith; parts = refl; few = omega arith; lawful = refl }
    go (Some c) e =
        let p = lawful_parts c (cells_say cells c e).0 in
        record {
          slots = c.slots;
          used = (within 1 24 (length c.slots) p.used).1;
          parts = p.slots;
          few = leb-true (length c.rules) 64 p.count;
          lawful = p.rules;
        }

pub rule_lawful_at : (slots : List Slot) (rules : List Rule) (r : ℕ) → r < length rules → all (rule_lawful slots) rules ≡ true → rule_lawful slots (slice_index_or rules r no_rule) ≡ true
rule_lawful_at slots [] r h e = absurd (omega arith)
rule_lawful_at slots (x ∷ rules) zero h e = (and_parts (rule_lawful slots x) (all (rule_lawful slots) rules) e).0
rule_lawful_at slots (x ∷ rules) (suc r) h e = rule_lawful_at slots rules r (le_of_suc-le-suc h) (and_parts (rule_lawful slots x) (all (rule_lawful slots) rules) e).1

allows_at : (rules : List Rule) (r : ℕ) → r < length rules → (f : List ℕ) → rule_allows (slice_index_or rules r no_rule) f ≡ table_allows rules r f
allows_at [] r h f = absurd (omega arith)
allows_at (x ∷ rules) zero h f = refl
allows_at (x ∷ rules) (suc r) h f = allows_at rules r (le_of_suc-le-suc h) f

-- narrowing by rule r is narrowing by that rule
pub narrowed_at : (rules : List Rule) (r : ℕ) (x : Rule) (b : List ℕ) → r < length rules → x ≡ slice_index_or rules r no_rule → exact (rule_allows x) b ≡ table_narrowed rules r b
narrowed_at rules r x b h e =
    ap (λ (y : Rule). exact (rule_allows y) b) e
    ∙ ap (λ (p : List ℕ → Bool). exact p b) (fun_ext (allows_at rules r h))
    ∙ rw (lt-ltb r (length rules) h) refl

module _ (slots : List Slot) (cells : List ℕ) (place : ℕ) (rule : Rule) (lawful : rule_lawful slots rule ≡ true) (begins : Begins cells place rule) where
  abbrev n : ℕ
  n = length (rule_cells rule)

  -- the rule is read at its place
  pub rule_at : rule_begun (drop place cells) ≡ Some (rule, drop (length (rule_cells rule)) (drop place cells))
  rule_at =
      let whole : rule_cells rule ++ drop n (drop place cells) ≡ drop place cells =
      ap (λ (xs : List ℕ). xs ++ drop n (drop place cells)) (sym begins) ∙ take-append-drop n (drop place cells) in
      ap rule_begun (sym whole) ∙ rule_begins slots rule (drop n (drop place cells)) lawful

-- the same of a rule at a place of the first cells, which are the front of an array
module _ (slots : List Slot) (cells : List ℕ) (long place : ℕ) (rule : Rule) (lawful : rule_lawful slots rule ≡ true) (begins : Begins (take long cells) place rule) where
  abbrev own : ℕ
  own = length (rule_cells rule)

  long_enough : own ≤ length (drop place (take long cells))
  long_enough = omega (arith, length-take own (drop place (take long cells)), ap length begins)

  -- the place is within the cells
  pub place_within : place ≤ long
  place_within = omega (arith, long_enough, length-drop place (take long cells), length-take long cells, some)
    where
      some : 3 ≤ length (rule_cells rule)
      some = omega arith

  -- the rule is read in the range from its place
  pub rule_in_range : rule_begun (slice_range cells place long) ≡ Some (rule, drop own (drop place (take long cells)))
  rule_in_range =
      let e : place + (long - place) ≡ long = omega (arith, place_within) in
      let part : take (long - place) (drop place cells) ≡ drop place (take long cells) = sym (drop-take place (long - place) cells) ∙ ap (λ (k : ℕ). drop place (take k cells)) e in
      ap rule_begun part ∙ rule_at slots (take long cells) place rule lawful begins
