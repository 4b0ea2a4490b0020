-- Rules that are taken out of cells and written in turn.
use Rattle.std.proofs.Common.{◌≡◌, ℕ, zero, suc, ◌*◌, ◌≤◌, true, List, [], ◌∷◌, map, length, take, drop, Some, None, Option, sym, refl, ap, ◌∙◌, suc-mul, zero-mul, arith, length-drop, length-take}
use lib.ListN.{length-map}
use Rattle.std.specs.Option.{option_map}
use Rattle.std.proofs.lemmas.Bool.{and_parts, leb-true}
use Rattle.fields.specs.Results.{and_then}
use Rattle.fields.proofs.Chains.{and_then_case, cond_some}
use Rattle.catalogue.specs.declared.model.Kind.{Kind}
use Rattle.catalogue.specs.declared.model.Slot.{Slot}
use Rattle.catalogue.specs.Catalogues.{Rule, Catalogue}
use Rattle.catalogue.specs.Cells.{slots_of, rows_of, rules_of}
use Rattle.catalogue.specs.Headed.{head_text}
use Rattle.catalogue.specs.Lawful.{all, slot_lawful, offered, row_lawful, rule_lawful}
use Rattle.catalogue.specs.Listed.{slots_in}
use Rattle.catalogue.specs.Storing.{held}
use Rattle.catalogue.specs.Writing.{rule_text, rules_text, text_of}
use Rattle.catalogue.proofs.CellLaws.{slots_say, rows_count, row_wide, rules_say}
use Rattle.catalogue.proofs.LawfulParts.{rule_parts}
use Rattle.catalogue.proofs.Helds.{held_then}
use Rattle.catalogue.proofs.TextPieces.{rule_then_rest, head_then_rules}

-- lawful rows are there whole
rows_fill : (limits : List ℕ) (n : ℕ) (cs : List ℕ) → all (row_lawful limits) (rows_of n (length limits) cs) ≡ true → n * length limits ≤ length cs
rows_fill limits zero cs h = rw zero-mul (omega arith)
rows_fill limits (suc n) cs h =
    let wide = length limits in
    let e = and_parts (row_lawful limits (take wide cs)) (all (row_lawful limits) (rows_of n wide (drop wide cs))) h in
    let first = row_wide limits (take wide cs) e.0 in
    let others = rows_fill limits n (drop wide cs) e.1 in
    omega (arith, suc-mul n wide, simp length-take at first, simp length-drop at others)

-- the rows that a lawful rule of cells has
pub rule_sized : (slots : List Slot) (kind : Kind) (own rows : List ℕ) (count : ℕ) → rule_lawful slots (record { kind = kind; slots = own; rows = rows_of count (length own) rows }) ≡ true
    → (count ≤ 255) × (count * length own ≤ length rows)
rule_sized slots kind own rows count h =
    let rule : Rule = record { kind = kind; slots = own; rows = rows_of count (length own) rows } in
    let parts = rule_parts slots rule h in
    let wide = length-map own (offered slots) in
    let n = rows_count count (length own) rows in
    (omega (arith, leb-true (length (rows_of count (length own) rows)) 255 parts.count), rw (← wide) (rows_fill (map (offered slots) own) count rows (rw wide parts.rows)))

-- what is held of a text and one rule more
pub turn_written : (room : ℕ) (old : List ℕ) (r : Rule) (o : Option (List Rule))
    → option_map (λ rs. held room (held room old (rule_text r [])) (rules_text rs [])) o ≡ option_map (λ rs. held room old (rules_text rs [])) (option_map (λ rs. r ∷ rs) o)
turn_written room old r None = refl
turn_written room old r (Some rs) = ap Some (held_then room old (rule_text r []) (rules_text rs []) ∙ sym (ap (held room old) (rule_then_rest r (rules_text rs []))))

pub catalogue_made : (mark n : ℕ) (own cs : List ℕ) (ss : List Slot) → Some ss ≡ slots_in own
    → option_map {U = Catalogue} (λ rs. record { mark = mark; slots = ss; rules = rs }) (rules_of n ss cs) ≡ and_then (slots_in own) (λ slots. option_map (λ rs. record { mark = mark; slots = slots; rules = rs }) (rules_of n slots cs))
catalogue_made mark n own cs ss e = rw (← e)

-- the head of a catalogue and then its rules
pub whole_written : (room : ℕ) (old : List ℕ) (mark n : ℕ) (slots : List Slot) (cs : List ℕ)
    → option_map (λ rs. held room (held room old (head_text mark slots n)) (rules_text rs [])) (rules_of n slots cs)
    ≡ option_map (λ c. held room old (text_of c)) (option_map (λ rs. record { mark = mark; slots = slots; rules = rs }) (rules_of n slots cs))
whole_written room old mark n slots cs = go (rules_of n slots cs) refl
  where
    go : (o : Option (List Rule)) → rules_of n slots cs ≡ o
        → option_map (λ rs. held room (held room old (head_text mark slots n)) (rules_text rs [])) o
        ≡ option_map (λ c. held room old (text_of c)) (option_map (λ rs. record { mark = mark; slots = slots; rules = rs }) o)
    go None is = refl
    go (Some rs) is =
        let c : Catalogue = record { mark = mark; slots = slots; rules = rs } in
        let many = (rules_say slots n cs rs is).0 in
        ap Some (held_then room old (head_text mark slots n) (rules_text rs []) ∙ rw (← many) (sym (ap (held room old) (head_then_rules c))))

-- the slots that cells say are lawful
pub slots_in_lawful : (cs : List ℕ) (ss : List Slot) → Some ss ≡ slots_in cs → all slot_lawful ss ≡ true
slots_in_lawful cs ss e =
    and_then_case (slots_of (length cs) cs) _ ss (sym e) (λ p is more.
    let same : p.0 ≡ ss = let k = (cond_some _ (Some p.0) ss more).1 in cc in
    rw (← same) (slots_say (length cs) cs p is).1)
