-- What the values of a program stand for.
use Rattle.std.specs.Prelude.{ℕ, cond, ◌&&◌, List, length, take, Some, None, Option, nat_le}
use Rattle.std.specs.Option.{option_map}
use Rattle.fields.specs.Results.{and_then}
use Rattle.catalogue.specs.declared.cells.CatalogueCells.{CatalogueCells}
use Rattle.catalogue.specs.declared.cells.RuleCells.{RuleCells}
use Rattle.catalogue.specs.declared.model.Slot.{Slot}
use Rattle.catalogue.specs.declared.slots.Slots.{Slots}
use Rattle.catalogue.specs.Catalogues.{Rule, Catalogue}
use Rattle.catalogue.specs.Cells.{slots_of, rows_of, rules_of}
use Rattle.catalogue.specs.Lawful.{any}

-- the slots that are listed
abbrev pub listed : Slots → List Slot
listed s = take s.used s.list

-- the rule that is in cells
abbrev pub rule_in : RuleCells → Rule
rule_in r = record { kind = r.kind; slots = r.slots.now; rows = rows_of r.count (length r.slots.now) r.rows.now }

-- the slots that cells say, at most 24 and at least one of them standard
abbrev pub slots_in : List ℕ → Option (List Slot)
slots_in cs = and_then (slots_of (length cs) cs) (λ s. cond (nat_le (length cs) 24 && any (λ x. x.standard) s.0) (Some s.0) None)

-- the catalogue that is in cells
abbrev pub catalogue_in : CatalogueCells → Option Catalogue
catalogue_in c = and_then (slots_in c.slots.now) (λ slots. option_map (λ rules. record { mark = c.mark; slots = slots; rules = rules }) (rules_of c.count slots c.rules.now))
