-- The table book: the rules of a catalogue.
use Rattle.std.specs.Prelude.{ℕ, zero, suc, Bool, true, cond, List, [], ◌∷◌, length, Some, None, Option, nat_lt}
use Rattle.catalogue.specs.Catalogues.{Rule, Catalogue}
use Rattle.catalogue.specs.Cells.{catalogue_of}
use Rattle.rule_books.specs.Exact.{exact}
use Rattle.rule_books.specs.Rules.{rule_allows}

abbrev pub rules_or_none : Option Catalogue → List Rule
rules_or_none None = []
rules_or_none (Some c) = c.rules

-- the rules that cells say: unlawful cells say none
unfoldable pub table_rules : List ℕ → List Rule
table_rules cells = rules_or_none (catalogue_of cells)

-- does rule r allow the filling? A number that no rule has forbids nothing.
abbrev pub table_allows : List Rule → ℕ → List ℕ → Bool
table_allows [] r f = true
table_allows (x ∷ rules) zero f = rule_allows x f
table_allows (x ∷ rules) (suc r) f = table_allows rules r f

-- narrowing by rule r is exact; by a number that no rule has it leaves the box
abbrev pub table_narrowed : List Rule → ℕ → List ℕ → Option (List ℕ)
table_narrowed rules r b = cond (nat_lt r (length rules)) (exact (table_allows rules r) b) (Some b)
