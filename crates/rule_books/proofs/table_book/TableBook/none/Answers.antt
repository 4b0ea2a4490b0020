use Rattle.std.proofs.Common.{◌≡◌, [], length, sym, ap, ◌∙◌, arith}
use Rattle.rule_books.specs.Listed.{listed}
use Rattle.rule_books.specs.Tables.{table_rules}
use Rattle.rule_books.proofs.PlaceLaws.{no_cells}
use Rattle.rule_books.proofs.table_book.TableBook.none.Goals as goal

pub invariant_of-result : goal.invariant_of-result
invariant_of-result c =
    let e : table_rules (listed c.none.result) ≡ [] = ap table_rules c.none.ensures ∙ no_cells in
    record { placed = (ap length c.none-2.ensures ∙ sym (ap length e), λ r h. absurd (omega (arith, ap length e))) }
