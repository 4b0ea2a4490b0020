use Rattle.std.proofs.Common.{ℕ, List, sym, subst}
use Rattle.catalogue.specs.Listed.{listed as slots_listed}
use Rattle.rule_books.specs.Index.{Placed}
use Rattle.rule_books.specs.Listed.{listed}
use Rattle.rule_books.specs.Tables.{table_rules}
use Rattle.rule_books.proofs.PlaceLaws.{unsaid, slotless, ruleless, ruled}
use Rattle.rule_books.proofs.table_book.TableBook.of_lawful.Goals as goal

pub returns-in_err-catalogue : goal.returns-in_err-catalogue
returns-in_err-catalogue c = rw c.from_residual.ensures (unsaid c.args.cells.now c.in_err-catalogue.ensures.value)

pub returns-in_err-slots : goal.returns-in_err-slots
returns-in_err-slots c = rw c.from_residual-in_err-slots.ensures (slotless c.args.cells.now c.in_ok-catalogue.catalogue c.in_ok-catalogue.ensures.value c.in_err-slots.ensures)

pub returns-in_err-places : goal.returns-in_err-places
returns-in_err-places c =
    rw c.from_residual-in_err-places.ensures
    (ruleless c.args.cells.now c.in_ok-catalogue.catalogue c.in_ok-catalogue.ensures.value (slots_listed c.in_ok-slots.slots) c.in_ok-slots.ensures c.in_err-places.ensures)

pub invariant_of-result : goal.invariant_of-result
invariant_of-result c =
    let cells = c.args.cells.now in
    let t = (ruled cells c.in_ok-catalogue.catalogue c.in_ok-catalogue.ensures.value (slots_listed c.in_ok-slots.slots) c.in_ok-slots.ensures _ c.in_ok-places.ensures).1 in
    record { placed = subst (λ (xs : List ℕ). Placed xs (listed c.in_ok-places.places) (table_rules xs)) (sym c.of.ensures) t }
