use Rattle.std.proofs.Common.{◌≡◌, ◌≤◌, length}
use Rattle.catalogue.specs.Listed.{listed as slots_listed}
use Rattle.rule_books.specs.Index.{Last}
use Rattle.rule_books.specs.Listed.{listed}
use Rattle.rule_books.proofs.PlaceLaws.{Placing}
use Rattle.rule_books.proofs.table_book.made.find_places.Given as goal

abbrev pub invariant-loop : goal.invariant-loop
invariant-loop l = record {
  long : length (listed l.places) ≡ l.counter;
  last : Last l.left l.cells;
  few : length l.left ≤ length l.cells;
  placing : Placing l.cells (slots_listed l.slots) l.count l.rules (listed l.places) l.counter l.left;
}
