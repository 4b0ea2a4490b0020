-- The rules of a table book.
use Rattle.std.specs.Prelude.{List}
use Rattle.catalogue.specs.Catalogues.{Rule}
use Rattle.rule_books.specs.Listed.{listed}
use Rattle.rule_books.specs.Tables.{table_rules}
use Rattle.rule_books.specs.declared.table_book.TableBook.{TableBook}

-- the rules that the cells of the book say
abbrev pub book_rules : TableBook → List Rule
book_rules b = table_rules (listed b.cells)
