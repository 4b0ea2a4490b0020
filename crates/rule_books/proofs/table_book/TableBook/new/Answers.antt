use Rattle.rule_books.specs.ExactLaws.{exact_means}
use Rattle.rule_books.proofs.MeaningLaws.{kits_are_solutions}
use Rattle.rule_books.proofs.table_book.TableBook.new.Goals as goal

pub returns-clause-narrowing : goal.returns-clause-narrowing
returns-clause-narrowing c = exact_means

pub returns-clause-meaning : goal.returns-clause-meaning
returns-clause-meaning c = kits_are_solutions
