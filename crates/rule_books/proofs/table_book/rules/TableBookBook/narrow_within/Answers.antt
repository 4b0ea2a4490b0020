use Rattle.std.proofs.Common.{is_some, ap, ◌∙◌, arith}
use Rattle.std.specs.Option.{unwrap_or}
use Rattle.rule_books.specs.Books.{book_rules}
use Rattle.rule_books.specs.TableLaws.{narrowed_at}
use Rattle.rule_books.proofs.table_book.rules.TableBookBook.narrow_within.Goals as goal

pub returns-then-rule-count : goal.returns-then-rule-count
returns-then-rule-count c =
    let book = c.args.self.now in
    let b = c.args.b.now.labels in
    let e = narrowed_at (book_rules book) c.args.rule _ b (omega (arith, c.count.ensures)) c.rule.ensures in
    record { fits = c.narrow_rule.ensures.fits ∙ ap is_some e; after = c.narrow_rule.ensures.after ∙ ap (λ o. unwrap_or o b) e }
