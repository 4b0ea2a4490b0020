-- What a table book knows of its rule of a number.
use Rattle.std.proofs.Common.{◌≡◌, ℕ, ◌-◌, ◌<◌, true, List, length, get_or, take, drop, is_some, Some, None, Option, refl, ap, ◌∙◌, arith}
use Rattle.std.specs.Option.{option_map}
use Rattle.std.proofs.lemmas.List.{take_rest}
use Rattle.catalogue.specs.Catalogues.{Rule}
use Rattle.catalogue.specs.Cells.{rule_begun}
use Rattle.catalogue.specs.Lawful.{rule_lawful}
use Rattle.rule_books.specs.declared.table_book.TableBook.{TableBook}
use Rattle.rule_books.specs.Books.{book_rules}
use Rattle.rule_books.specs.Index.{no_rule}
use Rattle.rule_books.specs.Listed.{listed}
use Rattle.rule_books.specs.TableLaws.{LawfulRules, rules_lawful, rule_lawful_at, rule_at}

-- what is some after it was mapped twice was some before
pub mapped_some : {X Y Z : Type 0} (f : X → Y) (g : Y → Z) (o : Option X) (z : Z) → option_map g (option_map f o) ≡ Some z → is_some o ≡ true
mapped_some f g None z e = absurd (grind arith)
mapped_some f g (Some x) z e = refl

module _ (book : TableBook) (r : ℕ) (h : r < length (listed book.places)) where
  abbrev rule : Rule
  rule = get_or (book_rules book) r no_rule

  abbrev place : ℕ
  place = get_or (listed book.places) r 0

  pub own_rules : LawfulRules (book_rules book)
  own_rules = rules_lawful (listed book.cells)

  own_below : r < length (book_rules book)
  own_below = omega (arith, book.placed.0)

  pub own_lawful : rule_lawful own_rules.slots rule ≡ true
  own_lawful = rule_lawful_at own_rules.slots (book_rules book) r own_below own_rules.lawful

  -- it is read at its place
  pub own_read : (x : ℕ) (xs : List ℕ) (o : Option (Rule × List ℕ)) → x ≡ place → xs ≡ listed book.cells → o ≡ rule_begun (take (length xs - x) (drop x xs)) → option_map (λ p. p.0) o ≡ Some rule
  own_read x xs o e f read =
      let at : drop x xs ≡ drop place (listed book.cells) = rw (e, f) refl in
      ap (option_map (λ p. p.0)) (read ∙ ap rule_begun (take_rest xs x ∙ at) ∙ rule_at own_rules.slots (listed book.cells) place rule own_lawful (book.placed.1 r own_below))
