use Rattle.std.proofs.Common.{◌≡◌, true, get_or, sym, subst}
use Rattle.catalogue.specs.Catalogues.{Rule}
use Rattle.catalogue.specs.Lawful.{rule_lawful}
use Rattle.catalogue.specs.Listed.{rule_in}
use Rattle.rule_books.specs.Books.{book_rules}
use Rattle.rule_books.specs.Index.{no_rule}
use Rattle.rule_books.proofs.OwnLaws.{mapped_some, own_rules, own_lawful, own_read}
use Rattle.rule_books.proofs.Ready.{rule_ready}
use Rattle.rule_books.proofs.table_book.TableBook.rule.Goals as goal

pub unwrap-requires : goal.unwrap-requires
unwrap-requires c =
    let place = rw (c.as_slice.ensures, c.from.ensures) at c.from-place.ensures in
    let r = own_read c.args.self.now c.args.number c.requires _ _ _ place c.as_slice-2.ensures c.begin_rule.ensures in
    mapped_some _ _ c.begin_rule.result _ r

pub invariant_of-result : goal.invariant_of-result
invariant_of-result c =
    let book = c.args.self.now in
    let rule = c.unwrap.result.0 in
    let own = own_rules book c.args.number c.requires in
    let place = rw (c.as_slice.ensures, c.from.ensures) at c.from-place.ensures in
    let e = own_read book c.args.number c.requires _ _ _ place c.as_slice-2.ensures (rw c.unwrap.ensures at c.begin_rule.ensures) in
    let is : rule_in rule ≡ get_or (book_rules book) c.args.number no_rule = cc in
    let r = rule_ready own.slots rule.kind rule.slots.now rule.rows.now rule.count own.used own.parts (subst (λ (x : Rule). rule_lawful own.slots x ≡ true) (sym is) (own_lawful book c.args.number c.requires)) in
    record { ready = r.0; beside = r.1 }

pub returns : goal.returns
returns c =
    let place = rw (c.as_slice.ensures, c.from.ensures) at c.from-place.ensures in
    let r = own_read c.args.self.now c.args.number c.requires _ _ _ place c.as_slice-2.ensures (rw c.unwrap.ensures at c.begin_rule.ensures) in
    cc
