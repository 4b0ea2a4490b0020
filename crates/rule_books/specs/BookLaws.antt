-- The laws of a book whose rules are tests by which it narrows exactly.
use Rattle.std.specs.Prelude.{◌≡◌, ℕ, ◌≤◌, true, false, ltb, List, length, Some, nat_lt, refl}
use Rattle.std.proofs.Common.{subst, ⊎_elim}
use Rattle.std.proofs.lemmas.Bool.{cases_Bool, lt-ltb, le-ltb}
use Rattle.catalogue.specs.Catalogues.{Rule}
use Rattle.kits.specs.Boxes.{Boxed}
use Rattle.kits.specs.Books.{Laws, Part}
use Rattle.rule_books.specs.Tables.{table_allows, table_narrowed}
use Rattle.rule_books.specs.ExactLaws.{exact_parts, exact_keeps, exact_judges}

pub table_laws : (rules : List Rule) → length rules ≤ 64 → Laws (length rules) (table_allows rules) (table_narrowed rules)
table_laws rules few = record {
  few = few;
  beyond = λ r b h. rw (le-ltb r (length rules) h) refl;
  parts = parts;
  keeps = λ r b f h o i t. rw (lt-ltb r (length rules) h) (exact_keeps (table_allows rules r) b f o i t);
  judges = λ r b h o s. rw (lt-ltb r (length rules) h) (exact_judges (table_allows rules r) b o s);
}
  where
    parts : (r : ℕ) (b c : List ℕ) → Boxed b → table_narrowed rules r b ≡ Some c → Boxed c × Part c b
    parts r b c o e =
        ⊎_elim
        (λ (t : ltb r (length rules) ≡ true). exact_parts (table_allows rules r) b c o (rw t at e))
        (λ (t : ltb r (length rules) ≡ false). let g = rw t at e in let q : b ≡ c = cc in subst (λ (y : List ℕ). Boxed y × Part y b) q (o, λ k v h. h))
        (cases_Bool (nat_lt r (length rules)))
