-- The rows of a rule, as the code goes over them.
use Rattle.std.proofs.Common.{◌≡◌, ℕ, zero, suc, ◌+◌, ◌*◌, ◌/◌, ◌%◌, ◌^◌, ◌<◌, ◌≤◌, true, false, ◌&&◌, List, [], ◌∷◌, ◌++◌, length, get_or, take, drop, Decides, Some, Option, cond, sym, ap, ◌∙◌, refl, subst, suc-mul, pow-suc, ⊎_elim, arith, rules}
use denote.Ref.{Bor}
use lib.Bits.{bit_or, or_step, or_zero_r}
use Rattle.std.proofs.lemmas.Iterator.{YieldsList}
use Rattle.std.proofs.lemmas.Iterator.Consumers.{YieldsList-turn}
use Rattle.std.proofs.lemmas.Bool.{cases_Bool}
use Rattle.std.proofs.lemmas.List.Sums.{fold_more, fold-append}
use Rattle.std.proofs.lemmas.Nat.{mul-le}
use Rattle.std.proofs.lemmas.List.{take_at, drop_at, take-append-drop, length-drop, get_or_default, length_push}
use Rattle.std.proofs.lemmas.Slice.Eq.{compares_Decides}
use Rattle.std.specs.declared.iter.Take.{Take}
use Rattle.std.specs.declared.slice.ChunksExact.{ChunksExact}
use Rattle.std.specs.Iterator.{Yields, AlwaysYields}
use Rattle.std.specs.Iterator.Adapters.{take_source, take_count, take_steps}
use Rattle.std.specs.Slice.Iter.{chunks_exact_rest, chunks_exact_size, chunks_exact_steps}
use Rattle.std.specs.List.{list_all, zip}
use Rattle.catalogue.specs.Cells.{rows_of}
use Rattle.kits.specs.Boxes.{holds}
use Rattle.kits.specs.Labels.{Has, has_member}
use Rattle.kits.proofs.BoxLaws.{in_at}
use Rattle.kits.proofs.HalfLaws.{held}
use Rattle.rule_books.specs.Narrowing.{Sized, supports}
use Rattle.rule_books.specs.Rules.{same}

-- a row ends within the rows
pub row_end : (j count wide : ℕ) → j < count → j * wide + wide ≤ count * wide
row_end j count wide h = omega (arith, mul-le (suc j) wide count wide h (omega arith), suc-mul j wide)

pub same_decides : (xs ys : List ℕ) → Decides (same xs ys) (xs ≡ ys)
same_decides = compares_Decides same (search rules)

module _ (wide : ℕ) where
  abbrev RowsYielded : ℕ → List ℕ → Take (ChunksExact ℕ) → Type 0
  RowsYielded n cells s = AlwaysYields (take_steps (chunks_exact_steps {A = ℕ})) (λ (y : Bor (List ℕ)). y.now) s (rows_of n wide cells)

  rows_all : (n : ℕ) (cells : List ℕ) (s : Take (ChunksExact ℕ)) → take_count s ≡ n → chunks_exact_size (take_source s) ≡ wide → chunks_exact_rest (take_source s) ≡ cells → n * wide ≤ length cells → RowsYielded n cells s
  rows_all zero cells s c z r h = λ x t step. omega (arith, step.1)
  rows_all (suc n) cells s c z r h = (
    λ t step. let e = (step (omega arith)).1.0 in omega (arith, suc-mul n wide, ap length r),
    λ x t step.
        let e : x.now ++ chunks_exact_rest (take_source t) ≡ cells = sym step.0.1.0 ∙ r in
        let l : length x.now ≡ wide = step.0.1.1 ∙ z in (
          sym (take_at x.now (chunks_exact_rest (take_source t)) wide l) ∙ ap (take wide) e,
          rows_all n (drop wide cells) t (omega (arith, step.1)) (step.0.0 ∙ z) (sym (drop_at x.now (chunks_exact_rest (take_source t)) wide l) ∙ ap (drop wide) e) (omega (arith, suc-mul n wide, length-drop wide cells)),
        ),
  )

  -- the first chunks of cells that are long enough are rows
  pub rows_yielded : (n : ℕ) (cells : List ℕ) (s : Take (ChunksExact ℕ)) → take_count s ≡ n → chunks_exact_size (take_source s) ≡ wide → chunks_exact_rest (take_source s) ≡ cells → n * wide ≤ length cells
      → YieldsList (take_steps (chunks_exact_steps {A = ℕ})) (λ (y : Bor (List ℕ)). y.now) s (rows_of n wide cells)
  rows_yielded n cells s c z r h = record { runs = rows_all n cells s c z r h }

pub zip_holds : (row labels : List ℕ) → length row ≡ length labels → list_all (λ (p : ℕ × ℕ). has_member p.1 p.0) (zip row labels) ≡ holds labels row
zip_holds [] [] e = refl
zip_holds [] (l ∷ labels) e = absurd (omega arith)
zip_holds (v ∷ row) [] e = absurd (omega arith)
zip_holds (v ∷ row) (l ∷ labels) e = ap (λ t. has_member l v && t) (zip_holds row labels (omega arith))

-- the loop over the rows has come to one
pub row_turn : (wide n : ℕ) (cells : List ℕ) (s t u : Take (ChunksExact ℕ)) → take_count s ≡ n → chunks_exact_size (take_source s) ≡ wide → chunks_exact_rest (take_source s) ≡ cells
    → n * wide ≤ length cells → Sized wide (rows_of n wide cells)
    → (xs : List (Bor (List ℕ))) → Yields (take_steps (chunks_exact_steps {A = ℕ})) s xs t → (r : Option (Bor (List ℕ))) (x : Bor (List ℕ)) → r ≡ Some x → take_steps (chunks_exact_steps {A = ℕ}) t r u
    → (length xs < length (rows_of n wide cells)) × (x.now ≡ get_or (rows_of n wide cells) (length xs) []) × (length x.now ≡ wide) × ((i : ℕ) → get_or x.now i 0 < 16)
row_turn wide n cells s t u c z rest enough sized xs y r x e step =
    let rows = rows_of n wide cells in
    let h = YieldsList-turn (rows_yielded wide n cells s c z rest enough) xs t y r u x e step in
    let f : get_or rows (length xs) [] ≡ x.now = get_or_default rows (length xs) [] x.now h.0 ∙ sym h.1 in
    let k = sized (length xs) h.0 in
    (h.0, sym f, subst (λ (g : List ℕ). length g ≡ wide) f k.0, λ i. subst (λ (g : List ℕ). get_or g i 0 < 16) f (k.1 i))

pub supports_more : (labels : List ℕ) (place start : ℕ) (rows : List (List ℕ)) (xs : List (Bor (List ℕ))) (x : Bor (List ℕ)) (seen next : ℕ) → length xs < length rows → x.now ≡ get_or rows (length xs) []
    → seen ≡ supports labels place start (take (length xs) rows) → next ≡ cond (holds labels x.now) (bit_or seen (2 ^ get_or x.now place 0)) seen
    → next ≡ supports labels place start (take (length (xs ++ x ∷ [])) rows)
supports_more labels place start rows xs x seen next h e s n = rw (n, e, s, length_push) (sym (fold_more _ start rows (length xs) [] h))

-- a number comes in once
or_has : (v a : ℕ) → Has a v → bit_or a (2 ^ v) ≡ a
or_has zero a h = omega (arith, or_step a (2 ^ zero), or_zero_r (a / 2), h)
or_has (suc v) a h =
    let d : 2 ^ suc v / 2 ≡ 2 ^ v = omega (arith, pow-suc 2 v) in
    let m : 2 ^ suc v % 2 ≡ 0 = omega (arith, pow-suc 2 v) in
    omega (arith, rw (d, m, or_has v (a / 2) h) at (or_step a (2 ^ suc v)))

-- a row that the labels hold adds nothing to the whole label
supports_full : (labels : List ℕ) (place : ℕ) (rows : List (List ℕ)) → place < length labels → supports labels place (get_or labels place 0) rows ≡ get_or labels place 0
supports_full labels place [] h = refl
supports_full labels place (r ∷ rows) h =
    ⊎_elim
    (λ (e : holds labels r ≡ true). rw (e, or_has (get_or r place 0) (get_or labels place 0) (in_at r labels place h ((held labels r).0 e))) (supports_full labels place rows h))
    (λ (e : holds labels r ≡ false). rw e (supports_full labels place rows h))
    (cases_Bool (holds labels r))

-- the rows after the one with which the label is whole
pub supports_whole : (labels : List ℕ) (place start : ℕ) (rows : List (List ℕ)) (n seen : ℕ) → place < length labels → seen ≡ get_or labels place 0
    → seen ≡ supports labels place start (take n rows) → seen ≡ supports labels place start rows
supports_whole labels place start rows n seen h whole said =
    whole ∙ sym (supports_full labels place (drop n rows) h)
    ∙ ap (λ (a : ℕ). supports labels place a (drop n rows)) (sym whole ∙ said)
    ∙ sym (fold-append _ start (take n rows) (drop n rows))
    ∙ ap (supports labels place start) (take-append-drop n rows)
