-- What the parts of narrowing by a rule work out.
use Rattle.std.specs.Prelude.{◌≡◌, ℕ, ◌*◌, ◌^◌, ◌<◌, ◌≤◌, Bool, true, false, cond, not, ◌&&◌, ◌||◌, ◌⊎◌, List, [], ◌∷◌, ◌++◌, length, ◌==◌, bit_or, slice_index, slice_index_or, slice_set}
use Rattle.std.specs.List.{fold, list_any, enumerate_from}
use Rattle.catalogue.specs.declared.model.Kind.{Kind}
use Rattle.catalogue.specs.declared.model.Kind.TheVariants.{Needs, Bars}
use Rattle.catalogue.specs.Catalogues.{Rule}
use Rattle.catalogue.specs.Cells.{rows_of}
use Rattle.kits.specs.Labels.{has_member}
use Rattle.kits.specs.Boxes.{holds}
use Rattle.rule_books.specs.Exact.{some_in}
use Rattle.rule_books.specs.Rules.{at_slots, is_row, spares}
use Rattle.rule_books.specs.Scope.{Within, Aside, Distinct}

-- a label, with the numbers at a place of the rows that the labels hold
abbrev pub supports : List ℕ → ℕ → ℕ → List (List ℕ) → ℕ
supports labels place start rows = fold (λ seen r. cond (holds labels r) (bit_or seen (2 ^ slice_index r place)) seen) start rows

-- can a slot be empty, other than the one at the place?
abbrev pub other_empty : List ℕ → ℕ → Bool
other_empty labels place = list_any (λ p. not (p.0 == place) && has_member p.1 0) (enumerate_from 0 labels)

-- can some slot only be empty?
abbrev pub only_empty : List ℕ → Bool
only_empty labels = list_any (λ l. l == 1) labels

-- is some choice from the labels, after the numbers chosen, no row?
abbrev pub some_no_row : List (List ℕ) → List ℕ → List ℕ → Bool
some_no_row rows chosen labels = some_in (λ g. not (is_row rows (chosen ++ g))) labels

-- the same with v chosen next, from the label, where others come after it
abbrev pub no_row_with : List (List ℕ) → List ℕ → ℕ → List ℕ → ℕ → Bool
no_row_with rows chosen label others v = cond (has_member label v) (some_no_row rows (chosen ++ v ∷ []) others) false

-- is v, of the label at the place, 0 or in a choice that is no row?
abbrev pub is_spared : List (List ℕ) → List ℕ → ℕ → ℕ → Bool
is_spared rows labels place v = cond (has_member (slice_index labels place) v) (cond (v == 0) true (some_no_row rows [] (slice_set labels place (2 ^ v)))) false

-- the parts are no row, or slot t has a number of the mask; an empty slot passes
abbrev pub beside_test : ℕ → ℕ → Rule → List ℕ → Bool
beside_test t mask r f = spares r.rows (at_slots r.slots f) || has_member mask (slice_index f t)

-- each row has so many numbers, all below 16
abbrev pub Sized : ℕ → List (List ℕ) → Type 0
Sized wide rows = (k : ℕ) → k < length rows → (length (slice_index_or rows k []) ≡ wide) × ((i : ℕ) → slice_index (slice_index_or rows k []) i < 16)

-- one to four slots of the box, none twice, and cells that begin with rows for them
pub record Ready (slots : List ℕ) (count : ℕ) (cells : List ℕ) : Type 0 where
  pub some_slot : 0 < length slots
  pub few_slots : length slots ≤ 4
  pub within : Within 24 slots
  pub distinct : Distinct slots
  pub enough : count * length slots ≤ length cells
  pub sized : Sized (length slots) (rows_of count (length slots) cells)

-- the slot of the kind, where it has one, is another slot of the box
abbrev pub Beside : Kind → List ℕ → Type 0
Beside kind slots = (t : ℕ) → (kind ≡ Needs t) ⊎ (kind ≡ Bars t) → (t < 24) × Aside t slots
