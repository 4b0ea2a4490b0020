-- Which fillings a table rule allows.
use Rattle.std.specs.Prelude.{ℕ, Bool, true, false, not, ◌&&◌, ◌||◌, List, [], ◌∷◌, map, ◌==◌, slice_index}
use Rattle.std.specs.List.{list_any}
use Rattle.catalogue.specs.declared.model.Kind.{Kind}
use Rattle.catalogue.specs.declared.model.Kind.TheVariants.{Goes, Needs, Bars}
use Rattle.catalogue.specs.Catalogues.{Rule}

-- what a list has at some places: the numbers of some slots, or their labels
abbrev pub at_slots : List ℕ → List ℕ → List ℕ
at_slots slots xs = map (λ s. slice_index xs s) slots

-- is one of the slots empty?
abbrev pub some_empty : List ℕ → Bool
some_empty g = list_any (λ v. v == 0) g

-- are the lists equal?
abbrev pub same : List ℕ → List ℕ → Bool
same [] [] = true
same [] (y ∷ ys) = false
same (x ∷ xs) [] = false
same (x ∷ xs) (y ∷ ys) = x == y && same xs ys

-- are the parts one of the rows?
abbrev pub is_row : List (List ℕ) → List ℕ → Bool
is_row rows g = list_any (λ r. same r g) rows

-- one of the slots is empty, or their parts are a row
abbrev pub goes : List (List ℕ) → List ℕ → Bool
goes rows g = some_empty g || is_row rows g

-- one of the slots is empty, or their parts are no row
abbrev pub spares : List (List ℕ) → List ℕ → Bool
spares rows g = some_empty g || not (is_row rows g)

abbrev pub kind_allows : Kind → List ℕ → List (List ℕ) → List ℕ → Bool
kind_allows Goes slots rows f = goes rows (at_slots slots f)
kind_allows (Needs t) slots rows f = spares rows (at_slots slots f) || not (slice_index f t == 0)
kind_allows (Bars t) slots rows f = spares rows (at_slots slots f) || slice_index f t == 0

-- does the rule allow the filling?
abbrev pub rule_allows : Rule → List ℕ → Bool
rule_allows r f = kind_allows r.kind r.slots r.rows f
