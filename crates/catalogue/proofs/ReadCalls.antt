-- What the calls that read a text answer, from what was read and kept.
use Rattle.std.proofs.Common.{◌≡◌, ℕ, ◌-◌, ◌^◌, ◌<◌, ◌≤◌, leb, List, length, min, Ok, Err, Result, sym, refl, ap, ◌∙◌, arith}
use Rattle.std.specs.List.{AllByRecursion}
use Rattle.std.proofs.lemmas.Bool.{leb-true, and_parts}
use Rattle.std.proofs.lemmas.Bool.Decides.{nat_tests}
use Rattle.fields.specs.declared.fault.Fault.{Fault}
use Rattle.fields.specs.declared.fault.FaultKind.TheVariants.{TooManyCells}
use Rattle.fields.specs.Faults.{fault}
use Rattle.fields.specs.Results.{mapped_ok}
use Rattle.fields.proofs.Chains.{then_case, cond_ok}
use Rattle.catalogue.specs.Catalogues.{Catalogue}
use Rattle.catalogue.specs.Cells.{cells_of}
use Rattle.catalogue.specs.Outcomes.{read_into}
use Rattle.catalogue.specs.Reading.{reading}
use Rattle.catalogue.specs.Keeping.{nothing_kept, kept}
use Rattle.catalogue.specs.declared.storing.Kept.{Kept}
use Rattle.catalogue.proofs.Keeping.{kept_count, kept_cells}
use Rattle.catalogue.proofs.ReadingLaws.{reading_reads}
use Rattle.catalogue.proofs.SmallCells.{Small, cells_small}

-- what was refused
pub unmapped : {T U : Type 0} (g : T → U) (r : Result T Fault) (f : Fault) → Err f ≡ mapped_ok g r → Err f ≡ r
unmapped g (Ok x) f h = let z : ◌≡◌ {A = ℕ} 0 1 = cc in absurd (omega arith)
unmapped g (Err e) f h = cc

pub refused_text : {T : Type 0} (t : List ℕ) (room : ℕ) (f : Fault) (keep : Catalogue → T) → Err f ≡ mapped_ok keep (reading t) → Err f ≡ read_into room t
refused_text t room f keep h = let same = unmapped keep (reading t) f h in rw (← same)

-- a text that was read
module _ {N : ℕ} (t : List ℕ) (k : Kept N) (room : ℕ) (e : Ok k ≡ mapped_ok (λ c. kept nothing_kept (cells_of c)) (reading t)) where
  read_case : {G : Type 0} → ((c : Catalogue) → reading t ≡ Ok c → k ≡ kept nothing_kept (cells_of c) → k.count ≡ min (length (cells_of c)) (2 ^ 64 - 1) → G) → G
  read_case {G} g = go (reading t) refl e
    where
      go : (r : Result Catalogue Fault) → reading t ≡ r → Ok k ≡ mapped_ok (λ c. kept nothing_kept (cells_of c)) r → G
      go (Ok c) is h = let same : k ≡ kept nothing_kept (cells_of c) = cc in g c is same (ap (λ (x : Kept N). x.count) same ∙ kept_count N (cells_of c))
      go (Err f) is h = let z : ◌≡◌ {A = ℕ} 0 1 = cc in absurd (omega arith)

  pub many_cells : min room 8192 < k.count → Err (fault TooManyCells 0) ≡ read_into room t
  many_cells h = read_case (λ c is same count. rw is (grind (arith, nat_tests)))

  module _ (few : k.count ≤ min room 8192) where
    pub count_read : Ok k.count ≡ mapped_ok length (read_into room t)
    count_read = read_case (λ c is same count. rw is (grind (arith, nat_tests)))

    pub cells_read : k.count ≤ N → Ok k.cells.items ≡ read_into room t
    cells_read h =
        read_case (λ c is same count.
        let whole = ap (λ (x : Kept N). x.cells.items) same ∙ kept_cells N (cells_of c) (omega arith) in
        rw (is, whole) (grind (arith, nat_tests)))

-- cells that a text reads to
pub read_small : (t cs : List ℕ) (room : ℕ) → Ok cs ≡ read_into room t → (length cs ≤ room) × AllByRecursion Small cs
read_small t cs room h =
    then_case (reading t) _ cs (sym h) (λ c is more.
    let e = cond_ok _ _ cs _ more in
    let fits = leb-true (length (cells_of c)) room (and_parts (leb (length (cells_of c)) 8192) _ e.0).1 in
    rw (← e.1) (fits, cells_small c (reading_reads t c is).0))
