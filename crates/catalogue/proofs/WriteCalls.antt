-- What the call that writes cells answers, from what was written.
use Rattle.std.proofs.Common.{◌≡◌, ℕ, ◌<◌, ◌≤◌, List, [], length, Some, None, Ok, Err, Option, sym, refl, ap, ◌∙◌, arith}
use Rattle.std.specs.Option.{option_map}
use Rattle.std.proofs.lemmas.Bool.{le-leb, lt-leb}
use Rattle.fields.specs.declared.fault.FaultKind.TheVariants.{TextDoesNotFit}
use Rattle.fields.specs.Faults.{fault}
use Rattle.catalogue.specs.Catalogues.{Catalogue}
use Rattle.catalogue.specs.Cells.{catalogue_of}
use Rattle.catalogue.specs.Outcomes.{write_into}
use Rattle.catalogue.specs.Storing.{held}
use Rattle.catalogue.specs.Writing.{text_of}
use Rattle.catalogue.proofs.CellLaws.{cells_say}
use Rattle.catalogue.proofs.Helds.{held_fits}
use Rattle.catalogue.proofs.Sizes.{text_fits}

-- a text that was written
module _ (cs text : List ℕ) (e : Some text ≡ option_map (λ c. held 65536 [] (text_of c)) (catalogue_of cs)) where
  written_case : {G : Type 0} → ((c : Catalogue) → catalogue_of cs ≡ Some c → text ≡ text_of c → G) → G
  written_case {G} g = go (catalogue_of cs) refl e
    where
      go : (o : Option Catalogue) → catalogue_of cs ≡ o → Some text ≡ option_map (λ c. held 65536 [] (text_of c)) o → G
      go None is h = let z : ◌≡◌ {A = ℕ} 0 1 = cc in absurd (omega arith)
      go (Some c) is h =
          let said = cells_say cs c is in
          let same : text ≡ held 65536 [] (text_of c) = cc in
          g c is (same ∙ held_fits 65536 [] (text_of c) (omega (arith, text_fits c said.0 (omega (arith, ap length said.1, said.2)))))

  pub long_text : (room : ℕ) → room < length text → write_into room cs ≡ Err (fault TextDoesNotFit 0)
  long_text room h = written_case (λ c is same. rw (is, lt-leb (length (text_of c)) room (omega (arith, ap length same))))

  pub whole_text : (room : ℕ) → length text ≤ room → write_into room cs ≡ Ok text
  whole_text room h = written_case (λ c is same. rw (is, le-leb (length (text_of c)) room (omega (arith, ap length same))) (ap Ok (sym same)))
