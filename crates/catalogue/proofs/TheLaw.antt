-- Reading and writing are inverse to each other.
use Rattle.std.proofs.Common.{◌≡◌, ℕ, ◌≤◌, true, List, length, is_some, Some, None, Ok, Option, sym, refl, ap, ◌∙◌, subst, le_trans, le_of_eq}
use Rattle.std.proofs.lemmas.Bool.{false≢true, and_parts, and_from, leb-true, le-leb, cond-true}
use Rattle.fields.specs.Results.{found_or}
use Rattle.fields.proofs.Chains.{then_case, found_some, cond_ok}
use Rattle.catalogue.specs.Catalogues.{Catalogue}
use Rattle.catalogue.specs.Cells.{cells_of, catalogue_of}
use Rattle.catalogue.specs.Law.{ReadsWhatIsWritten}
use Rattle.catalogue.specs.Outcomes.{read_into, write_into, lawful_cells}
use Rattle.catalogue.specs.Reading.{reading}
use Rattle.catalogue.specs.Writing.{text_of}
use Rattle.catalogue.proofs.CellLaws.{cells_say, said_by_cells}
use Rattle.catalogue.proofs.ReadingLaws.{reading_reads, reading_writes}
use Rattle.catalogue.proofs.Sizes.{text_fits}

-- cells that say a catalogue, and its text
record Belong (t cs : List ℕ) : Type 0 where
  catalogue : Catalogue
  said : catalogue_of cs ≡ Some catalogue
  text : t ≡ text_of catalogue

lawful_belongs : (cs : List ℕ) → lawful_cells cs ≡ true → (t : List ℕ) × Belong t cs
lawful_belongs cs h = go (catalogue_of cs) refl h
  where
    go : (o : Option Catalogue) → catalogue_of cs ≡ o → is_some o ≡ true → (t : List ℕ) × Belong t cs
    go None e k = absurd (false≢true k)
    go (Some c) e k = (text_of c, record { catalogue = c; said = e; text = refl })

write_belongs : (t cs : List ℕ) (room : ℕ) → write_into room cs ≡ Ok t → Belong t cs
write_belongs t cs room h =
    then_case (found_or _ (catalogue_of cs)) _ t h (λ c is more.
    record { catalogue = c; said = found_some _ _ c is; text = sym (cond_ok _ _ t _ more).1 })

belongs_written : {t cs : List ℕ} → Belong t cs → (lawful_cells cs ≡ true) × (write_into (length t) cs ≡ Ok t)
belongs_written {t} {cs} b =
    let fits = le-leb (length (text_of b.catalogue)) (length t) (le_of_eq (ap length (sym b.text))) in
    rw b.said (refl, cond-true _ _ _ fits ∙ ap Ok (sym b.text))

belongs_once : {t u cs : List ℕ} → Belong t cs → Belong u cs → t ≡ u
belongs_once b d = let same : b.catalogue ≡ d.catalogue = cc in b.text ∙ ap text_of same ∙ sym d.text

read_belongs : (t cs : List ℕ) (room : ℕ) → read_into room t ≡ Ok cs → Belong t cs
read_belongs t cs room h =
    then_case (reading t) _ cs h (λ c is more.
    let e = cond_ok _ _ cs _ more in
    let r = reading_reads t c is in
    let few = leb-true (length (cells_of c)) 8192 (and_parts _ _ e.0).0 in
    record { catalogue = c; said = rw (← e.1) (said_by_cells c r.0 few); text = r.1 })

belongs_read : {t cs : List ℕ} → Belong t cs → (length t ≤ 65536) × (read_into (length cs) t ≡ Ok cs)
belongs_read {t} {cs} b =
    let c = b.catalogue in
    let s = cells_say cs c b.said in
    let room = le_of_eq (ap length s.1) in
    let few = le_trans room s.2 in
    let short = text_fits c s.0 few in
    let r = subst (λ x. (length x ≤ 65536) × (reading x ≡ Ok c)) (sym b.text) (short, reading_writes c s.0 short) in
    let fits = and_from _ _ (le-leb (length (cells_of c)) 8192 few) (le-leb (length (cells_of c)) (length cs) room) in
    (r.0, rw r.1 (cond-true _ _ _ fits ∙ ap Ok s.1))

pub reads_what_is_written : ReadsWhatIsWritten
reads_what_is_written = record {
  reads = λ t cs room h. belongs_written (read_belongs t cs room h);
  writes = λ t cs room h. belongs_read (write_belongs t cs room h);
  means = λ cs. (λ h. let b = lawful_belongs cs h in (b.0, (belongs_read b.1).1), λ t room h. (belongs_written (read_belongs t cs room h)).0);
  once = λ t u cs m n h k. belongs_once (read_belongs t cs m h) (read_belongs u cs n k);
}
