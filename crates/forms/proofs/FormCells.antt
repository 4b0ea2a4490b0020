-- The slots of lawful cells make a form.
use Rattle.std.proofs.Common.{◌≡◌, ℕ, true, List, Some, None, Option, refl, sym}
use Rattle.std.proofs.lemmas.Option.{none-some, same_Some}
use Rattle.std.specs.Option.{option_map}
use Rattle.catalogue.specs.declared.model.Slot.{Slot}
use Rattle.std.proofs.lemmas.Bool.{and_from}
use Rattle.catalogue.specs.Catalogues.{Catalogue}
use Rattle.catalogue.specs.Cells.{catalogue_of}
use Rattle.catalogue.proofs.CellLaws.{cells_say}
use Rattle.catalogue.proofs.LawfulParts.{lawful_parts}
use Rattle.forms.specs.Forms.{form_lawful}

pub said_lawful : (cs : List ℕ) (c : Catalogue) → catalogue_of cs ≡ Some c → form_lawful c.slots ≡ true
said_lawful cs c is =
    let parts = lawful_parts c (cells_say cs c is).0 in
    and_from _ _ (and_from _ _ parts.used parts.slots) parts.standard

said_by : (o : Option Catalogue) (s : List Slot) → Some s ≡ option_map (λ (c : Catalogue). c.slots) o → (c : Catalogue) × (o ≡ Some c) × (s ≡ c.slots)
said_by None s e = absurd (none-some s (sym e))
said_by (Some c) s e = (c, refl, same_Some s c.slots e)

-- the slots that are taken make a form
pub taken_lawful : (cs : List ℕ) (s : List Slot) → Some s ≡ option_map (λ (c : Catalogue). c.slots) (catalogue_of cs) → form_lawful s ≡ true
taken_lawful cs s e = let said = said_by (catalogue_of cs) s e in rw said.2 (said_lawful cs said.0 said.1)
