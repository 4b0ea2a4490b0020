use Rattle.std.proofs.Common.{◌≡◌, ℕ, ◌≤◌, true, cond, List, length, get_or, take, Some, None, Option, sym, refl, ap, ◌∙◌, arith, length-set}
use Rattle.std.proofs.lemmas.List.{take_all}
use Rattle.std.proofs.lemmas.Option.{none-some, same_Some}
use Rattle.catalogue.specs.declared.model.Slot.{Slot}
use Rattle.kits.specs.declared.choices.Choice.{Choice}
use Rattle.kits.specs.declared.choices.Choice.TheVariants.{Free}
use Rattle.kits.specs.Boxes.{all_some}
use Rattle.kits.specs.declared.label_box.LabelBox.{LabelBox}
use Rattle.std.specs.Option.{IsSome, option_map}
use Rattle.kits.proofs.ChoiceLaws.{lawful_at}
use Rattle.forms.specs.Forms.{form_lawful}
use Rattle.forms.specs.Opening.{slot_label, opening_box}
use Rattle.forms.specs.Said.{used_slots}
use Rattle.forms.proofs.OpeningLaws.{opening_length, opening_more, opening_some, opening_means}
use Rattle.forms.proofs.Places.{form_slots}
use Rattle.forms.proofs.form.Form.opening.Goals as goal

pub label-requires : goal.label-requires
label-requires c =
    rw c.as_slice-choice-items.ensures.value
    (lawful_at c.args.choices.now.list c.loop-i.i Free (omega (arith, ap length c.as_slice-choice-items.ensures.value)) c.args.choices.now.lawful)

pub loop-i-preserved : goal.loop-i-preserved
loop-i-preserved c =
    let e = c.as_slice-choice-items.ensures.value in
    let value : c.label.result ≡ slot_label (used_slots c.args.self.now) c.loop-i.i (get_or c.args.choices.now.list c.loop-i.i Free) =
    c.label.ensures ∙ ap (λ (cs : List Choice). slot_label (used_slots c.args.self.now) c.loop-i.i (get_or cs c.loop-i.i Free)) e in (
      simp length-set c.loop-i.invariant.0,
      opening_more _ c.args.choices.now.list c.loop-i.labels c.loop-i.i _ (omega (arith, ap length e)) (omega (arith, c.loop-i.invariant.0)) value c.loop-i.invariant.1,
    )

-- every label is written and has a member, so that they make a box
boxed : (slots : List Slot) (cs : List Choice) (labels : List ℕ) (i : ℕ) (o : Option (List ℕ)) → form_lawful slots ≡ true → length cs ≤ i → length labels ≤ i
    → take i labels ≡ take i (opening_box slots cs) → o ≡ cond (all_some labels) (Some labels) None → o ≡ Some (opening_box slots cs)
boxed slots cs labels i o l h g t e =
    let w : labels ≡ opening_box slots cs = sym (take_all i labels g) ∙ t ∙ take_all i (opening_box slots cs) (rw opening_length h) in
    e ∙ ap (λ (x : List ℕ). cond (all_some x) (Some x) None) w ∙ rw (opening_some slots cs (form_slots slots l)) refl

some_box : (o : Option LabelBox) (labels : List ℕ) → option_map (λ (b : LabelBox). b.labels) o ≡ Some labels → IsSome o
some_box None labels e = absurd (none-some labels e)
some_box (Some b) labels e = refl

pub unwrap-requires : goal.unwrap-requires
unwrap-requires c =
    let n = ap length c.as_slice-choice-items.ensures.value in
    some_box c.new.result _
    (boxed (used_slots c.args.self.now) c.args.choices.now.list c.loop-i.labels c.loop-i.i _ c.args.self.now.lawful (omega arith) (omega (arith, c.loop-i.invariant.0)) c.loop-i.invariant.1 c.new.ensures)

pub returns : goal.returns
returns c =
    let n = ap length c.as_slice-choice-items.ensures.value in
    let e = boxed (used_slots c.args.self.now) c.args.choices.now.list c.loop-i.labels c.loop-i.i _ c.args.self.now.lawful (omega arith) (omega (arith, c.loop-i.invariant.0)) c.loop-i.invariant.1 c.new.ensures in
    let f : Some (c.unwrap.result.labels) ≡ Some (opening_box (used_slots c.args.self.now) c.args.choices.now.list) = rw c.unwrap.ensures at e in
    record { value = same_Some _ _ f; law = opening_means }
