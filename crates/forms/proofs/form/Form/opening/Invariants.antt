use Rattle.std.proofs.Common.{◌≡◌, length, take}
use Rattle.forms.specs.Opening.{opening_box}
use Rattle.forms.specs.Said.{used_slots}
use Rattle.forms.proofs.form.Form.opening.Given as goal

abbrev pub invariant-loop-i : goal.invariant-loop-i
invariant-loop-i l = (length l.labels ≡ 24) × (take l.i l.labels ≡ take l.i (opening_box (used_slots l.self) l.choices.list))
