use Rattle.std.proofs.Common.{◌≡◌, take, drop}
use Rattle.catalogue.proofs.calls.lay.Given as goal

abbrev pub invariant-loop-i : goal.invariant-loop-i
invariant-loop-i l = (take l.i l.cells ≡ take l.i l.numbers) × (drop l.i l.cells ≡ drop l.i l.initial.cells)
