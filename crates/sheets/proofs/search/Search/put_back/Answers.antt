use Rattle.std.proofs.Common.{length, ap, arith}
use Rattle.sheets.proofs.SettledLaws.{settled_halves}
use Rattle.sheets.proofs.search.Search.put_back.Goals as goal

pub put_first-requires-in-Some : goal.put_first-requires-in-Some
put_first-requires-in-Some c = omega (arith, c.requires, (settled_halves _ _ _ c.in-Some.ensures.value).1)

pub put_first-requires-in-Some-2 : goal.put_first-requires-in-Some-2
put_first-requires-in-Some-2 c = omega (arith, c.requires, (settled_halves _ _ _ c.in-Some.ensures.value).0, ap length c.put_first-in-Some.ensures.boxes)
