use Rattle.std.proofs.Common.{arith}
use Rattle.sheets.proofs.SettledLaws.{settled_length}
use Rattle.sheets.proofs.StackLaws.{waiting_length}
use Rattle.sheets.proofs.search.Search.put_first.Goals as goal

-- there is room, since no box has more than 24 slots
pub push-requires : goal.push-requires
push-requires c = (omega arith, omega (arith, c.requires, waiting_length c.args.self.now.boxes.items, settled_length c.args.b.labels, c.args.b.boxed.0))
