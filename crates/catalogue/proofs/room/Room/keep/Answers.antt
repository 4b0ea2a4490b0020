use Rattle.std.proofs.Common.{◌≡◌, length, take, ap, arith}
use Rattle.catalogue.proofs.Helds.{laid_on}
use Rattle.catalogue.proofs.room.Room.keep.Goals as goal

pub returns : goal.returns
returns g c =
    let from = c.self.inside in
    let long : length from.places ≡ g.row.N = omega arith in
    let were : take from.count from.places ≡ c.args.self.now.items = ap (λ r. r.items) c.self.view_is in
    rw (c.lay_from-self-inside.ensures.after, c.lay_from-self-inside.ensures.value, ← were)
    (laid_on g.row.N from.count from.places c.args.items.now c.self.invariant long)
