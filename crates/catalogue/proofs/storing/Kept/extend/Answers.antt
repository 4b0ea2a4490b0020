use Rattle.std.proofs.Common.{◌≡◌, ◌+◌, ◌-◌, ◌^◌, min, List, ℕ, length, ap, arith}
use Rattle.catalogue.specs.Keeping.{kept}
use Rattle.catalogue.proofs.storing.Kept.extend.Goals as goal

pub returns : goal.returns
unfolding kept
returns g c =
    let old = c.args.self.now in
    let e : c.saturating_add-self.result ≡ old.count + min (length c.args.cells.now) (2 ^ 64 - 1 - old.count) = omega (arith, c.saturating_add-self.ensures) in
    rw e (ap (λ (xs : List ℕ). record { cells = record { items = xs }; count = old.count + min (length c.args.cells.now) (2 ^ 64 - 1 - old.count) }) c.keep.ensures)
