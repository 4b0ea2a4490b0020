use Rattle.std.proofs.Common.{◌≡◌, ℕ, true, List, sym, subst, arith}
use Rattle.sheets.specs.Stacks.{stacked}
use Rattle.sheets.specs.States.{state_of}
use Rattle.sheets.proofs.NarrowingLaws.{all_settled}
use Rattle.sheets.proofs.StackLaws.{stacked_first}
use Rattle.sheets.proofs.search.Search.step.Goals as goal

-- the box that was taken off has slots enough with one member, and narrowing leaves them so
pub put_back-requires : goal.put_back-requires
put_back-requires g c =
    let b = c.in-Some.first in
    let w = (state_of c.take_first.new.self).boxes in
    let before = stacked_first b.labels w (subst (λ (x : List (List ℕ)). stacked x ≡ true) c.in-Some.ensures.boxes c.args.self.now.room) in
    omega (arith, before, all_settled _ _ _ (g.met.B.Book.points c.args.book.now) _ b.labels c.in-Some-2.b.labels b.boxed (sym c.in-Some-2.ensures))
