use Rattle.std.proofs.Common.{eqb, not, sym, ◌∙◌, rules}
use borrow.Author.Tests.{tests}
use lib.Count.{ones}
use Rattle.std.proofs.lemmas.Bool.{lt-ltb}
use Rattle.std.proofs.lemmas.Iterator.{YieldsList-from_slice}
use Rattle.std.proofs.lemmas.Iterator.Search.{position_from_yields_List}
use Rattle.kits.proofs.BoxLaws.{open_law, open_is}
use Rattle.kits.proofs.label_box.LabelBox.open_slot.Goals as goal

pub returns-in_err-place : goal.returns-in_err-place
returns-in_err-place c =
    let b = c.args.self.now.labels in
    let e = position_from_yields_List (λ l. not (eqb (ones l) 1)) _ _ c.position.result c.position.ensures.ran (YieldsList-from_slice b cc) (λ x t q k. search (rules, tests)) ∙ open_is b in
    record { value = rw c.from_residual.ensures (sym c.in_err-place.was ∙ e); law = open_law }

pub returns : goal.returns
returns c =
    let b = c.args.self.now.labels in
    let e = sym c.in_ok-place.was ∙ position_from_yields_List (λ l. not (eqb (ones l) 1)) _ _ c.position.result c.position.ensures.ran (YieldsList-from_slice b cc) (λ x t q k. search (rules, tests)) ∙ open_is b in
    let h = open_law b c.in_ok-place.place c.args.self.now.boxed (sym e) in
    record { value = rw (lt-ltb c.in_ok-place.place 24 h.within) at c.new.ensures ∙ e; law = open_law }
