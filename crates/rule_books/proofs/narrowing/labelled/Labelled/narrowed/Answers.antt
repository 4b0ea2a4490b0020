use Rattle.std.proofs.Common.{◌≡◌, ℕ, ◌<◌, Bool, List, length, get_or, sym, ◌∙◌, arith}
use borrow.Author.Count.{below_more}
use Rattle.std.proofs.lemmas.List.{take_more}
use Rattle.catalogue.specs.Listed.{rule_in}
use Rattle.rule_books.specs.Exact.{found_label, found_labels}
use Rattle.rule_books.specs.Listed.{listed}
use Rattle.rule_books.specs.ExactLaws.{length_found, found_at}
use Rattle.rule_books.proofs.NarrowLaws.{any_some, any_none, only_empty_all, narrow_fails, narrowed_all}
use Rattle.rule_books.proofs.narrowing.labelled.Labelled.narrowed.Goals as goal

pub returns-then-only_empty-clause-labels : goal.returns-then-only_empty-clause-labels
returns-then-only_empty-clause-labels g c =
    let self = c.args.self.now in
    let rows = (rule_in self.rule.cells).rows in
    sym (only_empty_all (g.W.Wants.passes rows) (listed self.labels) (g.met.W.Wants.empty rows) self.full self.small (sym c.only_empty.ensures ∙ c.if-only_empty.true))

pub returns-in_err-label-clause-labels : goal.returns-in_err-label-clause-labels
returns-in_err-label-clause-labels g c =
    let self = c.args.self.now in
    rw c.from_residual.ensures
    (sym (narrow_fails (g.W.Wants.passes (rule_in self.rule.cells).rows) (listed self.labels) self.small c.loop-place.place (omega (arith, self.each)) (sym c.kept.ensures ∙ any_none c.kept.result c.in_err-label.ensures)))

pub loop-place-preserved : goal.loop-place-preserved
loop-place-preserved g c =
    let self = c.args.self.now in
    let labels = listed self.labels in
    let place = c.loop-place.place in
    let p : List ℕ → Bool = g.W.Wants.passes (rule_in self.rule.cells).rows in
    let found = found_labels p labels 0 labels in
    let h : place < length labels = omega (arith, self.each) in
    let e : c.bits.result ≡ get_or found place 0 = c.bits.ensures ∙ any_some c.kept.result _ c.in_ok-label.ensures ∙ c.kept.ensures ∙ sym (found_at p labels place h) in
    record {
      left = c.push.ensures ∙ rw (c.loop-place.invariant.left, e) (sym (take_more found place 0 (omega (arith, length_found p labels 0 labels))));
      some = below_more (λ k. 0 < found_label p labels k) place c.loop-place.invariant.some (omega (arith, c.kept.ensures, any_some c.kept.result _ c.in_ok-label.ensures, c.in_ok-label.label.some));
    }

pub invariant_of-result : goal.invariant_of-result
invariant_of-result g c =
    let self = c.args.self.now in
    let n = self.each in
    let r = narrowed_all (g.W.Wants.passes (rule_in self.rule.cells).rows) (listed self.labels) self.small (listed c.loop-place.labels) c.loop-place.place (omega (arith, n, self.rule.ready.some_slot)) (omega (arith, n)) c.loop-place.invariant.left c.loop-place.invariant.some in
    record { each = r.0 ∙ n; full = r.1.0; small = r.1.1.0 }

pub returns-clause-labels : goal.returns-clause-labels
returns-clause-labels g c =
    let self = c.args.self.now in
    let n = self.each in
    sym (narrowed_all (g.W.Wants.passes (rule_in self.rule.cells).rows) (listed self.labels) self.small (listed c.loop-place.labels) c.loop-place.place (omega (arith, n, self.rule.ready.some_slot)) (omega (arith, n)) c.loop-place.invariant.left c.loop-place.invariant.some).1.1.1
