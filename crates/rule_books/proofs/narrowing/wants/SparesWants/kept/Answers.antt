use Rattle.std.proofs.Common.{◌≡◌, ℕ, ◌^◌, Bool, [], cond, not, get_or, set, refl, sym, ap, ◌∙◌, arith}
use lib.Bits.{bit_or}
use lib.Seq.{set-set}
use Rattle.std.proofs.lemmas.Nat.{one_shl}
use Rattle.std.proofs.lemmas.Bool.{ne_eqb, or_left}
use Rattle.catalogue.specs.Listed.{rule_in}
use Rattle.kits.specs.Labels.{has_member}
use Rattle.rule_books.specs.Listed.{listed}
use Rattle.rule_books.specs.declared.narrowing.labelled.Labelled.{Labelled}
use Rattle.rule_books.specs.Narrowing.{is_spared, some_no_row}
use Rattle.rule_books.specs.Rules.{some_empty, is_row, spares}
use Rattle.rule_books.proofs.FoundLaws.{found_all, found_spared, label_more, spared_first}
use Rattle.rule_books.proofs.narrowing.wants.SparesWants.kept.Goals as goal
use Rattle.rule_books.proofs.narrowing.wants.SparesWants.kept.Goals.{then-has+then-spares_alone, else-has, else-has-via-then-has+else-spares_alone, else-has-via-else-has}

pub returns-then-other_empty : goal.returns-then-other_empty
returns-then-other_empty c =
    let x = c.args.labelled.now in
    let rows = (rule_in x.rule.cells).rows in
    rw c.as_slice.ensures
    (sym (found_all (listed x.labels) c.args.place x.full x.small c.requires (spares rows) (λ g t. or_left (some_empty g) (not (is_row rows g)) t) (sym c.other_empty.ensures ∙ c.if-other_empty.true)))

pub loop-v-init : goal.loop-v-init
loop-v-init c = record {
  found = rw c.as_slice.ensures (spared_first (rule_in c.args.labelled.now.rule.cells).rows (listed c.args.labelled.now.labels) c.args.place);
  rule = refl;
  others = λ x. refl;
}

pub loop-v-preserved : goal.loop-v-preserved
loop-v-preserved c =
    let x = c.args.labelled.now in
    let v = c.loop-v.v in
    let place = c.args.place in
    let alone = c.loop-v.alone in
    let q : ℕ → Bool = is_spared (rule_in x.rule.cells).rows (listed x.labels) place in
    let has : c.has.result ≡ has_member (get_or (listed x.labels) place 0) v = rw c.as_slice.ensures at c.has.ensures in
    let filled = ne_eqb v 0 (λ e. omega (arith, c.loop-v.auto.v)) in
    let asked : some_no_row (rule_in alone.rule.cells).rows [] (set (listed alone.labels) place (2 ^ v)) ≡ some_no_row (rule_in x.rule.cells).rows [] (set (listed x.labels) place (2 ^ v)) =
    rw (c.loop-v.invariant.rule, c.loop-v.invariant.others (2 ^ v)) refl in
    let turned : (l : Labelled) → l.rule ≡ alone.rule → listed l.labels ≡ set (listed alone.labels) place (2 ^ v) → (y : ℕ) → set (listed l.labels) place y ≡ set (listed x.labels) place y =
    λ l r e y. rw (e, set-set (listed alone.labels) place (2 ^ v) y) (c.loop-v.invariant.others y) in
    let u : c.if-has.found ≡ cond (q v) (bit_or c.loop-v.found (2 ^ v)) c.loop-v.found =
    elim c.if-has.branch [
      | then-has+then-spares_alone w ↦ rw (sym has ∙ w.if-has.true, filled, sym (w.spares_alone.ensures.value ∙ asked) ∙ w.if-spares_alone.true) (w.found-is ∙ ap (bit_or c.loop-v.found) (one_shl v 16 c.loop-v-test.true))
      | else-has w ↦
          elim w.else-has.branch [
            | else-has-via-then-has+else-spares_alone k ↦ rw (sym has ∙ k.if-has.true, filled, sym (k.spares_alone.ensures.value ∙ asked) ∙ k.if-spares_alone.false) w.found-is
            | else-has-via-else-has k ↦ rw (sym has ∙ k.if-has.false) w.found-is
          ]
    ]
    in
    let kept : (c.if-has.alone.rule ≡ x.rule) × ((y : ℕ) → set (listed c.if-has.alone.labels) place y ≡ set (listed x.labels) place y) =
    elim c.if-has.branch [
      | then-has+then-spares_alone w ↦
          rw w.alone-is (w.spares_alone.ensures.rule ∙ c.loop-v.invariant.rule, turned w.spares_alone.new.self w.spares_alone.ensures.rule w.spares_alone.ensures.labels)
      | else-has w ↦
          elim w.else-has.branch [
            | else-has-via-then-has+else-spares_alone k ↦
                rw (w.alone-is, k.alone-is) (k.spares_alone.ensures.rule ∙ c.loop-v.invariant.rule, turned k.spares_alone.new.self k.spares_alone.ensures.rule k.spares_alone.ensures.labels)
            | else-has-via-else-has k ↦ rw (w.alone-is, k.alone-is) (c.loop-v.invariant.rule, c.loop-v.invariant.others)
          ]
    ]
    in
    record {
      found = (rw c.loop-v.invariant.found at u) ∙ sym (label_more v q);
      rule = kept.0;
      others = kept.1;
    }

pub returns : goal.returns
returns c =
    let x = c.args.labelled.now in
    let e : c.loop-v.v ≡ 16 = omega arith in
    rw (← e) c.loop-v.invariant.found ∙ sym (found_spared (listed x.labels) c.args.place x.full x.small c.requires (rule_in x.rule.cells).rows (sym c.other_empty.ensures ∙ c.if-other_empty.false))
