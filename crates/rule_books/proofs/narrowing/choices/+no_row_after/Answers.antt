use Rattle.std.proofs.Common.{◌≡◌, ℕ, List, ◌+◌, ◌-◌, Bool, false, not, [], ◌∷◌, ◌++◌, length, get_or, set, take, drop, sym, refl, ap, ◌∙◌, arith}
use Rattle.std.proofs.lemmas.List.{length_push, nil_from_length, set_at}
use Rattle.catalogue.specs.Listed.{rule_in}
use Rattle.rule_books.specs.Listed.{listed}
use Rattle.rule_books.specs.Rules.{is_row}
use Rattle.rule_books.specs.Narrowing.{no_row_with, some_no_row}
use Rattle.rule_books.specs.SomeLaws.{below_yes, below_none, below_more}
use Rattle.rule_books.proofs.FoundLaws.{no_row_more, no_row_end}
use Rattle.rule_books.proofs.narrowing.choices.+no_row_after.Goals as goal
use Rattle.rule_books.proofs.narrowing.choices.+no_row_after.Goals.{then-has+else-no_row_after, else-has}

pub returns-in_default : goal.returns-in_default
returns-in_default t c =
    let rows = (rule_in c.args.rule.now.cells).rows in
    let none = nil_from_length c.args.labels.now (omega (arith, c.in_default.len_below)) in
    ap not (c.has_row.ensures ∙ ap (is_row rows) c.as_slice.ensures) ∙ sym (no_row_end rows (listed c.args.chosen.now)) ∙ ap (some_no_row rows (listed c.args.chosen.now)) (sym none)

pub loop-v-init : goal.loop-v-init
loop-v-init t c =
    let chosen = listed c.args.chosen.now in
    record {
      none = below_none _;
      long = rw c.push.ensures (length_push chosen 0);
      turned = λ y. rw c.push.ensures (set_at chosen 0 [] y (length chosen) refl);
    }

pub loop-v-preserved : goal.loop-v-preserved
loop-v-preserved t c =
    let labels = c.args.labels.now in
    let chosen = listed c.args.chosen.now in
    let v = c.loop-v.v in
    let q : ℕ → Bool = no_row_with (rule_in c.args.rule.now.cells).rows chosen (get_or labels 0 0) (take (length labels - 1) (drop 1 labels)) in
    let placed : (xs : List ℕ) → xs ≡ set (listed c.loop-v.next) c.len-place.result v → xs ≡ chosen ++ v ∷ [] =
    λ xs e. e ∙ ap (λ n. set (listed c.loop-v.next) n v) c.len-place.ensures.value ∙ c.loop-v.invariant.turned v in
    let again : (xs : List ℕ) → xs ≡ set (listed c.loop-v.next) c.len-place.result v → (length xs ≡ length chosen + 1) × ((y : ℕ) → set xs (length chosen) y ≡ chosen ++ y ∷ []) =
    λ xs e.
    let p = placed xs e in
    (rw p (length_push chosen v), λ y. rw p (set_at chosen v [] y (length chosen) refl)) in
    let z : q v ≡ false =
    elim c.if-has.branch [
      | then-has+else-no_row_after w ↦ rw (sym c.has.ensures ∙ w.if-has.true, ← placed _ w.set.ensures) (sym w.no_row_after.ensures ∙ w.if-no_row_after.false)
      | else-has w ↦ rw (sym c.has.ensures ∙ w.if-has.false) refl
    ]
    in
    let kept : (length (listed c.if-has.next) ≡ length chosen + 1) × ((y : ℕ) → set (listed c.if-has.next) (length chosen) y ≡ chosen ++ y ∷ []) =
    elim c.if-has.branch [
      | then-has+else-no_row_after w ↦ rw w.next-is (again _ w.set.ensures)
      | else-has w ↦ rw w.next-is (c.loop-v.invariant.long, c.loop-v.invariant.turned)
    ]
    in
    record {
      none = below_more v q ∙ rw z c.loop-v.invariant.none;
      long = kept.0;
      turned = kept.1;
    }

pub returns-then-no_row_after : goal.returns-then-no_row_after
returns-then-no_row_after t c =
    let rows = (rule_in c.args.rule.now.cells).rows in
    let labels = c.args.labels.now in
    let placed = c.set.ensures ∙ ap (λ n. set (listed c.loop-v.next) n c.loop-v.v) c.len-place.ensures.value ∙ c.loop-v.invariant.turned c.loop-v.v in
    sym (no_row_more rows (listed c.args.chosen.now) labels (omega (arith, c.in-len1-up.len_at_least)) (λ k h. omega (arith, c.type_inv.labels k))
    ∙ below_yes 16 c.loop-v.v (no_row_with rows (listed c.args.chosen.now) (get_or labels 0 0) (take (length labels - 1) (drop 1 labels))) c.loop-v-test.true (rw (sym c.has.ensures ∙ c.if-has.true, ← placed) (sym c.no_row_after.ensures ∙ c.if-no_row_after.true)))

pub returns : goal.returns
returns t c =
    let rows = (rule_in c.args.rule.now.cells).rows in
    let labels = c.args.labels.now in
    let e : c.loop-v.v ≡ 16 = omega arith in
    sym (no_row_more rows (listed c.args.chosen.now) labels (omega (arith, c.in-len1-up.len_at_least)) (λ k h. omega (arith, c.type_inv.labels k)) ∙ rw (← e) c.loop-v.invariant.none)
