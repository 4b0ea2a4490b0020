use Rattle.std.proofs.Common.{◌≡◌, get_or, Some, is_some, sym, ap, ◌∙◌, arith}
use lib.Bits.{bit_and}
use Rattle.std.specs.Option.{unwrap_or}
use Rattle.std.proofs.lemmas.Bool.{eqb-true}
use Rattle.catalogue.specs.Listed.{rule_in}
use Rattle.rule_books.specs.Exact.{exact}
use Rattle.rule_books.specs.Narrowing.{beside_test}
use Rattle.rule_books.proofs.BesideLaws.{beside_all, beside_none, beside_spared, beside_met}
use Rattle.rule_books.proofs.NarrowLaws.{any_some, any_none}
use Rattle.rule_books.proofs.narrowing.narrow_beside.Goals as goal
use Rattle.rule_books.proofs.narrowing.narrow_beside.Goals.{then-eq-via-then-eq, then-eq-via-else-eq+then-can_spare}

pub returns-in_default : goal.returns-in_default
returns-in_default c =
    let rule = c.args.rule in
    let b = c.args.b.now in
    let l : c.label-label.result.bits ≡ get_or b.labels c.args.t 0 = c.label-label.ensures ∙ ap (λ n. get_or b.labels n 0) c.slot_number-slot.ensures in
    let e : c.bits.result ≡ get_or b.labels c.args.t 0 = c.bits.ensures ∙ l in
    let n = beside_none (rule_in rule.cells) c.args.t c.args.mask b.labels b.boxed rule.ready.within rule.ready.distinct c.requires.0 c.requires.1 (rw e at (any_none _ c.in_default.ensures)) in
    record { fits = c.narrow_slots.ensures.fits ∙ sym (ap is_some n); after = c.narrow_slots.ensures.after ∙ sym (ap (λ o. unwrap_or o b.labels) n) }

pub returns-then-eq : goal.returns-then-eq
returns-then-eq c =
    let rule = c.args.rule in
    let b = c.args.b.now in
    let l : c.label-label.result.bits ≡ get_or b.labels c.args.t 0 = c.label-label.ensures ∙ ap (λ n. get_or b.labels n 0) c.slot_number-slot.ensures in
    let e : c.bits.result ≡ get_or b.labels c.args.t 0 = c.bits.ensures ∙ l in
    let met : c.in-Some.met.bits ≡ bit_and (get_or b.labels c.args.t 0) c.args.mask = rw e at (any_some _ c.in-Some.met.bits c.in-Some.ensures) in
    let n =
    elim c.then-eq.branch as (λ z. exact (beside_test c.args.t c.args.mask (rule_in rule.cells)) b.labels ≡ Some b.labels) [
      | then-eq-via-then-eq w ↦ beside_all (rule_in rule.cells) c.args.t c.args.mask b.labels b.boxed rule.ready.within rule.ready.distinct c.requires.0 c.requires.1 (sym met ∙ eqb-true c.in-Some.met.bits c.label-label.result.bits (sym w.if-eq.ensures) ∙ l)
      | then-eq-via-else-eq+then-can_spare w ↦ beside_spared (rule_in rule.cells) c.args.t c.args.mask b.labels b.boxed rule.ready.within rule.ready.distinct c.requires.0 c.requires.1 (λ z. omega (arith, met, c.in-Some.met.some)) (sym w.can_spare.ensures ∙ w.if-can_spare.true)
    ]
    in
    record { fits = sym (ap is_some n); after = sym (ap (λ o. unwrap_or o b.labels) n) }

pub returns : goal.returns
returns c =
    let rule = c.args.rule in
    let b = c.args.b.now in
    let l : c.label-label.result.bits ≡ get_or b.labels c.args.t 0 = c.label-label.ensures ∙ ap (λ n. get_or b.labels n 0) c.slot_number-slot.ensures in
    let e : c.bits.result ≡ get_or b.labels c.args.t 0 = c.bits.ensures ∙ l in
    let met : c.in-Some.met.bits ≡ bit_and (get_or b.labels c.args.t 0) c.args.mask = rw e at (any_some _ c.in-Some.met.bits c.in-Some.ensures) in
    let n = beside_met (rule_in rule.cells) c.args.t c.args.mask b.labels b.boxed rule.ready.within rule.ready.distinct c.requires.0 c.requires.1 (λ z. omega (arith, met, c.in-Some.met.some)) (sym c.can_spare.ensures ∙ c.if-can_spare.false) in
    record { fits = sym (ap is_some n); after = rw (c.put.ensures, c.slot_number-slot.ensures, met) (sym (ap (λ o. unwrap_or o b.labels) n)) }
