use Rattle.std.proofs.Common.{Some, None, is_some, sym, ap, ◌∙◌}
use Rattle.std.specs.Option.{unwrap_or}
use Rattle.catalogue.specs.Listed.{rule_in}
use Rattle.rule_books.specs.Listed.{listed}
use Rattle.rule_books.proofs.ScopeLaws.{narrowed_at_slots}
use Rattle.rule_books.proofs.narrowing.narrow_slots.Goals as goal

pub returns-in_err-labelled : goal.returns-in_err-labelled
returns-in_err-labelled g c =
    let rule = c.args.rule in
    let b = c.args.b.now in
    let e = narrowed_at_slots (g.W.Wants.passes (rule_in rule.cells).rows) rule.cells.slots.now b.labels b.boxed rule.ready.within rule.ready.distinct (listed c.of.result.labels) None c.of.ensures.labels (rw c.of.ensures.rule at c.in_err-labelled.ensures.labels) in
    record { fits = ap is_some c.from_residual.ensures ∙ sym (ap is_some e); after = sym (ap (λ o. unwrap_or o b.labels) e) }

pub returns : goal.returns
returns g c =
    let rule = c.args.rule in
    let b = c.args.b.now in
    let e = narrowed_at_slots (g.W.Wants.passes (rule_in rule.cells).rows) rule.cells.slots.now b.labels b.boxed rule.ready.within rule.ready.distinct (listed c.of.result.labels) (Some (listed c.in_ok-labelled.labelled.labels)) c.of.ensures.labels (rw c.of.ensures.rule at c.in_ok-labelled.ensures.labels) in
    record {
      fits = sym (ap is_some e);
      after = rw (c.put.ensures, c.in_ok-labelled.ensures.rule, c.of.ensures.rule) (sym (ap (λ o. unwrap_or o b.labels) e));
    }
