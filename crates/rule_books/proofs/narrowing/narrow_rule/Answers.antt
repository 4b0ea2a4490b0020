use Rattle.std.proofs.Common.{is_some, sym, ap, inl, inr, ◌∙◌}
use Rattle.std.specs.Option.{unwrap_or}
use Rattle.catalogue.specs.Listed.{rule_in}
use Rattle.rule_books.proofs.BesideLaws.{needs_mask, bars_mask}
use Rattle.rule_books.proofs.narrowing.narrow_rule.Goals as goal

pub narrow_beside-requires : goal.narrow_beside-requires
narrow_beside-requires c = c.args.rule.beside c.in-Needs.t (inl c.in-Needs.is)

pub narrow_beside-requires-in-Bars : goal.narrow_beside-requires-in-Bars
narrow_beside-requires-in-Bars c = c.args.rule.beside c.in-Bars.t (inr c.in-Bars.is)

pub returns-in-Needs : goal.returns-in-Needs
returns-in-Needs c =
    let b = c.args.b.now in
    let e = needs_mask (rule_in c.args.rule.cells) c.in-Needs.t b.labels b.boxed c.args.rule.beside c.in-Needs.is in
    record { fits = c.narrow_beside.ensures.fits ∙ sym (ap is_some e); after = c.narrow_beside.ensures.after ∙ sym (ap (λ o. unwrap_or o b.labels) e) }

pub returns-in-Bars : goal.returns-in-Bars
returns-in-Bars c =
    let b = c.args.b.now in
    let e = bars_mask (rule_in c.args.rule.cells) c.in-Bars.t b.labels b.boxed c.args.rule.beside c.in-Bars.is in
    record { fits = c.narrow_beside-in-Bars.ensures.fits ∙ sym (ap is_some e); after = c.narrow_beside-in-Bars.ensures.after ∙ sym (ap (λ o. unwrap_or o b.labels) e) }
