use Rattle.std.proofs.Common.{arith, ltb-false}
use Rattle.std.proofs.lemmas.Bool.Decides.{nat_tests}
use Rattle.catalogue.proofs.WholeCells.{catalogue_slotless, catalogue_countless, catalogue_large, catalogue_whole, rules_begin}
use Rattle.catalogue.proofs.cells.take_catalogue.Goals as goal

pub returns-in_err-slots : goal.returns-in_err-slots
returns-in_err-slots c = rw c.from_residual.ensures (record { few = tt; within = tt; rules = tt; value = catalogue_slotless c.args.cells.now (omega (arith, ltb-false)) c.from.ensures (grind (arith, nat_tests)) })

pub returns-in_err-count : goal.returns-in_err-count
returns-in_err-count c = rw c.from_residual-in_err-count.ensures (record {
  few = tt;
  within = tt;
  rules = tt;
  value = catalogue_countless c.args.cells.now (omega (arith, ltb-false)) c.from.ensures c.in_ok-slots.ensures (omega (arith, c.in_err-count.ensures.cases));
})

pub returns-then-cells-gt8192 : goal.returns-then-cells-gt8192
returns-then-cells-gt8192 c = record {
  few = tt;
  within = tt;
  rules = tt;
  value =
      catalogue_large c.args.cells.now (omega (arith, ltb-false)) c.from.ensures c.in_ok-slots.ensures c.in_ok-count.ensures.cases.0 (omega (arith, c.type_inv.cells 0))
      (grind (arith, nat_tests));
}

pub returns : goal.returns
returns c = record {
  few = (omega (arith, c.type_inv.cells 0), omega arith);
  within = omega arith;
  rules = rules_begin c.args.cells.now _ c.in_ok-slots.ensures c.in_ok-count.ensures.cases.0;
  value =
      catalogue_whole c.args.cells.now (omega (arith, ltb-false)) c.from.ensures c.in_ok-slots.ensures c.in_ok-count.ensures.cases.0 (omega (arith, c.type_inv.cells 0))
      (grind (arith, nat_tests));
}
