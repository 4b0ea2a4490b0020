use Rattle.std.proofs.Common.{rules}
use lib.Count.{ones}
use Rattle.std.proofs.lemmas.Iterator.{YieldsList-from_slice, YieldsList-from_map}
use Rattle.std.proofs.lemmas.Iterator.Consumers.{YieldsList-at}
use Rattle.kits.proofs.VolumeLaws.{product_fits, product_is, volume_law}
use Rattle.kits.proofs.label_box.LabelBox.volume.Goals as goal

pub product-requires-clause-fits : goal.product-requires-clause-fits
product-requires-clause-fits c =
    product_fits c.map.result c.args.self.now.labels c.args.self.now.boxed (YieldsList-from_map _ (λ l. ones l) (YieldsList-at c.map.ensures.source (YieldsList-from_slice _ cc)) c.map.ensures.closure (λ x r q k. search rules))

pub returns : goal.returns
returns c = record {
  value = product_is c.map.result c.args.self.now.labels c.product.result c.product.ensures.ran (YieldsList-from_map _ (λ l. ones l) (YieldsList-at c.map.ensures.source (YieldsList-from_slice _ cc)) c.map.ensures.closure (λ x r q k. search rules));
  law = volume_law;
}
