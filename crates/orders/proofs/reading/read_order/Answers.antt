use Rattle.std.proofs.Common.{rules}
use Rattle.orders.specs.Orders.{order_of}
use Rattle.orders.proofs.OrderTexts.{reads_orders}
use Rattle.orders.proofs.reading.read_order.Goals as goal

pub returns : goal.returns
unfolding order_of
returns c = record { value = search rules; law = reads_orders }
