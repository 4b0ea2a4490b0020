-- What reading an order means.
use Rattle.std.specs.Prelude.{◌≡◌, ℕ, ◌≤◌, List, length, Some}
use Rattle.orders.specs.declared.order.Order.{Order}
use Rattle.orders.specs.declared.order.Order.TheVariants.{Enter, Withdraw, Rejoin, Fix, Bar, Free, Find}
use Rattle.orders.specs.Orders.{order_text, most, most_set, order_of}

-- can a line say the numbers of this order?
abbrev pub Sayable : Order → Type 0
Sayable (Enter r) = r ≤ most
Sayable (Withdraw r) = r ≤ most
Sayable (Rejoin mark force gone) = (mark ≤ most) × (force ≤ most_set) × (gone ≤ most_set)
Sayable (Fix s v) = (s ≤ most) × (v ≤ most)
Sayable (Bar s) = s ≤ most
Sayable (Free s) = s ≤ most
Sayable (Find b) = b ≤ most

-- t is the text of the order o
pub record Says (t : List ℕ) (o : Order) : Type 0 where
  pub text : t ≡ order_text o
  pub numbers : Sayable o

-- A line reads to an order exactly when it is the one text of that order, which is never too long for a line.
pub record ReadsOrders : Type 0 where
  pub reads : (t : List ℕ) (o : Order) → order_of t ≡ Some o → Says t o
  pub writes : (t : List ℕ) (o : Order) → Says t o → order_of t ≡ Some o
  pub short : (t : List ℕ) (o : Order) → Says t o → length t ≤ 80
