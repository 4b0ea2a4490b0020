-- The orders of a text, line by line.
use Rattle.std.specs.Prelude.{◌≡◌, ℕ, cond, ◌&&◌, List, [], ◌∷◌, map, length, Some, None, Option, nat_le}
use Rattle.std.specs.Option.{option_map}
use Rattle.fields.specs.TextLines.{Line, lines, first_line}
use Rattle.orders.specs.declared.order.Order.{Order}
use Rattle.orders.specs.Orders.{order_of}

-- the order that a line says: an unended one, or one over 80 bytes, says none
abbrev pub line_order : Line → Option Order
line_order l = cond (l.ended && nat_le (length l.bytes) 80) (order_of l.bytes) None

-- what each line of a text says
abbrev pub orders : List ℕ → List (Option Order)
orders t = map line_order (lines t)

-- what the first line says, if there is one, and the text after it
abbrev pub first_order : List ℕ → Option (Option Order × List ℕ)
first_order t = option_map (λ p. (line_order p.0, p.1)) (first_line t)

abbrev pub orders_from : Option (Option Order × List ℕ) → List (Option Order)
orders_from None = []
orders_from (Some p) = p.0 ∷ orders p.1

-- the orders of a text are what its first line says and those of the text after it
abbrev pub OrdersInTurn : Type 0
OrdersInTurn = (t : List ℕ) → orders t ≡ orders_from (first_order t)
