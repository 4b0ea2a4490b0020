-- Orders: the text of each, and what a line reads to.
use Rattle.std.specs.Prelude.{ℕ, List, ◌∷◌, ◌++◌, codes, decimal, Option}
use Rattle.std.specs.Option.{option_map}
use Rattle.fields.specs.Numbers.{number_at, whole_number, after_space}
use Rattle.fields.specs.Results.{and_then}
use Rattle.fields.specs.Texts.{keyed_text}
use Rattle.fields.specs.Words.{value_of}
use Rattle.catalogue.specs.Reading.{or_else}
use Rattle.orders.specs.declared.order.Order.{Order}
use Rattle.orders.specs.declared.order.Order.TheVariants.{Enter, Withdraw, Rejoin, Fix, Bar, Free, Find}

abbrev pub order_text : Order → List ℕ
order_text (Enter r) = keyed_text (codes "enter") (decimal r)
order_text (Withdraw r) = keyed_text (codes "withdraw") (decimal r)
order_text (Rejoin mark force gone) = keyed_text (codes "rejoin") (decimal mark ++ (32 ∷ (decimal force ++ (32 ∷ decimal gone))))
order_text (Fix s v) = keyed_text (codes "fix") (decimal s ++ (32 ∷ decimal v))
order_text (Bar s) = keyed_text (codes "bar") (decimal s)
order_text (Free s) = keyed_text (codes "free") (decimal s)
order_text (Find b) = keyed_text (codes "find") (decimal b)

-- numbers go to 2^32 - 1
abbrev pub most : ℕ
most = 4294967295

-- and sets to 2^64 - 1
abbrev pub most_set : ℕ
most_set = 18446744073709551615

-- key=number
abbrev pub keyed_number : List ℕ → List ℕ → Option ℕ
keyed_number key t = and_then (value_of t key) (whole_number most)

-- the number at the front, and what follows it and one space
abbrev pub number_then : ℕ → List ℕ → Option (ℕ × List ℕ)
number_then max t = and_then (number_at max t) (λ n. option_map (λ u. (n.0, u)) (after_space n.1))

abbrev pub number_order : List ℕ → Option Order
number_order t =
    or_else (option_map Enter (keyed_number (codes "enter") t))
    (or_else (option_map Withdraw (keyed_number (codes "withdraw") t))
    (or_else (option_map Bar (keyed_number (codes "bar") t))
    (or_else (option_map Free (keyed_number (codes "free") t))
    (option_map Find (keyed_number (codes "find") t)))))

abbrev pub fix_order : List ℕ → Option Order
fix_order t =
    and_then (value_of t (codes "fix")) (λ v.
    and_then (number_then most v) (λ s.
    option_map (Fix s.0) (whole_number most s.1)))

abbrev pub rejoin_order : List ℕ → Option Order
rejoin_order t =
    and_then (value_of t (codes "rejoin")) (λ v.
    and_then (number_then most v) (λ m.
    and_then (number_then most_set m.1) (λ f.
    option_map (Rejoin m.0 f.0) (whole_number most_set f.1))))

-- the order that a line without its end reads to
unfoldable pub order_of : List ℕ → Option Order
order_of t = or_else (number_order t) (or_else (fix_order t) (rejoin_order t))
