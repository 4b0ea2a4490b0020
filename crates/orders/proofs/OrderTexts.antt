-- Orders: what is read is what was written.
use Rattle.std.proofs.Common.{◌≡◌, ℕ, ◌^◌, ◌<◌, ◌≤◌, List, ◌∷◌, ◌++◌, map, length, Some, None, codes, decimal, Option, refl, ap, ◌∙◌, arith, length-append}
use Rattle.std.specs.Option.{option_map}
use Rattle.std.proofs.lemmas.Fmt.{length-decimal-le}
use Rattle.fields.specs.Numbers.{number_at, whole_number, after_space}
use Rattle.fields.specs.Texts.{keyed_text}
use Rattle.fields.specs.TextLines.{Line, first_line, lines_from}
use Rattle.fields.specs.Words.{value_of}
use Rattle.fields.proofs.Chains.{and_then_case, mapped_case}
use Rattle.fields.proofs.LineLists.{lines_in_turn}
use Rattle.fields.proofs.NumberTexts.{number_reads, number_writes, whole_reads, whole_writes}
use Rattle.fields.proofs.Words.{space_reads, value_reads}
use Rattle.catalogue.proofs.FormLaws.{or_case}
use Rattle.orders.specs.declared.order.Order.{Order}
use Rattle.orders.specs.declared.order.Order.TheVariants.{Enter, Withdraw, Rejoin, Fix, Bar, Free, Find}
use Rattle.orders.specs.Law.{Sayable, Says, ReadsOrders}
use Rattle.orders.specs.OrderLines.{line_order, orders_from, OrdersInTurn}
use Rattle.orders.specs.Orders.{order_text, most, most_set, keyed_number, number_then, number_order, fix_order, rejoin_order, order_of}

number_fits : most < 2 ^ 64
number_fits = omega arith

set_fits : most_set < 2 ^ 64
set_fits = omega arith

-- key=number
module _ {G : Type 0} (key : List ℕ) (make : ℕ → Order) (t : List ℕ) (o : Order) where
  number_case : option_map make (keyed_number key t) ≡ Some o → ((n : ℕ) → t ≡ keyed_text key (decimal n) → n ≤ most → make n ≡ o → G) → G
  number_case h g =
      mapped_case make (keyed_number key t) o h (λ n n-is same.
      and_then_case (value_of t key) (whole_number most) n n-is (λ v v-is h.
      let r = whole_reads most number_fits v n h in
      g n (value_reads t key v v-is ∙ ap (keyed_text key) r.1) r.0 same))

-- a number and one space
module _ (max : ℕ) (fits : max < 2 ^ 64) where
  then_reads : (t : List ℕ) (p : ℕ × List ℕ) → number_then max t ≡ Some p → (p.0 ≤ max) × (t ≡ decimal p.0 ++ (32 ∷ p.1))
  then_reads t p h =
      and_then_case (number_at max t) _ p h (λ n n-is h.
      mapped_case _ (after_space n.1) p h (λ u u-is same.
      let w = number_reads max fits t n n-is in
      rw (← same) (w.small, w.text ∙ ap (λ x. decimal n.0 ++ x) (space_reads n.1 u u-is))))

  then_writes : (n : ℕ) (rest : List ℕ) → n ≤ max → number_then max (decimal n ++ (32 ∷ rest)) ≡ Some (n, rest)
  then_writes n rest h = rw (number_writes max fits n (32 ∷ rest) h refl)

number_says : (t : List ℕ) (o : Order) → number_order t ≡ Some o → Says t o
number_says t o h =
    or_case (option_map Enter (keyed_number (codes "enter") t)) _ o h
    (λ h. number_case (codes "enter") Enter t o h (λ n is small same. rw (← same) (record { text = is; numbers = small })))
    (λ h. or_case (option_map Withdraw (keyed_number (codes "withdraw") t)) _ o h
    (λ h. number_case (codes "withdraw") Withdraw t o h (λ n is small same. rw (← same) (record { text = is; numbers = small })))
    (λ h. or_case (option_map Bar (keyed_number (codes "bar") t)) _ o h
    (λ h. number_case (codes "bar") Bar t o h (λ n is small same. rw (← same) (record { text = is; numbers = small })))
    (λ h. or_case (option_map Free (keyed_number (codes "free") t)) _ o h
    (λ h. number_case (codes "free") Free t o h (λ n is small same. rw (← same) (record { text = is; numbers = small })))
    (λ h. number_case (codes "find") Find t o h (λ n is small same. rw (← same) (record { text = is; numbers = small }))))))

fix_says : (t : List ℕ) (o : Order) → fix_order t ≡ Some o → Says t o
fix_says t o h =
    and_then_case (value_of t (codes "fix")) _ o h (λ v v-is h.
    and_then_case (number_then most v) _ o h (λ s s-is h.
    mapped_case (Fix s.0) (whole_number most s.1) o h (λ n n-is same.
    let a = then_reads most number_fits v s s-is in
    let b = whole_reads most number_fits s.1 n n-is in
    rw (← same) (record {
      text = value_reads t (codes "fix") v v-is ∙ ap (keyed_text (codes "fix")) (a.1 ∙ ap (λ x. decimal s.0 ++ (32 ∷ x)) b.1);
      numbers = (a.0, b.0);
    }))))

rejoin_says : (t : List ℕ) (o : Order) → rejoin_order t ≡ Some o → Says t o
rejoin_says t o h =
    and_then_case (value_of t (codes "rejoin")) _ o h (λ v v-is h.
    and_then_case (number_then most v) _ o h (λ m m-is h.
    and_then_case (number_then most_set m.1) _ o h (λ f f-is h.
    mapped_case (Rejoin m.0 f.0) (whole_number most_set f.1) o h (λ n n-is same.
    let a = then_reads most number_fits v m m-is in
    let b = then_reads most_set set_fits m.1 f f-is in
    let c = whole_reads most_set set_fits f.1 n n-is in
    let sets = b.1 ∙ ap (λ x. decimal f.0 ++ (32 ∷ x)) c.1 in
    rw (← same) (record {
      text = value_reads t (codes "rejoin") v v-is ∙ ap (keyed_text (codes "rejoin")) (a.1 ∙ ap (λ x. decimal m.0 ++ (32 ∷ x)) sets);
      numbers = (a.0, b.0, c.0);
    })))))

reads : (t : List ℕ) (o : Order) → order_of t ≡ Some o → Says t o
unfolding order_of
reads t o h = or_case (number_order t) _ o h (number_says t o) (λ h. or_case (fix_order t) _ o h (fix_says t o) (rejoin_says t o))

-- keys differ, so the text of an order is read as no other
text_reads : (o : Order) → Sayable o → order_of (order_text o) ≡ Some o
unfolding order_of
text_reads (Enter r) h = rw (whole_writes most number_fits r h)
text_reads (Withdraw r) h = rw (whole_writes most number_fits r h)
text_reads (Rejoin mark force gone) h =
    rw (then_writes most number_fits mark (decimal force ++ (32 ∷ decimal gone)) h.0, then_writes most_set set_fits force (decimal gone) h.1, whole_writes most_set set_fits gone h.2)
text_reads (Fix s v) h = rw (then_writes most number_fits s (decimal v) h.0, whole_writes most number_fits v h.1)
text_reads (Bar s) h = rw (whole_writes most number_fits s h)
text_reads (Free s) h = rw (whole_writes most number_fits s h)
text_reads (Find b) h = rw (whole_writes most number_fits b h)

short_number : (n : ℕ) → n ≤ most → length (decimal n) ≤ 10
short_number n h = length-decimal-le 10 n (omega arith) (omega arith) (omega arith)

short_set : (n : ℕ) → n ≤ most_set → length (decimal n) ≤ 20
short_set n h = length-decimal-le 20 n (omega arith) (omega arith) (omega arith)

text_short : (o : Order) → Sayable o → length (order_text o) ≤ 80
text_short (Enter r) h = omega (arith, short_number r h)
text_short (Withdraw r) h = omega (arith, short_number r h)
text_short (Rejoin mark force gone) h = simp length-append (omega (arith, short_number mark h.0, short_set force h.1, short_set gone h.2))
text_short (Fix s v) h = simp length-append (omega (arith, short_number s h.0, short_number v h.1))
text_short (Bar s) h = omega (arith, short_number s h)
text_short (Free s) h = omega (arith, short_number s h)
text_short (Find b) h = omega (arith, short_number b h)

pub reads_orders : ReadsOrders
reads_orders = record {
  reads = reads;
  writes = λ t o s. rw s.text (text_reads o s.numbers);
  short = λ t o s. rw s.text (text_short o s.numbers);
}

orders_of_lines : (o : Option (Line × List ℕ)) → map line_order (lines_from o) ≡ orders_from (option_map (λ p. (line_order p.0, p.1)) o)
orders_of_lines None = refl
orders_of_lines (Some p) = refl

pub orders_in_turn : OrdersInTurn
orders_in_turn t = ap (map line_order) (lines_in_turn t) ∙ orders_of_lines (first_line t)
