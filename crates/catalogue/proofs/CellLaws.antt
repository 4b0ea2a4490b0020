-- The catalogue that cells say has these cells, and the cells of a lawful catalogue say it.
use Rattle.std.proofs.Common.{◌≡◌, ℕ, zero, suc, ◌+◌, ◌-◌, ◌*◌, ◌≤◌, Bool, true, false, cond, ◌&&◌, eqb, leb, List, [], ◌∷◌, ◌++◌, map, length, take, drop, Some, None, Option, sym, refl, ap, ◌∙◌, ap₂, append_assoc, suc-mul, zero-mul, arith, length-append, length-drop, length-take}
use lib.ListN.{length-map}
use Rattle.std.specs.List.{flat_map}
use Rattle.std.specs.Option.{option_map}
use Rattle.std.proofs.lemmas.List.{take-append-drop, take_at, drop_at, nil_from_length}
use Rattle.std.proofs.lemmas.Bool.{false≢true, and_parts, and_from, leb-true, le-leb, eqb-true}
use Rattle.std.proofs.lemmas.Bool.Decides.{nat_tests}
use Rattle.fields.specs.Results.{and_then}
use Rattle.fields.proofs.Chains.{and_then_case, mapped_case, cond_case, cond_some}
use Rattle.catalogue.specs.declared.model.Kind.{Kind}
use Rattle.catalogue.specs.declared.model.Kind.TheVariants.{Goes, Needs, Bars}
use Rattle.catalogue.specs.declared.model.Slot.{Slot}
use Rattle.catalogue.specs.Catalogues.{Rule, Catalogue}
use Rattle.catalogue.specs.Cells.{slot_cell, kind_cell, target_cell, rule_cells, cells_of, slot_of, slots_of, kind_of, cut_cells, counted, rows_of, rule_begun, lawful_rule, rule_of, rules_of, catalogue_of}
use Rattle.catalogue.specs.Lawful.{all, slot_lawful, offered, row_lawful, rule_lawful, head_lawful, lawful}

-- what is not there is nothing
never : {T G : Type 0} {x : T} → None ≡ Some x → G
never h = let z : ◌≡◌ {A = ℕ} 0 1 = cc in absurd (omega arith)

cond_value : {T : Type 0} (b : Bool) (x y : T) → cond b (Some x) None ≡ Some y → (b ≡ true) × (x ≡ y)
cond_value b x y h = let e = cond_some b (Some x) y h in (e.0, cc)

-- slots
slot_says : (c : ℕ) (s : Slot) → slot_of c ≡ Some s → (slot_lawful s ≡ true) × (slot_cell s ≡ c)
slot_says c s h =
    cond_case (leb 1 c && leb c 15) _ _ (Some s) h
    (λ within is. let e : record { parts = c; standard = false } ≡ s = cc in rw (← e) (within, refl))
    (λ beyond more.
    let e = cond_value (leb 257 c && leb c 271) _ s more in
    let b = and_parts (leb 257 c) (leb c 271) e.0 in
    let low = leb-true 257 c b.0 in
    let high = leb-true c 271 b.1 in
    rw (← e.1) (and_from _ _ (le-leb 1 (c - 256) (omega arith)) (le-leb (c - 256) 15 (omega arith)), omega arith))

slot_said : (s : Slot) → slot_lawful s ≡ true → slot_of (slot_cell s) ≡ Some s
slot_said s h = go s.parts s.standard h
  where
    go : (n : ℕ) (b : Bool) → leb 1 n && leb n 15 ≡ true
        → slot_of (slot_cell (record { parts = n; standard = b })) ≡ Some (record { parts = n; standard = b })
    go n true k = let e : n + 256 - 256 ≡ n = omega arith in rw e (grind (arith, nat_tests))
    go n false k = rw k

pub slots_say : (n : ℕ) (cs : List ℕ) (p : List Slot × List ℕ) → slots_of n cs ≡ Some p
    → (length p.0 ≡ n) × (all slot_lawful p.0 ≡ true) × (map slot_cell p.0 ++ p.1 ≡ cs)
slots_say zero cs p h = let e : ◌≡◌ {A = List Slot × List ℕ} ([], cs) p = cc in rw (← e) (refl, refl, refl)
slots_say (suc n) [] p h = never h
slots_say (suc n) (c ∷ cs) p h =
    and_then_case (slot_of c) _ p h (λ s is more.
    mapped_case _ (slots_of n cs) p more (λ q others same.
    let a = slot_says c s is in
    let b = slots_say n cs q others in
    rw (← same) (ap suc b.0, and_from _ _ a.0 b.1, ap₂ (λ x xs. x ∷ xs) a.1 b.2)))

slots_said : (ss : List Slot) (rest : List ℕ) → all slot_lawful ss ≡ true
    → slots_of (length ss) (map slot_cell ss ++ rest) ≡ Some (ss, rest)
slots_said [] rest h = refl
slots_said (s ∷ ss) rest h =
    let b = and_parts (slot_lawful s) (all slot_lawful ss) h in
    rw (slot_said s b.0, slots_said ss rest b.1)

-- kinds
kind_says : (k t : ℕ) (x : Kind) → kind_of k t ≡ Some x → (kind_cell x ≡ k) × (target_cell x ≡ t)
kind_says k t x h =
    cond_case (eqb k 0) _ _ (Some x) h
    (λ zeroth more.
    let e = cond_value (eqb t 0) Goes x more in
    rw (← e.1) (sym (eqb-true k 0 zeroth), sym (eqb-true t 0 e.0)))
    (λ later more.
    cond_case (eqb k 1) _ _ (Some x) more
    (λ first is. let e : Needs t ≡ x = cc in rw (← e) (sym (eqb-true k 1 first), refl))
    (λ last is. let e = cond_value (eqb k 2) (Bars t) x is in rw (← e.1) (sym (eqb-true k 2 e.0), refl)))

kind_said : (x : Kind) → kind_of (kind_cell x) (target_cell x) ≡ Some x
kind_said Goes = refl
kind_said (Needs t) = refl
kind_said (Bars t) = refl

-- the front of the cells
pub cut_says : (n : ℕ) (cs : List ℕ) (p : List ℕ × List ℕ) → cut_cells n cs ≡ Some p
    → (length p.0 ≡ n) × (p.0 ++ p.1 ≡ cs)
cut_says n cs p h =
    let e = cond_value (leb n (length cs)) (take n cs, drop n cs) p h in
    let l = leb-true n (length cs) e.0 in
    rw (← e.1) (simp length-take (omega arith), take-append-drop n cs)

cut_said : (n : ℕ) (xs rest : List ℕ) → length xs ≡ n → cut_cells n (xs ++ rest) ≡ Some (xs, rest)
cut_said n xs rest l =
    let fits = le-leb n (length (xs ++ rest)) (simp length-append (omega arith)) in
    rw (fits, take_at xs rest n l, drop_at xs rest n l)

counted_says : (cs : List ℕ) (p : ℕ × List ℕ) → counted cs ≡ Some p → p.0 ∷ p.1 ≡ cs
counted_says [] p h = never h
counted_says (c ∷ cs) p h = let e : ◌≡◌ {A = ℕ × List ℕ} (c, cs) p = cc in rw (← e)

-- rows
pub rows_count : (n wide : ℕ) (cs : List ℕ) → length (rows_of n wide cs) ≡ n
rows_count zero wide cs = refl
rows_count (suc n) wide cs = ap suc (rows_count n wide (drop wide cs))

rows_say : (n wide : ℕ) (cs : List ℕ) → length cs ≡ n * wide → flat_map (λ row. row) (rows_of n wide cs) ≡ cs
rows_say zero wide cs l = sym (nil_from_length cs (l ∙ zero-mul wide))
rows_say (suc n) wide cs l =
    let m = suc-mul n wide in
    ap (λ xs. take wide cs ++ xs) (rows_say n wide (drop wide cs) (simp length-drop (omega arith))) ∙ take-append-drop wide cs

pub row_wide : (limits row : List ℕ) → row_lawful limits row ≡ true → length row ≡ length limits
row_wide [] [] h = refl
row_wide [] (v ∷ row) h = absurd (false≢true h)
row_wide (p ∷ limits) [] h = absurd (false≢true h)
row_wide (p ∷ limits) (v ∷ row) h = ap suc (row_wide limits row (and_parts _ _ h).1)

-- rows that are lawful for the same limits
module _ (limits : List ℕ) where
  pub rows_length : (rows : List (List ℕ)) → all (row_lawful limits) rows ≡ true
      → length (flat_map (λ row. row) rows) ≡ length rows * length limits
  rows_length [] h = sym (zero-mul (length limits))
  rows_length (row ∷ rows) h =
      let b = and_parts (row_lawful limits row) (all (row_lawful limits) rows) h in
      omega (
        arith,
        row_wide limits row b.0,
        rows_length rows b.1,
        length-append row (flat_map (λ row. row) rows),
        suc-mul (length rows) (length limits),
      )

  rows_said : (rows : List (List ℕ)) → all (row_lawful limits) rows ≡ true
      → rows_of (length rows) (length limits) (flat_map (λ row. row) rows) ≡ rows
  rows_said [] h = refl
  rows_said (row ∷ rows) h =
      let b = and_parts (row_lawful limits row) (all (row_lawful limits) rows) h in
      let wide = row_wide limits row b.0 in
      let flat = flat_map (λ row. row) rows in
      rw (take_at row flat (length limits) wide, drop_at row flat (length limits) wide, rows_said rows b.1)

-- a rule
pub begun_says : (cs : List ℕ) (p : Rule × List ℕ) → rule_begun cs ≡ Some p → rule_cells p.0 ++ p.1 ≡ cs
begun_says [] p h = never h
begun_says (k ∷ []) p h = never h
begun_says (k ∷ t ∷ []) p h = never h
begun_says (k ∷ t ∷ wide ∷ cs) p h =
    and_then_case (kind_of k t) _ p h (λ kind is-kind more.
    and_then_case (cut_cells wide cs) _ p more (λ own is-own more.
    and_then_case (counted own.1) _ p more (λ n is-count more.
    mapped_case _ (cut_cells (n.0 * wide) n.1) p more (λ flat is-flat same.
    let rows = rows_of n.0 wide flat.0 in
    let a = kind_says k t kind is-kind in
    let b = cut_says wide cs own is-own in
    let c = counted_says own.1 n is-count in
    let d = cut_says (n.0 * wide) n.1 flat is-flat in
    let f = rows_say n.0 wide flat.0 d.0 in
    let g = append_assoc own.0 (length rows ∷ flat_map (λ row. row) rows) flat.1 in
    let count = rows_count n.0 wide flat.0 in
    rw (← same) (rw (g, a.0, a.1, b.0, count, f, d.1, c, b.1))))))

and_then_on : {T U V : Type 0} (o : Option T) (f : T → Option V) (g : T → Option U) (h : U → Option V)
    → ((x : T) → f x ≡ and_then (g x) h) → and_then o f ≡ and_then (and_then o g) h
and_then_on None f g h same = refl
and_then_on (Some x) f g h same = same x

mapped_on : {T U V : Type 0} (o : Option T) (f : T → Option V) (g : T → U) (h : U → Option V)
    → ((x : T) → f x ≡ h (g x)) → and_then o f ≡ and_then (option_map g o) h
mapped_on None f g h same = refl
mapped_on (Some x) f g h same = same x

-- the lawful rule that begins cells is the rule that begins them, if that is lawful
pub rule_of_begun : (slots : List Slot) (cs : List ℕ) → rule_of slots cs ≡ and_then (rule_begun cs) (λ p. lawful_rule slots p.0 p.1)
rule_of_begun slots [] = refl
rule_of_begun slots (k ∷ []) = refl
rule_of_begun slots (k ∷ t ∷ []) = refl
rule_of_begun slots (k ∷ t ∷ wide ∷ cs) =
    and_then_on (kind_of k t) _ _ _ (λ kind.
    and_then_on (cut_cells wide cs) _ _ _ (λ own.
    and_then_on (counted own.1) _ _ _ (λ n.
    mapped_on (cut_cells (n.0 * wide) n.1) _ _ _ (λ flat. refl))))

-- rules over the same slots
module _ (slots : List Slot) where
  pub rule_says : (cs : List ℕ) (p : Rule × List ℕ) → rule_of slots cs ≡ Some p
      → (rule_lawful slots p.0 ≡ true) × (rule_cells p.0 ++ p.1 ≡ cs)
  rule_says cs p h =
      and_then_case (rule_begun cs) _ p (sym (rule_of_begun slots cs) ∙ h) (λ q begun more.
      let e = cond_value (rule_lawful slots q.0) q p more in
      rw (← e.1) (e.0, begun_says cs q begun))

  pub rule_begins : (r : Rule) (rest : List ℕ) → rule_lawful slots r ≡ true → rule_begun (rule_cells r ++ rest) ≡ Some (r, rest)
  rule_begins r rest h =
      let limits = map (offered slots) r.slots in
      let wide : length limits ≡ length r.slots = length-map r.slots (offered slots) in
      let flat = flat_map (λ row. row) r.rows in
      let each : all (row_lawful limits) r.rows ≡ true = (and_parts _ _ h).1 in
      let rows : rows_of (length r.rows) (length r.slots) flat ≡ r.rows = rw (← wide) (rows_said limits r.rows each) in
      let own = cut_said (length r.slots) r.slots (length r.rows ∷ (flat ++ rest)) refl in
      let rest-cut = cut_said (length r.rows * length r.slots) flat rest (rw (← wide) (rows_length limits r.rows each)) in
      rw (kind_said r.kind, append_assoc, own, rest-cut, rows)

  rule_said : (r : Rule) (rest : List ℕ) → rule_lawful slots r ≡ true → rule_of slots (rule_cells r ++ rest) ≡ Some (r, rest)
  rule_said r rest h = rw (rule_of_begun slots (rule_cells r ++ rest), rule_begins r rest h, h)

  pub rules_say : (n : ℕ) (cs : List ℕ) (rs : List Rule) → rules_of n slots cs ≡ Some rs
      → (length rs ≡ n) × (all (rule_lawful slots) rs ≡ true) × (flat_map rule_cells rs ≡ cs)
  rules_say zero cs rs h =
      let e = cond_value (eqb (length cs) 0) [] rs h in
      rw (← e.1) (refl, refl, sym (nil_from_length cs (eqb-true (length cs) 0 e.0)))
  rules_say (suc n) cs rs h =
      and_then_case (rule_of slots cs) _ rs h (λ p is more.
      mapped_case _ (rules_of n slots p.1) rs more (λ qs others same.
      let a = rule_says cs p is in
      let b = rules_say n p.1 qs others in
      rw (← same) (ap suc b.0, and_from _ _ a.0 b.1, ap (λ xs. rule_cells p.0 ++ xs) b.2 ∙ a.1)))

  rules_said : (rs : List Rule) → all (rule_lawful slots) rs ≡ true
      → rules_of (length rs) slots (flat_map rule_cells rs) ≡ Some rs
  rules_said [] h = refl
  rules_said (r ∷ rs) h =
      let b = and_parts (rule_lawful slots r) (all (rule_lawful slots) rs) h in
      rw (rule_said r (flat_map rule_cells rs) b.0, rules_said rs b.1)

-- catalogues
pub cells_say : (cs : List ℕ) (c : Catalogue) → catalogue_of cs ≡ Some c
    → (lawful c ≡ true) × (cells_of c ≡ cs) × (length cs ≤ 8192)
cells_say [] c h = never h
cells_say (mark ∷ []) c h = never h
cells_say (mark ∷ used ∷ cs) c h =
    and_then_case (slots_of used cs) _ c h (λ s is-slots more.
    and_then_case (counted s.1) _ c more (λ n is-count more.
    and_then_case (rules_of n.0 s.0 n.1) _ c more (λ rs is-rules more.
    let e = cond_value _ _ c more in
    let head = and_parts _ _ e.0 in
    let a = slots_say used cs s is-slots in
    let b = counted_says s.1 n is-count in
    let d = rules_say s.0 n.0 n.1 rs is-rules in
    let is_lawful = and_from _ _ (and_from _ _ head.1 a.1) d.1 in
    rw (← e.1) (is_lawful, rw (a.0, d.0, d.2, b, a.2), leb-true _ 8192 head.0))))

pub said_by_cells : (c : Catalogue) → lawful c ≡ true → length (cells_of c) ≤ 8192 → catalogue_of (cells_of c) ≡ Some c
said_by_cells c h few =
    let b = and_parts _ _ h in
    let d = and_parts (head_lawful c) (all slot_lawful c.slots) b.0 in
    let slots = slots_said c.slots (length c.rules ∷ flat_map rule_cells c.rules) d.1 in
    rw (slots, rules_said c.slots c.rules b.1, le-leb (length (cells_of c)) 8192 few, d.0)
