-- A test that looks at some slots only narrows the box as it narrows the labels of these.
use Rattle.std.proofs.Common.{◌≡◌, ℕ, zero, suc, ◌+◌, ◌^◌, ◌<◌, Bool, true, false, ◌⊎◌, List, [], ◌∷◌, length, get_or, drop, set, Some, Option, sym, refl, ap, ◌∙◌, subst, inl, inr, ⊎_elim, suc-le-suc, le_of_suc-le-suc, arith}
use Rattle.std.proofs.lemmas.List.{at_drop_more, get_or-set_same, get_or-set_other, length-set, get_or-map, length-map}
use Rattle.std.proofs.lemmas.Bool.{both_ways, cases_Bool, cases_eq}
use Rattle.std.specs.Option.{option_map}
use Rattle.kits.specs.Labels.{Has}
use Rattle.kits.specs.Boxes.{Boxed, In, Full, Small, lowest_filling}
use Rattle.kits.proofs.BoxLaws.{in_at, in_set}
use Rattle.kits.proofs.HalfLaws.{lowest_held}
use Rattle.rule_books.specs.Rules.{at_slots}
use Rattle.rule_books.specs.Exact.{some_in, found_labels, exact, Found}
use Rattle.rule_books.specs.Scope.{put_at, Within, Aside, Distinct}
use Rattle.rule_books.specs.SomeLaws.{some_yes, some_says}
use Rattle.rule_books.specs.ExactLaws.{small_set, in_length, put_in, length_found, left_says, left_yes, left_small, exact_none, exact_some, exact_by}

put_length : (slots ls b : List ℕ) → length (put_at slots ls b) ≡ length b
put_length [] ls b = refl
put_length (s ∷ slots) [] b = refl
put_length (s ∷ slots) (l ∷ ls) b = put_length slots ls (set b s l) ∙ length-set b s l

pub put_other : (slots ls b : List ℕ) (i : ℕ) → Aside i slots → get_or (put_at slots ls b) i 0 ≡ get_or b i 0
put_other [] ls b i a = refl
put_other (s ∷ slots) [] b i a = refl
put_other (s ∷ slots) (l ∷ ls) b i a =
    put_other slots ls (set b s l) i (λ k h. a (suc k) (suc-le-suc h)) ∙ get_or-set_other b s i l 0 (λ e. a 0 (omega arith) (sym e))

-- the loop that writes slots, one slot on
pub put_more : (slots labels b : List ℕ) (i : ℕ) → i < length slots → i < length labels
    → put_at (drop (i + 1) slots) (drop (i + 1) labels) (set b (get_or slots i 0) (get_or labels i 0)) ≡ put_at (drop i slots) (drop i labels) b
put_more slots labels b i h g =
    sym (at_drop_more (λ (x : List ℕ). put_at x (drop i labels) b) slots i 0 h ∙ at_drop_more (λ (y : List ℕ). put_at (get_or slots i 0 ∷ drop (i + 1) slots) y b) labels i 0 g)

at_put : (slots ls b : List ℕ) → Distinct slots → Within (length b) slots → length ls ≡ length slots → at_slots slots (put_at slots ls b) ≡ ls
at_put [] [] b d w e = refl
at_put [] (l ∷ ls) b d w e = absurd (omega arith)
at_put (s ∷ slots) [] b d w e = absurd (omega arith)
at_put (s ∷ slots) (l ∷ ls) b d w e =
    let x : get_or (put_at slots ls (set b s l)) s 0 ≡ l = put_other slots ls (set b s l) s (λ k h. d 0 (suc k) (omega arith) (suc-le-suc h)) ∙ get_or-set_same b s l 0 (w 0 (omega arith)) in
    let y : at_slots slots (put_at slots ls (set b s l)) ≡ ls = at_put slots ls (set b s l) (λ j k g h. d (suc j) (suc k) (suc-le-suc g) (suc-le-suc h)) (λ k h. rw length-set (w (suc k) (suc-le-suc h))) (omega arith) in
    cc

put_same : (slots ls b : List ℕ) (j : ℕ) → Distinct slots → Within (length b) slots → length ls ≡ length slots → j < length slots → get_or (put_at slots ls b) (get_or slots j 0) 0 ≡ get_or ls j 0
put_same slots ls b j d w e h =
    sym (get_or-map (λ s. get_or (put_at slots ls b) s 0) slots j 0 0 h) ∙ ap (λ (x : List ℕ). get_or x j 0) (at_put slots ls b d w e)

-- fillings of the box and choices in the slots
in_put : (f slots ls b : List ℕ) → In f b → In (at_slots slots f) ls → In f (put_at slots ls b)
in_put f [] ls b n m = n
in_put f (s ∷ slots) [] b n m = n
in_put f (s ∷ slots) (l ∷ ls) b n m = in_put f slots ls (set b s l) (in_set f b s l n m.0) m.1

put_held : (slots g f b : List ℕ) → In f b → In g (at_slots slots b) → In (put_at slots g f) b
put_held [] g f b n m = n
put_held (s ∷ slots) [] f b n m = n
put_held (s ∷ slots) (v ∷ g) f b n m = put_held slots g (set f s v) b (put_in f b s v n m.0) m.1

pub in_slots : (f slots b : List ℕ) → Within (length b) slots → In f b → In (at_slots slots f) (at_slots slots b)
in_slots f [] b w n = tt
in_slots f (s ∷ slots) b w n = (in_at f b s (w 0 (omega arith)) n, in_slots f slots b (λ k h. w (suc k) (suc-le-suc h)) n)

small_put : (slots ls b : List ℕ) → Small b → Small ls → Small (put_at slots ls b)
small_put [] ls b s m = s
small_put (x ∷ slots) [] b s m = s
small_put (x ∷ slots) (l ∷ ls) b s m = small_put slots ls (set b x l) (small_set b x l s (m 0 (omega arith))) (λ k h. m (suc k) (suc-le-suc h))

pub slots_length : (slots b : List ℕ) → length (at_slots slots b) ≡ length slots
slots_length slots b = length-map slots (λ s. get_or b s 0)

pub small_slots : (slots b : List ℕ) → Within (length b) slots → Small b → Small (at_slots slots b)
small_slots slots b w s k h =
    let j : k < length slots = rw length-map at h in
    subst (λ (y : ℕ). y < 2 ^ 16) (sym (get_or-map (λ x. get_or b x 0) slots k 0 0 j)) (s (get_or slots k 0) (w k j))

pub full_slots : (slots b : List ℕ) → Within (length b) slots → Full b → Full (at_slots slots b)
full_slots slots b w s k h =
    let j : k < length slots = rw length-map at h in
    subst (λ (y : ℕ). 0 < y) (sym (get_or-map (λ x. get_or b x 0) slots k 0 0 j)) (s (get_or slots k 0) (w k j))

pub within_box : (slots b : List ℕ) → Boxed b → Within 24 slots → Within (length b) slots
within_box slots b o w k h = omega (arith, o.0, w k h)

-- a slot is one of the slots, or none
place : (slots : List ℕ) (i : ℕ) → ((j : ℕ) × ((j < length slots) × (get_or slots j 0 ≡ i))) ⊎ Aside i slots
place [] i = inr (λ k h e. absurd (omega arith))
place (s ∷ slots) i =
    ⊎_elim
    (λ (e : s ≡ i). inl (0, (omega arith, e)))
    (λ (n : s ≡ i → ⊥).
    ⊎_elim
    (λ (r : (j : ℕ) × ((j < length slots) × (get_or slots j 0 ≡ i))). inl (suc r.0, (suc-le-suc r.1.0, r.1.1)))
    (λ (a : Aside i slots). inr (far n a))
    (place slots i))
    (cases_eq s i)
  where
    far : (s ≡ i → ⊥) → Aside i slots → Aside i (s ∷ slots)
    far n a zero h e = n e
    far n a (suc k) h e = a k (le_of_suc-le-suc h) e

module _ (q : List ℕ → Bool) (slots b : List ℕ) (full : Full b) (small : Small b) (within : Within (length b) slots) (distinct : Distinct slots) where
  abbrev ls : List ℕ
  ls = found_labels q (at_slots slots b) 0 (at_slots slots b)

  -- a choice in the slots that passes, with any filling of the box about it
  pub around : (f g : List ℕ) → In f b → In g (at_slots slots b) → q g ≡ true → In (put_at slots g f) b × (q (at_slots slots (put_at slots g f)) ≡ true)
  around f g n m t =
      let e : length g ≡ length slots = in_length g (at_slots slots b) m ∙ slots_length slots b in
      let w : Within (length f) slots = subst (λ (y : ℕ). Within y slots) (sym (in_length f b n)) within in
      (put_held slots g f b n m, ap q (at_put slots g f distinct w e) ∙ t)

  abbrev low : List ℕ
  low = lowest_filling b

  held : In low b
  held = lowest_held b full

  low_within : Within (length low) slots
  low_within = subst (λ (y : ℕ). Within y slots) (sym (in_length low b held)) within

  fits : (g : List ℕ) → In g (at_slots slots b) → q g ≡ true → exact (λ f. q (at_slots slots f)) b ≡ Some (put_at slots ls b)
  fits g m t =
      let x = around low g held m t in
      exact_by (λ f. q (at_slots slots f)) b (put_at slots ls b) (put_at slots g low) small
      (small_put slots ls b small (left_small q (at_slots slots b)))
      (put_length slots ls b) x.0 x.1 sound
      (λ f n u. in_put f slots ls b n (left_yes q (at_slots slots b) (at_slots slots f) (small_slots slots b within small) (in_slots f slots b within n) u))
    where
      sound : (k v : ℕ) → k < length b → Has (get_or (put_at slots ls b) k 0) v → Found (λ f. q (at_slots slots f)) b k v
      sound k v h y =
          ⊎_elim
          (λ (r : (j : ℕ) × ((j < length slots) × (get_or slots j 0 ≡ k))).
          let j = r.0 in
          let e : get_or (put_at slots ls b) k 0 ≡ get_or ls j 0 = subst (λ (z : ℕ). get_or (put_at slots ls b) z 0 ≡ get_or ls j 0) r.1.1 (put_same slots ls b j distinct within (length_found q (at_slots slots b) 0 (at_slots slots b) ∙ slots_length slots b) r.1.0) in
          let s = left_says q (at_slots slots b) j v (rw length-map r.1.0) (subst (λ (z : ℕ). Has z v) e y) in
          let x = s.0 in
          let a = around low x held s.1.0 s.1.1.0 in
          let d : get_or (put_at slots x low) (get_or slots j 0) 0 ≡ get_or x j 0 = put_same slots x low j distinct low_within (in_length x (at_slots slots b) s.1.0 ∙ slots_length slots b) r.1.0 in
          (put_at slots x low, (a.0, (a.1, subst (λ (z : ℕ). get_or (put_at slots x low) z 0 ≡ v) r.1.1 (d ∙ s.1.1.1)))))
          (λ (r : Aside k slots).
          let hv : Has (get_or b k 0) v = subst (λ (z : ℕ). Has z v) (put_other slots ls b k r) y in
          let base = set low k v in
          let a = around base g (put_in low b k v held hv) m t in
          (put_at slots g base, (a.0, (a.1, put_other slots g base k r ∙ get_or-set_same low k v 0 (omega (arith, in_length low b held))))))
          (place slots k)

  pub exact_at_slots : exact (λ f. q (at_slots slots f)) b ≡ option_map (λ labels. put_at slots labels b) (exact q (at_slots slots b))
  exact_at_slots =
      let Small-at = small_slots slots b within small in
      ⊎_elim
      (λ (e : some_in q (at_slots slots b) ≡ true).
      let r = some_says q (at_slots slots b) e in
      fits r.0 r.1.0 r.1.1
      ∙ sym (ap (option_map (λ labels. put_at slots labels b)) (exact_some q (at_slots slots b) r.0 Small-at r.1.0 r.1.1)))
      (λ (e : some_in q (at_slots slots b) ≡ false).
      let none : (g : List ℕ) → In g (at_slots slots b) → q g ≡ true → ⊥ = λ g n t. both_ways (some_in q (at_slots slots b)) e (some_yes q (at_slots slots b) g Small-at n t) in
      exact_none (λ f. q (at_slots slots f)) b (λ f n t. none (at_slots slots f) (in_slots f slots b within n) t)
      ∙ sym (ap (option_map (λ labels. put_at slots labels b)) (exact_none q (at_slots slots b) none)))
      (cases_Bool (some_in q (at_slots slots b)))

-- the same, where the labels x of the slots have been read, and r is what narrowing makes of them
pub narrowed_at_slots : (q : List ℕ → Bool) (slots b : List ℕ) → Boxed b → Within 24 slots → Distinct slots → (x : List ℕ) (r : Option (List ℕ)) → x ≡ at_slots slots b → r ≡ exact q x
    → exact (λ f. q (at_slots slots f)) b ≡ option_map (λ labels. put_at slots labels b) r
narrowed_at_slots q slots b o within distinct x r read h =
    exact_at_slots q slots b o.1 o.2 (within_box slots b o within) distinct ∙ ap (option_map (λ labels. put_at slots labels b)) (ap (exact q) (sym read) ∙ sym h)
