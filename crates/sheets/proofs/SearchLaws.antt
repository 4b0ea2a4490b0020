-- Over every book that keeps its laws a search loses no kit, ends in time, and names the first kit.
use Rattle.std.proofs.Common.{◌≡◌, ℕ, zero, suc, ◌+◌, ◌-◌, ◌*◌, ◌<◌, ◌≤◌, Bool, true, false, ◌⊎◌, List, [], ◌∷◌, length, Some, None, Option, sym, refl, ◌∙◌, subst, inl, inr, ⊎_elim, arith, MatchOption}
use Rattle.std.proofs.lemmas.Bool.{cases_Bool}
use Rattle.kits.specs.Books.{Laws}
use Rattle.kits.specs.Boxes.{Boxed, In, volume, single, first_half, second_half, lowest_filling}
use Rattle.kits.specs.Fillings.{Before}
use Rattle.kits.specs.Kits.{Kit, Minimal}
use Rattle.kits.specs.Laws.{Halved}
use Rattle.kits.proofs.BoxLaws.{volume_pos}
use Rattle.kits.proofs.HalfLaws.{halves_law, lowest_held, lowest_only}
use Rattle.kits.proofs.OrderLaws.{order}
use Rattle.kits.proofs.VolumeLaws.{volume_law}
use Rattle.sheets.specs.Runs.{run, ended}
use Rattle.sheets.specs.Searches.{Below, FirstKit, SearchRight}
use Rattle.sheets.specs.Stacks.{stacked}
use Rattle.sheets.specs.Steps.{Standing, paused, kit, no_kit, SearchState, narrowed_by_all, without_kit, stepped}
use Rattle.sheets.proofs.NarrowingLaws.{all_parts, all_settled, all_keep, all_judge}
use Rattle.sheets.proofs.PartLaws.{part_in, part_volume}
use Rattle.sheets.proofs.RunLaws.{run_ended}
use Rattle.sheets.proofs.SettledLaws.{settled_length, settled_first, settled_second}
use Rattle.sheets.proofs.StackLaws.{stacked_first, stacked_rest, stacked_more}

-- the filling is in one of the boxes
abbrev InAny : List ℕ → List (List ℕ) → Type 0
InAny f [] = ⊥
InAny f (c ∷ w) = In f c ⊎ InAny f w

-- what a box holds precedes what those after it hold
abbrev Ordered : List (List ℕ) → Type 0
Ordered [] = Unit {0}
Ordered (c ∷ w) = ((f g : List ℕ) → In f c → InAny g w → Before f g) × Ordered w

abbrev AllBoxed : List (List ℕ) → Type 0
AllBoxed [] = Unit {0}
AllBoxed (c ∷ w) = Boxed c × AllBoxed w

-- no more steps than these are left to make
abbrev steps_left : List (List ℕ) → ℕ
steps_left [] = 0
steps_left (c ∷ w) = (2 * volume c - 1) + steps_left w

stacked_few : (w : List (List ℕ)) → AllBoxed w → stacked w ≡ true → length w ≤ 25
stacked_few [] o s = omega arith
stacked_few (c ∷ w) o s = omega (arith, stacked_first c w s, settled_length c, o.0.0)

-- the first kit is minimal, since what comes of it by emptying slots precedes it
first_minimal : (allows : ℕ → List ℕ → Bool) (rs b f : List ℕ) → FirstKit allows rs b f → Minimal allows rs b f
first_minimal allows rs b f k = record {
  kit = k.is_kit;
  least = λ g h e.
      ⊎_elim
      (λ (q : g ≡ f). q)
      (λ (q : Before g f). ⊎_elim (λ (x : g ≡ f). x) (λ (x : Before f g). absurd (order.strict f (order.chain f g f x q))) (k.first g h))
      (order.emptied f g e);
}

module _ (count : ℕ) (allows : ℕ → List ℕ → Bool) (narrowed : ℕ → List ℕ → Option (List ℕ)) (laws : Laws count allows narrowed) (rs : List ℕ) (below : Below count rs) (b : List ℕ) where
  -- the waiting boxes hold every kit and only fillings of the box b, in their order, and there is room for them
  record Sound (w : List (List ℕ)) : Type 0 where
    kept : (f : List ℕ) → Kit allows rs b f → InAny f w
    inside : (f : List ℕ) → InAny f w → In f b
    ordered : Ordered w
    boxed : AllBoxed w
    room : stacked w ≡ true

  dropped : (c : List ℕ) (w : List (List ℕ)) → narrowed_by_all narrowed rs c ≡ None → Sound (c ∷ w) → Sound w
  dropped c w e s = record {
    kept = λ f k. ⊎_elim
        (λ (i : In f c). absurd (subst (λ (x : Option (List ℕ)). MatchOption x ⊥ (λ d. In f d)) e (all_keep count allows narrowed laws rs below c f s.boxed.0 i k.allowed)))
        (λ i. i)
        (s.kept f k);
    inside = λ f i. s.inside f (inr i);
    ordered = s.ordered.1;
    boxed = s.boxed.1;
    room = stacked_rest c w s.room;
  }

  narrowed_sound : (c d : List ℕ) (w : List (List ℕ)) → narrowed_by_all narrowed rs c ≡ Some d → Sound (c ∷ w) → Sound (d ∷ w)
  narrowed_sound c d w e s =
      let p = all_parts count allows narrowed laws rs c d s.boxed.0 e in
      let n = p.0.0 ∙ sym s.boxed.0.0 in
      record {
        kept = λ f k. ⊎_elim
            (λ (i : In f c). inl (subst (λ (x : Option (List ℕ)). MatchOption x ⊥ (λ y. In f y)) e (all_keep count allows narrowed laws rs below c f s.boxed.0 i k.allowed)))
            inr
            (s.kept f k);
        inside = λ f i. s.inside f (⊎_elim (λ (j : In f d). inl (part_in f d c n p.1 j)) inr i);
        ordered = (λ f g i j. s.ordered.0 f g (part_in f d c n p.1 i) j, s.ordered.1);
        boxed = (p.0, s.boxed.1);
        room = stacked_more d w (omega (arith, stacked_first c w s.room, all_settled count allows narrowed laws rs c d s.boxed.0 e)) (stacked_rest c w s.room);
      }

  halves_sound : (c : List ℕ) (w : List (List ℕ)) → single c ≡ false → Sound (c ∷ w) → Sound (first_half c ∷ second_half c ∷ w)
  halves_sound c w t s =
      let k : Halved c = halves_law c s.boxed.0 t in
      let before = stacked_first c w s.room in
      record {
        kept = λ f a. ⊎_elim (λ (i : In f c). ⊎_elim inl (λ x. inr (inl x)) ((k.either f).0 i)) (λ i. inr (inr i)) (s.kept f a);
        inside = λ f i. s.inside f (⊎_elim
            (λ (j : In f (first_half c)). inl ((k.either f).1 (inl j)))
            (⊎_elim (λ (j : In f (second_half c)). inl ((k.either f).1 (inr j))) inr)
            i);
        ordered = (
          λ f g i. ⊎_elim (λ (j : In g (second_half c)). k.ordered f g i j) (λ j. s.ordered.0 f g ((k.either f).1 (inl i)) j),
          (λ f g i j. s.ordered.0 f g ((k.either f).1 (inr i)) j, s.ordered.1),
        );
        boxed = (k.boxes.0, (k.boxes.1, s.boxed.1));
        room = stacked_more (first_half c) (second_half c ∷ w) (omega (arith, before, settled_first c t))
            (stacked_more (second_half c) w (omega (arith, before, settled_second c)) (stacked_rest c w s.room));
      }

  -- a step that does not end with a kit
  record Continues (c : List ℕ) (w v : List (List ℕ)) : Type 0 where
    state : stepped narrowed rs (c ∷ w) ≡ without_kit v
    sound : Sound v
    fewer : steps_left v < steps_left (c ∷ w)

  -- a step that ends with a kit
  record Names (c : List ℕ) (w : List (List ℕ)) : Type 0 where
    state : stepped narrowed rs (c ∷ w) ≡ record { boxes = w; standing = kit (lowest_filling c) }
    first : FirstKit allows rs b (lowest_filling c)

  step_cases : (c : List ℕ) (w : List (List ℕ)) → Sound (c ∷ w) → ((v : List (List ℕ)) × Continues c w v) ⊎ Names c w
  step_cases c w s = go (single c) refl (narrowed_by_all narrowed rs c) refl
    where
      o : Boxed c
      o = s.boxed.0

      go : (t : Bool) → single c ≡ t → (x : Option (List ℕ)) → narrowed_by_all narrowed rs c ≡ x → ((v : List (List ℕ)) × Continues c w v) ⊎ Names c w
      go true t None e = inl (w, record { state = rw (t, e) refl; sound = dropped c w e s; fewer = omega (arith, volume_pos c o.1) })
      go true t (Some d) e =
          let held = lowest_held c o.1 in
          inr (record {
            state = rw (t, e) refl;
            first = record {
              is_kit = record { inside = s.inside (lowest_filling c) (inl held); allowed = all_judge count allows narrowed laws rs below c d o t e };
              first = λ f k. ⊎_elim (λ (i : In f c). inl (lowest_only f c o.1 t i)) (λ i. inr (s.ordered.0 (lowest_filling c) f held i)) (s.kept f k);
            };
          })
      go false t None e = inl (w, record { state = rw (t, e) refl; sound = dropped c w e s; fewer = omega (arith, volume_pos c o.1) })
      go false t (Some d) e =
          let p = all_parts count allows narrowed laws rs c d o e in
          let less = part_volume d c (p.0.0 ∙ sym o.0) p.1 in
          let h : Halved c = halves_law c o t in
          let n = narrowed_sound c d w e s in
          ⊎_elim
          (λ (q : single d ≡ true).
          inl (
            d ∷ w,
            record {
              state = rw (t, e, q) refl;
              sound = n;
              fewer = omega (arith, (volume_law d p.0).one.0 q, h.volumes, volume_pos (first_half c) h.boxes.0.1, volume_pos (second_half c) h.boxes.1.1);
            },
          ))
          (λ (q : single d ≡ false).
          let k : Halved d = halves_law d p.0 q in
          inl (
            first_half d ∷ second_half d ∷ w,
            record {
              state = rw (t, e, q) refl;
              sound = halves_sound d w q n;
              fewer = omega (arith, less, k.volumes, volume_pos (first_half d) k.boxes.0.1, volume_pos (second_half d) k.boxes.1.1);
            },
          ))
          (cases_Bool (single d))

  -- what a standing means
  abbrev Meaning : Standing → Type 0
  Meaning paused = Unit {0}
  Meaning (kit f) = FirstKit allows rs b f
  Meaning no_kit = (f : List ℕ) → Kit allows rs b f → ⊥

  record Reached (most n : ℕ) (s : SearchState) : Type 0 where
    means : Meaning s.standing
    ends : most ≤ n → ended s.standing ≡ true
    few : length s.boxes ≤ 25

  reached : (n : ℕ) (w : List (List ℕ)) → Sound w → Reached (steps_left w) n (run narrowed rs n (without_kit w))
  reached n [] s = rw (run_ended narrowed rs n [] no_kit refl).0 (record { means = s.kept; ends = λ h. refl; few = omega arith })
  reached zero (c ∷ w) s = record { means = tt; ends = λ h. absurd (omega (arith, volume_pos c s.boxed.0.1)); few = stacked_few (c ∷ w) s.boxed s.room }
  reached (suc n) (c ∷ w) s =
      let Goal : SearchState → Type 0 = λ x. Reached (steps_left (c ∷ w)) (suc n) (run narrowed rs n x) in
      ⊎_elim
      (λ (x : (v : List (List ℕ)) × Continues c w v).
      let r = reached n x.0 x.1.sound in
      subst Goal (sym x.1.state) (record { means = r.means; ends = λ h. r.ends (omega (arith, x.1.fewer)); few = r.few }))
      (λ (x : Names c w).
      subst Goal (sym x.state) (rw (run_ended narrowed rs n w (kit (lowest_filling c)) refl).0 (record {
        means = x.first;
        ends = λ h. refl;
        few = stacked_few w s.boxed.1 (stacked_rest c w s.room);
      })))
      (step_cases c w s)

pub search_right : SearchRight
search_right count allows narrowed laws rs below b o n =
    let whole : Sound count allows narrowed laws rs below b (b ∷ []) = record {
      kept = λ f k. inl k.inside;
      inside = λ f i. ⊎_elim (λ x. x) absurd i;
      ordered = (λ f g i j. absurd j, tt);
      boxed = (o, tt);
      room = stacked_more b [] (omega arith) refl;
    } in
    let r = reached count allows narrowed laws rs below b n (b ∷ []) whole in
    let M = Meaning count allows narrowed laws rs below b in
    record {
      first = λ f e. subst M e r.means;
      minimal = λ f e. first_minimal allows rs b f (subst M e r.means);
      none = λ e. subst M e r.means;
      ends = λ h. r.ends (omega arith);
      few = r.few;
    }
