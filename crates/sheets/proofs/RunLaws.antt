-- Laws of a run of steps.
use Rattle.std.proofs.Common.{◌≡◌, ℕ, zero, suc, ◌+◌, ◌-◌, ◌<◌, ◌≤◌, true, false, List, Option, sym, refl, ap, ◌∙◌, suc-add, zero-add, arith}
use Rattle.std.proofs.lemmas.Bool.{true≢false}
use Rattle.sheets.specs.Runs.{ended, continued, run, made}
use Rattle.sheets.specs.Steps.{Standing, paused, kit, no_kit, SearchState, stepped}

not_ended : (x : Standing) → ended x ≡ false → x ≡ paused
not_ended paused e = refl
not_ended (kit f) e = absurd (true≢false e)
not_ended no_kit e = absurd (true≢false e)

module _ (narrowed : ℕ → List ℕ → Option (List ℕ)) (rs : List ℕ) where
  -- one step more
  pub run_more : (n i : ℕ) (s t : SearchState) → i < n → ended s.standing ≡ false → t ≡ stepped narrowed rs s.boxes
      → (run narrowed rs (n - (i + 1)) t ≡ run narrowed rs (n - i) s) × (suc (made narrowed rs (n - (i + 1)) t) ≡ made narrowed rs (n - i) s)
  run_more n i s t h a e =
      let m : n - i ≡ suc (n - (i + 1)) = omega arith in
      let q : t ≡ continued narrowed rs s.boxes s.standing = e ∙ ap (continued narrowed rs s.boxes) (sym (not_ended s.standing a)) in
      rw (m, a) (ap (run narrowed rs (n - (i + 1))) q, ap (λ (x : SearchState). suc (made narrowed rs (n - (i + 1)) x)) q)

  -- no step is left to make
  pub run_all : (n i : ℕ) (s : SearchState) → n ≤ i → (run narrowed rs (n - i) s ≡ s) × (made narrowed rs (n - i) s ≡ 0)
  run_all n i s h = let z : n - i ≡ 0 = omega arith in rw z (refl, refl)

  -- no step is made once the search has ended
  pub run_ended : (n : ℕ) (w : List (List ℕ)) (x : Standing) → ended x ≡ true
      → (run narrowed rs n (record { boxes = w; standing = x }) ≡ record { boxes = w; standing = x }) × (made narrowed rs n (record { boxes = w; standing = x }) ≡ 0)
  run_ended zero w x e = (refl, refl)
  run_ended (suc n) w paused e = absurd (true≢false (sym e))
  run_ended (suc n) w (kit f) e = ((run_ended n w (kit f) refl).0, refl)
  run_ended (suc n) w no_kit e = ((run_ended n w no_kit refl).0, refl)

  -- a run after a run
  pub run_run : (m n : ℕ) (s : SearchState) → run narrowed rs n (run narrowed rs m s) ≡ run narrowed rs (m + n) s
  run_run zero n s = ap (λ (k : ℕ). run narrowed rs k s) (sym (zero-add n))
  run_run (suc m) n s = run_run m n (continued narrowed rs s.boxes s.standing) ∙ ap (λ (k : ℕ). run narrowed rs k s) (sym (suc-add m n))
