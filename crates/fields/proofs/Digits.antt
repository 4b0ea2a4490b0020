-- A number is read from its decimal digits, and from nothing else.
use Rattle.std.proofs.Common.{◌≡◌, ℕ, ◌+◌, ◌-◌, ◌*◌, ◌/◌, ◌%◌, ◌^◌, ◌<◌, ◌≤◌, true, false, cond, eqb, leb, List, [], ◌∷◌, ◌++◌, Some, None, decimal, Option, sym, refl, ap, ◌∙◌, ⊎_elim, append_assoc, arith}
use Rattle.std.proofs.lemmas.Fmt.{decimal_digit, decimal_step, decimal_by_steps}
use Rattle.std.proofs.lemmas.Bool.{cases_Bool, leb-true, eqb-true, eqb-false}
use Rattle.std.proofs.lemmas.Bool.Decides.{nat_tests}
use Rattle.fields.specs.Law.{Written, ReadsDigits}
use Rattle.fields.specs.Numbers.{is_digit, digit_first, number_on, number_at}
use Rattle.fields.proofs.Chains.{cond_case, cond_some}

digit_range : (c : ℕ) → is_digit c ≡ true → (48 ≤ c) × (c ≤ 57)
digit_range c h = grind (arith, nat_tests)

first_digit : (v c : ℕ) (cs : List ℕ) → v < 10 → 48 + v ≡ c → c ∷ cs ≡ decimal v ++ cs
first_digit v c cs h e = rw (← e) (ap (λ l. l ++ cs) (sym (decimal_digit v h)))

-- one more digit
decimal_more : (v c : ℕ) → 0 < v → v * 10 + (c - 48) < 2 ^ 64 → 48 ≤ c → c ≤ 57 → decimal (v * 10 + (c - 48)) ≡ decimal v ++ (c ∷ [])
decimal_more v c p q lo hi =
    let w = v * 10 + (c - 48) in
    let a : w / 10 ≡ v = omega arith in
    let b : 48 + w % 10 ≡ c = omega arith in
    decimal_step w (omega arith) q ∙ rw (a, b)

module _ (max : ℕ) (m : max < 2 ^ 64) where
  -- no digit follows
  stops : (v : ℕ) (cs : List ℕ) (n : ℕ) (rest : List ℕ) → v ≤ max → digit_first cs ≡ false
      → ◌≡◌ {A = Option (ℕ × List ℕ)} (Some (v, cs)) (Some (n, rest)) → Written max (decimal v ++ cs) n rest
  stops v cs n rest q d h =
      let e : ◌≡◌ {A = ℕ × List ℕ} (v, cs) (n, rest) = cc in
      let a : v ≡ n = ap (λ (p : ℕ × List ℕ). p.0) e in
      let b : cs ≡ rest = ap (λ (p : ℕ × List ℕ). p.1) e in
      record { text = rw (a, b); small = omega arith; ends = rw (← b) d }

  on_reads : (v : ℕ) (cs : List ℕ) (n : ℕ) (rest : List ℕ) → 0 < v → v ≤ max
      → number_on max v cs ≡ Some (n, rest) → Written max (decimal v ++ cs) n rest
  on_reads v [] n rest p q h = stops v [] n rest q refl h
  on_reads v (c ∷ cs) n rest p q h =
      cond_case (is_digit c) _ _ (Some (n, rest)) h
      (λ d h.
      let w = v * 10 + (c - 48) in
      let r = digit_range c d in
      let f = cond_some (leb w max) (number_on max w cs) (n, rest) h in
      let small = leb-true w max f.0 in
      let s = on_reads w cs n rest (omega arith) small f.1 in
      record {
        text = rw (decimal_more v c p (omega arith) r.0 r.1, append_assoc) at s.text;
        small = s.small;
        ends = s.ends;
      })
      (stops v (c ∷ cs) n rest q)

  at_reads : (t : List ℕ) (n : ℕ) (rest : List ℕ) → number_at max t ≡ Some (n, rest) → Written max t n rest
  at_reads [] n rest h = absurd cc
  at_reads (c ∷ cs) n rest h = cond_case (eqb c 48) _ _ (Some (n, rest)) h zero_reads lead_reads
    where
      zero_reads : eqb c 48 ≡ true → cond {A = Option (ℕ × List ℕ)} (digit_first cs) None (Some (0, cs)) ≡ Some (n, rest) → Written max (c ∷ cs) n rest
      zero_reads z h =
          let e = eqb-true c 48 z in
          cond_case (digit_first cs) _ _ (Some (n, rest)) h
          (λ d h. absurd cc)
          (λ d h. rw (first_digit 0 c cs (omega arith) (omega arith)) (stops 0 cs n rest (omega arith) d h))

      lead_reads : eqb c 48 ≡ false → cond (is_digit c) (number_on max 0 (c ∷ cs)) None ≡ Some (n, rest) → Written max (c ∷ cs) n rest
      lead_reads z h =
          let v = 0 * 10 + (c - 48) in
          let f = cond_some (is_digit c) (number_on max 0 (c ∷ cs)) (n, rest) h in
          let r = digit_range c f.0 in
          let g = cond_some (leb v max) (number_on max v cs) (n, rest) (rw f.0 at f).1 in
          let some : 0 < v = omega (arith, eqb-false c 48 z) in
          rw (first_digit v c cs (omega arith) (omega arith)) (on_reads v cs n rest some (leb-true v max g.0) g.1)

  on_ends : (v : ℕ) (rest : List ℕ) → digit_first rest ≡ false → number_on max v rest ≡ Some (v, rest)
  on_ends v [] h = refl
  on_ends v (c ∷ cs) h = rw h

  -- digits ds that write n are read as n, and then reading goes on
  abbrev Through : ℕ → List ℕ → Type 0
  Through n ds = (rest : List ℕ) → 0 < n → n ≤ max → number_at max (ds ++ rest) ≡ number_on max n rest

  through : (n : ℕ) → n < 2 ^ 64 → Through n (decimal n)
  through =
      decimal_by_steps Through
      (λ n small rest p q. let e : 0 * 10 + (48 + n - 48) ≡ n = omega arith in grind (arith, nat_tests))
      (λ n ds big h rest p q.
      let e : n / 10 * 10 + (48 + n % 10 - 48) ≡ n = omega arith in
      let k = h ((48 + n % 10) ∷ rest) (omega arith) (omega arith) in
      let s : number_on max (n / 10) ((48 + n % 10) ∷ rest) ≡ number_on max n rest = grind (arith, nat_tests) in
      rw append_assoc (k ∙ s))

  at_writes : (n : ℕ) (rest : List ℕ) → n ≤ max → digit_first rest ≡ false → number_at max (decimal n ++ rest) ≡ Some (n, rest)
  at_writes n rest q e =
      ⊎_elim
      (λ z. let k = eqb-true n 0 z in rw (k, decimal_digit 0 (omega arith), e))
      (λ z. through n (omega arith) rest (omega (arith, eqb-false n 0 z)) q ∙ on_ends n rest e)
      (cases_Bool (eqb n 0))

pub reads_digits : ReadsDigits
reads_digits max m t n rest = (at_reads max m t n rest, λ w. rw w.text (at_writes max m n rest w.small w.ends))
