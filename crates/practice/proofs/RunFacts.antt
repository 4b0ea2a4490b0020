-- How the searches of the practice run end, computed from the definitions.
use Rattle.std.proofs.Common.{◌≡◌, ℕ, zero, suc, ◌^◌, ◌<◌, Bool, true, false, cond, ◌&&◌, ltb, List, [], ◌∷◌, get_or, replicate, Option, sym, refl, ap, subst, ⊎_elim, arith, rules}
use mathlib.Core.Path.{fun_ext}
use lib.Count.{ones, count_trailing_zeros}
use Rattle.std.proofs.lemmas.List.{get_or-replicate}
use Rattle.std.proofs.lemmas.Bool.{and_parts, cases_Bool, ltb-true}
use Rattle.std.specs.Option.{option_map}
use Rattle.kits.specs.Boxes.{Full, Small}
use Rattle.rule_books.specs.Exact.{exact, some_in, some_below, label_of, found_labels}
use Rattle.rule_books.specs.Rules.{at_slots, same}
use Rattle.rule_books.specs.Scope.{put_at, Distinct}
use Rattle.rule_books.specs.Tables.{table_rules, table_allows, table_narrowed}
use Rattle.rule_books.proofs.RowLaws.{same_decides}
use Rattle.rule_books.proofs.ScopeLaws.{exact_at_slots}
use Rattle.sheets.specs.Sets.{members}
use Rattle.sheets.specs.Outcomes.{Contents, find_outcome}
use Rattle.practice.specs.Practice.{practice_rules, practice_slots}
use Rattle.practice.specs.Run.{with_rules, without_rule_1, with_part_1, found, PracticeRun}

-- the box with these labels in the three used slots
abbrev box : ℕ → ℕ → ℕ → List ℕ
box a b c = a ∷ b ∷ c ∷ replicate 21 1

abbrev used : List ℕ
used = 0 ∷ 1 ∷ 2 ∷ []

-- has each label a member, of 0, 1 and 2?
abbrev labels : ℕ → ℕ → ℕ → Bool
labels a b c = (ltb 0 a && ltb a 8) && (ltb 0 b && ltb b 8) && (ltb 0 c && ltb c 8)

full : (a b c : ℕ) → 0 < a → 0 < b → 0 < c → Full (box a b c)
full a b c x y z zero h = x
full a b c x y z (suc zero) h = y
full a b c x y z (suc (suc zero)) h = z
full a b c x y z (suc (suc (suc k))) h = search rules

small : (a b c : ℕ) → a < 8 → b < 8 → c < 8 → Small (box a b c)
small a b c x y z zero h = omega arith
small a b c x y z (suc zero) h = omega arith
small a b c x y z (suc (suc zero)) h = omega arith
small a b c x y z (suc (suc (suc k))) h = subst (λ (l : ℕ). l < 2 ^ 16) (sym (get_or-replicate 21 k 1 0 (omega arith))) (omega arith)

used_at : (k : ℕ) → k < 3 → get_or used k 0 ≡ k
used_at zero h = refl
used_at (suc zero) h = refl
used_at (suc (suc zero)) h = refl
used_at (suc (suc (suc k))) h = absurd (omega arith)

distinct : Distinct used
distinct j k g h e = absurd (omega (arith, used_at k h, used_at j (omega arith)))

module _ (a b c : ℕ) (ok : labels a b c ≡ true) where
  at_used : (q : List ℕ → Bool) → exact (λ f. q (at_slots used f)) (box a b c) ≡ option_map (λ ls. put_at used ls (box a b c)) (exact q (a ∷ b ∷ c ∷ []))
  at_used q =
      let p = and_parts ((ltb 0 a && ltb a 8) && (ltb 0 b && ltb b 8)) (ltb 0 c && ltb c 8) ok in
      let x = and_parts (ltb 0 a && ltb a 8) (ltb 0 b && ltb b 8) p.0 in
      let l = and_parts (ltb 0 a) (ltb a 8) x.0 in
      let m = and_parts (ltb 0 b) (ltb b 8) x.1 in
      let n = and_parts (ltb 0 c) (ltb c 8) p.1 in
      exact_at_slots q used (box a b c) (full a b c (ltb-true _ _ l.0) (ltb-true _ _ m.0) (ltb-true _ _ n.0)) (small a b c (ltb-true _ _ l.1) (ltb-true _ _ m.1) (ltb-true _ _ n.1))
      (λ k h. omega (arith, used_at k h)) distinct

  -- narrowing by a rule looks at the used slots alone
  narrows : (r : ℕ) → r < 4 → table_narrowed practice_rules r (box a b c) ≡ option_map (λ ls. put_at used ls (box a b c)) (exact (table_allows practice_rules r) (a ∷ b ∷ c ∷ []))
  unfolding table_rules
  narrows zero h = at_used (table_allows practice_rules 0)
  narrows (suc zero) h = at_used (table_allows practice_rules 1)
  narrows (suc (suc zero)) h = at_used (table_allows practice_rules 2)
  narrows (suc (suc (suc zero))) h = at_used (table_allows practice_rules 3)
  narrows (suc (suc (suc (suc r)))) h = absurd (omega arith)

-- the same narrowing, worked out over the used slots where these alone are open
fast : ℕ → List ℕ → Option (List ℕ)
fast r [] = table_narrowed practice_rules r []
fast r (a ∷ []) = table_narrowed practice_rules r (a ∷ [])
fast r (a ∷ b ∷ []) = table_narrowed practice_rules r (a ∷ b ∷ [])
fast r (a ∷ b ∷ c ∷ rest) =
    cond (ltb r 4 && labels a b c && same rest (replicate 21 1)) (option_map (λ ls. put_at used ls (box a b c)) (exact (table_allows practice_rules r) (a ∷ b ∷ c ∷ []))) (table_narrowed practice_rules r (a ∷ b ∷ c ∷ rest))

fast_is : (r : ℕ) (b : List ℕ) → table_narrowed practice_rules r b ≡ fast r b
unfolding fast
fast_is r [] = refl
fast_is r (a ∷ []) = refl
fast_is r (a ∷ b ∷ []) = refl
fast_is r (a ∷ b ∷ c ∷ rest) =
    ⊎_elim
    (λ (t : (ltb r 4 && labels a b c && same rest (replicate 21 1)) ≡ true).
    let p = and_parts (ltb r 4 && labels a b c) (same rest (replicate 21 1)) t in
    let q = and_parts (ltb r 4) (labels a b c) p.0 in
    rw (t, (same_decides rest (replicate 21 1)).0 p.1) (narrows a b c q.1 r (ltb-true r 4 q.0)))
    (λ (t : (ltb r 4 && labels a b c && same rest (replicate 21 1)) ≡ false). rw t refl)
    (cases_Bool (ltb r 4 && labels a b c && same rest (replicate 21 1)))

found_fast : (budget : ℕ) (s : Contents) → found budget s ≡ (find_outcome practice_slots fast budget s).0
found_fast budget s = ap (λ (N : ℕ → List ℕ → Option (List ℕ)). (find_outcome practice_slots N budget s).0) (fun_ext (λ r. fun_ext (λ b. fast_is r b)))

pub practice_run : PracticeRun
unfolding fast table_rules exact some_in some_below label_of found_labels members ones count_trailing_zeros
practice_run = record {
  rejoins = refl;
  pauses = found_fast 1 with_rules;
  kit_of_all = found_fast 100 with_rules;
  withdraws = refl;
  gone = refl;
  kit_without_1 = found_fast 100 without_rule_1;
  fixes = refl;
  no_kit_left = found_fast 100 with_part_1;
}
