-- Laws of narrowing by each rule of a list in turn.
use Rattle.std.proofs.Common.{◌≡◌, ℕ, ◌≤◌, Bool, true, List, [], ◌∷◌, is_some, Some, None, Option, sym, refl, ap, ◌∙◌, subst, MatchOption}
use Rattle.std.specs.Option.{option_and_then}
use Rattle.kits.specs.Books.{Laws, Part}
use Rattle.kits.specs.Boxes.{Boxed, In, single, settled, lowest_filling}
use Rattle.kits.specs.Kits.{Allowed}
use Rattle.sheets.specs.Searches.{Below}
use Rattle.sheets.specs.Steps.{narrowed_by_all}
use Rattle.sheets.proofs.PartLaws.{part_single, part_settled}

module _ (count : ℕ) (allows : ℕ → List ℕ → Bool) (narrowed : ℕ → List ℕ → Option (List ℕ)) (laws : Laws count allows narrowed) where
  pub all_parts : (rs b c : List ℕ) → Boxed b → narrowed_by_all narrowed rs b ≡ Some c → Boxed c × Part c b
  all_parts [] b c o e = let q : b ≡ c = cc in rw (sym q) (o, λ k v h. h)
  all_parts (r ∷ rs) b c o e = go (narrowed r b) refl e (λ d. all_parts rs d c)
    where
      go : (x : Option (List ℕ)) → narrowed r b ≡ x → option_and_then (narrowed_by_all narrowed rs) x ≡ Some c
          → ((d : List ℕ) → Boxed d → narrowed_by_all narrowed rs d ≡ Some c → Boxed c × Part c d) → Boxed c × Part c b
      go None q n ih = cc
      go (Some d) q n ih =
          let one = laws.parts r b d o q in
          let more = ih d one.0 n in
          (more.0, λ k v h. one.1 k v (more.1 k v h))

  pub all_settled : (rs b c : List ℕ) → Boxed b → narrowed_by_all narrowed rs b ≡ Some c → settled b ≤ settled c
  all_settled rs b c o e =
      let p = all_parts rs b c o e in
      part_settled c b (p.0.0 ∙ sym o.0) p.0.1 p.1

  -- every filling that all rules allow stays
  pub all_keep : (rs : List ℕ) → Below count rs → (b f : List ℕ) → Boxed b → In f b → Allowed allows rs f → MatchOption (narrowed_by_all narrowed rs b) ⊥ (λ c. In f c)
  all_keep [] u b f o i a = i
  all_keep (r ∷ rs) u b f o i a = go (narrowed r b) refl (laws.keeps r b f u.0 o i a.0) (λ d p j. all_keep rs u.1 d f p j a.1)
    where
      go : (x : Option (List ℕ)) → narrowed r b ≡ x → MatchOption x ⊥ (λ c. In f c)
          → ((d : List ℕ) → Boxed d → In f d → MatchOption (narrowed_by_all narrowed rs d) ⊥ (λ c. In f c)) → MatchOption (option_and_then (narrowed_by_all narrowed rs) x) ⊥ (λ c. In f c)
      go None q h ih = h
      go (Some d) q h ih = ih d (laws.parts r b d o q).0 h

  -- where all rules fit a single box, all allow its filling
  pub all_judge : (rs : List ℕ) → Below count rs → (b c : List ℕ) → Boxed b → single b ≡ true → narrowed_by_all narrowed rs b ≡ Some c → Allowed allows rs (lowest_filling b)
  all_judge [] u b c o s e = tt
  all_judge (r ∷ rs) u b c o s e = go (narrowed r b) refl e (all_judge rs u.1 b c o s)
    where
      go : (x : Option (List ℕ)) → narrowed r b ≡ x → option_and_then (narrowed_by_all narrowed rs) x ≡ Some c
          → (narrowed_by_all narrowed rs b ≡ Some c → Allowed allows rs (lowest_filling b)) → Allowed allows (r ∷ rs) (lowest_filling b)
      go None q n ih = cc
      go (Some d) q n ih =
          let p = laws.parts r b d o q in
          let same = part_single d b (p.0.0 ∙ sym o.0) p.0.1 o.1 s p.1 in
          (sym (laws.judges r b u.0 o s) ∙ ap is_some q, ih (subst (λ (y : List ℕ). narrowed_by_all narrowed rs y ≡ Some c) same n))
