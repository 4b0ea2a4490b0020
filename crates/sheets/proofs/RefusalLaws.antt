-- What follows where a call is not refused.
use Rattle.std.proofs.Common.{◌≡◌, ℕ, Bool, true, false, Some, None, Option, sym, refl, ap, ◌∙◌, arith}
use Rattle.std.proofs.lemmas.Bool.Decides.{nat_tests}
use Rattle.std.proofs.lemmas.Bool.{true≢false}
use Rattle.sheets.specs.declared.refusal.Refusal.{Refusal}
use Rattle.sheets.specs.Refusals.{ask, unless_searching, enter_refusal, rejoin_refusal, fix_refusal}
use Rattle.sheets.specs.Histories.{Answer, accepted}
use Rattle.sheets.specs.Law.{answered}

-- a question without a refusal was answered "yes"
pub ask_none : (b : Bool) (e : Refusal) (rest : Option Refusal) → None ≡ ask b e rest → (b ≡ true) × (None ≡ rest)
ask_none true e rest k = (refl, k)
ask_none false e rest k = let z : ◌≡◌ {A = ℕ} 0 1 = cc in absurd (omega arith)

-- a call that asks for no open search, and is not refused, found none, nor was it refused by what it asked after that
pub unless_none : (b : Bool) (rest : Option Refusal) → None ≡ unless_searching b rest → (b ≡ false) × (None ≡ rest)
unless_none b rest k = grind (arith, nat_tests)

-- an entered rule is not gone
pub enter_stays : (s k g f : Bool) → None ≡ enter_refusal s k g f → g ≡ false
enter_stays s k g f w = grind (arith, nat_tests)

-- an accepted call has no refusal
accepted_none : (o : Option Refusal) (a x : Answer) → a ≡ answered o x → accepted a ≡ true → None ≡ o
accepted_none None a x e y = refl
accepted_none (Some r) a x e y = absurd (true≢false (sym y ∙ ap accepted e))

module _ (a x : Answer) (y : accepted a ≡ true) where
  -- an entered rule is one of the book's
  pub enter_known : (s k g f : Bool) → a ≡ answered (enter_refusal s k g f) x → k ≡ true
  enter_known s k g f e = grind (arith, nat_tests, accepted_none (enter_refusal s k g f) a x e y)

  -- the sets of a rejoined copy are lawful
  pub rejoin_lawful : (s o l : Bool) → a ≡ answered (rejoin_refusal s o l) x → l ≡ true
  rejoin_lawful s o l e = grind (arith, nat_tests, accepted_none (rejoin_refusal s o l) a x e y)

  -- a fixed part is offered
  pub fix_offered : (s u o : Bool) → a ≡ answered (fix_refusal s u o) x → o ≡ true
  fix_offered s u o e = grind (arith, nat_tests, accepted_none (fix_refusal s u o) a x e y)
