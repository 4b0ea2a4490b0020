-- The history of a sheet: the calls made on it, each with its answer, and what a history says in itself.
use Rattle.std.specs.Prelude.{ℕ, zero, suc, ◌+◌, Bool, true, false, cond, not, ◌&&◌, ◌||◌, List, [], ◌∷◌, is_some, Some, None, Option, ◌==◌}
use Rattle.kits.specs.declared.choices.Choice.{Choice}
use Rattle.kits.specs.declared.choices.Choice.TheVariants as chosen
use Rattle.kits.specs.Labels.{has_member}
use Rattle.sheets.specs.Sets.{numbers_from}
use Rattle.sheets.specs.Steps.{Standing}

pub data Call : Type 0 where
  Enter : ℕ → Call
  Withdraw : ℕ → Call
  -- with a copy's mark, its set in force and its set gone
  Rejoin : ℕ → ℕ → ℕ → Call
  -- a slot, and a part
  Fix : ℕ → ℕ → Call
  Bar : ℕ → Call
  Free : ℕ → Call
  Begin : Call
  Work : ℕ → Call
  Close : Call
  Waiting : Call
  Copy : Call

pub data Answer : Type 0 where
  Done : Answer
  Refused : ℕ → Answer
  -- how the search stands, and the steps made
  Worked : Standing → ℕ → Answer
  -- how many boxes wait, and the first
  Waits : ℕ → Option (List ℕ) → Answer
  -- the mark, the set in force and the set gone
  Copied : ℕ → ℕ → ℕ → Answer

-- a sheet was opened, then a call was made and answered, and so on
pub data History : Type 0 where
  Opened : History
  Then : History → Call → Answer → History

abbrev pub accepted : Answer → Bool
accepted Done = true
accepted (Refused n) = false
accepted (Worked s n) = true
accepted (Waits n b) = true
accepted (Copied m f g) = true

-- does the call, once accepted, bring the rule r in?
abbrev pub brings_in : Call → ℕ → Bool
brings_in (Enter q) r = q == r
brings_in (Withdraw q) r = false
brings_in (Rejoin m f g) r = has_member f r
brings_in (Fix k v) r = false
brings_in (Bar k) r = false
brings_in (Free k) r = false
brings_in Begin r = false
brings_in (Work b) r = false
brings_in Close r = false
brings_in Waiting r = false
brings_in Copy r = false

-- does the call, once accepted, take the rule r out?
abbrev pub takes_out : Call → ℕ → Bool
takes_out (Enter q) r = false
takes_out (Withdraw q) r = q == r
takes_out (Rejoin m f g) r = has_member g r
takes_out (Fix k v) r = false
takes_out (Bar k) r = false
takes_out (Free k) r = false
takes_out Begin r = false
takes_out (Work b) r = false
takes_out Close r = false
takes_out Waiting r = false
takes_out Copy r = false

-- did an accepted call bring the rule in?
abbrev pub brought_in : History → ℕ → Bool
brought_in Opened r = false
brought_in (Then h c a) r = cond (accepted a) (brings_in c r || brought_in h r) (brought_in h r)

-- did an accepted call take the rule out? Then it is gone, for good
abbrev pub taken_out : History → ℕ → Bool
taken_out Opened r = false
taken_out (Then h c a) r = cond (accepted a) (takes_out c r || taken_out h r) (taken_out h r)

abbrev pub in_force : History → ℕ → Bool
in_force h r = brought_in h r && not (taken_out h r)

-- the rules in force, rising: a book has no rule above 63
unfoldable pub rules_in_force : History → List ℕ
rules_in_force h = numbers_from 64 0 (in_force h)

-- the choice on slot k after an accepted call
abbrev pub chooses : Call → ℕ → Choice → Choice
chooses (Enter q) k old = old
chooses (Withdraw q) k old = old
chooses (Rejoin m f g) k old = old
chooses (Fix j v) k old = cond (j == k) (chosen.Fixed v) old
chooses (Bar j) k old = cond (j == k) chosen.Barred old
chooses (Free j) k old = cond (j == k) chosen.Free old
chooses Begin k old = old
chooses (Work b) k old = old
chooses Close k old = old
chooses Waiting k old = old
chooses Copy k old = old

-- the choice on slot k: the latest accepted fix, bar or free counts
abbrev pub choice_on : History → ℕ → Choice
choice_on Opened k = chosen.Free
choice_on (Then h c a) k = cond (accepted a) (chooses c k (choice_on h k)) (choice_on h k)

abbrev pub choices_from : ℕ → ℕ → (ℕ → Choice) → List Choice
choices_from zero k f = []
choices_from (suc n) k f = f k ∷ choices_from n (suc k) f

-- the choices on the 24 slots
unfoldable pub choices_of : History → List Choice
choices_of h = choices_from 24 0 (λ k. choice_on h k)

abbrev pub more : ℕ → Option ℕ → Option ℕ
more b None = None
more b (Some n) = Some (n + b)

-- the budgets granted to the open search after an accepted call
abbrev pub grants : Call → Option ℕ → Option ℕ
grants (Enter q) old = old
grants (Withdraw q) old = old
grants (Rejoin m f g) old = old
grants (Fix k v) old = old
grants (Bar k) old = old
grants (Free k) old = old
grants Begin old = Some 0
grants (Work b) old = more b old
grants Close old = None
grants Waiting old = old
grants Copy old = old

-- the budgets granted to the open search in all, or none where no search is open
abbrev pub granted : History → Option ℕ
granted Opened = None
granted (Then h c a) = cond (accepted a) (grants c (granted h)) (granted h)

abbrev pub searching : History → Bool
searching h = is_some (granted h)

abbrev or_zero : Option ℕ → ℕ
or_zero None = 0
or_zero (Some n) = n

-- the budgets granted to the open search in all
abbrev pub total_granted : History → ℕ
total_granted h = or_zero (granted h)
