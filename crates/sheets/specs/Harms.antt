-- The harms that never happen in a history of a sheet.
use Rattle.std.specs.Prelude.{◌≡◌, ℕ, ◌+◌, ◌-◌, ◌*◌, ◌<◌, ◌≤◌, true, false, ◌⊎◌, List, Option}
use Rattle.kits.specs.Boxes.{volume}
use Rattle.kits.specs.Kits.{Kit, Minimal}
use Rattle.kits.specs.Labels.{has_member}
use Rattle.sheets.specs.Searches.{FirstKit}
use Rattle.sheets.specs.Steps.{Standing, paused, kit, no_kit}
use Rattle.sheets.specs.Histories.{Call, Answer, History, brought_in, taken_out, in_force, rules_in_force, searching, total_granted}
use Rattle.sheets.specs.Histories.Call.{Work, Waiting, Copy}
use Rattle.sheets.specs.Histories.Answer.{Worked, Waits, Copied}
use Rattle.sheets.specs.Histories.History.{Opened, Then}
use Rattle.sheets.specs.Law.{Setting, opening_of, search_after, steps_made}

-- in h, after the calls of g, the call c was made and got the answer a
abbrev pub Called : History → History → Call → Answer → Type 0
Called Opened g c a = ⊥
Called (Then h d b) g c a = (Then g c a ≡ Then h d b) ⊎ Called h g c a

-- no harm happened at any place of the history h; g is what came before a call
pub record Harmless (t : Setting) (h : History) : Type 0 where
  -- accepted work: a search was open, and it stands and has made steps as the written-out one for the budgets granted
  pub as_written : (g : History) (b : ℕ) (s : Standing) (n : ℕ) → Called h g (Work b) (Worked s n)
      → (searching g ≡ true) × (s ≡ (search_after t g (total_granted g + b)).standing) × (n ≡ steps_made t g b)
  -- where it said "no kit" there is none
  pub none_is_none : (g : History) (b n : ℕ) → Called h g (Work b) (Worked no_kit n) → (f : List ℕ) → Kit t.allows (rules_in_force g) (opening_of t g) f → ⊥
  -- what it named is a kit, and the first
  pub named_is_first : (g : History) (b : ℕ) (f : List ℕ) (n : ℕ) → Called h g (Work b) (Worked (kit f) n) → FirstKit t.allows (rules_in_force g) (opening_of t g) f
  -- of which no other kit comes by emptying filled slots
  pub named_is_minimal : (g : History) (b : ℕ) (f : List ℕ) (n : ℕ) → Called h g (Work b) (Worked (kit f) n) → Minimal t.allows (rules_in_force g) (opening_of t g) f
  -- it did not pause where the budgets granted, its own with them, total twice the fillings of the opening box, less one
  pub no_late_pause : (g : History) (b n : ℕ) → Called h g (Work b) (Worked paused n) → 2 * volume (opening_of t g) - 1 ≤ total_granted g + b → ⊥
  -- never more than 25 boxes waited
  pub few_waiting : (g : History) (n : ℕ) (b : Option (List ℕ)) → Called h g Waiting (Waits n b) → n ≤ 25
  -- a copy shows in force what was brought in and never taken out, and all of it
  pub shown_in_force : (g : History) (m f x : ℕ) → Called h g Copy (Copied m f x) → (r : ℕ) → has_member f r ≡ true → (brought_in g r ≡ true) × (taken_out g r ≡ false)
  pub none_left_out : (g : History) (m f x : ℕ) → Called h g Copy (Copied m f x) → (r : ℕ) → brought_in g r ≡ true → taken_out g r ≡ false → has_member f r ≡ true
  -- and as gone exactly what was taken out
  pub shown_gone : (g : History) (m f x : ℕ) → Called h g Copy (Copied m f x) → (r : ℕ) → has_member x r ≡ taken_out g r
  -- a rule that is in force is one of the book's, so that the list of the rules in force has them all
  pub known_in_force : (r : ℕ) → in_force h r ≡ true → r < t.rules
