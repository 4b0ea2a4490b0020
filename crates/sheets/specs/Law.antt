-- The law over runs: the answer that each call must get, by the history before it.
use Rattle.std.specs.Prelude.{◌≡◌, ℕ, ◌+◌, Bool, List, length, Some, None, Option, ◌==◌, nat_lt}
use Rattle.std.specs.List.{slice_get}
use Rattle.catalogue.specs.declared.model.Slot.{Slot}
use Rattle.forms.specs.Forms.{standard_at}
use Rattle.forms.specs.Opening.{opening_box}
use Rattle.kits.specs.Labels.{has_member}
use Rattle.sheets.specs.Steps.{SearchState}
use Rattle.sheets.specs.Runs.{started, run, made}
use Rattle.sheets.specs.declared.refusal.Refusal.{Refusal}
use Rattle.sheets.specs.Refusals.{number_of, part_offered, sets_lawful, budget_lawful, enter_refusal, withdraw_refusal, rejoin_refusal, fix_refusal, bar_refusal, free_refusal, begin_refusal, work_refusal, close_refusal}
use Rattle.sheets.specs.Histories.{Call, Answer, History, in_force, taken_out, rules_in_force, choices_of, searching, total_granted}
use Rattle.sheets.specs.Histories.Call.{Enter, Withdraw, Rejoin, Fix, Bar, Free, Begin, Work, Close, Waiting, Copy}
use Rattle.sheets.specs.Histories.Answer.{Done, Refused, Worked, Waits, Copied}
use Rattle.sheets.specs.Histories.History.{Opened, Then}

-- what a sheet is opened over: the used slots of its form, what its book means, and its mark
pub record Setting : Type 0 where
  pub slots : List Slot
  pub rules : ℕ
  pub allows : ℕ → List ℕ → Bool
  pub narrowed : ℕ → List ℕ → Option (List ℕ)
  pub mark : ℕ

abbrev pub opening_of : Setting → History → List ℕ
opening_of t h = opening_box t.slots (choices_of h)

-- the written-out search after n steps
abbrev pub search_after : Setting → History → ℕ → SearchState
search_after t h n = run t.narrowed (rules_in_force h) n (started (opening_of t h))

-- the written-out search after the budgets granted so far
abbrev pub search_now : Setting → History → SearchState
search_now t h = search_after t h (total_granted h)

-- the steps that work with budget b makes
abbrev pub steps_made : Setting → History → ℕ → ℕ
steps_made t h b = made t.narrowed (rules_in_force h) b (search_now t h)

abbrev pub answered : Option Refusal → Answer → Answer
answered None a = a
answered (Some e) a = Refused (number_of e)

-- a copy shows the mark, the rules in force and the rules gone
abbrev pub Shown : Setting → History → Answer → Type 0
Shown t h Done = ⊥
Shown t h (Refused n) = ⊥
Shown t h (Worked s n) = ⊥
Shown t h (Waits n b) = ⊥
Shown t h (Copied m f g) = (m ≡ t.mark) × ((r : ℕ) → has_member f r ≡ in_force h r) × ((r : ℕ) → has_member g r ≡ taken_out h r)

-- the answer to a call that is made after h is the one that it must get
abbrev pub Right : Setting → History → Call → Answer → Type 0
Right t h (Enter r) a = a ≡ answered (enter_refusal (searching h) (nat_lt r t.rules) (taken_out h r) (in_force h r)) Done
Right t h (Withdraw r) a = a ≡ answered (withdraw_refusal (searching h) (nat_lt r t.rules) (in_force h r)) Done
Right t h (Rejoin m f g) a = a ≡ answered (rejoin_refusal (searching h) (m == t.mark) (sets_lawful t.rules f g)) Done
Right t h (Fix k v) a = a ≡ answered (fix_refusal (searching h) (nat_lt k (length t.slots)) (part_offered t.slots k v)) Done
Right t h (Bar k) a = a ≡ answered (bar_refusal (searching h) (nat_lt k (length t.slots)) (standard_at t.slots k)) Done
Right t h (Free k) a = a ≡ answered (free_refusal (searching h) (nat_lt k (length t.slots))) Done
Right t h Begin a = a ≡ answered (begin_refusal (searching h)) Done
Right t h (Work b) a = a ≡ answered (work_refusal (searching h) (budget_lawful b)) (Worked (search_after t h (total_granted h + b)).standing (steps_made t h b))
Right t h Close a = a ≡ answered (close_refusal (searching h)) Done
Right t h Waiting a = a ≡ answered (close_refusal (searching h)) (Waits (length (search_now t h).boxes) (slice_get (search_now t h).boxes 0))
Right t h Copy a = Shown t h a

-- each call of the history got the answer that it must get
abbrev pub Lawful : Setting → History → Type 0
Lawful t Opened = Unit {0}
Lawful t (Then h c a) = Lawful t h × Right t h c a
