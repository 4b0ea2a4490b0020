-- A sheet has a history.
use Rattle.std.specs.Prelude.{◌≡◌, ℕ, Bool, true, false, List, Some, None, Ok, Err, Option, Result}
use Rattle.kits.specs.Labels.{has_member}
use Rattle.sheets.specs.Steps.{Standing, SearchState}
use Rattle.sheets.specs.declared.refusal.Refusal.{Refusal}
use Rattle.sheets.specs.Refusals.{number_of}
use Rattle.sheets.specs.Histories.{Answer, History, in_force, taken_out, choices_of, granted}
use Rattle.sheets.specs.Histories.Answer.{Done, Refused, Worked, Waits}
use Rattle.sheets.specs.Histories.Call.{Begin, Work, Close}
use Rattle.sheets.specs.Histories.History.{Then}
use Rattle.sheets.specs.Law.{Setting, search_after, Lawful}
use Rattle.sheets.specs.Outcomes.{Contents}

-- the open search, by the budgets granted to it
abbrev pub open_search : Setting → History → Option ℕ → Option SearchState
open_search t h None = None
open_search t h (Some n) = Some (search_after t h n)

-- each call of h got the answer that it must get, and a sheet that holds s holds what h says
pub record Matches (t : Setting) (h : History) (s : Contents) : Type 0 where
  pub lawful : Lawful t h
  pub force : (r : ℕ) → has_member s.force r ≡ in_force h r
  pub gone : (r : ℕ) → has_member s.gone r ≡ taken_out h r
  pub choices : s.choices ≡ choices_of h
  pub search : s.search ≡ open_search t h (granted h)

-- the answer that a history has for a result
abbrev pub answer_of : {A : Type 0} → Result A Refusal → Answer
answer_of (Ok x) = Done
answer_of (Err e) = Refused (number_of e)

abbrev pub work_answer : Result (Standing × ℕ) Refusal → Answer
work_answer (Ok x) = Worked x.0 x.1
work_answer (Err e) = Refused (number_of e)

abbrev pub close_answer : {A : Type 0} → Result (Unit {0}) (Refusal × A) → Answer
close_answer (Ok x) = Done
close_answer (Err e) = Refused (number_of e.0)

abbrev pub waiting_answer : Result (ℕ × Option (List ℕ)) Refusal → Answer
waiting_answer (Ok x) = Waits x.0 x.1
waiting_answer (Err e) = Refused (number_of e)

-- the history h with begin, one work and close; where a search was open, with a refused begin
abbrev pub find_history : History → ℕ → Bool → Result (Standing × ℕ) Refusal → History
find_history h b true r = Then h Begin (Refused 20)
find_history h b false r = Then (Then (Then h Begin Done) (Work b) (work_answer r)) Close Done
