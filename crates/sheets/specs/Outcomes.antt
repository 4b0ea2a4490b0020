-- What each call answers, and what it makes of what a sheet holds.
use Rattle.std.specs.Prelude.{ℕ, ◌^◌, List, length, replicate, is_some, Some, None, Ok, Err, Option, Result, ◌==◌, bit_and, bit_or, bit_xor, nat_lt, slice_set}
use Rattle.std.specs.List.{slice_get}
use Rattle.catalogue.specs.declared.model.Slot.{Slot}
use Rattle.forms.specs.Forms.{standard_at}
use Rattle.forms.specs.Opening.{opening_box}
use Rattle.kits.specs.declared.choices.Choice.{Choice}
use Rattle.kits.specs.declared.choices.Choice.TheVariants.{Free, Fixed, Barred}
use Rattle.kits.specs.Labels.{has_member}
use Rattle.sheets.specs.Sets.{members}
use Rattle.sheets.specs.Steps.{Standing, SearchState}
use Rattle.sheets.specs.Runs.{started, run, made}
use Rattle.sheets.specs.declared.refusal.Refusal.{Refusal}
use Rattle.sheets.specs.declared.refusal.Refusal.TheVariants.{SearchOpen, NoSearch}
use Rattle.sheets.specs.Refusals.{part_offered, sets_lawful, budget_lawful, enter_refusal, withdraw_refusal, rejoin_refusal, fix_refusal, bar_refusal, free_refusal, begin_refusal, work_refusal, close_refusal}

-- what a sheet holds: the set in force, the set gone, the choices on the slots, and the open search
pub record Contents : Type 0 where
  pub force : ℕ
  pub gone : ℕ
  pub choices : List Choice
  pub search : Option SearchState

-- what a sheet holds when it is opened
abbrev pub at_opening : Contents
at_opening = record { force = 0; gone = 0; choices = replicate 24 Free; search = None }

-- a refused call leaves all as it was
abbrev pub unless_refused : {A : Type 0} → Option Refusal → A → Contents → Contents → Result A Refusal × Contents
unless_refused None a new old = (Ok a, new)
unless_refused (Some e) a new old = (Err e, old)

-- the members of f that are not in g
abbrev pub without : ℕ → ℕ → ℕ
without f g = bit_xor f (bit_and f g)

-- one set was brought in, and the other taken out
abbrev pub joined : Contents → ℕ → ℕ → Contents
joined s f g = record { force = without (bit_or s.force f) (bit_or s.gone g); gone = bit_or s.gone g; choices = s.choices; search = s.search }

abbrev pub with_choice : Contents → ℕ → Choice → Contents
with_choice s k c = record { force = s.force; gone = s.gone; choices = slice_set s.choices k c; search = s.search }

abbrev pub with_search : Contents → Option SearchState → Contents
with_search s x = record { force = s.force; gone = s.gone; choices = s.choices; search = x }

abbrev pub entered : ℕ → ℕ → Contents → Result (Unit {0}) Refusal × Contents
entered count r s =
    unless_refused (enter_refusal (is_some s.search) (nat_lt r count) (has_member s.gone r) (has_member s.force r)) tt (record { force = bit_or s.force (2 ^ r); gone = s.gone; choices = s.choices; search = s.search }) s

abbrev pub withdrawn : ℕ → ℕ → Contents → Result (Unit {0}) Refusal × Contents
withdrawn count r s =
    unless_refused (withdraw_refusal (is_some s.search) (nat_lt r count) (has_member s.force r)) tt (record { force = without s.force (2 ^ r); gone = bit_or s.gone (2 ^ r); choices = s.choices; search = s.search }) s

-- by the book's count, the sheet's mark, and the copy's mark and sets
abbrev pub rejoined : ℕ → ℕ → ℕ → ℕ → ℕ → Contents → Result (Unit {0}) Refusal × Contents
rejoined count mark m f g s = unless_refused (rejoin_refusal (is_some s.search) (m == mark) (sets_lawful count f g)) tt (joined s f g) s

abbrev pub fixed : List Slot → ℕ → ℕ → Contents → Result (Unit {0}) Refusal × Contents
fixed slots k v s = unless_refused (fix_refusal (is_some s.search) (nat_lt k (length slots)) (part_offered slots k v)) tt (with_choice s k (Fixed v)) s

abbrev pub barred : List Slot → ℕ → Contents → Result (Unit {0}) Refusal × Contents
barred slots k s = unless_refused (bar_refusal (is_some s.search) (nat_lt k (length slots)) (standard_at slots k)) tt (with_choice s k Barred) s

abbrev pub freed : List Slot → ℕ → Contents → Result (Unit {0}) Refusal × Contents
freed slots k s = unless_refused (free_refusal (is_some s.search) (nat_lt k (length slots))) tt (with_choice s k Free) s

-- with the slip that it gives
abbrev pub begun : {A : Type 0} → List Slot → A → Contents → Result A Refusal × Contents
begun slots slip s = unless_refused (begin_refusal (is_some s.search)) slip (with_search s (Some (started (opening_box slots s.choices)))) s

abbrev pub worked_on : (ℕ → List ℕ → Option (List ℕ)) → ℕ → Option SearchState → Contents → Result (Standing × ℕ) Refusal × Contents
worked_on narrowed b None s = (Err NoSearch, s)
worked_on narrowed b (Some x) s =
    unless_refused (work_refusal (is_some (Some x)) (budget_lawful b)) ((run narrowed (members s.force) b x).standing, made narrowed (members s.force) b x) (with_search s (Some (run narrowed (members s.force) b x))) s

abbrev pub worked : (ℕ → List ℕ → Option (List ℕ)) → ℕ → Contents → Result (Standing × ℕ) Refusal × Contents
worked narrowed b s = worked_on narrowed b s.search s

abbrev pub closed_by : {A : Type 0} → Option Refusal → A → Contents → Result (Unit {0}) (Refusal × A) × Contents
closed_by None slip s = (Ok tt, with_search s None)
closed_by (Some e) slip s = (Err (e, slip), s)

-- a refused close hands its slip back
abbrev pub closed : {A : Type 0} → A → Contents → Result (Unit {0}) (Refusal × A) × Contents
closed slip s = closed_by (close_refusal (is_some s.search)) slip s

-- how many boxes wait, and the first
abbrev pub waiting_in : Option SearchState → Result (ℕ × Option (List ℕ)) Refusal
waiting_in None = Err NoSearch
waiting_in (Some x) = Ok (length x.boxes, slice_get x.boxes 0)

abbrev pub ended_with : Result (Standing × ℕ) Refusal × Contents → Result (Standing × ℕ) Refusal × Contents
ended_with o = (o.0, with_search o.1 None)

abbrev pub find_over : Option SearchState → List Slot → (ℕ → List ℕ → Option (List ℕ)) → ℕ → Contents → Result (Standing × ℕ) Refusal × Contents
find_over (Some x) slots narrowed b s = (Err SearchOpen, s)
find_over None slots narrowed b s = ended_with (worked narrowed b (with_search s (Some (started (opening_box slots s.choices)))))

-- begin, one work, close
abbrev pub find_outcome : List Slot → (ℕ → List ℕ → Option (List ℕ)) → ℕ → Contents → Result (Standing × ℕ) Refusal × Contents
find_outcome slots narrowed b s = find_over s.search slots narrowed b s
