-- Refusals: their numbers, and the questions that each call is asked, in their order.
use Rattle.std.specs.Prelude.{◌≡◌, ℕ, ◌^◌, ◌<◌, Bool, true, cond, not, ◌&&◌, List, ◌++◌, codes, decimal, Some, None, Option, ◌==◌, bit_and, nat_le, nat_lt}
use Rattle.catalogue.specs.declared.model.Slot.{Slot}
use Rattle.catalogue.specs.Lawful.{offered}
use Rattle.kits.specs.Labels.{Has}
use Rattle.kits.specs.Laws.{Iff}
use Rattle.sheets.specs.declared.refusal.Refusal.{Refusal}
use Rattle.sheets.specs.declared.refusal.Refusal.TheVariants.{SearchOpen, NoSearch, NoRule, RuleGone, RuleInForce, RuleNotInForce, SlotUnused, PartNotOffered, SlotStandard, OtherMark, UnlawfulSets, BudgetOutOfRange}

-- the number of each refusal
abbrev pub number_of : Refusal → ℕ
number_of SearchOpen = 20
number_of NoSearch = 21
number_of NoRule = 22
number_of RuleGone = 23
number_of RuleInForce = 24
number_of RuleNotInForce = 25
number_of SlotUnused = 26
number_of PartNotOffered = 27
number_of SlotStandard = 28
number_of OtherMark = 29
number_of UnlawfulSets = 30
number_of BudgetOutOfRange = 31

-- what is printed of a refusal
abbrev pub refusal_text : Refusal → List ℕ
refusal_text r = codes "refused by " ++ decimal (number_of r)

-- does slot k offer the part v?
abbrev pub part_offered : List Slot → ℕ → ℕ → Bool
part_offered slots k v = nat_le 1 v && nat_le v (offered slots k)

-- have both sets only numbers below n, and none in common?
abbrev pub sets_lawful : ℕ → ℕ → ℕ → Bool
sets_lawful n f g = (nat_lt f (2 ^ n) && nat_lt g (2 ^ n)) && bit_and f g == 0

-- what the test of two sets comes to
abbrev pub SetsLawful : Type 0
SetsLawful = (n f g : ℕ) → Iff (sets_lawful n f g ≡ true) (((r : ℕ) → Has f r → r < n) × ((r : ℕ) → Has g r → r < n) × ((r : ℕ) → Has f r → Has g r → ⊥))

abbrev pub budget_lawful : ℕ → Bool
budget_lawful b = nat_le 1 b && nat_le b 1000000

-- the first "no" gives the refusal
abbrev pub ask : Bool → Refusal → Option Refusal → Option Refusal
ask question refusal rest = cond question rest (Some refusal)

abbrev pub unless_searching : Bool → Option Refusal → Option Refusal
unless_searching searching rest = ask (not searching) SearchOpen rest

abbrev pub if_searching : Bool → Option Refusal → Option Refusal
if_searching searching rest = ask searching NoSearch rest

abbrev pub enter_refusal : Bool → Bool → Bool → Bool → Option Refusal
enter_refusal searching known gone in_force = unless_searching searching (ask known NoRule (ask (not gone) RuleGone (ask (not in_force) RuleInForce None)))

abbrev pub withdraw_refusal : Bool → Bool → Bool → Option Refusal
withdraw_refusal searching known in_force = unless_searching searching (ask known NoRule (ask in_force RuleNotInForce None))

abbrev pub rejoin_refusal : Bool → Bool → Bool → Option Refusal
rejoin_refusal searching own lawful = unless_searching searching (ask own OtherMark (ask lawful UnlawfulSets None))

abbrev pub fix_refusal : Bool → Bool → Bool → Option Refusal
fix_refusal searching used offered = unless_searching searching (ask used SlotUnused (ask offered PartNotOffered None))

abbrev pub bar_refusal : Bool → Bool → Bool → Option Refusal
bar_refusal searching used standard = unless_searching searching (ask used SlotUnused (ask (not standard) SlotStandard None))

abbrev pub free_refusal : Bool → Bool → Option Refusal
free_refusal searching used = unless_searching searching (ask used SlotUnused None)

abbrev pub begin_refusal : Bool → Option Refusal
begin_refusal searching = unless_searching searching None

abbrev pub work_refusal : Bool → Bool → Option Refusal
work_refusal searching lawful = if_searching searching (ask lawful BudgetOutOfRange None)

-- of close and of waiting
abbrev pub close_refusal : Bool → Option Refusal
close_refusal searching = if_searching searching None
