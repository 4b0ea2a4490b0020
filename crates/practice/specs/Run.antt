-- A sheet over the practice catalogue: what it holds after some calls, and how its searches end.
use Rattle.std.specs.Prelude.{◌≡◌, ℕ, Ok, Err, Result}
use Rattle.rule_books.specs.Tables.{table_narrowed}
use Rattle.sheets.specs.declared.refusal.Refusal.{Refusal}
use Rattle.sheets.specs.declared.refusal.Refusal.TheVariants.{RuleGone}
use Rattle.sheets.specs.Outcomes.{Contents, at_opening, entered, withdrawn, rejoined, fixed, find_outcome}
use Rattle.sheets.specs.Steps.{Standing, paused, kit, no_kit}
use Rattle.practice.specs.Practice.{practice_rules, practice_slots, filling}

-- a copy of mark 7 with rules 0 to 3 in force was rejoined
abbrev pub with_rules : Contents
with_rules = (rejoined 4 7 7 15 0 at_opening).1

-- then rule 1 was withdrawn
abbrev pub without_rule_1 : Contents
without_rule_1 = (withdrawn 4 1 with_rules).1

-- then slot 2 was fixed to part 1
abbrev pub with_part_1 : Contents
with_part_1 = (fixed practice_slots 2 1 without_rule_1).1

-- what a search with a budget answers
abbrev pub found : ℕ → Contents → Result (Standing × ℕ) Refusal
found budget s = (find_outcome practice_slots (table_narrowed practice_rules) budget s).0

pub record PracticeRun : Type 0 where
  pub rejoins : (rejoined 4 7 7 15 0 at_opening).0 ≡ Ok tt
  pub pauses : found 1 with_rules ≡ Ok (paused, 1)
  pub kit_of_all : found 100 with_rules ≡ Ok (kit (filling 1 1 2), 3)
  pub withdraws : (withdrawn 4 1 with_rules).0 ≡ Ok tt
  pub gone : (entered 4 1 without_rule_1).0 ≡ Err RuleGone
  pub kit_without_1 : found 100 without_rule_1 ≡ Ok (kit (filling 1 1 0), 3)
  pub fixes : (fixed practice_slots 2 1 without_rule_1).0 ≡ Ok tt
  pub no_kit_left : found 100 with_part_1 ≡ Ok (no_kit, 1)
