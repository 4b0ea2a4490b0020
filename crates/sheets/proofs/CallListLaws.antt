-- The law over lists of calls.
use Rattle.std.proofs.Common.{List, [], ◌∷◌}
use Rattle.sheets.specs.Histories.{Call, History}
use Rattle.sheets.specs.Histories.Call.{Enter, Withdraw, Rejoin, Fix, Bar, Free, Begin, Work, Close, Waiting, Copy}
use Rattle.sheets.specs.Histories.History.{Opened, Then}
use Rattle.sheets.specs.Law.{Setting, Lawful}
use Rattle.sheets.specs.Outcomes.{Contents, at_opening}
use Rattle.sheets.specs.SheetHistories.{Matches}
use Rattle.sheets.specs.CallLists.{called, with_calls, history_of, LawOverCalls}
use Rattle.sheets.proofs.CallLaws.{opened_has, enter_has, withdraw_has, rejoin_has, fix_has, bar_has, free_has, begin_has, work_has, close_has, waiting_has, copy_has}
use Rattle.sheets.proofs.HarmLaws.{harmless}

module _ (t : Setting) where
  call_has : (h : History) (s : Contents) → Matches t h s → (c : Call) → Matches t (Then h c (called t s c).0) (called t s c).1
  call_has h s k (Enter r) = enter_has t h s k r
  call_has h s k (Withdraw r) = withdraw_has t h s k r
  call_has h s k (Rejoin m f g) = rejoin_has t h s k m f g
  call_has h s k (Fix j v) = fix_has t h s k j v
  call_has h s k (Bar j) = bar_has t h s k j
  call_has h s k (Free j) = free_has t h s k j
  call_has h s k Begin = begin_has t h s k {A = Unit {0}} tt
  call_has h s k (Work b) = work_has t h s k b
  call_has h s k Close = close_has t h s k {A = Unit {0}} tt
  call_has h s k Waiting = waiting_has t h s k
  call_has h s k Copy = copy_has t h s k

  calls_lawful : (h : History) (s : Contents) → Matches t h s → (cs : List Call) → Lawful t (with_calls t h s cs)
  calls_lawful h s k [] = k.lawful
  calls_lawful h s k (c ∷ cs) = calls_lawful (Then h c (called t s c).0) (called t s c).1 (call_has h s k c) cs

pub law_over_calls : LawOverCalls
law_over_calls t laws form cs =
    let l = calls_lawful t Opened at_opening (opened_has t) cs in
    (l, harmless t laws form (history_of t cs) l)
