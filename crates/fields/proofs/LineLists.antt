-- The lines of a text, by where a line end cuts it.
use Rattle.std.proofs.Common.{◌≡◌, ℕ, suc, ◌+◌, ◌-◌, ◌≤◌, true, List, [], ◌∷◌, ◌++◌, length, take, drop, Some, None, Option, sym, refl, ap, ◌∙◌, arith, length-drop}
use Rattle.std.proofs.lemmas.List.{take_at, take_all, take_rest, drop_at, drop-drop}
use Rattle.std.proofs.lemmas.Bool.Decides.{nat_tests}
use Rattle.std.proofs.lemmas.Grind.{common_steps}
use Rattle.fields.specs.Lines.{cut_line}
use Rattle.fields.specs.Named.{part}
use Rattle.fields.specs.TextLines.{Line, line, lines, cut_or_all, first_line, lines_from, LinesInTurn, line_at, line_start}
use Rattle.fields.proofs.LineViews.{cut_reads, cut_length}

turn_more : (c : ℕ) (cs : List ℕ) → lines cs ≡ lines_from (first_line cs) → lines (c ∷ cs) ≡ lines_from (first_line (c ∷ cs))
turn_more c cs h = grind (arith, nat_tests, common_steps)

pub lines_in_turn : LinesInTurn
lines_in_turn [] = refl
lines_in_turn (c ∷ cs) = turn_more c cs (lines_in_turn cs)

lines_cut : (t l r : List ℕ) → Some (l, r) ≡ cut_line t → lines t ≡ line l true ∷ lines r
lines_cut t l r e = grind (arith, nat_tests, common_steps, lines_in_turn t)

past_uncut : (t : List ℕ) (k : ℕ) → None ≡ cut_line t → line_at (suc (suc k)) (lines t) ≡ None
past_uncut t k e = grind (arith, nat_tests, common_steps, lines_in_turn t)

pub line_at_zero : (ls : List Line) → line_at 0 ls ≡ None
line_at_zero [] = refl
line_at_zero (l ∷ ls) = refl

-- a line lies at the front of the text
abbrev Leads : List ℕ → Line → Type 0
Leads t l = (take (length l.bytes) t ≡ l.bytes) × (length l.bytes ≤ length t)

cut_leads : (t : List ℕ) (o : Option (List ℕ × List ℕ)) → cut_line t ≡ o → Leads t (cut_or_all t o).0
cut_leads t None e = (take_all (length t) t (omega arith), omega arith)
cut_leads t (Some p) e = (
  rw (cut_reads t p e) (take_at p.0 (10 ∷ p.1) (length p.0) refl),
  omega (arith, cut_length t p.0 p.1 (sym e)),
)

first_leads : (t : List ℕ) (l : Line) (r : List ℕ) → Some (l, r) ≡ first_line t → Leads t l
first_leads t l r e =
    let is : (cut_or_all t (cut_line t)).0 ≡ l = grind (arith, nat_tests, common_steps) in
    rw (← is) (cut_leads t (cut_line t) refl)

-- what `&t[from..]` is
abbrev onward : List ℕ → ℕ → List ℕ
onward t from = take (length t - from) (drop from t)

-- line n of a text is line k, from 0, of what stands from a place on
pub record At (t : List ℕ) (n from k : ℕ) : Type 0 where
  pub within : from ≤ length t
  pub same : line_at (suc k) (lines (drop from t)) ≡ line_at n (lines t)
  pub start : from + line_start (suc k) (lines (drop from t)) ≡ line_start n (lines t)

after_cut : (t l r : List ℕ) → Some (l, r) ≡ cut_line t → drop (length l + 1) t ≡ r
after_cut t l r e =
    rw (cut_reads t (l, r) (sym e))
    (sym (drop-drop 1 (length l) (l ++ (10 ∷ r))) ∙ ap (drop 1) (drop_at l (10 ∷ r) (length l) refl))

module _ (t : List ℕ) (n from k : ℕ) where
  pub past_end : At t n from (suc k) → None ≡ cut_line (onward t from) → line_at n (lines t) ≡ None
  past_end a e = sym a.same ∙ past_uncut (drop from t) k (rw (take_rest t from) at e)

  pub one_on : At t n from (suc k) → (l r : List ℕ) → Some (l, r) ≡ cut_line (onward t from) → At t n (from + (length l + 1)) k
  one_on a l r e =
      let cut = rw (take_rest t from) at e in
      let next = lines_cut (drop from t) l r cut in
      let rest : drop (from + (length l + 1)) t ≡ r = sym (drop-drop (length l + 1) from t) ∙ after_cut (drop from t) l r cut in
      record {
        within = omega (arith, length-drop from t, cut_length (drop from t) l r cut);
        same = rw rest (sym (ap (line_at (suc (suc k))) next) ∙ a.same);
        start = rw rest (omega (arith, a.start, ap (line_start (suc (suc k))) next));
      }

  -- the line is found
  pub found : At t n from 0 → (l : Line) (r : List ℕ) → Some (l, r) ≡ first_line (onward t from)
      → (from + length l.bytes ≤ length t) × (part t (from, from + length l.bytes) ≡ l.bytes) × (line_at n (lines t) ≡ Some l)
  found a l r e =
      let first = rw (take_rest t from) at e in
      let leads = first_leads (drop from t) l r first in
      let long : from + length l.bytes - from ≡ length l.bytes = omega arith in (
        omega (arith, a.within, length-drop from t),
        rw long leads.0,
        sym a.same ∙ ap (line_at 1) (lines_in_turn (drop from t) ∙ ap lines_from (sym first)),
      )
