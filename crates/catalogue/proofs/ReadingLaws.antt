-- A catalogue is read from its text, and from nothing else.
use Rattle.std.proofs.Common.{◌≡◌, ℕ, ◌+◌, ◌≤◌, true, ◌&&◌, eqb, leb, List, [], map, length, Ok, codes, refl, ap, ◌∙◌, arith}
use lib.ListN.{length-map}
use Rattle.std.proofs.lemmas.List.{nil_from_length}
use Rattle.std.proofs.lemmas.Bool.{le-leb, eqb-true}
use Rattle.fields.specs.declared.fault.FaultKind.TheVariants.{NoStandardSlot}
use Rattle.fields.specs.Lines.{Position, position, begun}
use Rattle.fields.proofs.Chains.{then_case, mapped_ok_case, cond_ok}
use Rattle.catalogue.specs.declared.model.Kind.{Kind}
use Rattle.catalogue.specs.declared.model.Slot.{Slot}
use Rattle.catalogue.specs.Catalogues.{Rule, Catalogue}
use Rattle.catalogue.specs.Lawful.{all, any, slot_lawful, offered, row_lawful, rule_lawful, lawful}
use Rattle.catalogue.specs.Reading.{number_line, slots_lines, kind_line, of_line, rows_lines, rule_lines, rules_lines, head_lines, reading}
use Rattle.catalogue.specs.Writing.{line, number_text, list_text, slots_text, rows_text, rule_text, rules_text, text_of}
use Rattle.catalogue.proofs.LawfulParts.{of_lawful, of_parts, RuleParts, rule_parts, rule_from, Parts, lawful_parts, lawful_from, within, limits_few}
use Rattle.catalogue.proofs.LineLaws.{Step, Steps, steps_of, number_step, UpTo, up_to_step, slot_step, kind_step, asked_case, of_step, row_step}

mark_step : UpTo (codes "mark") 65535
mark_step = up_to_step (codes "mark") 65535 refl (omega arith) (omega arith)

used_step : Step (number_line (codes "slots") 1 24) (λ n rest. line (number_text (codes "slots") n) rest) (λ n. leb 1 n && leb n 24)
used_step = number_step (codes "slots") 1 24 refl (omega arith) (omega arith)

slots_steps : Steps slots_lines slots_text slot_lawful
slots_steps = steps_of slot_step slots_text (λ rest. refl) (λ s ss rest. refl)

rules_step : UpTo (codes "rules") 64
rules_step = up_to_step (codes "rules") 64 refl (omega arith) (omega arith)

rows_step : UpTo (codes "rows") 255
rows_step = up_to_step (codes "rows") 255 refl (omega arith) (omega arith)

module _ (slots : List Slot) (few : length slots ≤ 24) (offers : all slot_lawful slots ≡ true) where
  rows_steps : (kind : Kind) (ns : List ℕ) → of_lawful (length slots) kind ns ≡ true
      → Steps (λ n. rows_lines n (map (offered slots) ns)) rows_text (row_lawful (map (offered slots) ns))
  rows_steps kind ns h =
      let parts = of_parts (length slots) kind ns h in
      let law = row_step (map (offered slots) ns) (simp length-map parts.some) (simp length-map parts.few) (limits_few slots offers ns) in
      steps_of law rows_text (λ rest. refl) (λ row rows rest. refl)

  rule_step : Step (rule_lines slots) rule_text (rule_lawful slots)
  rule_step = record {
    reads = λ p x h.
        then_case (kind_line (length slots) p) _ x h (λ k k-is h.
        then_case (of_line (length slots) k.0 k.1) _ x h (λ o o_is h.
        then_case (number_line (codes "rows") 0 255 o.1) _ x h (λ n n-is h.
        mapped_ok_case _ (rows_lines n.0 (map (offered slots) o.0) n.1) x h (λ rs rs-is same.
        let a = (kind_step (length slots) few).reads p k k-is in
        let b = (of_step (length slots) few k.0).reads k.1 o o_is in
        let c = rows_step.reads o.1 n n-is in
        let d = (rows_steps k.0 o.0 b.0).reads n.0 n.1 rs rs-is in
        let r : Rule = record { kind = k.0; slots = o.0; rows = rs.0 } in
        let parts : RuleParts slots r = record { kind = a.0; of = b.0; count = rw d.0 c.0; rows = d.1 } in
        rw (← same) (rule_from slots r parts, rw (a.1, b.1, c.1, d.2, d.0))))));
    writes = λ r h rest k.
        let parts = rule_parts slots r h in
        let rows = rows_text r.rows rest in
        let count = line (number_text (codes "rows") (length r.rows)) rows in
        let own = line (list_text (codes "of") r.slots) count in
        let a = (kind_step (length slots) few).writes r.kind parts.kind own k in
        let b = (of_step (length slots) few r.kind).writes r.slots parts.of count a.0 in
        let c = rows_step.writes (length r.rows) parts.count rows b.0 in
        let d = (rows_steps r.kind r.slots parts.of).writes r.rows parts.rows rest c.0 in
        (d.0, rw (a.1, b.1, c.1, d.1));
  }

  rules_steps : Steps (λ n. rules_lines n slots) rules_text (rule_lawful slots)
  rules_steps = steps_of rule_step rules_text (λ rest. refl) (λ r rs rest. refl)

pub reading_reads : (t : List ℕ) (c : Catalogue) → reading t ≡ Ok c → (lawful c ≡ true) × (t ≡ text_of c)
reading_reads t c h =
    then_case (begun t) _ c h (λ p p-is h.
    then_case (head_lines p) _ c h (λ d d-is h.
    then_case (number_line (codes "mark") 0 65535 p) _ d d-is (λ m m-is g.
    then_case (number_line (codes "slots") 1 24 m.1) _ d g (λ n n-is g.
    then_case (slots_lines n.0 n.1) _ d g (λ ss ss-is g.
    asked_case NoStandardSlot (2 + n.0) (any (λ s. s.standard) ss.0) ss _ d g (λ standard g.
    mapped_ok_case _ (number_line (codes "rules") 0 64 ss.1) d g (λ k k-is same.
    then_case (rules_lines k.0 ss.0 k.1) _ c (rw (← same) at h) (λ rs rs-is h.
    let start = (cond_ok (leb (length t) 65536) (position 1 t) p _ p-is).1 in
    let mark = mark_step.reads p m m-is in
    let used = used_step.reads m.1 n n-is in
    let slots = slots_steps.reads n.0 n.1 ss ss-is in
    let count = rules_step.reads ss.1 k k-is in
    let few : length ss.0 ≤ 24 = omega (arith, slots.0, (within 1 24 n.0 used.0).1) in
    let rules = (rules_steps ss.0 few slots.1).reads k.0 k.1 rs rs-is in
    let read : Catalogue = record { mark = m.0; slots = ss.0; rules = rs.0 } in
    let whole = cond_ok (eqb (length rs.1.text) 0) read c _ h in
    let nothing = nil_from_length rs.1.text (eqb-true _ 0 whole.0) in
    let parts : Parts read = record {
      mark = mark.0;
      used = rw slots.0 used.0;
      standard = standard;
      count = rw rules.0 count.0;
      slots = slots.1;
      rules = rules.1;
    } in
    rw (← whole.1) (
      lawful_from read parts,
      ap (λ (q : Position). q.text) start ∙ rw (mark.1, used.1, slots.2, count.1, rules.2, nothing, slots.0, rules.0),
    )))))))))

pub reading_writes : (c : Catalogue) → lawful c ≡ true → length (text_of c) ≤ 65536 → reading (text_of c) ≡ Ok c
reading_writes c h fits =
    let parts = lawful_parts c h in
    let few = (within 1 24 (length c.slots) parts.used).1 in
    let rules = rules_text c.rules [] in
    let count = line (number_text (codes "rules") (length c.rules)) rules in
    let slots = slots_text c.slots count in
    let used = line (number_text (codes "slots") (length c.slots)) slots in
    let a = mark_step.writes c.mark parts.mark used 1 in
    let b = used_step.writes (length c.slots) parts.used slots a.0 in
    let d = slots_steps.writes c.slots parts.slots count b.0 in
    let e = rules_step.writes (length c.rules) parts.count rules d.0 in
    let f = (rules_steps c.slots few parts.slots).writes c.rules parts.rules [] e.0 in
    rw (le-leb (length (text_of c)) 65536 fits, a.1, b.1, d.1, parts.standard, e.1, f.1)
