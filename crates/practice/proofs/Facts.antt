-- The facts about the practice catalogue, computed from the definitions.
use Rattle.std.proofs.Common.{◌≡◌, ℕ, List, get_or, Ok, refl, ap, inl, inr, arith, rules}
use lib.Count.{ones}
use Rattle.fields.specs.Numbers.{numbers_up_to}
use Rattle.catalogue.specs.Outcomes.{read_into}
use Rattle.catalogue.proofs.TheLaw.{reads_what_is_written}
use Rattle.kits.specs.Boxes.{volume}
use Rattle.kits.specs.Kits.{Kit, Emptied}
use Rattle.rule_books.specs.Tables.{table_rules, table_allows}
use Rattle.practice.specs.Practice.{practice_text, practice_cells, practice_rules, practice_box, filling, all_four, PracticeFacts, RuleFacts}

practice_reads : read_into 38 practice_text ≡ Ok practice_cells
unfolding numbers_up_to
practice_reads = refl

kit : Kit (table_allows practice_rules) all_four practice_box (filling 2 1 2)
unfolding table_rules
kit = record { inside = search rules; allowed = (refl, (refl, (refl, (refl, tt)))) }

smaller : Kit (table_allows practice_rules) all_four practice_box (filling 2 1 0)
unfolding table_rules
smaller = record { inside = search rules; allowed = (refl, (refl, (refl, (refl, tt)))) }

emptied : Emptied (filling 2 1 2) (filling 2 1 0)
emptied = (inr refl, (inr refl, (inl refl, search rules)))

fillings : volume practice_box ≡ 12
unfolding ones
fillings = refl

pub practice_facts : PracticeFacts
practice_facts = record {
  bytes = refl;
  cells = refl;
  reads = practice_reads;
  writes = (reads_what_is_written.reads practice_text practice_cells 38 practice_reads).1;
}

pub rule_facts : RuleFacts
unfolding table_rules
rule_facts = record {
  goes = refl;
  goes_not = refl;
  goes_empty = refl;
  needs = refl;
  needs_not = refl;
  bars_not = refl;
  kit = kit;
  smaller = smaller;
  not_minimal = λ m. absurd (omega (arith, ap (λ (f : List ℕ). get_or f 2 0) (m.least (filling 2 1 0) smaller emptied)));
  fillings = fillings;
}
