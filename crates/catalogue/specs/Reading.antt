-- What a text reads to: its lines in turn, each with its questions; the first "no" is the fault.
use Rattle.std.specs.Prelude.{ℕ, zero, suc, ◌+◌, Bool, true, false, cond, ◌&&◌, List, [], ◌∷◌, map, length, Some, None, Ok, Err, codes, Option, Result, ◌==◌, nat_le, nat_lt}
use Rattle.std.specs.Option.{option_map}
use Rattle.std.specs.Str.{bytes_eq}
use Rattle.fields.specs.declared.fault.Fault.{Fault}
use Rattle.fields.specs.declared.fault.FaultKind.{FaultKind}
use Rattle.fields.specs.declared.fault.FaultKind.TheVariants.{WrongForm, OutOfRange, SlotsNotRising, TargetAmongSlots, NoStandardSlot, TextAfterEnd}
use Rattle.fields.specs.Faults.{fault}
use Rattle.fields.specs.Lines.{Position, begun, keyed_line}
use Rattle.fields.specs.Numbers.{number_at, only_number, numbers_up_to, after_space}
use Rattle.fields.specs.Results.{then, and_then, mapped_ok, found_or}
use Rattle.fields.specs.Words.{after_word}
use Rattle.catalogue.specs.declared.model.Kind.{Kind}
use Rattle.catalogue.specs.declared.model.Kind.TheVariants.{Goes, Needs, Bars}
use Rattle.catalogue.specs.declared.model.Slot.{Slot}
use Rattle.catalogue.specs.Catalogues.{Rule, Catalogue}
use Rattle.catalogue.specs.Lawful.{all, any, slot_lawful, kind_lawful, rising, apart, offered, row_lawful}

-- a question: "no" is the fault
abbrev pub asked : {T : Type 0} → FaultKind → ℕ → Bool → T → Result T Fault
asked k line holds x = cond holds (Ok x) (Err (fault k line))

-- the line of a key, its value read by a form
abbrev pub formed_line : {T : Type 0} → List ℕ → (List ℕ → Option T) → Position → Result (T × Position) Fault
formed_line key form p = then (keyed_line key p) (λ v. mapped_ok (λ x. (x, v.1)) (found_or (fault WrongForm p.line) (form v.0)))

-- n things in turn
abbrev pub repeated : {T : Type 0} → (Position → Result (T × Position) Fault) → ℕ → Position → Result (List T × Position) Fault
repeated one zero p = Ok ([], p)
repeated one (suc n) p = then (one p) (λ x. mapped_ok (λ xs. (x.0 ∷ xs.0, xs.1)) (repeated one n x.1))

-- key=number, within bounds
abbrev pub number_line : List ℕ → ℕ → ℕ → Position → Result (ℕ × Position) Fault
number_line key low high p = then (formed_line key only_number p) (λ n. asked OutOfRange p.line (nat_le low n.0 && nat_le n.0 high) n)

abbrev pub standing : List ℕ → Option Bool
standing w = cond (bytes_eq w (codes "standard")) (Some true) (cond (bytes_eq w (codes "optional")) (Some false) None)

-- parts and a word, one space apart
abbrev pub slot_value : List ℕ → Option Slot
slot_value t = and_then (number_at 99999 t) (λ n. and_then (after_space n.1) (λ w. option_map (λ b. record { parts = n.0; standard = b }) (standing w)))

abbrev pub slot_line : Position → Result (Slot × Position) Fault
slot_line p = then (formed_line (codes "slot") slot_value p) (λ s. asked OutOfRange p.line (slot_lawful s.0) s)

abbrev pub slots_lines : ℕ → Position → Result (List Slot × Position) Fault
slots_lines n p = repeated slot_line n p

-- a number after a word and one space
abbrev pub word_number : List ℕ → List ℕ → Option ℕ
word_number word t = and_then (after_word t word) (λ d. and_then (after_space d) only_number)

abbrev pub or_else : {T : Type 0} → Option T → Option T → Option T
or_else None y = y
or_else (Some x) y = Some x

abbrev pub kind_value : List ℕ → Option Kind
kind_value t = cond (bytes_eq t (codes "goes")) (Some Goes) (or_else (option_map Needs (word_number (codes "needs") t)) (option_map Bars (word_number (codes "bars") t)))

abbrev pub kind_line : ℕ → Position → Result (Kind × Position) Fault
kind_line used p = then (formed_line (codes "rule") kind_value p) (λ k. asked OutOfRange p.line (kind_lawful used k.0) k)

abbrev pub of_line : ℕ → Kind → Position → Result (List ℕ × Position) Fault
of_line used kind p =
    then (formed_line (codes "of") (numbers_up_to 4) p) (λ o.
    then (asked OutOfRange p.line (all (λ s. nat_lt s used) o.0) o) (λ o.
    then (asked SlotsNotRising p.line (rising o.0) o) (λ o.
    asked TargetAmongSlots p.line (apart kind o.0) o)))

-- so many numbers
abbrev pub row_value : ℕ → List ℕ → Option (List ℕ)
row_value n t = and_then (numbers_up_to 4 t) (λ ns. cond (length ns == n) (Some ns) None)

abbrev pub row_line : List ℕ → Position → Result (List ℕ × Position) Fault
row_line limits p = then (formed_line (codes "row") (row_value (length limits)) p) (λ r. asked OutOfRange p.line (row_lawful limits r.0) r)

abbrev pub rows_lines : ℕ → List ℕ → Position → Result (List (List ℕ) × Position) Fault
rows_lines n limits p = repeated (row_line limits) n p

abbrev pub rule_lines : List Slot → Position → Result (Rule × Position) Fault
rule_lines slots p =
    then (kind_line (length slots) p) (λ k.
    then (of_line (length slots) k.0 k.1) (λ o.
    then (number_line (codes "rows") 0 255 o.1) (λ n.
    mapped_ok (λ rs. (record { kind = k.0; slots = o.0; rows = rs.0 }, rs.1)) (rows_lines n.0 (map (offered slots) o.0) n.1))))

abbrev pub rules_lines : ℕ → List Slot → Position → Result (List Rule × Position) Fault
rules_lines n slots p = repeated (rule_lines slots) n p

-- the lines before the rules: the mark, the used slots, at least one of them standard, and the count of rules
abbrev pub head_lines : Position → Result ((ℕ × List Slot × ℕ) × Position) Fault
head_lines p =
    then (number_line (codes "mark") 0 65535 p) (λ m.
    then (number_line (codes "slots") 1 24 m.1) (λ n.
    then (slots_lines n.0 n.1) (λ s.
    then (asked NoStandardSlot (2 + n.0) (any (λ x. x.standard) s.0) s) (λ s.
    mapped_ok (λ c. ((m.0, s.0, c.0), c.1)) (number_line (codes "rules") 0 64 s.1)))))

-- the catalogue that a text says, or its first fault
abbrev pub reading : List ℕ → Result Catalogue Fault
reading t =
    then (begun t) (λ p.
    then (head_lines p) (λ h.
    then (rules_lines h.0.2 h.0.1 h.1) (λ r.
    asked TextAfterEnd r.1.line (length r.1.text == 0) (record { mark = h.0.0; slots = h.0.1; rules = r.0 }))))
