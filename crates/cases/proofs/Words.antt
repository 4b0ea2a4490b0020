-- The numbers of the words that have come, over the words of a text.
use Rattle.std.proofs.Common.{◌≡◌, ℕ, ◌<◌, List, [], ◌∷◌, ◌++◌, length, sym, refl, ap, subst, append_assoc, append-nil}
use Rattle.std.specs.Str.{NoCharPasses, EmptyOrStartsWithPassing}
use Rattle.std.specs.Char.{is_whitespace, is_not_whitespace}
use Rattle.cases.specs.Numbers.{StartsWithWord, SaysNumbers, word_numbers}

-- what `split_whitespace` says of a word
abbrev Stepped : (text word rest : List ℕ) → Type 0
Stepped text word rest = (gap : List ℕ) × (text ≡ gap ++ (word ++ rest)) × (0 < length word) × NoCharPasses is_not_whitespace gap
    × NoCharPasses is_whitespace word × ((more : List ℕ) × EmptyOrStartsWithPassing is_whitespace rest more)

starts_with_word : {text word rest : List ℕ} → Stepped text word rest → StartsWithWord text word rest
starts_with_word s = record { gap = s.0; split = s.1; some = s.2; blank = s.3; whole = s.4; ends = s.5 }

-- these numbers, and then those that the rest says, are what the text says
abbrev pub SaidBefore : List ℕ → List ℕ → List ℕ → Type 0
SaidBefore text rest numbers = (more : List ℕ) → SaysNumbers rest more → SaysNumbers text (numbers ++ more)

pub said_with_word : {text word rest after : List ℕ} (numbers : List ℕ) → SaidBefore text rest numbers → Stepped rest word after
    → SaidBefore text after (numbers ++ word_numbers word)
said_with_word {word = word} numbers before step more said =
    subst (SaysNumbers _) (sym (append_assoc numbers (word_numbers word) more))
    (before (word_numbers word ++ more) (word ∷ said.0, (_, starts_with_word step, said.1), ap (λ n. word_numbers word ++ n) said.2))

pub said_by_all : {text rest : List ℕ} (numbers : List ℕ) → SaidBefore text rest numbers → NoCharPasses is_not_whitespace rest → SaysNumbers text numbers
said_by_all numbers before blank = subst (SaysNumbers _) (append-nil numbers) (before [] ([], blank, refl))
