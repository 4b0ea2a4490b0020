-- Numbers by white space.
use Rattle.std.specs.Prelude.{◌≡◌, ℕ, ◌<◌, cond, List, [], ◌∷◌, ◌++◌, length, replicate, ◌==◌}
use Rattle.std.specs.List.{flat_map, position_or_len, before_first, after_first}
use Rattle.std.specs.Str.{NoCharPasses, EmptyOrStartsWithPassing}
use Rattle.std.specs.Str.Parse.{digits_value, without_leading_plus}
use Rattle.std.specs.Char.{is_whitespace, is_not_whitespace}

abbrev pub value : List ℕ → ℕ
value word = digits_value 10 (without_leading_plus word)

-- a word with a star is the number after it so many times, and another is one number
abbrev pub word_numbers : List ℕ → List ℕ
word_numbers word = cond (position_or_len (λ b. b == 42) word == length word) (value word ∷ [])
    (replicate (value (before_first (λ b. b == 42) word)) (value (after_first (λ b. b == 42) word)))

-- the text is white space, the word, and the rest, which is empty or begins with white space
pub record StartsWithWord (text word rest : List ℕ) : Type 0 where
  pub gap : List ℕ
  pub split : text ≡ gap ++ (word ++ rest)
  pub some : 0 < length word
  pub blank : NoCharPasses is_not_whitespace gap
  pub whole : NoCharPasses is_whitespace word
  pub ends : (more : List ℕ) × EmptyOrStartsWithPassing is_whitespace rest more

-- the words of a text
abbrev pub SplitsInto : List ℕ → List (List ℕ) → Type 0
SplitsInto text [] = NoCharPasses is_not_whitespace text
SplitsInto text (w ∷ ws) = (rest : List ℕ) × StartsWithWord text w rest × SplitsInto rest ws

-- the numbers of its words in turn
abbrev pub SaysNumbers : List ℕ → List ℕ → Type 0
SaysNumbers text numbers = (words : List (List ℕ)) × SplitsInto text words × (numbers ≡ flat_map word_numbers words)
