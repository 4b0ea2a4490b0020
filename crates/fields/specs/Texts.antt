-- What is written in a line.
use Rattle.std.specs.Prelude.{ℕ, List, [], ◌∷◌, ◌++◌, decimal}

-- numbers, each after one space
abbrev pub spaced_text : List ℕ → List ℕ
spaced_text [] = []
spaced_text (n ∷ ns) = 32 ∷ (decimal n ++ spaced_text ns)

-- numbers, one space apart
abbrev pub numbers_text : List ℕ → List ℕ
numbers_text [] = []
numbers_text (n ∷ ns) = decimal n ++ spaced_text ns

-- key=value
abbrev pub keyed_text : List ℕ → List ℕ → List ℕ
keyed_text key value = key ++ (61 ∷ value)
