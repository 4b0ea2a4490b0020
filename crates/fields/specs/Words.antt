-- Words and keys at the front of a line.
use Rattle.std.specs.Prelude.{ℕ, cond, List, [], ◌∷◌, Some, None, Option, ◌==◌}
use Rattle.fields.specs.Results.{and_then}

-- what follows the word that begins the text
abbrev pub after_word : List ℕ → List ℕ → Option (List ℕ)
after_word t [] = Some t
after_word [] (w ∷ ws) = None
after_word (c ∷ cs) (w ∷ ws) = cond (c == w) (after_word cs ws) None

-- what follows "="
abbrev pub after_equals : List ℕ → Option (List ℕ)
after_equals t = after_word t (61 ∷ [])

-- what follows the key and "="
abbrev pub value_of : List ℕ → List ℕ → Option (List ℕ)
value_of t key = and_then (after_word t key) after_equals
