-- What reading and writing mean to each other.
use Rattle.std.specs.Prelude.{◌≡◌, ℕ, ◌≤◌, true, List, length, Ok}
use Rattle.catalogue.specs.Outcomes.{read_into, write_into, lawful_cells}

-- Texts and lawful cells belong together one to one.
pub record ReadsWhatIsWritten : Type 0 where
  -- a text reads to cells only if these are lawful and it is their text
  pub reads : (t cs : List ℕ) (room : ℕ) → read_into room t ≡ Ok cs → (lawful_cells cs ≡ true) × (write_into (length t) cs ≡ Ok t)
  -- the text of lawful cells has at most 65,536 bytes, and reads to them wherever as many cells are lent
  pub writes : (t cs : List ℕ) (room : ℕ) → write_into room cs ≡ Ok t → (length t ≤ 65536) × (read_into (length cs) t ≡ Ok cs)
  -- cells are lawful exactly if some text reads to them
  pub means : (cs : List ℕ) → (lawful_cells cs ≡ true → (t : List ℕ) × (read_into (length cs) t ≡ Ok cs)) × ((t : List ℕ) (room : ℕ) → read_into room t ≡ Ok cs → lawful_cells cs ≡ true)
  -- two texts that read to the same cells are one text
  pub once : (t u cs : List ℕ) (m n : ℕ) → read_into m t ≡ Ok cs → read_into n u ≡ Ok cs → t ≡ u
