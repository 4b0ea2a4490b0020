-- Choices on slots.
use Rattle.std.proofs.Common.{◌≡◌, ℕ, ◌<◌, true, List, length, get_or, set, refl}
use Rattle.std.proofs.lemmas.List.Recursion.{and_at, and_set}
use Rattle.kits.specs.declared.choices.Choice.{Choice}
use Rattle.kits.specs.Choices.{choice_lawful, choices_lawful}

pub lawful_set : (cs : List Choice) (i : ℕ) (c : Choice) → choice_lawful c ≡ true → choices_lawful cs ≡ true → choices_lawful (set cs i c) ≡ true
lawful_set = and_set choices_lawful choice_lawful refl (λ _ _. refl)

pub lawful_at : (cs : List Choice) (i : ℕ) (d : Choice) → i < length cs → choices_lawful cs ≡ true → choice_lawful (get_or cs i d) ≡ true
lawful_at = and_at choices_lawful choice_lawful refl (λ _ _. refl)
