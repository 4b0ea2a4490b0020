-- Choices on slots.
use Rattle.std.specs.Prelude.{Bool, true, ◌&&◌, List, nat_le}
use Rattle.std.specs.List.{list_all}
use Rattle.kits.specs.declared.choices.Choice.{Choice}
use Rattle.kits.specs.declared.choices.Choice.TheVariants.{Free, Fixed, Barred}

-- a fixed part is 1 to 15
abbrev pub choice_lawful : Choice → Bool
choice_lawful Free = true
choice_lawful (Fixed v) = nat_le 1 v && nat_le v 15
choice_lawful Barred = true

abbrev pub choices_lawful : List Choice → Bool
choices_lawful cs = list_all choice_lawful cs
