-- The state that a search in the program has.
use Rattle.sheets.specs.Stacks.{waiting_boxes}
use Rattle.sheets.specs.Steps.{Standing, paused, kit, no_kit, SearchState}
use Rattle.sheets.specs.declared.search.End.{End}
use Rattle.sheets.specs.declared.search.End.TheVariants.{Paused, Kit, NoKit}
use Rattle.sheets.specs.declared.search.Search.{Search}

abbrev pub standing_of : End → Standing
standing_of Paused = paused
standing_of (Kit f) = kit f.numbers
standing_of NoKit = no_kit

abbrev pub state_of : Search → SearchState
state_of s = record { boxes = waiting_boxes s.boxes.items; standing = standing_of s.end }
