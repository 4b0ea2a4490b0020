-- What labels, boxes and the order come to.
use Rattle.std.specs.Prelude.{◌≡◌, ℕ, ◌+◌, ◌<◌, ◌≤◌, true, false, ◌⊎◌, List, length, Some, bit_and, count_ones, slice_index, Contains}
use Rattle.kits.specs.Labels.{Has, least, low, others}
use Rattle.kits.specs.Fillings.{Before, before, Rising}
use Rattle.kits.specs.Boxes.{Boxed, In, holds, volume, single, open_slot, first_half, second_half, lowest_filling}
use Rattle.kits.specs.Kits.{Emptied}

abbrev pub Iff : Type 0 → Type 0 → Type 0
Iff p q = (p → q) × (q → p)

-- the lowest member is a member, and none is lower
pub record LowestMember : Type 0 where
  pub member : (l : ℕ) → 0 < l → Has l (least l)
  pub lowest : (l v : ℕ) → Has l v → least l ≤ v

-- the members of both labels
abbrev pub Met : Type 0
Met = (l m v : ℕ) → Iff (Has (bit_and l m) v) (Has l v × Has m v)

-- the lowest member, and the others, which are higher
pub record LowestSplit : Type 0 where
  pub first : (l v : ℕ) → 0 < l → Iff (Has (low l) v) (v ≡ least l)
  pub second : (l v : ℕ) → 0 < l → Iff (Has (others l) v) (Has l v × (least l < v))

-- the order is strict and total, and what comes of a filling by emptying slots precedes it
pub record Order : Type 0 where
  pub means : (f g : List ℕ) → Iff (before f g ≡ true) (Before f g)
  pub strict : (f : List ℕ) → Before f f → ⊥
  pub chain : (f g h : List ℕ) → Before f g → Before g h → Before f h
  pub total : (f g : List ℕ) → length f ≡ length g → (f ≡ g) ⊎ (Before f g ⊎ Before g f)
  pub emptied : (f g : List ℕ) → Emptied f g → (g ≡ f) ⊎ Before g f

-- a box holds the fillings that are in it
abbrev pub Held : Type 0
Held = (b f : List ℕ) → Iff (holds b f ≡ true) (In f b)

-- a box is single exactly if it holds one filling
abbrev pub SingleHoldsOne : Type 0
SingleHoldsOne = (b : List ℕ) → Boxed b → Iff (single b ≡ true) ((f g : List ℕ) → In f b → In g b → f ≡ g)

-- the open slot has several members, and each lower slot one
pub record LowestOpen (b : List ℕ) (k : ℕ) : Type 0 where
  pub within : k < 24
  pub several : 2 ≤ count_ones (slice_index b k)
  pub lower : (j : ℕ) → j < k → count_ones (slice_index b j) ≡ 1

abbrev pub OpenSlot : Type 0
OpenSlot = (b : List ℕ) (k : ℕ) → Boxed b → open_slot b ≡ Some k → LowestOpen b k

-- the lowest filling of a box is in it and comes first, and is all that a single box holds
pub record LowestIn (b : List ℕ) : Type 0 where
  pub held : In (lowest_filling b) b
  pub first : (f : List ℕ) → In f b → (f ≡ lowest_filling b) ⊎ Before (lowest_filling b) f
  pub only : single b ≡ true → (f : List ℕ) → Iff (In f b) (f ≡ lowest_filling b)

abbrev pub LowestFilling : Type 0
LowestFilling = (b : List ℕ) → Boxed b → LowestIn b

-- the list has the fillings of the box, each once and in the order, and as many as the volume
pub record FillingsOf (b : List ℕ) (fs : List (List ℕ)) : Type 0 where
  pub all : (f : List ℕ) → Iff (In f b) (Contains fs f)
  pub rising : Rising fs
  pub many : length fs ≡ volume b

-- the volume is the number of fillings, and 1 exactly if the box is single
pub record Counted (b : List ℕ) : Type 0 where
  pub fillings : (fs : List (List ℕ)) × FillingsOf b fs
  pub one : Iff (single b ≡ true) (volume b ≡ 1)

abbrev pub VolumeCounts : Type 0
VolumeCounts = (b : List ℕ) → Boxed b → Counted b

-- each filling of the box is in one of the halves, in the order, and the volumes add up
pub record Halved (b : List ℕ) : Type 0 where
  pub boxes : Boxed (first_half b) × Boxed (second_half b)
  pub either : (f : List ℕ) → Iff (In f b) (In f (first_half b) ⊎ In f (second_half b))
  pub apart : (f : List ℕ) → In f (first_half b) → In f (second_half b) → ⊥
  pub ordered : (f g : List ℕ) → In f (first_half b) → In g (second_half b) → Before f g
  pub volumes : volume (first_half b) + volume (second_half b) ≡ volume b

abbrev pub SplitHalves : Type 0
SplitHalves = (b : List ℕ) → Boxed b → single b ≡ false → Halved b
