-- What the functions that log a window's largest blocks ask and leave. Only contracts need these. Rests on Log and Window of the definitions.
use Rattle.std.specs.Prelude.{ℕ, ◌+◌, ◌^◌, ◌≤◌, ◌<◌, ◌≡◌, false, List, [], ◌∷◌, length}
use Rattle.keys.specs.Key.{deepest_side}
use Rattle.keys.specs.Key.{height_of}
use Rattle.keys.specs.Child.{InMap}
use Rattle.keys.specs.declared.block.TreeBlock.{TreeBlock}
use Rattle.definitions.specs.Picture.{Picture}
use Rattle.definitions.specs.List.{Record}
use Rattle.definitions.specs.Read.{room, records_of}
use Rattle.definitions.specs.Window.{is_inside, largest_from, largest_blocks}
use Rattle.definitions.specs.declared.Window.{Window}
use Rattle.definitions.specs.declared.Standing.{Standing}
use Rattle.definitions.specs.declared.Standing.TheVariants.{Listed, Inside}
use Rattle.definitions.specs.Log.{entries_of}
use Rattle.definitions.specs.Calls.PaintWindow.{group_gained}
use Rattle.list.specs.Own.{OwnList, BlockIn, shown_by}
use Rattle.list.specs.Sorted.{Near}
use Rattle.walk.specs.declared.lying.Lie.{Lie}
use Rattle.walk.specs.declared.lying.Lie.TheVariants.{Apart, Within, Cut}

-- the largest blocks at or below a block
abbrev pub largest_in : (w : Window) (b : TreeBlock) → List ℕ
largest_in w b = largest_from w b.height b.row b.column b.key

-- a block and a window whose numbers are those of a map
pub record Placed (w : Window) (b : TreeBlock) : Type 0 where
  pub deep : b.height ≤ 10
  pub rows : b.row + 2 ^ b.height ≤ deepest_side
  pub columns : b.column + 2 ^ b.height ≤ deepest_side
  pub low : w.row + w.height ≤ deepest_side
  pub narrow : w.column + w.width ≤ deepest_side

-- what is told of a block: none of the largest blocks lies in it, it is one of them, or its quadrants have to be asked
abbrev pub Lying : (w : Window) (b : TreeBlock) → Lie → Type 0
Lying w b Apart = largest_in w b ≡ []
Lying w b Within = largest_in w b ≡ b.key ∷ []
Lying w b Cut = (0 < b.height) × (is_inside w b.height b.row b.column ≡ false)

-- an accepted list, and a window of the map
pub record Coverable (m : ℕ) (keys bits : List ℕ) (n : ℕ) (w : Window) : Type 0 where
  pub deep : m ≤ 10
  pub own : OwnList m keys bits n
  pub low : w.row + w.height ≤ deepest_side
  pub narrow : w.column + w.width ≤ deepest_side

-- a block of the map, and a place from which it can be looked for
pub record BlockFrom (m : ℕ) (keys bits : List ℕ) (n : ℕ) (b : TreeBlock) (from : ℕ) : Type 0 where
  pub block : BlockIn m keys bits n b.key
  pub low : b.height ≤ 10
  pub height_is : b.height ≡ height_of m b.key
  pub near : Near keys n from b.key

-- the place that a standing tells
abbrev pub place_told : Standing → ℕ
place_told (Listed place records) = place
place_told (Inside place around level) = place

-- the number of the blocks, and the places that their entries take, whatever they are painted with
pub record NeededFor (m : ℕ) (p : Picture) (blocks : List ℕ) (number places : ℕ) : Type 0 where
  pub number_is : number ≡ length blocks
  pub places_are : (f : ℕ) → places ≡ length (entries_of m p blocks f)

-- the entries of the largest blocks at or below a block of the map
abbrev pub entries_below : (m : ℕ) (p : Picture) (w : Window) (f : ℕ) (b : TreeBlock) → List Record
entries_below m p w f b = entries_of m p (largest_in w b) f

-- the log has room for them from a place on
pub record Enterable (m : ℕ) (keys bits : List ℕ) (n : ℕ) (w : Window) (f : ℕ) (b : TreeBlock) (place : ℕ) (log_keys log_values : List ℕ) : Type 0 where
  pub list : Coverable m keys bits n w
  pub block : InMap m b
  pub fits : place + length (entries_below m (shown_by m keys bits n) w f b) ≤ room log_keys log_values

-- the number of the largest blocks is known, and the log has room for the window's group
pub record FreshGroup (m : ℕ) (keys bits : List ℕ) (n : ℕ) (w : Window) (f number start used : ℕ) (log_keys log_values : List ℕ) : Type 0 where
  pub list : Coverable m keys bits n w
  pub number_is : number ≡ length (largest_blocks m w)
  pub fits : start + length (group_gained m (records_of keys bits n) w f) ≤ room log_keys log_values
  pub there : used ≤ room log_keys log_values
