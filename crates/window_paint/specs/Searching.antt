-- The same for an accepted list as the code has it: what is asked of a search in it, and of logging its contents. Only contracts need these. Rests on
-- WindowLogging.
use Rattle.std.specs.Prelude.{ℕ, ◌+◌, ◌≤◌, List, length}
use Rattle.keys.specs.Key.{deepest_side}
use Rattle.keys.specs.declared.block.TreeBlock.{TreeBlock}
use Rattle.definitions.specs.declared.Window.{Window}
use Rattle.list.specs.Sorted.{Near}
use Rattle.list.specs.declared.accepted_list.Accepted.{Accepted}
use Rattle.window_paint.specs.WindowLogging.{BlockFrom, Enterable, FreshGroup}

-- a window whose numbers are those of a map
pub record SmallWindow (w : Window) : Type 0 where
  pub low : w.row + w.height ≤ deepest_side
  pub narrow : w.column + w.width ≤ deepest_side

-- a place among its records from which a key can be looked for
abbrev pub NearIn : Accepted → (from x : ℕ) → Type 0
NearIn list from x = Near list.keys.now (length list.keys.now) from x

-- a block of the map, and a place from which it can be looked for
abbrev pub BlockSought : Accepted → (b : TreeBlock) (from : ℕ) → Type 0
BlockSought list b from = BlockFrom list.m list.keys.now list.bits.now (length list.keys.now) b from

-- the log has room for the entries of the window's largest blocks at or below a block
abbrev pub EnterableIn : Accepted → (w : Window) (f : ℕ) (b : TreeBlock) (place : ℕ) (log_keys log_values : List ℕ) → Type 0
EnterableIn list w f b place log_keys log_values = Enterable list.m list.keys.now list.bits.now (length list.keys.now) w f b place log_keys log_values

-- and for the window's group
abbrev pub FreshGroupOf : Accepted → (w : Window) (f number start used : ℕ) (log_keys log_values : List ℕ) → Type 0
FreshGroupOf list w f number start used log_keys log_values = FreshGroup list.m list.keys.now list.bits.now (length list.keys.now) w f number start used log_keys log_values
