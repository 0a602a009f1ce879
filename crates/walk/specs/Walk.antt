-- What the contracts of the walk say: where it stands, how a block lies to a window, which block comes next. Only contracts need these; the laws
-- that connect them with the window's pixels stand in proofs/.
use Rattle.std.specs.Prelude.{ℕ, ◌+◌, ◌/◌, ◌^◌, ◌≤◌, ◌<◌, ◌≡◌, Bool, true, cond, ◌&&◌, ◌||◌, Option, Some, None, leb}
use Rattle.keys.specs.Key.{deepest_side}
use Rattle.keys.specs.Block.{pixel_key}
use Rattle.keys.specs.Under.{MapBlock}
use Rattle.keys.specs.declared.Square.{Square}
use Rattle.definitions.specs.Window.{in_window}
use Rattle.definitions.specs.declared.Window.{Window}
use Rattle.walk.specs.declared.Spot.{Spot}
use Rattle.walk.specs.declared.lying.Lie.{Lie}
use Rattle.walk.specs.declared.lying.Lie.TheVariants.{Apart, Within, Cut}

-- the spot has the numbers of a block of the map
pub record BlockSpot (m : ℕ) (s : Spot) : Type 0 where
  pub height : ℕ
  pub block : MapBlock m height s.row s.column s.key
  pub side : s.side ≡ 2 ^ height
  pub step : s.step ≡ 5 ^ height

-- the sums that compare a block with a window are small
pub record Small (s : Spot) (w : Window) : Type 0 where
  pub rows : s.row + s.side ≤ deepest_side
  pub columns : s.column + s.side ≤ deepest_side
  pub height : w.row + w.height ≤ deepest_side
  pub width : w.column + w.width ≤ deepest_side

-- every pixel of the block lies in the window
unfoldable pub is_within : Spot → Window → Bool
is_within s w =
    leb w.row s.row
    && leb (s.row + s.side) (w.row + w.height)
    && (leb w.column s.column && leb (s.column + s.side) (w.column + w.width))

-- no pixel of the block lies in the window
unfoldable pub is_apart : Spot → Window → Bool
is_apart s w =
    leb (s.row + s.side) w.row
    || leb (w.row + w.height) s.row
    || (leb (s.column + s.side) w.column || leb (w.column + w.width) s.column)

-- a square by itself, as the two tests look at it
abbrev pub square_spot : Square → Spot
square_spot q = record { key = 0; row = q.row; column = q.column; side = q.side; step = 0 }

-- how it lies to the window
unfoldable pub lie_of : Square → Window → Lie
lie_of q w = cond (is_apart (square_spot q) w) Apart (cond (is_within (square_spot q) w) Within Cut)

abbrev pub first_quadrant : Spot → Spot
first_quadrant s = record { key = s.key + s.step / 5; row = s.row; column = s.column; side = s.side / 2; step = s.step / 5 }

-- the block with key x, or the end of the map where x is the key after the last
abbrev pub Follows : ℕ → ℕ → Option Spot → Type 0
Follows m x (Some s) = BlockSpot m s × (s.key ≡ x)
Follows m x None = x ≡ 5 ^ m

-- no pixel of the window has its key from x on and below y
abbrev pub Clear : ℕ → Window → ℕ → ℕ → Type 0
Clear m w x y = (row column : ℕ) → in_window w row column ≡ true → x ≤ pixel_key m row column → pixel_key m row column < y → ⊥

-- no block within the window begins before the key and ends after it
abbrev pub Parting : ℕ → Window → ℕ → Type 0
Parting m w x = (s : Spot) → BlockSpot m s → is_within s w ≡ true → s.key < x → x < s.key + s.step → ⊥

-- a block at which the walk can stand: it lies inside no block that the walk should have given
pub record Walking (m : ℕ) (w : Window) (s : Spot) : Type 0 where
  pub stands : BlockSpot m s
  pub parting : Parting m w s.key

-- the first largest block of the window from the key x on
pub record FirstFrom (m : ℕ) (w : Window) (x : ℕ) (s : Spot) : Type 0 where
  pub walking : Walking m w s
  pub within : is_within s w ≡ true
  pub from : x ≤ s.key
  pub clear : Clear m w x s.key
