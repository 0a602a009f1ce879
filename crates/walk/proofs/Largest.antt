-- The largest blocks of a window: what select gives of a blank picture. A block at which the walk can stand and that lies within the window is one
-- of them, and each of them is such a block. Rests on Lies and laws' SelectMeans.
use Prim.Native.Nat.{ℕ, ◌+◌, ◌-◌, ◌^◌, ◌<◌}
use mathlib.Core.Path.{◌≡◌, refl}
use mathlib.Core.Bool.{true}
use mathlib.Core.List.{List}
use native.Mathlib.Omega.{arith}
use Rattle.keys.proofs.Powers.{two_pos}
use Rattle.keys.specs.Under.{MapBlock}
use Rattle.definitions.specs.Picture.{Picture}
use Rattle.definitions.specs.Window.{is_given, select_in}
use Rattle.definitions.specs.declared.Window.{Window}
use Rattle.laws.proofs.WindowScan.{inside_window}
use Rattle.laws.proofs.SelectMeans.{given_inside, given_of}
use Rattle.walk.specs.declared.Spot.{Spot}
use Rattle.walk.specs.Walk.{BlockSpot, is_within, Parting}
use Rattle.walk.proofs.Lies.{inside_within, within_pixel}

-- a picture of one feature
abbrev pub blank_picture : Picture
blank_picture row column = 0

-- the keys of the largest blocks of a window, in ascending order
unfoldable pub blank_blocks : ℕ → Window → List ℕ
blank_blocks m w = select_in m blank_picture w 0

-- the spot of a block
abbrev pub spot_of : ℕ → ℕ → ℕ → ℕ → Spot
spot_of k r c κ = record { key = κ; row = r; column = c; side = 2 ^ k; step = 5 ^ k }

pub spot_stands : {m k r c κ : ℕ} → MapBlock m k r c κ → BlockSpot m (spot_of k r c κ)
spot_stands {k = k} b = record { height = k; block = b; side = refl; step = refl }

-- all pixels of the block lie in the window
abbrev pub AllInside : Window → ℕ → ℕ → ℕ → Type 0
AllInside w k r c = is_given blank_picture w 0 k r c ≡ true

-- a block whose rows and columns are the window's has its pixels there
pub within_all : {m : ℕ} (w : Window) {s : Spot} (h : BlockSpot m s) → is_within s w ≡ true → AllInside w h.height s.row s.column
within_all w {s} h e =
    given_of blank_picture w 0 h.height s.row s.column (λ row column i. (within_pixel s w row column e (omega (arith, h.side)), refl))

-- a block whose pixels lie in the window has its rows and columns there: those of its first and of its last pixel
pub all_within : {m : ℕ} (w : Window) {s : Spot} (h : BlockSpot m s) → AllInside w h.height s.row s.column → is_within s w ≡ true
all_within w {s} h e =
    let some = two_pos h.height in
    let first = inside_window w _ _ (given_inside blank_picture w 0 h.height s.row s.column {row = s.row} {column = s.column} e (omega arith)) in
    let row = s.row + s.side - 1 in
    let column = s.column + s.side - 1 in
    let last = inside_window w row column (given_inside blank_picture w 0 h.height s.row s.column {row = row} {column = column} e (omega (arith, h.side))) in
    inside_within s w (omega (arith, h.side))

-- a block with all its pixels in the window begins or ends at a key where the walk can stand, or lies to one side of it
pub not_broken : {m k r c κ : ℕ} (w : Window) {x : ℕ} → Parting m w x → MapBlock m k r c κ → AllInside w k r c → κ < x → x < κ + 5 ^ k → ⊥
unfolding spot_stands
not_broken {k = k} {r} {c} {κ} w h b e before after =
    let i = spot_stands b in
    h (spot_of k r c κ) i (all_within w {s = spot_of k r c κ} i e) before after
