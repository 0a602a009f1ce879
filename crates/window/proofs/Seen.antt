-- Exist on the walk: no pixel of the window with the feature lies before the key where the walk stands. A block that does not show the feature keeps
-- this past its end. One that shows it within the window settles the answer, and so does one of this feature alone that meets the window. Rests on Steps
-- and the meaning of exist.
use Prim.Native.Nat.{ℕ, ◌+◌, ◌^◌, ◌≤◌, ◌<◌}
use mathlib.Core.Path.{◌≡◌}
use mathlib.Core.Bool.{true, false}
use native.Mathlib.Omega.{arith}
use Rattle.keys.specs.Block.{pixel_key}
use Rattle.keys.proofs.Cases.{decide, split}
use Rattle.keys.proofs.Pixel.{pixel_key-lt}
use Rattle.definitions.specs.Picture.{Picture}
use Rattle.definitions.specs.Bits.{has_slot}
use Rattle.definitions.specs.Window.{is_window, in_window, exist_in}
use Rattle.definitions.specs.declared.Window.{Window}
use Rattle.laws.proofs.BitsOf.{bits_to}
use Rattle.laws.proofs.WindowScan.{exist_exactly}
use Rattle.walk.specs.declared.Spot.{Spot}
use Rattle.walk.specs.Walk.{BlockSpot, is_within, is_apart, Clear}
use Rattle.walk.proofs.Lies.{InSpot, within_pixel, window_pixel, meets_pixel}
use Rattle.walk.proofs.Steps.{in_spot}
use Rattle.walk.proofs.SpotBits.{bits_at, no_slot_pixel, whole_pixel}

module _ (m : ℕ) (p : Picture) (w : Window) (f : ℕ) where
  -- no pixel of the window with the feature has its key below x
  abbrev pub Unseen : ℕ → Type 0
  Unseen x = (row column : ℕ) → in_window w row column ≡ true → p row column ≡ f → pixel_key m row column < x → ⊥

  -- at the root there is none
  pub unseen_none : (x : ℕ) → x ≡ 0 → Unseen x
  unseen_none x e row column i has before = omega arith

  pub unseen_clear : (x y : ℕ) → Unseen x → Clear m w x y → Unseen y
  unseen_clear x y u c row column i has before = split (pixel_key m row column) x (u row column i has) (λ past. c row column i past before)

  pub unseen_lower : (x y : ℕ) → y ≤ x → Unseen x → Unseen y
  unseen_lower x y h u row column i has before = u row column i has (omega arith)

  -- past a block that does not show the feature
  pub unseen_block : {s : Spot} → is_window m w ≡ true → (h : BlockSpot m s) → has_slot (bits_at p h) f ≡ false → Unseen s.key → Unseen (s.key + s.step)
  unseen_block {s} good h none u row column i has before =
      split (pixel_key m row column) s.key (u row column i has)
      (λ past.
      let q = window_pixel m w row column good i in
      no_slot_pixel p f h row column none (in_spot row column h q.0 q.1 past before) has)

  -- a block within the window that shows it
  pub seen_block : {s : Spot} (h : BlockSpot m s) → is_within s w ≡ true → has_slot (bits_at p h) f ≡ true → exist_in p w f ≡ true
  seen_block {s} h e has =
      let x = bits_to p h.height s.row s.column f has in
      let i : InSpot s x.row x.column = let v = x.within in omega (arith, h.side) in
      (exist_exactly p w f).1 (record { row = x.row; column = x.column; inside = within_pixel s w x.row x.column e i; feature = x.holds })

  -- a block of this feature alone that meets the window
  pub seen_whole : {s : Spot} → is_window m w ≡ true → (h : BlockSpot m s) → is_apart s w ≡ false → bits_at p h ≡ 2 ^ f → exist_in p w f ≡ true
  seen_whole {s} good h e is =
      let x = meets_pixel w good h e in
      (exist_exactly p w f).1 (record { row = x.row; column = x.column; inside = x.window_has; feature = whole_pixel p f h x.row x.column is x.in_spot })

  -- at the end there is none
  pub unseen_end : (x : ℕ) → x ≡ 5 ^ m → Unseen x → exist_in p w f ≡ false
  unseen_end x end u =
      decide (exist_in p w f)
      (λ e.
      let y = (exist_exactly p w f).0 e in
      let low = pixel_key-lt m y.row y.column in
      absurd (u y.row y.column y.inside y.feature (omega arith)))
      (λ e. e)
