-- The steps of the walk: a block apart from the window is passed, a block that the window cuts is entered, and in both no pixel of the window is
-- missed and no block within the window is broken into. Rests on Lies and the laws of blocks.
use Prim.Native.Nat.{ℕ, zero, suc, ◌+◌, ◌-◌, ◌/◌, ◌^◌, ◌≤◌, ◌<◌}
use mathlib.Core.Path.{◌≡◌, sym, ap, ◌∙◌, subst}
use mathlib.Core.Bool.{true, false}
use native.Mathlib.Nat.{pow-suc}
use native.Mathlib.Omega.{arith}
use Rattle.keys.specs.Key.{child_key}
use Rattle.keys.specs.Block.{pixel_key}
use Rattle.keys.proofs.Cases.{split}
use Rattle.keys.proofs.Powers.{five_pos, five_le}
use Rattle.keys.specs.Under.{MapBlock, is_nw}
use Rattle.keys.proofs.Interval.{SameBlock, same_block, within, intervals-apart, one_block, no_key_between}
use Rattle.keys.proofs.Parent.{quadrant_of}
use Rattle.keys.proofs.Pixel.{pixel_back, pixel_block}
use Rattle.definitions.specs.Window.{is_window}
use Rattle.definitions.specs.declared.Window.{Window}
use Rattle.walk.specs.declared.Spot.{Spot}
use Rattle.std.specs.Prelude.{Option, Some, None}
use Rattle.walk.specs.Walk.{BlockSpot, Follows, is_within, is_apart, first_quadrant, Clear, Parting, Walking}
use Rattle.walk.proofs.Lies.{within_inside, not_within, not_apart, InSpot, apart_pixel, window_pixel}

-- two spots with one key have the same numbers
pub one_spot : {m : ℕ} {s t : Spot} (h : BlockSpot m s) (i : BlockSpot m t) → s.key ≡ t.key
    → SameBlock h.height s.row s.column s.key i.height t.row t.column t.key
one_spot h i e = one_block h.block i.block e

-- and the same side and step
pub one_side : {m : ℕ} {s t : Spot} → BlockSpot m s → BlockSpot m t → s.key ≡ t.key → (s.side ≡ t.side) × (s.step ≡ t.step)
one_side {s = s} {t = t} h i e =
    let same = one_spot {s = s} {t = t} h i e in
    (h.side ∙ ap (λ (k : ℕ). 2 ^ k) same.heights ∙ sym i.side, h.step ∙ ap (λ (k : ℕ). 5 ^ k) same.heights ∙ sym i.step)

-- a block has keys, and they are the map's
pub some_keys : {m : ℕ} {s : Spot} → BlockSpot m s → (0 < s.step) × (s.key + s.step ≤ 5 ^ m)
some_keys h = let p = five_pos h.height in let w = within h.block in omega (arith, h.step)

-- so they are few
pub few_keys : {m : ℕ} {s : Spot} → m ≤ 10 → BlockSpot m s → s.key + s.step ≤ 9765625
few_keys low h = let k = some_keys h in let five = five_le 10 low in omega arith

-- a pixel lies in a block exactly when its key is among the block's
pub in_spot : {m : ℕ} {s : Spot} (row column : ℕ) → BlockSpot m s → row < 2 ^ m → column < 2 ^ m
    → s.key ≤ pixel_key m row column
    → pixel_key m row column < s.key + s.step
    → InSpot s row column
in_spot row column h low narrow from until =
    let i = pixel_back row column h.block low narrow (record { from = from; until = omega (arith, h.step) }) in
    omega (arith, h.side)

-- a block apart from the window holds no pixel of it
pub clear_apart : {m : ℕ} (w : Window) {s : Spot} → is_window m w ≡ true → BlockSpot m s → is_apart s w ≡ true → Clear m w s.key (s.key + s.step)
clear_apart {m} w {s} good h e row column i from until =
    let p = window_pixel m w row column good i in
    apart_pixel s w row column e (in_spot row column h p.0 p.1 from until) i

-- where the walk can stand at a block, it can stand after it
pub parting_after : {m : ℕ} {w : Window} {s : Spot} → Walking m w s → Parting m w (s.key + s.step)
parting_after {s} h t i e lo hi =
    intervals-apart h.stands.block i.block
    (λ u. let v = within u in omega (arith, h.stands.step, i.step))
    (λ u. let v = within u in
    split t.key s.key
    (λ before. h.parting t i e before (omega (arith, some_keys h.stands)))
    (λ after. let same = one_side {s = s} {t = t} h.stands i (omega arith) in omega arith))
    (λ past. omega (arith, h.stands.step))
    (λ past. omega (arith, i.step, some_keys h.stands))

-- or after a block around it
pub parting_whole : {m : ℕ} {w : Window} {s v : Spot} → Walking m w s → BlockSpot m v → v.key ≤ s.key → s.key + s.step ≤ v.key + v.step → Parting m w (v.key + v.step)
parting_whole {s = s} {v = v} h j from until t i e lo hi =
    intervals-apart j.block i.block
    (λ u. let x = within u in omega (arith, j.step, i.step))
    (λ u. let x = within u in
    split t.key s.key
    (λ before. h.parting t i e before (omega (arith, some_keys h.stands)))
    (λ after. let same = one_side {s = s} {t = t} h.stands i (omega arith) in omega (arith, some_keys h.stands)))
    (λ past. omega (arith, j.step))
    (λ past. omega (arith, i.step, some_keys h.stands))

-- a block with its quadrants
pub record Parent (m : ℕ) (s : Spot) : Type 0 where
  pub height : ℕ
  pub block : MapBlock m (suc height) s.row s.column s.key
  pub side : s.side ≡ 2 ^ suc height
  pub step : s.step ≡ 5 ^ suc height

parent_by : {m : ℕ} (s : Spot) (k : ℕ) → MapBlock m k s.row s.column s.key → s.side ≡ 2 ^ k → s.step ≡ 5 ^ k → (s.side ≡ 1 → ⊥) → Parent m s
parent_by s zero b e f n = absurd (n e)
parent_by s (suc k) b e f n = record { height = k; block = b; side = e; step = f }

-- a block that the window cuts is no pixel
pub cut_parent : {m : ℕ} (w : Window) {s : Spot} → BlockSpot m s → is_within s w ≡ false → is_apart s w ≡ false → Parent m s
cut_parent w {s = s} h e f =
    parent_by s h.height h.block h.side h.step
    (λ one. let meets = not_apart s w f in not_within s w e (omega arith))

-- the first quadrant is a block
pub first_stands : {m : ℕ} {s : Spot} → Parent m s → BlockSpot m (first_quadrant s)
first_stands {s = s} p =
    let two = pow-suc 2 p.height in
    let five = pow-suc 5 p.height in
    let half : s.side / 2 ≡ 2 ^ p.height = omega (arith, p.side) in
    let fifth : s.step / 5 ≡ 5 ^ p.height = omega (arith, p.step) in
    record { height = p.height; block = same_block (quadrant_of p.block is_nw) (omega arith); side = half; step = fifth }

-- with fewer keys
pub first_less : {m : ℕ} {s : Spot} → BlockSpot m s → (first_quadrant s).step < s.step
first_less h = let k = some_keys h in omega (arith, k.0)

-- its key is the next
first_key : {m : ℕ} {s : Spot} → (p : Parent m s) → s.key + s.step / 5 ≡ child_key s.key p.height 1
first_key {s = s} p = let five = pow-suc 5 p.height in omega (arith, p.step)

-- no block's key lies between a block's and its first quadrant's
pub nothing_between : {m k r c κ : ℕ} {s : Spot} → Parent m s → MapBlock m k r c κ → s.key < κ → κ < s.key + s.step / 5 → ⊥
nothing_between {s = s} p b after before = no_key_between p.block b after (let e = first_key p in omega arith)

-- a block that is entered loses no pixel of the window
pub clear_first : {m : ℕ} (w : Window) {s : Spot} → is_window m w ≡ true → Parent m s → Clear m w s.key (s.key + s.step / 5)
clear_first {m} w {s} good p row column i from until =
    let q = window_pixel m w row column good i in
    let b = pixel_block m row column q.0 q.1 in
    split s.key (pixel_key m row column)
    (λ after. nothing_between p b after until)
    (λ before. let same = one_block p.block b (omega arith) in omega arith)

-- and where the window does not hold it, the walk can stand at its first quadrant
pub parting_first : {m : ℕ} {w : Window} {s : Spot} → Walking m w s → Parent m s → is_within s w ≡ false → Parting m w (s.key + s.step / 5)
parting_first {m} {w} {s} h p e t i f lo hi =
    split t.key s.key
    (λ before. h.parting t i f before (omega arith))
    (λ from. split s.key t.key
    (λ after. nothing_between p i.block after lo)
    (λ same.
    let numbers = one_spot {s = s} {t = t} h.stands i (omega arith) in
    let sides = one_side {s = s} {t = t} h.stands i (omega arith) in
    let j = within_inside t w f in
    not_within s w e (omega arith)))

-- after a block fewer keys are left
pub rises : {m : ℕ} {s : Spot} → BlockSpot m s → (x : ℕ) → s.key < x → 5 ^ m - x < 5 ^ m - s.key
rises h x after = let k = some_keys h in omega arith

-- the walk begins at the root
pub walking_root : (m : ℕ) (w : Window) (s : Spot) → BlockSpot m s → s.key ≡ 0 → Walking m w s
walking_root m w s h e = record { stands = h; parting = λ t i f before after. omega arith }

-- and goes on after each block
pub walking_after : {m : ℕ} {w : Window} {s : Spot} → Walking m w s → (t : Spot) → BlockSpot m t → t.key ≡ s.key + s.step → Walking m w t
walking_after {m} {w} h t i e = record { stands = i; parting = subst (λ (y : ℕ). Parting m w y) (sym e) (parting_after h) }

pub walking_whole : {m : ℕ} {w : Window} {s v : Spot} → Walking m w s → BlockSpot m v → (v.key ≤ s.key) × (s.key + s.step ≤ v.key + v.step)
    → (t : Spot) → BlockSpot m t → t.key ≡ v.key + v.step → Walking m w t
walking_whole {m} {w} h j holds t i e = record { stands = i; parting = subst (λ (y : ℕ). Parting m w y) (sym e) (parting_whole h j holds.0 holds.1) }
