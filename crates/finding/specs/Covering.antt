-- How a merge in key order finds out whether waivers cover a block: it keeps the key of the first pixel that no waiver so far has. Only contracts need
-- these; that they say the same as is_covered is proved in proofs/Covered.
use Rattle.std.specs.Prelude.{ℕ, suc, ◌+◌, ◌^◌, ◌≤◌, ◌<◌, ◌≡◌, true, cond, List, [], ◌∷◌, length, take, leb}
use Rattle.keys.specs.Key.{valid_key, height_of, zeros_at_end}
use Rattle.keys.specs.Block.{pixel_key, in_interval}
use Rattle.definitions.specs.Covered.{is_covered}
use Rattle.finding.specs.declared.waivers.Settled.{Settled}

-- the key after a block's last
abbrev pub end_of : ℕ → ℕ → ℕ
end_of m κ = κ + 5 ^ height_of m κ

-- the key of the first pixel of the block with this key: for every zero at its end the first quadrant
unfoldable pub first_pixel : ℕ → ℕ → ℕ
first_pixel m κ = κ + pixel_key (zeros_at_end m κ) 0 0

-- the first pixel that is left: past the waiver, where the waiver has the pixel that was left before
unfoldable pub next_over : ℕ → ℕ → ℕ → ℕ
next_over m next w = cond (in_interval m w next) (first_pixel m (end_of m w)) next

unfoldable pub next_of : ℕ → ℕ → List ℕ → ℕ
next_of m next [] = next
next_of m next (w ∷ ws) = next_of m (next_over m next w) ws

-- the furthest end
abbrev pub further : ℕ → ℕ → ℕ
further a b = cond (leb a b) b a

unfoldable pub furthest_of : ℕ → ℕ → List ℕ → ℕ
furthest_of m far [] = far
furthest_of m far (w ∷ ws) = furthest_of m (further far (end_of m w)) ws

-- where a finding begins: past its end, if some earlier waiver reaches it, and else at its first pixel
unfoldable pub start_of : ℕ → ℕ → ℕ → ℕ
start_of m far κ = cond (leb (end_of m κ) far) far (first_pixel m κ)

-- valid keys, ascending from lo on
pub data Waived (m : ℕ) : ℕ → List ℕ → Type 0 where
  none : {lo : ℕ} → Waived m lo []
  one : {lo w : ℕ} {ws : List ℕ} → lo ≤ w → valid_key m w ≡ true → Waived m (suc w) ws → Waived m lo (w ∷ ws)

-- every waiver begins before x
pub data AllBefore (x : ℕ) : List ℕ → Type 0 where
  no_waiver : AllBefore x []
  waiver : {w : ℕ} {ws : List ℕ} → w < x → AllBefore x ws → AllBefore x (w ∷ ws)

-- the waivers before a place begin before x, and far is their furthest end
pub record WaiversPassed (m : ℕ) (waived : List ℕ) (place far x : ℕ) : Type 0 where
  pub room : place ≤ length waived
  pub before : AllBefore x (take place waived)
  pub furthest : far ≡ furthest_of m 0 (take place waived)

-- a block is settled: whether the waivers cover it, and how far they are passed then
pub record Settles (m : ℕ) (waived : List ℕ) (key : ℕ) (r : Settled) : Type 0 where
  pub hidden : r.hidden ≡ is_covered m waived key
  pub passed : WaiversPassed m waived r.passed r.furthest (end_of m key)
