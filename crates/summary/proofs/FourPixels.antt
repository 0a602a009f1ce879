-- Four turns of the count over a node of four pixels, each a leaf, and what the code may read and add at each of them. Rests on CountTurn.
use Prim.Native.Nat.{ℕ, ◌+◌, ◌<◌}
use mathlib.Core.Path.{◌≡◌, refl}
use mathlib.Core.Bool.{true}
use mathlib.Core.List.{List}
use native.Mathlib.Omega.{arith}
use lib.ListN.{length, get_or}
use Rattle.definitions.specs.Bits.{feature_of}
use Rattle.list.specs.Check.{one_slot}
use Rattle.summary.specs.Count.{with_pixels, CountersFit, NodeAt, NodeCounted}
use Rattle.summary.proofs.CountTurn.{CountReached, reached_none, reached_all, leaf_turn, next_room, counts_room, pixel_leaf}

-- the counters after one leaf more
abbrev pub with_leaf : List ℕ → List ℕ → ℕ → List ℕ
with_leaf bits counts place = with_pixels counts (feature_of (get_or bits place 0)) 1

-- after d leaves, at the place of the next one
pub record Turn (bits counts₀ : List ℕ) (at : ℕ) (counts : List ℕ) (next d : ℕ) : Type 0 where
  pub reached : CountReached bits counts₀ at 4 counts next d
  pub there : next < length bits
  pub leaf : one_slot (get_or bits next 0) ≡ true
  pub fits : CountersFit counts 1

module _ {bits counts₀ : List ℕ} {at : ℕ} (node : NodeAt bits at 4) (room : CountersFit counts₀ 4) where
  turn : {counts : List ℕ} {next d : ℕ} → CountReached bits counts₀ at 4 counts next d → d < 4 → Turn bits counts₀ at counts next d
  turn x h = record { reached = x; there = next_room x node h; leaf = pixel_leaf x node h refl; fits = counts_room x node h room }

  -- one leaf more was counted
  counted : {counts counts' : List ℕ} {next d : ℕ} (next' : ℕ)
      → Turn bits counts₀ at counts next d
      → d < 4
      → counts' ≡ with_leaf bits counts next
      → next' ≡ next + 1
      → CountReached bits counts₀ at 4 counts' next' (d + 1)
  counted next' x h e one = leaf_turn x.reached _ next' h room.long x.leaf e one

  pub turn_nw : Turn bits counts₀ at counts₀ (at + 1) 0
  turn_nw = turn (reached_none bits counts₀ at 4) (omega arith)

  pub turn_ne : {counts : List ℕ} → counts ≡ with_leaf bits counts₀ (at + 1) → Turn bits counts₀ at counts (at + 2) 1
  turn_ne e = turn (counted (at + 2) turn_nw (omega arith) e (omega arith)) (omega arith)

  module _ {one : List ℕ} (nw : one ≡ with_leaf bits counts₀ (at + 1)) where
    pub turn_sw : {counts : List ℕ} → counts ≡ with_leaf bits one (at + 2) → Turn bits counts₀ at counts (at + 3) 2
    turn_sw e = turn (counted (at + 3) (turn_ne nw) (omega arith) e (omega arith)) (omega arith)

    module _ {two : List ℕ} (ne : two ≡ with_leaf bits one (at + 2)) where
      pub turn_se : {counts : List ℕ} → counts ≡ with_leaf bits two (at + 3) → Turn bits counts₀ at counts (at + 4) 3
      turn_se e = turn (counted (at + 4) (turn_sw ne) (omega arith) e (omega arith)) (omega arith)

      pub four_counted : {three four : List ℕ} → three ≡ with_leaf bits two (at + 3) → four ≡ with_leaf bits three (at + 4) → NodeCounted bits at 4 counts₀ four (at + 5)
      four_counted sw se = reached_all (counted (at + 5) (turn_se sw) (omega arith) se (omega arith)) (omega arith)

  -- what stands there can be read before any of it is counted
  pub four_there : at + 4 < length bits
  four_there = (turn_se {one = with_leaf bits counts₀ (at + 1)} refl {two = with_leaf bits (with_leaf bits counts₀ (at + 1)) (at + 2)} refl refl).there
