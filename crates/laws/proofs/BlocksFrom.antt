-- The largest blocks of which every pixel passes a test, for any test: what a block gives, that tests which agree on its pixels give the same, and that
-- the keys stand in order. What select gives and the largest blocks of a window are two such lists. Rests on Pixels and AscendingKeys.
use Prim.Native.Nat.{ℕ, zero, suc, ◌+◌, ◌^◌, ◌≤◌, ◌<◌}
use mathlib.Core.Path.{◌≡◌, ap, ap₂, ◌∙◌}
use mathlib.Core.Bool.{Bool, true, false, cond}
use mathlib.Core.List.Memᴰ
use mathlib.Core.List.{List, [], ◌∷◌, ◌++◌, Memᴰ}
use native.Mathlib.Nat.{pow-suc, one-le-pow}
use native.Mathlib.Omega.{arith}
use lib.Dec.{lit<}
use Rattle.keys.specs.Key.{child_key, valid_key}
use Rattle.keys.proofs.Cases.{decide}
use Rattle.keys.specs.Under.{here, nw, ne, sw, se, MapBlock, Every}
use Rattle.keys.proofs.Under.{under_trans}
use Rattle.keys.proofs.Valid.{block_valid}
use Rattle.definitions.specs.Picture.{every_pixel}
use Rattle.definitions.specs.Window.{blocks_from}
use Rattle.laws.proofs.Within.{every_nw, every_ne, every_sw, every_se}
use Rattle.laws.proofs.Pixels.{every_same}
use Rattle.laws.proofs.AscendingKeys.{AscendingKeys, no_key, key, ascending_widen, keys-append}

-- blocks of the map in key order, and apart: each begins where the one before it has ended, or later
pub data BlocksInOrder (m : ℕ) : (from until : ℕ) → List ℕ → Type 0 where
  no_block : {from until : ℕ} → from ≤ until → BlocksInOrder m from until []
  block : {from until k r c κ : ℕ} {blocks : List ℕ} → from ≤ κ → MapBlock m k r c κ → BlocksInOrder m (κ + 5 ^ k) until blocks
      → BlocksInOrder m from until (κ ∷ blocks)

order_widen : {m from until from' until' : ℕ} {blocks : List ℕ} → from' ≤ from → until ≤ until' → BlocksInOrder m from until blocks
    → BlocksInOrder m from' until' blocks
order_widen {from' = from'} {until' = until'} a z (no_block h) = no_block {from = from'} {until = until'} (omega arith)
order_widen {from' = from'} a z (block {k = k} {κ = κ} h b rest) =
    block {from = from'} {κ = κ} (omega arith) b (order_widen {from = κ + 5 ^ k} {from' = κ + 5 ^ k} (omega arith) z rest)

order-append : {m from mid until : ℕ} {a b : List ℕ} → BlocksInOrder m from mid a → BlocksInOrder m mid until b → BlocksInOrder m from until (a ++ b)
order-append {until = until} (no_block h) t = order_widen h (omega arith) t
order-append (block h b s) t = block h b (order-append s t)

one_in_order : {m k r c κ : ℕ} → MapBlock m k r c κ → BlocksInOrder m κ (κ + 5 ^ k) (κ ∷ [])
one_in_order {k = k} {κ = κ} b = block {from = κ} {κ = κ} (omega arith) b (no_block {from = κ + 5 ^ k} {until = κ + 5 ^ k} (omega arith))

-- the keys of blocks in order are valid
pub order_valid : {m from until x : ℕ} {blocks : List ℕ} → BlocksInOrder m from until blocks → Memᴰ x blocks → valid_key m x ≡ true
order_valid (no_block h) i = absurd (Memᴰ.not-nil i)
order_valid {m} (block h b rest) (Memᴰ.head e) = ap (valid_key m) e ∙ (block_valid b).valid
order_valid (block h b rest) (Memᴰ.tail i) = order_valid rest i

-- one key, in the block's interval
one_key : (k κ : ℕ) → AscendingKeys κ (κ + 5 ^ k) (κ ∷ [])
one_key k κ =
    let e : 0 < 5 ^ k = one-le-pow k 5 (lit< tt) in
    key {lo = κ} {x = κ} (omega arith) (no_key {lo = suc κ} {hi = κ + 5 ^ k} (omega arith))

-- the keys of four quadrants, one after the other, ascend in the interval of the block
four_ascend : (k κ : ℕ) {a b c d : List ℕ}
    → AscendingKeys (child_key κ k 1) (child_key κ k 1 + 5 ^ k) a → AscendingKeys (child_key κ k 2) (child_key κ k 2 + 5 ^ k) b
    → AscendingKeys (child_key κ k 3) (child_key κ k 3 + 5 ^ k) c → AscendingKeys (child_key κ k 4) (child_key κ k 4 + 5 ^ k) d
    → AscendingKeys κ (κ + 5 ^ suc k) (a ++ (b ++ (c ++ d)))
four_ascend k κ ha hb hc hd =
    let e = pow-suc 5 k in
    ascending_widen {lo = child_key κ k 1} {lo' = κ} {hi' = κ + 5 ^ suc k} (omega arith) (omega arith)
    (keys-append {mid = child_key κ k 2} (ascending_widen (omega arith) (omega arith) ha)
    (keys-append {mid = child_key κ k 3} (ascending_widen (omega arith) (omega arith) hb)
    (keys-append {mid = child_key κ k 4} (ascending_widen (omega arith) (omega arith) hc) hd)))

module _ (test : ℕ → ℕ → Bool) where
  -- a block of which every pixel passes gives itself
  pub blocks_one : (k r c κ : ℕ) → every_pixel test k r c ≡ true → blocks_from test k r c κ ≡ κ ∷ []
  unfolding blocks_from
  blocks_one zero r c κ e = rw e
  blocks_one (suc k) r c κ e = rw e

  -- a pixel that does not pass gives nothing
  pub blocks_none : (r c κ : ℕ) → every_pixel test 0 r c ≡ false → blocks_from test 0 r c κ ≡ []
  unfolding blocks_from
  blocks_none r c κ e = rw e

  -- a larger block of which some pixel does not gives what its quadrants give
  pub blocks_part : (k r c κ : ℕ) → every_pixel test (suc k) r c ≡ false
      → blocks_from test (suc k) r c κ
      ≡ blocks_from test k r c (child_key κ k 1)
      ++ (blocks_from test k r (c + 2 ^ k) (child_key κ k 2)
      ++ (blocks_from test k (r + 2 ^ k) c (child_key κ k 3) ++ blocks_from test k (r + 2 ^ k) (c + 2 ^ k) (child_key κ k 4)))
  unfolding blocks_from
  blocks_part k r c κ e = rw e

  -- the blocks under a block of the map stand in order
  pub blocks_order : {m : ℕ} (k : ℕ) {r c κ : ℕ} → MapBlock m k r c κ → BlocksInOrder m κ (κ + 5 ^ k) (blocks_from test k r c κ)
  blocks_order zero {r} {c} {κ} b =
      decide (every_pixel test 0 r c)
      (λ e. rw (blocks_one 0 r c κ e) (one_in_order b))
      (λ e. rw (blocks_none r c κ e) (no_block {from = κ} {until = κ + 1} (omega arith)))
  blocks_order (suc k) {r} {c} {κ} b =
      let five = pow-suc 5 k in
      decide (every_pixel test (suc k) r c)
      (λ e. rw (blocks_one (suc k) r c κ e) (one_in_order b))
      (λ e. rw (blocks_part k r c κ e)
      (order_widen {from = child_key κ k 1} {from' = κ} {until' = κ + 5 ^ suc k} (omega arith) (omega arith)
      (order-append {mid = child_key κ k 2} (order_widen (omega arith) (omega arith) (blocks_order k (under_trans b (nw here))))
      (order-append {mid = child_key κ k 3} (order_widen (omega arith) (omega arith) (blocks_order k (under_trans b (ne here))))
      (order-append {mid = child_key κ k 4} (order_widen (omega arith) (omega arith) (blocks_order k (under_trans b (sw here))))
      (blocks_order k (under_trans b (se here))))))))

  -- the keys under any block ascend, and lie in its interval
  pub blocks_ascend : (k r c κ : ℕ) → AscendingKeys κ (κ + 5 ^ k) (blocks_from test k r c κ)
  blocks_ascend zero r c κ =
      decide (every_pixel test 0 r c)
      (λ e. rw (blocks_one 0 r c κ e) (one_key 0 κ))
      (λ e. rw (blocks_none r c κ e) (no_key {lo = κ} {hi = κ + 1} (omega arith)))
  blocks_ascend (suc k) r c κ =
      decide (every_pixel test (suc k) r c)
      (λ e. rw (blocks_one (suc k) r c κ e) (one_key (suc k) κ))
      (λ e. rw (blocks_part k r c κ e)
      (four_ascend k κ
      (blocks_ascend k r c (child_key κ k 1))
      (blocks_ascend k r (c + 2 ^ k) (child_key κ k 2))
      (blocks_ascend k (r + 2 ^ k) c (child_key κ k 3))
      (blocks_ascend k (r + 2 ^ k) (c + 2 ^ k) (child_key κ k 4))))

-- tests that agree on the block's pixels give the same blocks
pub blocks_same : (test other : ℕ → ℕ → Bool) (k r c κ : ℕ) → Every (λ row column. test row column ≡ other row column) k r c
    → blocks_from test k r c κ ≡ blocks_from other k r c κ
unfolding blocks_from
blocks_same test other zero r c κ same = ap (λ all. cond all (κ ∷ []) []) (every_same test other 0 r c same)
blocks_same test other (suc k) r c κ same =
    ap₂ (λ all rest. cond all (κ ∷ []) rest) (every_same test other (suc k) r c same)
    (ap₂ (λ a rest. a ++ rest) (blocks_same test other k r c (child_key κ k 1) (every_nw same))
    (ap₂ (λ b rest. b ++ rest) (blocks_same test other k r (c + 2 ^ k) (child_key κ k 2) (every_ne same))
    (ap₂ (λ d rest. d ++ rest) (blocks_same test other k (r + 2 ^ k) c (child_key κ k 3) (every_sw same))
    (blocks_same test other k (r + 2 ^ k) (c + 2 ^ k) (child_key κ k 4) (every_se same)))))
