-- What the passes over a delivery ask and answer, for the contracts of src/ alone: where the leaves of a block end, how a picture parts into them,
-- and what is counted and written of a block. Rests on the frame of build.
use Rattle.std.specs.Prelude.{Option, None, Some, ℕ, zero, suc, ◌+◌, ◌^◌, ◌≤◌, ◌<◌, ◌≡◌, true, cond, List, length, get_or, ltb, eqb}
use Rattle.keys.specs.Key.{child_key, slot_limit, all_keys}
use Rattle.definitions.specs.Picture.{Picture, one_feature}
use Rattle.build.specs.BuildBlocks.{Tallied, Fitting, Written}
use Rattle.keys.specs.declared.span.KeySpan.{KeySpan}
use Rattle.leaves.specs.declared.count.Pass.{Pass}
use Rattle.leaves.specs.declared.lay.Lain.{Lain}

-- the place after the leaves of the block of height k with key κ, the first of which is at a place; where its leaves are not there, a place more
-- than there are
unfoldable pub leaves_end : (keys : List ℕ) (k κ at : ℕ) → ℕ
leaves_end keys zero κ at = cond (ltb at (length keys)) (cond (eqb (get_or keys at 0) κ) (at + 1) (length keys + 1)) (length keys + 1)
leaves_end keys (suc k) κ at =
    cond (ltb at (length keys))
    (cond (eqb (get_or keys at 0) κ)
    (at + 1)
    (leaves_end keys k (child_key κ k 4) (leaves_end keys k (child_key κ k 3) (leaves_end keys k (child_key κ k 2) (leaves_end keys k (child_key κ k 1) at)))))
    (length keys + 1)

-- from a place on stand the leaves of a block, each with the feature that the picture has in it
pub data Parted (p : Picture) (keys features : List ℕ) : ℕ → ℕ → ℕ → ℕ → ℕ → Type 0 where
  leaf : {k r c κ at : ℕ} → at < length keys → get_or keys at 0 ≡ κ → one_feature p k r c ≡ true → p r c ≡ get_or features at 0
      → Parted p keys features k r c κ at
  four : {k r c κ at : ℕ} → at < length keys → (get_or keys at 0 ≡ κ → ⊥)
      → Parted p keys features k r c (child_key κ k 1) at
      → Parted p keys features k r (c + 2 ^ k) (child_key κ k 2) (leaves_end keys k (child_key κ k 1) at)
      → Parted p keys features k (r + 2 ^ k) c (child_key κ k 3) (leaves_end keys k (child_key κ k 2) (leaves_end keys k (child_key κ k 1) at))
      → Parted p keys features k (r + 2 ^ k) (c + 2 ^ k) (child_key κ k 4)
      (leaves_end keys k (child_key κ k 3) (leaves_end keys k (child_key κ k 2) (leaves_end keys k (child_key κ k 1) at)))
      → Parted p keys features (suc k) r c κ at

-- the keys of a pixel, and of a block of 2 by 2 pixels
abbrev pub pixel_span : (key : ℕ) → KeySpan
pixel_span key = record { key = key; step = 1 }

abbrev pub quad_span : (key : ℕ) → KeySpan
quad_span key = record { key = key; step = 5 }

-- a block by its keys, and leaves whose features are slots
pub record LeavesAsked (keys features : List ℕ) (span : KeySpan) : Type 0 where
  pub height : ℕ
  pub deep : height ≤ 10
  pub step_is : span.step ≡ 5 ^ height
  pub key_fits : span.key + span.step ≤ all_keys
  pub same : length features ≡ length keys
  pub few : (i : ℕ) → get_or features i 0 < slot_limit

-- the leaf at a place is the block
abbrev pub leaf_pass : (features : List ℕ) (at : ℕ) → Pass
leaf_pass features at = record { tally = record { bits = 2 ^ get_or features at 0; count = 1 }; next = at + 1 }

-- the leaves of a block were passed; where they are its leaves, these are its bits and its records. Its height is what its keys say
pub record LeavesPassed (keys features : List ℕ) (span : KeySpan) (at : ℕ) (pass : Pass) : Type 0 where
  pub next-is : (k : ℕ) → span.step ≡ 5 ^ k → pass.next ≡ leaves_end keys k span.key at
  pub small : (k : ℕ) → span.step ≡ 5 ^ k → pass.tally.count ≤ 5 ^ k
  pub tally : (p : Picture) (k r c : ℕ) → span.step ≡ 5 ^ k → Parted p keys features k r c span.key at → Tallied p k r c pass.tally.bits pass.tally.count

-- the leaves of a block are not there
abbrev pub LeavesLost : (keys : List ℕ) (span : KeySpan) (at : ℕ) → Type 0
LeavesLost keys span at = (k : ℕ) → span.step ≡ 5 ^ k → length keys + 1 ≡ leaves_end keys k span.key at

-- they were looked for
abbrev pub LeavesSought : (keys features : List ℕ) (span : KeySpan) (at : ℕ) → Option Pass → Type 0
LeavesSought keys features span at None = LeavesLost keys span at
LeavesSought keys features span at (Some pass) = LeavesPassed keys features span at pass

-- the leaves of a block begin at a place, and there is room for the records below it
pub record LayAsked (leafKeys leafFeatures : List ℕ) (span : KeySpan) (at place : ℕ) (keys bits : List ℕ) : Type 0 where
  pub asked : LeavesAsked leafKeys leafFeatures span
  pub picture : Picture
  pub row : ℕ
  pub column : ℕ
  pub parted : Parted picture leafKeys leafFeatures asked.height row column span.key at
  pub fits : Fitting picture asked.height row column span.key place keys bits

-- what is laid of a block that is the leaf at a place
abbrev pub leaf_lain : (features : List ℕ) (at place : ℕ) → Lain
leaf_lain features at place = record { below = record { bits = 2 ^ get_or features at 0; next = place + 1 }; end = at + 1 }

-- the leaves of a block were passed, and the records below it written
pub record BlockLaid (leafKeys leafFeatures : List ℕ) (span : KeySpan) (at place : ℕ) (keys bits keys' bits' : List ℕ) (lain : Lain) : Type 0 where
  pub end_is : (k : ℕ) → span.step ≡ 5 ^ k → lain.end ≡ leaves_end leafKeys k span.key at
  pub written : (p : Picture) (k r c : ℕ) → span.step ≡ 5 ^ k → Parted p leafKeys leafFeatures k r c span.key at
      → Written p k r c span.key place keys bits keys' bits' lain.below.bits lain.below.next
