-- What the pass over a list keeps of the blocks of a summary: for each block that is a node, where it stands and what was counted there. Only
-- contracts need it; proofs/KeptRows.antt has its laws.
use Rattle.std.specs.Prelude.{ℕ, suc, ◌+◌, ◌^◌, ◌≤◌, ◌<◌, ◌≡◌, false, List, length, get_or, drop, Option, Some, None, unwrap_or}
use Rattle.keys.specs.Key.{root_key}
use Rattle.definitions.specs.Picture.{Picture, one_feature}
use Rattle.definitions.specs.Read.{paired}
use Rattle.definitions.specs.Area.{pixels_with}
use Rattle.list.specs.Check.{one_slot, rest_place, after_node, step_under}
use Rattle.list.specs.Shown.{ShownAt}
use Rattle.summary.specs.declared.kept.KeptBlock.{KeptBlock}
use Rattle.summary.specs.Pass.{NodeThere}

-- 32 counters have the pixels of the node at a place, whichever block the bitstrings show there
pub record RowKept (bits : List ℕ) (area at : ℕ) (counts : List ℕ) : Type 0 where
  pub several : one_slot (get_or bits at 0) ≡ false
  pub long : length counts ≡ 32
  pub counted : (p : Picture) (k r c κ : ℕ)
      → ShownAt p (suc k) r c κ bits at
      → one_feature p (suc k) r c ≡ false
      → area ≡ 4 ^ suc k
      → (f : ℕ)
      → f < 32
      → get_or counts f 0 ≡ pixels_with p (suc k) r c f

-- of each of sixteen blocks, if something is kept of it, its place and its counts are
pub record RowsKept (bits : List ℕ) (area : ℕ) (kept : List (Option KeptBlock)) : Type 0 where
  pub long : length kept ≡ 16
  pub known : (b : ℕ) (block : KeptBlock) → get_or kept b None ≡ Some block → RowKept bits area block.place block.counts

-- a node that has so many blocks of the summary, each of so many pixels: it is as many levels above them
pub record SharedArea (step area share : ℕ) : Type 0 where
  pub up : ℕ
  pub height : ℕ
  pub blocks : share ≡ 4 ^ up
  pub steps : step ≡ 5 ^ (up + suc height)
  pub pixels : area ≡ 4 ^ suc (suc height)
  pub small : area ≤ 4 ^ 10

-- the blocks from number b on are kept
pub record KeepingAsked (keys bits : List ℕ) (kept : List (Option KeptBlock)) (at key own step area b share : ℕ) : Type 0 where
  pub node : NodeThere keys bits at key own step
  pub shared : SharedArea step area share
  pub most : b + share ≤ 16
  pub holds : RowsKept bits area kept

pub record KeepingAnswered (keys bits : List ℕ) (kept : List (Option KeptBlock)) (at key own step area : ℕ) (answer : Option ℕ) : Type 0 where
  pub within : unwrap_or answer 0 ≤ length keys
  pub some : (place : ℕ) → answer ≡ Some place → 0 < place
  pub checked : (k : ℕ) → step ≡ step_under k → unwrap_or answer 0 ≡ rest_place (length keys) (after_node k key own (drop (at + 1) (paired keys bits)))
  pub holds : RowsKept bits area kept

-- some records, as many as are asked for, the first of which is the root's and a node's, with slots below s
pub record FirstNode (s : ℕ) (keys bits : List ℕ) (n : ℕ) : Type 0 where
  pub some : n ≡ 0 → ⊥
  pub in_keys : n ≤ length keys
  pub in-bits : n ≤ length bits
  pub root : get_or keys 0 0 ≡ root_key
  pub small : get_or bits 0 0 < 2 ^ s
  pub several : one_slot (get_or bits 0 0) ≡ false
