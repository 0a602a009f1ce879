-- What the counting of a block asks and does: counters with room for the block's pixels, the node that bitstrings show, and the counters afterwards.
-- Only contracts need it; proofs/CountTurn.antt has its laws.
use Rattle.std.specs.Prelude.{ℕ, suc, ◌+◌, ◌^◌, ◌<◌, ◌≡◌, false, List, length, get_or, set}
use Rattle.definitions.specs.Picture.{Picture, one_feature}
use Rattle.definitions.specs.List.{list_of}
use Rattle.definitions.specs.Area.{pixels_with}
use Rattle.list.specs.Shown.{ShownAt}

-- one counter is more by so many pixels
abbrev pub with_pixels : List ℕ → ℕ → ℕ → List ℕ
with_pixels counts f pixels = set counts f (get_or counts f 0 + pixels)

-- there are 32 counters, and each can take so many pixels more
pub record CountersFit (counts : List ℕ) (area : ℕ) : Type 0 where
  pub long : length counts ≡ 32
  pub fits : (f : ℕ) → f < 32 → get_or counts f 0 + area < 2 ^ 32

-- the bitstrings show some block that has several features, and so is no pixel, with so many pixels
pub record NodeAt (bits : List ℕ) (at area : ℕ) : Type 0 where
  pub picture : Picture
  pub height : ℕ
  pub row : ℕ
  pub column : ℕ
  pub key : ℕ
  pub shown : ShownAt picture (suc height) row column key bits at
  pub several : one_feature picture (suc height) row column ≡ false
  pub pixels : area ≡ 4 ^ suc height

-- each counter is more by the block's pixels of its feature, and the block's list ends before the next place
pub record BlockCounted (p : Picture) (k r c κ at : ℕ) (before after : List ℕ) (next : ℕ) : Type 0 where
  pub counts : (f : ℕ) → f < 32 → get_or after f 0 ≡ get_or before f 0 + pixels_with p k r c f
  pub ends : next ≡ at + length (list_of p k r c κ)

-- that holds of whichever such block the bitstrings show
pub record NodeCounted (bits : List ℕ) (at area : ℕ) (before after : List ℕ) (next : ℕ) : Type 0 where
  pub long : length after ≡ length before
  pub holds : (p : Picture) (k r c κ : ℕ)
      → ShownAt p (suc k) r c κ bits at
      → one_feature p (suc k) r c ≡ false
      → area ≡ 4 ^ suc k
      → BlockCounted p (suc k) r c κ at before after next
