-- What the counting of one feature's pixels asks and gives: under a node that the bitstrings show, and in a block of several features at which the walk
-- stands. Only contracts need it; proofs/TallyTurn.antt and WholeBlock.antt have its laws.
use Rattle.std.specs.Prelude.{ℕ, suc, ◌+◌, ◌^◌, ◌≡◌, false, List, length}
use Rattle.keys.specs.Key.{height_of}
use Rattle.keys.specs.Block.{row_of, column_of}
use Rattle.definitions.specs.Picture.{Picture, one_feature}
use Rattle.definitions.specs.List.{list_of}
use Rattle.definitions.specs.Area.{pixels_with, summary_of}
use Rattle.list.specs.Shown.{ShownAt}
use Rattle.walk.specs.declared.Spot.{Spot}
use Rattle.area.specs.declared.tally.Measure.{Measure}

-- the block's pixels of the feature, and the place after its list
pub record BlockTallied (p : Picture) (k r c κ at f : ℕ) (t : Measure) : Type 0 where
  pub counted : t.pixels ≡ pixels_with p k r c f
  pub ends : t.next ≡ at + length (list_of p k r c κ)

-- that holds of whichever node of so many pixels the bitstrings show
pub record NodeTallied (bits : List ℕ) (at area f : ℕ) (t : Measure) : Type 0 where
  pub holds : (p : Picture) (k r c κ : ℕ)
      → ShownAt p (suc k) r c κ bits at
      → one_feature p (suc k) r c ≡ false
      → area ≡ 4 ^ suc k
      → BlockTallied p (suc k) r c κ at f t

-- the block has several features, and the bitstrings show it from a place on
pub record MixedAt (m : ℕ) (p : Picture) (bits : List ℕ) (t : Spot) (from : ℕ) : Type 0 where
  pub shown : ShownAt p (height_of m t.key) (row_of m t.key) (column_of m t.key) t.key bits from
  pub several : one_feature p (height_of m t.key) (row_of m t.key) (column_of m t.key) ≡ false

-- some picture has such a block there, and the summary is its own
pub record WholeAsked (m s : ℕ) (bits summary : List ℕ) (t : Spot) (from : ℕ) : Type 0 where
  pub picture : Picture
  pub mixed : MixedAt m picture bits t from
  pub summary_is : summary ≡ summary_of m s picture

-- of whichever picture that is so, the block has so many pixels of the feature
pub record WholeCounted (m s : ℕ) (bits summary : List ℕ) (t : Spot) (from f pixels : ℕ) : Type 0 where
  pub holds : (p : Picture)
      → MixedAt m p bits t from
      → summary ≡ summary_of m s p
      → pixels ≡ pixels_with p (height_of m t.key) (row_of m t.key) (column_of m t.key) f
