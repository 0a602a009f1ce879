-- The slices of a table narrowed to its rows. Only contracts need these.
use Rattle.std.specs.Prelude.{ℕ, ◌≡◌, List, take}

pub record NarrowedTo (rows : ℕ) (offices ids waived offices' ids' waived' : List ℕ) : Type 0 where
  pub narrow_offices : offices' ≡ take rows offices
  pub narrow_ids : ids' ≡ take rows ids
  pub narrow_waived : waived' ≡ take rows waived
