-- A paint of a single block, as the crews send them in (specification S20). Rests on nothing.
use Rattle.std.specs.Prelude.{ℕ}

pub record BlockPaint : Type 0 where
  pub key : ℕ
  pub feature : ℕ
