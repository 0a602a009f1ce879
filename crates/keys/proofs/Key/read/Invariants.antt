-- What the loop of `Key::read` keeps: row and column are those of the digits that are read, and the number is a key exactly when no digit that is
-- left is 0.
use Prim.Native.Nat.{ℕ, ◌-◌, ◌/◌, ◌%◌, ◌^◌, ◌≤◌, ◌<◌}
use mathlib.Core.Path.{◌≡◌}
use lib.Dec.{eqb}
use Rattle.keys.specs.Key.{valid_key, level_of}
use Rattle.keys.specs.Block.{row_of, column_of}
use Rattle.keys.proofs.Key.read.Given as goal

pub record Passed (m κ rest row column i : ℕ) : Type 0 where
  pub within : i ≤ m
  pub left : rest ≡ κ / 5 ^ i
  pub row_small : row < 2 ^ i
  pub column_small : column < 2 ^ i
  pub row_found : row ≡ row_of i (κ % 5 ^ i)
  pub column_found : column ≡ column_of i (κ % 5 ^ i)
  pub below : rest < 5 ^ (m - i)
  pub validity : valid_key m κ ≡ eqb (level_of (m - i) rest) (m - i)

abbrev pub invariant-loop-height : goal.invariant-loop-height
invariant-loop-height l =
    Passed l.m l.number l.rest l.row l.column l.height
