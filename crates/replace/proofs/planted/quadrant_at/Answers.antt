-- `planted::quadrant_at` meets its contract.
use Prim.Native.Nat.{◌*◌}
use native.Mathlib.Omega.{arith}
use Rattle.replace.proofs.FamilyRead.{multiple_le}
use Rattle.replace.proofs.ExchangeLevel.{parent_before, digit_read}
use Rattle.replace.proofs.planted.quadrant_at.Goals as goal

pub overflow_mul-result : goal.overflow_mul-result
overflow_mul-result c = let h = multiple_le c.args.key c.args.step in omega arith

pub overflow_mul-result-2 : goal.overflow_mul-result-2
overflow_mul-result-2 c = let h = multiple_le c.args.key (c.args.step * 5) in omega arith

pub overflow_sub-result : goal.overflow_sub-result
overflow_sub-result c = parent_before c.args.key c.args.step c.requires.1

pub returns : goal.returns
returns c = digit_read c.args.key c.args.step
