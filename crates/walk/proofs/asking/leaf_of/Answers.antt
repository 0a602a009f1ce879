-- `asking::leaf_of` meets its contract: a valid key has one block, whose height is what its level leaves.
use mathlib.Core.Path.{refl}
use native.Mathlib.Omega.{arith}
use Rattle.keys.proofs.Digits.{level_height}
use Rattle.walk.proofs.Told.{spot_of_key}
use Rattle.walk.proofs.asking.leaf_of.Goals as goal

pub overflow_sub-m : goal.overflow_sub-m
overflow_sub-m c = let s = c.before in let e = level_height s.args.m s.args.leaf in omega (arith, s.requires.2)

pub returns : goal.returns
returns c =
    let s = c.before.before in
    (spot_of_key _ s.requires.1 c.block-square.ensures s.requires.2 c.power_of_five-step.ensures, refl)
