-- An earlier waiver reaches the end, or the block begins at its first pixel.
use Prim.Native.Nat.{◌-◌}
use mathlib.Core.Path.{◌∙◌}
use native.Mathlib.Omega.{arith}
use Rattle.keys.specs.Key.{height_of}
use Rattle.keys.proofs.LastZeros.{keys_height}
use Rattle.keys.proofs.Powers.{five_pos}
use Rattle.finding.proofs.OneWaiver.{first_quarter, start_reached, start_short}
use Rattle.finding.proofs.waivers.start.Goals as goal

pub returns-then-end-furthest : goal.returns-then-end-furthest
returns-then-end-furthest c = start_reached _ _ _ (omega (arith, c.if-end-furthest.true, c.requires.1))

pub overflow_sub-result-2 : goal.overflow_sub-result-2
overflow_sub-result-2 c = let some = five_pos (height_of c.args.m c.args.key) in omega (arith, c.requires.1)

pub returns : goal.returns
returns c =
    let is = keys_height c.args.m c.args.key c.requires.0 in
    first_quarter c.args.m c.args.key (c.args.end - c.args.key) (omega (arith, c.requires.1)) ∙ start_short _ _ _ (omega (arith, c.if-end-furthest.false, c.requires.1))
