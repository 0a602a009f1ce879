-- A quarter of the power less one has every digit 1.
use native.Mathlib.Omega.{arith}
use Rattle.keys.specs.Key.{zeros_at_end}
use Rattle.keys.proofs.Powers.{five_pos}
use Rattle.finding.proofs.OneWaiver.{first_quarter}
use Rattle.finding.proofs.waivers.first_pixel.Goals as goal

pub overflow_sub-result : goal.overflow_sub-result
overflow_sub-result c = let z = five_pos (zeros_at_end c.args.m c.args.key) in omega (arith, c.keys_in.ensures)

pub returns : goal.returns
returns c = first_quarter _ _ _ c.keys_in.ensures
