-- The zeros at the end of a valid key tell how many keys its block has.
use Prim.Native.Nat.{◌+◌}
use mathlib.Core.Path.{ap, ◌∙◌}
use native.Mathlib.Omega.{arith}
use Rattle.keys.proofs.LastZeros.{keys_height}
use Rattle.finding.proofs.OneWaiver.{end_small}
use Rattle.finding.proofs.waivers.end_of.Goals as goal

pub overflow_add-result : goal.overflow_add-result
overflow_add-result c =
    let small = end_small _ _ c.requires.0 c.requires.1 in
    let power = c.keys_in.ensures ∙ keys_height _ _ c.requires.1 in
    record { fits = omega arith }

pub returns : goal.returns
returns c = ap (λ x. c.args.key + x) (c.keys_in.ensures ∙ keys_height _ _ c.requires.1)
