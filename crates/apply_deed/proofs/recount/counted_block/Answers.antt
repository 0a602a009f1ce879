-- `counted_block` meets its contract: the key is valid, and has the summary's height.
use mathlib.Core.Path.{◌∙◌, ap}
use Rattle.keys.specs.Key.{valid_key}
use Rattle.summary.proofs.BlockNumbers.{key_valid}
use Rattle.apply_deed.proofs.Recounted.{counted_told}
use Rattle.apply_deed.proofs.recount.counted_block.Goals as goal

pub block-square-requires : goal.block-square-requires
block-square-requires c =
    let s = c in
    (s.requires.0, ap (λ x. valid_key s.args.m x) c.key_of-key.ensures ∙ key_valid s.args.m s.args.b s.requires.1)

pub returns : goal.returns
returns c =
    let square = c.block-square.ensures in
    let s = c in
    counted_told s.args.m s.args.b c.key_of-key.ensures square.0 square.1 c.height_of-height.ensures
