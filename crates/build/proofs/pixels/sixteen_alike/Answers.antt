-- `pixels::sixteen_alike`: four rows of the block are the word of the first pixel. Rests on Alike.
use Rattle.std.proofs.Common.{◌+◌, ◌*◌, ◌<◌, length, sym, ◌∙◌, arith}
use Rattle.keys.specs.Key.{slot_limit}
use Rattle.build.specs.BuildBlocks.{Inside}
use Rattle.build.proofs.Alike.{further_inside, all_four_equal, sixteen_one}
use Rattle.build.proofs.pixels.sixteen_alike.Goals as goal

-- the last of the sixteen places
last : {raster : _} {side row column : _} → Inside raster side 2 row column → row * side + column + side + side + side + 3 < length raster
last b = let h = further_inside b 3 3 (omega arith) (omega arith) in omega arith

pub word-b-requires : goal.word-b-requires
word-b-requires c = let h = last c.requires in omega arith

pub word-c-requires : goal.word-c-requires
word-c-requires c = let h = last c.requires in omega arith

pub word-d-requires : goal.word-d-requires
word-d-requires c = let h = last c.requires in omega arith

pub returns : goal.returns
returns c t =
    let f = c.from-all.result in
    let place = c.args.row * c.args.side + c.args.column in
    let small : f < slot_limit = omega (arith, c.from-all.ensures, c.requires.features place) in
    let h = all_four_equal c.word-a.result c.word-b.result c.word-c.result c.word-d.result (f * 16843009) t in
    sixteen_one c.args.side c.args.raster.now c.args.row c.args.column c.requires.features f small
    (sym c.word-a.ensures ∙ h.0)
    (sym c.word-b.ensures ∙ h.1)
    (sym c.word-c.ensures ∙ h.2)
    (sym c.word-d.ensures ∙ h.3)
