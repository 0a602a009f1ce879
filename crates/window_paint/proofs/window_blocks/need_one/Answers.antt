-- `window_blocks::need_one` meets its contract: the block's content and what closes its entry.
use Rattle.std.proofs.Common.{refl, ◌∙◌, ap, ◌^◌, arith}
use Rattle.edit.proofs.ContentLength.{part_there}
use Rattle.edit.proofs.ContentStands.{standing_count}
use Rattle.window_paint.proofs.WindowNeeds.{needs_one}
use Rattle.window_paint.proofs.WindowSearch.{found_after}
use Rattle.window_paint.proofs.window_blocks.need_one.Goals as goal

pub power_of_five-step-requires : goal.power_of_five-step-requires
power_of_five-step-requires c = omega (arith, c.requires.low)

pub stand_from-standing-requires : goal.stand_from-standing-requires
stand_from-standing-requires c = let a = c.requires in (a.block.valid, c.power_of_five-step.ensures ∙ ap (λ x. 5 ^ x) a.height_is, a.near)

pub places-requires : goal.places-requires
places-requires c =
    let count = standing_count _ _ _ c.stand_from-standing.ensures in
    let there = part_there c.requires.block.own _ c.requires.block.valid in
    omega (arith, count, c.content_count.ensures, there, c.well_formed)

pub returns : goal.returns
returns c =
    let b = c.requires.block in
    let found = c.stand_from-standing.ensures in
    (needs_one b.own _ b.valid refl (c.content_count.ensures ∙ standing_count _ _ _ found) c.places.ensures, found_after b found c.place_found.ensures _)
