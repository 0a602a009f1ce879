-- `measure::block_pixels` meets its contract: a block of the summary's level has its count at the place of its number, a smaller one is tallied.
use mathlib.Core.Path.{◌∙◌}
use native.Mathlib.Omega.{arith}
use Rattle.area.proofs.BlockCount.{side_most, area_fits}
use Rattle.area.proofs.WholeBlock.{bit_one, mixed_node, place_room, place_counted, tally_counted}
use Rattle.area.proofs.measure.block_pixels.Goals as goal

pub overflow_mul-side : goal.overflow_mul-side
overflow_mul-side c = let h = side_most c.requires.2 c.args.list.now.deepest in omega arith

pub bounds-summary-place : goal.bounds-summary-place
bounds-summary-place c = place_room c.requires.2 c.requires.1 (c.if-side-power_of_two.true ∙ c.power_of_two.ensures) _ c.number_of.ensures.0 c.requires.3

pub returns-then-side-power_of_two : goal.returns-then-side-power_of_two
returns-then-side-power_of_two c = place_counted c.requires.2 c.requires.1 (c.if-side-power_of_two.true ∙ c.power_of_two.ensures) _ c.number_of.ensures.0

pub overflow_mul-side-2 : goal.overflow_mul-side-2
overflow_mul-side-2 c = let h = area_fits c.requires.2 c.args.list.now.deepest in omega arith

pub tally_node-requires : goal.tally_node-requires
tally_node-requires c = (mixed_node c.requires.2 c.requires.3.mixed, area_fits c.requires.2 c.args.list.now.deepest, bit_one _ _ c.power_of_two-2.ensures)

pub returns : goal.returns
returns c = tally_counted c.requires.2 _ _ c.power_of_two-2.ensures _ c.tally_node.ensures
