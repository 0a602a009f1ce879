-- `fill::fill_pixels`: the four records after the node's own are pixels, and each is filled.
use native.Mathlib.Omega.{arith}
use Rattle.read.proofs.FourPixels.{turn_nw, turn_sw, turn_se, four_filled, four_there, leaf_ne, leaf_sw, leaf_se}
use Rattle.read.proofs.fill.fill_pixels.Goals as goal

pub overflow_add-at : goal.overflow_add-at
overflow_add-at c =
    let h = four_there c.args.raster.now c.requires in
    omega (arith, c.well_formed)

pub offset_bounds-bits-at : goal.offset_bounds-bits-at
offset_bounds-bits-at c =
    let h = four_there c.args.raster.now c.requires in
    omega (arith, c.well_formed)

pub bounds-bits-at : goal.bounds-bits-at
bounds-bits-at c =
    let h = four_there c.args.raster.now c.requires in
    omega (arith, c.well_formed)

pub feature_of-nw-requires : goal.feature_of-nw-requires
feature_of-nw-requires c =
    (turn_nw c.args.raster.now c.requires).leaf

pub overflow_add-at-2 : goal.overflow_add-at-2
overflow_add-at-2 c =
    let h = four_there c.args.raster.now c.requires in
    omega (arith, c.well_formed)

pub offset_bounds-bits-at-2 : goal.offset_bounds-bits-at-2
offset_bounds-bits-at-2 c =
    let h = four_there c.args.raster.now c.requires in
    omega (arith, c.well_formed)

pub bounds-bits-at-2 : goal.bounds-bits-at-2
bounds-bits-at-2 c =
    let h = four_there c.args.raster.now c.requires in
    omega (arith, c.well_formed)

pub feature_of-ne-requires : goal.feature_of-ne-requires
feature_of-ne-requires c =
    leaf_ne c.args.raster.now c.requires

pub overflow_add-at-3 : goal.overflow_add-at-3
overflow_add-at-3 c =
    let h = four_there c.args.raster.now c.requires in
    omega (arith, c.well_formed)

pub offset_bounds-bits-at-3 : goal.offset_bounds-bits-at-3
offset_bounds-bits-at-3 c =
    let h = four_there c.args.raster.now c.requires in
    omega (arith, c.well_formed)

pub bounds-bits-at-3 : goal.bounds-bits-at-3
bounds-bits-at-3 c =
    let h = four_there c.args.raster.now c.requires in
    omega (arith, c.well_formed)

pub feature_of-sw-requires : goal.feature_of-sw-requires
feature_of-sw-requires c =
    leaf_sw c.args.raster.now c.requires

pub overflow_add-at-4 : goal.overflow_add-at-4
overflow_add-at-4 c =
    let h = four_there c.args.raster.now c.requires in
    omega (arith, c.well_formed)

pub offset_bounds-bits-at-4 : goal.offset_bounds-bits-at-4
offset_bounds-bits-at-4 c =
    let h = four_there c.args.raster.now c.requires in
    omega (arith, c.well_formed)

pub bounds-bits-at-4 : goal.bounds-bits-at-4
bounds-bits-at-4 c =
    let h = four_there c.args.raster.now c.requires in
    omega (arith, c.well_formed)

pub feature_of-se-requires : goal.feature_of-se-requires
feature_of-se-requires c =
    leaf_se c.args.raster.now c.requires

pub fill_pixel-requires-3 : goal.fill_pixel-requires-3
fill_pixel-requires-3 c =
    (turn_sw c.args.raster.now c.requires c.feature_of-nw.ensures c.fill_pixel.ensures c.feature_of-ne.ensures c.fill_pixel-2.ensures).asked

pub fill_pixel-requires-4 : goal.fill_pixel-requires-4
fill_pixel-requires-4 c =
    (turn_se c.args.raster.now c.requires c.feature_of-nw.ensures c.fill_pixel.ensures c.feature_of-ne.ensures c.fill_pixel-2.ensures c.feature_of-sw.ensures c.fill_pixel-3.ensures).asked

pub returns : goal.returns
returns c =
    four_filled c.args.raster.now c.requires
    c.feature_of-nw.ensures
    c.fill_pixel.ensures
    c.feature_of-ne.ensures
    c.fill_pixel-2.ensures
    c.feature_of-sw.ensures
    c.fill_pixel-3.ensures
    c.feature_of-se.ensures
    c.fill_pixel-4.ensures
