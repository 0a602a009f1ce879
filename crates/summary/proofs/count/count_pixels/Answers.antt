-- The four records after the node's own are leaves, and each adds its pixel.
use native.Mathlib.Omega.{arith}
use Rattle.summary.proofs.FourPixels.{turn_nw, turn_ne, turn_sw, turn_se, four_counted, four_there}
use Rattle.summary.proofs.count.count_pixels.Goals as goal

pub overflow_add-nw : goal.overflow_add-nw
overflow_add-nw c =
    let h = four_there c.requires.0 c.requires.1 in
    omega (arith, c.well_formed)

pub offset_bounds-bits-at : goal.offset_bounds-bits-at
offset_bounds-bits-at c =
    let h = four_there c.requires.0 c.requires.1 in
    omega (arith, c.well_formed)

pub bounds-bits-at : goal.bounds-bits-at
bounds-bits-at c =
    let h = four_there c.requires.0 c.requires.1 in
    omega (arith, c.well_formed)

pub overflow_add-ne : goal.overflow_add-ne
overflow_add-ne c =
    let h = four_there c.requires.0 c.requires.1 in
    omega (arith, c.well_formed)

pub offset_bounds-bits-at-2 : goal.offset_bounds-bits-at-2
offset_bounds-bits-at-2 c =
    let h = four_there c.requires.0 c.requires.1 in
    omega (arith, c.well_formed)

pub bounds-bits-at-2 : goal.bounds-bits-at-2
bounds-bits-at-2 c =
    let h = four_there c.requires.0 c.requires.1 in
    omega (arith, c.well_formed)

pub overflow_add-sw : goal.overflow_add-sw
overflow_add-sw c =
    let h = four_there c.requires.0 c.requires.1 in
    omega (arith, c.well_formed)

pub offset_bounds-bits-at-3 : goal.offset_bounds-bits-at-3
offset_bounds-bits-at-3 c =
    let h = four_there c.requires.0 c.requires.1 in
    omega (arith, c.well_formed)

pub bounds-bits-at-3 : goal.bounds-bits-at-3
bounds-bits-at-3 c =
    let h = four_there c.requires.0 c.requires.1 in
    omega (arith, c.well_formed)

pub overflow_add-se : goal.overflow_add-se
overflow_add-se c =
    let h = four_there c.requires.0 c.requires.1 in
    omega (arith, c.well_formed)

pub offset_bounds-bits-at-4 : goal.offset_bounds-bits-at-4
offset_bounds-bits-at-4 c =
    let h = four_there c.requires.0 c.requires.1 in
    omega (arith, c.well_formed)

pub bounds-bits-at-4 : goal.bounds-bits-at-4
bounds-bits-at-4 c =
    let h = four_there c.requires.0 c.requires.1 in
    omega (arith, c.well_formed)

pub count_leaf-requires : goal.count_leaf-requires
count_leaf-requires c =
    let turn = turn_nw c.requires.0 c.requires.1 in
    (turn.leaf, turn.fits)

pub count_leaf-requires-2 : goal.count_leaf-requires-2
count_leaf-requires-2 c =
    let turn = turn_ne c.requires.0 c.requires.1 c.count_leaf.ensures in
    (turn.leaf, turn.fits)

pub count_leaf-requires-3 : goal.count_leaf-requires-3
count_leaf-requires-3 c =
    let turn = turn_sw c.requires.0 c.requires.1 c.count_leaf.ensures c.count_leaf-2.ensures in
    (turn.leaf, turn.fits)

pub count_leaf-requires-4 : goal.count_leaf-requires-4
count_leaf-requires-4 c =
    let turn = turn_se c.requires.0 c.requires.1 c.count_leaf.ensures c.count_leaf-2.ensures c.count_leaf-3.ensures in
    (turn.leaf, turn.fits)

pub returns : goal.returns
returns c =
    four_counted c.requires.0 c.requires.1
    c.count_leaf.ensures
    c.count_leaf-2.ensures
    c.count_leaf-3.ensures
    c.count_leaf-4.ensures
