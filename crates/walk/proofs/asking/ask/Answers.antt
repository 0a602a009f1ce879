-- `asking::ask` meets its contract: the standing is taken apart, and the leaf around a block is found by its key and level. Rests on Told.
use mathlib.Core.Path.{sym, ◌∙◌}
use native.Mathlib.Omega.{arith}
use Rattle.walk.proofs.Told.{asked_in, asked_step, some_records, records_there, leaf_told}
use Rattle.walk.proofs.asking.ask.Goals as goal

pub stand_from-requires : goal.stand_from-requires
stand_from-requires c =
    let list = c.args.list.now in
    let in_list = asked_in list.deepest list.own c.requires.0 in
    (in_list.valid, asked_step list.deepest list.own c.requires.0, c.requires.1)

pub overflow_sub-result : goal.overflow_sub-result
overflow_sub-result c = let list = c.args.list.now in some_records list.deepest list.own c.requires.0 _ _ (sym c.stand_from.ensures ∙ c.in-Listed.is)

pub overflow_add-result : goal.overflow_add-result
overflow_add-result c =
    let list = c.args.list.now in
    omega (arith, records_there list.deepest list.own c.requires.0 _ _ (sym c.stand_from.ensures ∙ c.in-Listed.is), list.own.fits, c.well_formed)

pub leaf_of-requires : goal.leaf_of-requires
leaf_of-requires c =
    let list = c.args.list.now in
    let told = leaf_told list.deepest list.own c.requires.0 _ _ _ (sym c.stand_from.ensures ∙ c.in-Inside.is) in
    (list.deepest, told.0, told.1)
