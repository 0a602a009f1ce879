-- `Accepted::stand_from` meets its contract: the key that stands at the place is the block's own, and its records are counted; or it is that of the leaf
-- around it, with its level. Rests on Fuller and Taken.
use native.Mathlib.Omega.{arith}
use Rattle.list.proofs.Taken.{block_listed}
use Rattle.list.proofs.Fuller.{found_place, in_keys, own_key, other_key, listed_found, inside_found}
use Rattle.list.proofs.accepted_list.Accepted.stand_from.Goals as goal

pub offset_bounds-self-place : goal.offset_bounds-self-place
offset_bounds-self-place c =
    let b = block_listed c.args.self.now _ c.requires.0 in
    omega (arith, in_keys b _ (found_place b _ c.place_from-place.ensures), c.well_formed)

pub bounds-self-place : goal.bounds-self-place
bounds-self-place c = let b = block_listed c.args.self.now _ c.requires.0 in in_keys b _ (found_place b _ c.place_from-place.ensures)

pub records_from-records-requires : goal.records_from-records-requires
records_from-records-requires c =
    let b = block_listed c.args.self.now _ c.requires.0 in
    let at = found_place b _ c.place_from-place.ensures in
    (c.requires.0, c.requires.1, own_key b _ at c.if-found-key.true, at)

pub returns-then-found-key : goal.returns-then-found-key
returns-then-found-key c =
    let b = block_listed c.args.self.now _ c.requires.0 in
    let at = found_place b _ c.place_from-place.ensures in
    listed_found b _ at (own_key b _ at c.if-found-key.true) _ c.records_from-records.ensures

pub returns : goal.returns
returns c =
    let b = block_listed c.args.self.now _ c.requires.0 in
    let at = found_place b _ c.place_from-place.ensures in
    inside_found b _ at (other_key b _ at c.if-found-key.false) _ c.level-level.ensures
