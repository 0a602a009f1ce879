-- A run of the list's records or one record is what is written.
use native.Mathlib.Omega.{arith}
use Rattle.edit.proofs.ContentStands.{former_listed, former_inside, listed_loggable, listed_entry, leaf-there, inside_loggable, inside_entry, logged_same}
use Rattle.edit.proofs.logging.log_content.Goals as goal

pub write_entry-requires : goal.write_entry-requires
write_entry-requires c = let h = former_listed _ _ _ c.requires.former_value c.in-Listed.is in listed_loggable c.requires.fresh _ h.0 h.1

pub returns-in-Listed : goal.returns-in-Listed
returns-in-Listed c =
    let h = former_listed _ _ _ c.requires.former_value c.in-Listed.is in
    logged_same (listed_entry c.requires.fresh _ h.0 h.1) c.write_entry.ensures

pub offset_bounds-list-place : goal.offset_bounds-list-place
offset_bounds-list-place c =
    let h = former_inside _ _ _ c.requires.former_value c.in-Inside.is in
    omega (arith, leaf-there c.requires.fresh _ h.0 h.1, c.args.list.now.paired, c.well_formed)

pub bounds-list-place : goal.bounds-list-place
bounds-list-place c =
    let h = former_inside _ _ _ c.requires.former_value c.in-Inside.is in
    omega (arith, leaf-there c.requires.fresh _ h.0 h.1, c.args.list.now.paired)

pub write_entry-requires-in-Inside : goal.write_entry-requires-in-Inside
write_entry-requires-in-Inside c =
    let h = former_inside _ _ _ c.requires.former_value c.in-Inside.is in
    inside_loggable c.requires.fresh _ h.0 h.1

pub returns-in-Inside : goal.returns-in-Inside
returns-in-Inside c =
    let h = former_inside _ _ _ c.requires.former_value c.in-Inside.is in
    logged_same (inside_entry c.requires.fresh _ h.0 h.1) c.write_entry-in-Inside.ensures
