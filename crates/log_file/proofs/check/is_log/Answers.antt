-- `check::is_log`: the tests in a row are those of the definition, first of the records in force and then of those to redo. Rests on Parts of crate edit_log,
-- InBytes and LogParts.
use Rattle.std.proofs.Common.{arith, ◌≡◌, ◌≤◌, true}
use Rattle.definitions.specs.Log.{is_sound}
use Rattle.log_file.specs.Records.{log_in}
use Rattle.edit_log.proofs.Parts.{past_used, front_fails}
use Rattle.log_file.proofs.InBytes.{in_keys, in_values}
use Rattle.log_file.proofs.LogParts.{rest_there, rest_begins, rest_decides}
use Rattle.log_file.proofs.check.is_log.Goals as goal

pub overflow_mul-in_force : goal.overflow_mul-in_force
overflow_mul-in_force c =
    let within : c.args.in_force ≤ c.args.used = grind arith in
    let h = rest_begins c.args.m c.args.s c.args.bytes.now _ _ c.requires.2 within in
    omega arith

pub slice_bounds-is_sound-count : goal.slice_bounds-is_sound-count
slice_bounds-is_sound-count c =
    let within : c.args.in_force ≤ c.args.used = grind arith in
    let h = rest_begins c.args.m c.args.s c.args.bytes.now _ _ c.requires.2 within in
    omega arith

pub slice_bounds-is_sound-start : goal.slice_bounds-is_sound-start
slice_bounds-is_sound-start c =
    let within : c.args.in_force ≤ c.args.used = grind arith in
    let h = rest_begins c.args.m c.args.s c.args.bytes.now _ _ c.requires.2 within in
    omega arith

pub is_sound-requires-then-is_sound : goal.is_sound-requires-then-is_sound
is_sound-requires-then-is_sound c =
    let within : c.args.in_force ≤ c.args.used = grind arith in
    (c.requires.0, c.requires.1, rest_there c.args.m c.args.s c.args.bytes.now _ _ c.requires.2 within)

pub returns-then-is_sound : goal.returns-then-is_sound
returns-then-is_sound c =
    let within : c.args.in_force ≤ c.args.used = grind arith in
    let front : is_sound c.args.m c.args.s (log_in c.args.bytes.now c.args.in_force) ≡ true = grind arith in
    rest_decides _ _ c.args.bytes.now _ _ c.requires.2 within _ front c.is_sound-then-is_sound.ensures

pub returns-else-is_sound : goal.returns-else-is_sound
returns-else-is_sound c =
    let a = in_keys _ c.requires.2 in
    let b = in_values _ c.requires.2 in
    grind (arith, past_used, front_fails)
