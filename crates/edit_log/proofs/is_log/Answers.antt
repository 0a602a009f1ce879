-- `is_log`: the tests in a row are those of the definition, first of the records in force and then of those to redo. Rests on Parts.
use Rattle.std.proofs.Common.{arith}
use Rattle.edit_log.proofs.Parts.{short_keys, short_values, past_used, front_fails, back_decides}
use Rattle.edit_log.proofs.is_log.Goals as goal

pub returns-then-is_sound : goal.returns-then-is_sound
returns-then-is_sound c = grind (arith, back_decides)

pub returns-else-is_sound : goal.returns-else-is_sound
returns-else-is_sound c = grind (arith, short_keys, short_values, past_used, front_fails)
