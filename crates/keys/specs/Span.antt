-- The keys of a block, as the code carries them: the first, and how many. Rests on Key.
use Rattle.std.specs.Prelude.{ℕ, ◌+◌, ◌*◌, ◌/◌, ◌^◌}
use Rattle.keys.specs.Key.{root_key}
use Rattle.keys.specs.declared.span.KeySpan.{KeySpan}

abbrev pub root_span : (m : ℕ) → KeySpan
root_span m = record { key = root_key; step = 5 ^ m }

-- those of the quadrant of a digit: a fifth as many
abbrev pub child_span : (span : KeySpan) (digit : ℕ) → KeySpan
child_span span digit = record { key = span.key + digit * (span.step / 5); step = span.step / 5 }
