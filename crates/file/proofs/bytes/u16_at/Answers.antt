-- `bytes::u16_at`: the library makes the number of its bytes. Rests on NumberBytes.
use Rattle.std.proofs.Common.{◌∙◌}
use Rattle.file.proofs.NumberBytes.{number_two}
use Rattle.file.proofs.bytes.u16_at.Goals as goal

pub returns : goal.returns
returns c = c.from.ensures ∙ c.from_be_bytes.ensures ∙ number_two _ _ c.requires
