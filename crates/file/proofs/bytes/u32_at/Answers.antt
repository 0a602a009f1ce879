-- `bytes::u32_at`: the library makes the number of its bytes. Rests on NumberBytes.
use Rattle.std.proofs.Common.{◌∙◌}
use Rattle.file.proofs.NumberBytes.{number_four}
use Rattle.file.proofs.bytes.u32_at.Goals as goal

pub returns : goal.returns
returns c = c.from_be_bytes.ensures ∙ number_four _ _ c.requires
