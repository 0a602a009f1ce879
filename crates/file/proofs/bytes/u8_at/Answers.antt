-- `bytes::u8_at`: a byte is a number in one byte. Rests on NumberBytes.
use Rattle.std.proofs.Common.{◌∙◌, sym}
use Rattle.file.proofs.NumberBytes.{number_one}
use Rattle.file.proofs.bytes.u8_at.Goals as goal

pub returns : goal.returns
returns c = c.from.ensures ∙ sym (number_one _ _ c.requires)
