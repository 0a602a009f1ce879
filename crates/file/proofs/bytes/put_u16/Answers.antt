-- `bytes::put_u16`: the bytes that the library makes are written into their part. Rests on NumberBytes.
use Rattle.std.proofs.Common.{◌∙◌}
use Rattle.file.proofs.NumberBytes.{put_bytes, two_bytes}
use Rattle.file.proofs.bytes.put_u16.Goals as goal

pub returns : goal.returns
returns c = put_bytes _ _ _ 2 _ c.requires (c.copy_from_slice.ensures.after ∙ c.to_be_bytes.ensures ∙ two_bytes _)
