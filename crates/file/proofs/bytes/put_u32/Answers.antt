-- `bytes::put_u32`: the bytes that the library makes are written into their part. Rests on NumberBytes.
use Rattle.std.proofs.Common.{◌∙◌}
use Rattle.file.proofs.NumberBytes.{put_bytes, four_bytes}
use Rattle.file.proofs.bytes.put_u32.Goals as goal

pub returns : goal.returns
returns c = put_bytes _ _ _ 4 _ c.requires (c.copy_from_slice.ensures.after ∙ c.to_be_bytes.ensures ∙ four_bytes _)
