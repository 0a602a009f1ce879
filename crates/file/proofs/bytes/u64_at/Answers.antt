-- `bytes::u64_at`: the first four bytes count 2 ^ 32 times. Rests on NumberBytes.
use Rattle.std.proofs.Common.{◌∙◌, ap₂, sym, ◌+◌, ◌*◌}
use Rattle.file.proofs.NumberBytes.{number_eight}
use Rattle.file.proofs.bytes.u64_at.Goals as goal

pub returns : goal.returns
returns c = ap₂ (λ high low. high * 4294967296 + low) (c.from.ensures ∙ c.u32_at.ensures) (c.from-2.ensures ∙ c.u32_at-2.ensures) ∙ sym (number_eight _ _ c.requires)
