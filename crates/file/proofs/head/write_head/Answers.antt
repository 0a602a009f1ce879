-- `head::write_head`: mark, version, m, s and n one after the other are the head. Rests on Stores.
use Rattle.file.proofs.Stores.{head_stores}
use Rattle.file.proofs.head.write_head.Goals as goal

pub returns : goal.returns
returns c = head_stores _ _ _ _ _ _ _ _ c.version.ensures c.write_mark.ensures c.put_u16.ensures c.put_u32.ensures
