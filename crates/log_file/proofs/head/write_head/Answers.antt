-- `head::write_head`: mark, version, m, s and both counts one after the other are the head. Rests on HeadBytes.
use Rattle.log_file.proofs.HeadBytes.{log_head_stores}
use Rattle.log_file.proofs.head.write_head.Goals as goal

pub returns : goal.returns
returns c = log_head_stores _ _ _ _ _ _ _ _ _ c.write_mark.ensures c.put_u16.ensures c.put_u64.ensures c.put_u64-2.ensures
