-- `layout::put_record`: the key, and behind it the bitstring in two bytes or in four. Rests on Laid.
use Rattle.std.proofs.Common.{sym}
use Rattle.file.proofs.Laid.{other_width, record_put}
use Rattle.file.proofs.layout.put_record.Goals as goal

pub returns-then-width-eq2 : goal.returns-then-width-eq2
returns-then-width-eq2 c = record_put _ _ _ _ _ _ _ _ _ c.length-place.ensures (sym c.if-width-eq2.true) c.put_u32.ensures c.put_u16.ensures

pub returns-else-width-eq2 : goal.returns-else-width-eq2
returns-else-width-eq2 c =
    record_put _ _ _ _ _ _ _ _ _ c.length-place.ensures (sym (other_width c.requires.width_is c.if-width-eq2.false)) c.put_u32.ensures
    c.put_u32-else-width-eq2.ensures
