-- `give_up` meets its contract: where the list did not shrink there is nothing to clear.
use Rattle.apply_deed.proofs.Changing.{nothing_given}
use Rattle.apply_deed.proofs.change.give_up.Goals as goal

pub returns-else-after-n : goal.returns-else-after-n
returns-else-after-n c =
    record {
      keys_after = nothing_given _ _ _ c.if-after-n.false;
      bits_after = nothing_given _ _ _ c.if-after-n.false;
    }
