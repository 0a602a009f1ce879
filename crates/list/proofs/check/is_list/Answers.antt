-- `check::is_list` meets its contract: the map is the block of the root key.
use native.Mathlib.Omega.{arith}
use Rattle.list.proofs.Content.{root_valid, root_list}
use Rattle.list.proofs.check.is_list.Goals as goal

pub is_content-requires : goal.is_content-requires
is_content-requires c = (omega arith, omega arith, root_valid c.args.m)

pub returns : goal.returns
returns c =
    let a = c.args in
    root_list a.m a.s a.keys.now a.bits.now a.n c.is_content.result c.is_content.ensures
