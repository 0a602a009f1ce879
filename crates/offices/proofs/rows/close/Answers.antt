-- A store just behind the run that was moved.
use mathlib.Core.Path.{ap, ◌∙◌}
use Prim.Native.Nat.{◌-◌}
use lib.ListN.{set}
use Rattle.offices.proofs.Moved.{closed_run}
use Rattle.offices.proofs.rows.close.Goals as goal

pub returns : goal.returns
returns c =
    let a = c.args in
    let pre = c.requires in
    ap (λ l. set l (a.rows - 1) 0) c.shift.ensures ∙ closed_run a.slice.now a.rows a.place pre.0 pre.1
