-- A store just before the run that was moved.
use mathlib.Core.Path.{ap, ◌∙◌}
use Prim.Native.Nat.{◌-◌}
use lib.ListN.{set, take, drop}
use Rattle.slices.proofs.Sets.{sets_front}
use Rattle.offices.proofs.rows.open.Goals as goal

pub returns : goal.returns
returns c =
    let a = c.args in
    ap (λ l. set l a.place a.number) c.shift.ensures ∙ sets_front a.slice.now a.place a.number (take (a.rows - a.place) (drop a.place a.slice.now))
