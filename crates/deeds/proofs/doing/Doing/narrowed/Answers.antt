-- `Doing::narrowed` meets its contract, kind by kind.
use Rattle.std.proofs.Common.{refl, ◌+◌, ◌^◌}
use Rattle.deeds.specs.Deed.{Narrowed}
use Rattle.deeds.proofs.Opened.{open_doable}
use Rattle.deeds.proofs.DeedCases.{back_known, again_known, fill_narrowed, back_narrowed, again_narrowed}
use Rattle.deeds.proofs.doing.Doing.narrowed.Goals as goal
use Rattle.deeds.proofs.doing.Doing.narrowed.Goals.{in-Fill, in-Back, in-Again}

pub up_to-requires : goal.up_to-requires
up_to-requires c = let d = c.args.self in (back_known _ _ _ c.in-Back.is (open_doable _ _ _ d.deed d.doable), c.requires)

pub up_to-requires-in-Again : goal.up_to-requires-in-Again
up_to-requires-in-Again c = let d = c.args.self in (again_known _ _ _ c.in-Again.is (open_doable _ _ _ d.deed d.doable), c.requires)

-- what is told of the narrower deed
kept : (c : goal.Joined-deed) → Narrowed c.args.self.m (c.args.block.key + 5 ^ c.args.block.height) c.args.self.deed c.match-deed.deed c.args.self.log_keys.now c.args.self.log_values.now
kept c =
    let d = c.args.self in
    elim c.match-deed.branch [
      | in-Fill w ↦ rw w.deed-is (fill_narrowed _ _ _ w.in-Fill.is (open_doable _ _ _ d.deed d.doable))
      | in-Back w ↦ rw w.deed-is (back_narrowed _ _ _ w.in-Back.is w.up_to.ensures)
      | in-Again w ↦ rw w.deed-is (again_narrowed _ _ _ w.in-Again.is w.up_to-in-Again.ensures)
    ]

pub invariant_of-result : goal.invariant_of-result
invariant_of-result c = record { doable = ∣ (kept c).doable ∣₁ }

pub returns : goal.returns
returns c = record { m_is = refl; log_keys_are = refl; log_values_are = refl; same = (kept c.before).same }
