-- `plan::top_of` meets its contract: for a content of one record climbing decides, and for any other the block itself is filled.
use Rattle.std.proofs.Common.{◌∙◌, refl, arith}
use Rattle.keys.proofs.Powers.{height_le}
use Rattle.list.proofs.Own.{own_sorted}
use Rattle.replace.proofs.PlanPlaces.{valid_key_below}
use Rattle.replace.proofs.PlanTop.{top_climbed, top_own}
use Rattle.replace.proofs.plan.top_of.Goals as goal

pub climb-requires : goal.climb-requires
climb-requires c =
    let h = height_le c.args.list.now.m c.args.key in
    let list = c.args.list.now in
    record {
      m_bound = (list.deepest, omega (arith, c.height-low.ensures), valid_key_below list.deepest c.requires);
      sorted = own_sorted list.own 0;
      paired = omega (arith, list.paired);
    }

pub returns-in-Some : goal.returns-in-Some
returns-in-Some c = rw c.in-Some.is (top_climbed _ _ _ _ _ _ _ c.climb.ensures c.height-low.ensures refl)

pub returns-in-None : goal.returns-in-None
returns-in-None c = rw c.in-None.is (c.height-low.ensures ∙ top_own _ _ _ _ _ refl)
