-- The content is one record with the bits of the feature.
use mathlib.Core.List.{[], ◌∷◌}
use native.Mathlib.Omega.{arith}
use Rattle.edit.proofs.Planned.{can_put, put_makes}
use Rattle.edit.proofs.PaintPlan.{one_record, paint_planned}
use Rattle.edit.proofs.paint.fill.Goals as goal

pub put-requires : goal.put-requires
put-requires c =
    can_put (paint_planned c.requires.paintable c.requires.found_value) _ _ 1 (one_record _ _ _ c.power_of_two.ensures) (omega arith) c.requires.feature_len_bound

pub returns : goal.returns
returns c =
    put_makes (paint_planned c.requires.paintable c.requires.found_value) (c.args.key ∷ []) (c.power_of_two.result ∷ []) 1 (one_record _ _ _ c.power_of_two.ensures) c.put.ensures
