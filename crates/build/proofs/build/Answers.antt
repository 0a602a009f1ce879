-- `build::build`: a refusal of the first three leaves all as it was, and past them the rest is known. Rests on BuildRefusal.
use Rattle.std.proofs.lemmas.Result.{err_from_is_err_and}
use Rattle.build.proofs.BuildRefusal.{early_refused}
use Rattle.build.proofs.build.Goals as goal

pub returns-in_err-check_raster-clause-value : goal.returns-in_err-check_raster-clause-value
returns-in_err-check_raster-clause-value c =
    let p = err_from_is_err_and c.from_residual.result c.from_residual.ensures.1 in
    rw (p.1, p.2) (early_refused _ _ _ _ _ _ c.in_err-check_raster.ensures).0

pub returns-in_err-check_raster-clause-keys_after : goal.returns-in_err-check_raster-clause-keys_after
returns-in_err-check_raster-clause-keys_after c = (early_refused _ _ _ _ c.args.bits.now _ c.in_err-check_raster.ensures).1.0

pub returns-in_err-check_raster-clause-bits_after : goal.returns-in_err-check_raster-clause-bits_after
returns-in_err-check_raster-clause-bits_after c = (early_refused _ _ _ c.args.keys.now _ _ c.in_err-check_raster.ensures).1.1
