-- `build::check_raster`: its tests are those of refusals 1, 2 and 3, in the same order. Rests on BuildRefusal and list's Tests.
use Rattle.std.proofs.Common.{sym, ◌∙◌, arith}
use Rattle.list.proofs.Tests.{good_settings}
use Rattle.build.proofs.BuildRefusal.{early_one, early_two, early_three, early_none, length-bad, length-good}
use Rattle.build.proofs.check_raster.Goals as goal

pub returns-then-are_bad : goal.returns-then-are_bad
returns-then-are_bad c = early_one _ _ _ (sym c.are_bad.ensures ∙ c.if-are_bad.true)

pub power_of_two-side-requires : goal.power_of_two-side-requires
power_of_two-side-requires c = let h = (good_settings _ _ (sym c.are_bad.ensures ∙ c.if-are_bad.false)).deep in omega arith

pub returns-then-raster-side : goal.returns-then-raster-side
returns-then-raster-side c =
    early_two _ _ _ (sym c.are_bad.ensures ∙ c.if-are_bad.false) (length-bad _ _ _ c.power_of_two-side.ensures c.if-raster-side.true)

pub returns-then-has_bad_pixel : goal.returns-then-has_bad_pixel
returns-then-has_bad_pixel c =
    early_three _ _ _ (sym c.are_bad.ensures ∙ c.if-are_bad.false)
    (length-good _ _ _ c.power_of_two-side.ensures c.if-raster-side.false)
    (sym c.has_bad_pixel.ensures ∙ c.if-has_bad_pixel.true)

pub returns : goal.returns
returns c =
    early_none _ _ _
    (record {
      settings = sym c.are_bad.ensures ∙ c.if-are_bad.false;
      size = length-good _ _ _ c.power_of_two-side.ensures c.if-raster-side.false;
      pixels = sym c.has_bad_pixel.ensures ∙ c.if-has_bad_pixel.false;
    })
