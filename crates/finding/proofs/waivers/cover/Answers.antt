-- The waiver lies before the pixel that is left, or has it.
use mathlib.Core.Path.{ap, ◌∙◌}
use native.Mathlib.Omega.{arith}
use Rattle.finding.specs.Covering.{further, first_pixel}
use Rattle.finding.proofs.OneWaiver.{end_small, over_late, over_in, further_max}
use Rattle.finding.proofs.waivers.cover.Goals as goal

pub returns-then-end-next : goal.returns-then-end-next
returns-then-end-next c = (
  c.max-furthest.ensures ∙ further_max _ _ ∙ ap (further c.args.at.furthest) c.end_of-end.ensures,
  over_late _ _ _ c.requires.1 (omega (arith, c.if-end-next.true, c.end_of-end.ensures)),
)

pub first_pixel-requires : goal.first_pixel-requires
first_pixel-requires c = let small = end_small _ _ c.requires.0 c.requires.1 in (c.requires.0, omega (arith, c.end_of-end.ensures))

pub returns : goal.returns
returns c =
    let e = c.end_of-end.ensures in (
      c.max-furthest.ensures ∙ further_max _ _ ∙ ap (further c.args.at.furthest) e,
      c.first_pixel.ensures ∙ ap (first_pixel c.args.m) e ∙ over_in _ _ _ c.requires.1 (omega arith) (omega (arith, c.if-end-next.false)),
    )
