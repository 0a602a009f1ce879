-- Four records that the check passes are four pixels to count.
use Rattle.summary.proofs.PassPixels.{pixels_wrong, pixels_shown, pixels_counted}
use Rattle.summary.proofs.pass.pass_pixels.Goals as goal

pub returns-then-not-four_pixels : goal.returns-then-not-four_pixels
returns-then-not-four_pixels c =
    pixels_wrong c.requires c.four_pixels.result c.four_pixels.ensures.1 c.if-not-four_pixels.true

pub count_pixels-requires : goal.count_pixels-requires
count_pixels-requires c =
    (pixels_shown c.requires c.four_pixels.result c.four_pixels.ensures.1 c.if-not-four_pixels.false, c.requires.room)

pub returns : goal.returns
returns c =
    let right = c.if-not-four_pixels.false in
    pixels_counted c.requires c.four_pixels.result c.four_pixels.ensures.1 right (c.four_pixels.ensures.0 right) c.count_pixels.ensures
