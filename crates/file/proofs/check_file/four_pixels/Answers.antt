-- `check_file::four_pixels`: each turn passes one pixel more. Rests on Laid and FilePixels.
use Rattle.std.proofs.Common.{arith, ℕ, ◌+◌, refl, sym, ap, ◌∙◌}
use Rattle.file.proofs.Laid.{bytes_laid_at, record_ends, number_here}
use Rattle.file.proofs.FilePixels.{too_few_in, pixels_begin, pixels_end, there, other_pixel, node_pixel, leaf_pixel}
use Rattle.file.proofs.check_file.four_pixels.Goals as goal

pub returns-then-n-first-lt4 : goal.returns-then-n-first-lt4
returns-then-n-first-lt4 c =
    let a = c.args in
    too_few_in a.width a.n a.file.now a.first a.key a.own c.if-n-first-lt4.true

pub loop-digit-init : goal.loop-digit-init
loop-digit-init c = pixels_begin _ _ _ _ _ _ c.requires c.if-n-first-lt4.false

pub place-place-requires : goal.place-place-requires
place-place-requires c =
    let laid = bytes_laid_at c.loop-digit.invariant.passed.laid _ (there c.loop-digit.invariant c.loop-digit-test.true) in
    let h = record_ends laid.width_is _ _ laid.there in
    (c.loop-digit.invariant.passed.laid.width_is, omega arith)

pub u32_at-requires : goal.u32_at-requires
u32_at-requires c =
    let laid = bytes_laid_at c.loop-digit.invariant.passed.laid _ (there c.loop-digit.invariant c.loop-digit-test.true) in
    let h = record_ends laid.width_is _ _ laid.there in
    omega (arith, c.place-place.ensures)

pub overflow_add-key : goal.overflow_add-key
overflow_add-key c = let h = c.requires.2 in omega (arith, c.loop-digit-test.true)

pub returns-then-u32_at-key : goal.returns-then-u32_at-key
returns-then-u32_at-key c =
    other_pixel c.loop-digit.invariant c.loop-digit-test.true _ (number_here _ _ _ _ _ _ c.place-place.ensures refl c.u32_at.ensures) c.if-u32_at-key.true

pub bits_behind-found-requires : goal.bits_behind-found-requires
bits_behind-found-requires c =
    let laid = bytes_laid_at c.loop-digit.invariant.passed.laid _ (there c.loop-digit.invariant c.loop-digit-test.true) in
    let h = record_ends laid.width_is _ _ laid.there in
    (c.loop-digit.invariant.passed.laid.width_is, omega (arith, c.place-place.ensures))

pub returns-then-not-has_one_slot : goal.returns-then-not-has_one_slot
returns-then-not-has_one_slot c =
    node_pixel c.loop-digit.invariant c.loop-digit-test.true _ (number_here _ _ _ _ _ _ c.place-place.ensures refl c.u32_at.ensures) c.if-u32_at-key.false _
    (number_here _ _ _ _ _ _ (ap (λ (k : ℕ). k + 4) c.place-place.ensures) refl c.bits_behind-found.ensures)
    (sym c.has_one_slot.ensures ∙ c.if-not-has_one_slot.true)

pub overflow_add-next : goal.overflow_add-next
overflow_add-next c = let h = there c.loop-digit.invariant c.loop-digit-test.true in omega arith

pub loop-digit-preserved : goal.loop-digit-preserved
loop-digit-preserved c =
    leaf_pixel c.loop-digit.invariant c.loop-digit-test.true _ (number_here _ _ _ _ _ _ c.place-place.ensures refl c.u32_at.ensures) c.if-u32_at-key.false _
    (number_here _ _ _ _ _ _ (ap (λ (k : ℕ). k + 4) c.place-place.ensures) refl c.bits_behind-found.ensures)
    (sym c.has_one_slot.ensures ∙ c.if-not-has_one_slot.false)

pub returns : goal.returns
returns c = pixels_end c.loop-digit.invariant c.loop-digit-test.false
