-- `write::write_below`: the four quadrants one after the other, and then their own records. Rests on BuildInside, FittingBlock and WrittenBlock.
use Prim.Native.Nat.{suc}
use Rattle.std.proofs.Common.{ℕ, List, ◌≡◌, ◌+◌, ◌-◌, ◌*◌, ◌^◌, ◌<◌, ◌≤◌, sym, arith}
use Rattle.definitions.specs.Picture.{Picture}
use Rattle.build.specs.BuildBlocks.{picture_of_rows, Inside, Fitting}
use Rattle.build.proofs.BuildInside.{one_above, inside_quadrant}
use Rattle.build.proofs.FittingBlock.{fitting_at, fitting_key, fits_nw, fits_ne, fits_sw, fits_se, fits_four}
use Rattle.build.proofs.WrittenBlock.{block_written_at, written_key, written_quadrants}
use Rattle.build.proofs.write.+write_below.Goals as goal

-- the first quadrant is one step on
once_step : (x key step : ℕ) → x ≡ key + 1 * step → x ≡ key + step
once_step x key step e = omega arith

-- a block of at least 16 by 16 pixels: what a call for a quadrant asks, beside the room
quadrant : {raster : List ℕ} {side height row column half : ℕ} → Inside raster side height row column → 4 ≤ height → half ≡ 2 ^ (height - 1)
    → (t r' c' : ℕ) → height ≡ t → r' ≤ row + half → c' ≤ column + half → (height - 1 < t) × Inside raster side (height - 1) r' c'
quadrant b tall e t r' c' d down right = (omega arith, inside_quadrant b (omega arith) r' c' (omega arith) (omega arith))

-- and the room
room : {p : Picture} {keys bits : List ℕ} {height row column key place : ℕ} → Fitting p height row column key place keys bits → 4 ≤ height
    → Fitting p (suc (height - 1)) row column key place keys bits
room f tall = fitting_at (sym (one_above (omega arith))) f

pub write_below-nw-requires : goal.write_below-nw-requires
write_below-nw-requires t c =
    let q = quadrant c.requires.0 c.if-height-lt4.false c.power_of_two-half.ensures t _ _ c.decreases (omega arith) (omega arith) in
    let f = room c.requires.1 c.if-height-lt4.false in (
      q.0,
      (q.1, fitting_key (once_step _ _ _ c.child-nw_key.ensures) (fits_nw _ _ _ _ _ _ _ _ c.power_of_two-half.ensures c.power_of_five-step.ensures f)),
    )

pub write_below-ne-requires : goal.write_below-ne-requires
write_below-ne-requires t c =
    let q = quadrant c.requires.0 c.if-height-lt4.false c.power_of_two-half.ensures t _ _ c.decreases (omega arith) (omega arith) in
    let f = room c.requires.1 c.if-height-lt4.false in
    let nw = written_key (once_step _ _ _ c.child-nw_key.ensures) c.write_below-nw.ensures in (
      q.0,
      (q.1, fitting_key c.child-ne_key.ensures (fits_ne _ _ _ _ _ _ _ _ c.power_of_two-half.ensures c.power_of_five-step.ensures f nw)),
    )

pub write_below-sw-requires : goal.write_below-sw-requires
write_below-sw-requires t c =
    let q = quadrant c.requires.0 c.if-height-lt4.false c.power_of_two-half.ensures t _ _ c.decreases (omega arith) (omega arith) in
    let f = room c.requires.1 c.if-height-lt4.false in
    let nw = written_key (once_step _ _ _ c.child-nw_key.ensures) c.write_below-nw.ensures in
    let ne = written_key c.child-ne_key.ensures c.write_below-ne.ensures in (
      q.0,
      (q.1, fitting_key c.child-sw_key.ensures (fits_sw _ _ _ _ _ _ _ _ c.power_of_two-half.ensures c.power_of_five-step.ensures f nw ne)),
    )

pub write_below-se-requires : goal.write_below-se-requires
write_below-se-requires t c =
    let q = quadrant c.requires.0 c.if-height-lt4.false c.power_of_two-half.ensures t _ _ c.decreases (omega arith) (omega arith) in
    let f = room c.requires.1 c.if-height-lt4.false in
    let nw = written_key (once_step _ _ _ c.child-nw_key.ensures) c.write_below-nw.ensures in
    let ne = written_key c.child-ne_key.ensures c.write_below-ne.ensures in
    let sw = written_key c.child-sw_key.ensures c.write_below-sw.ensures in (
      q.0,
      (q.1, fitting_key c.child-se_key.ensures (fits_se _ _ _ _ _ _ _ _ c.power_of_two-half.ensures c.power_of_five-step.ensures f nw ne sw)),
    )

pub write_four-requires : goal.write_four-requires
write_four-requires t c =
    let f = room c.requires.1 c.if-height-lt4.false in
    let nw = written_key (once_step _ _ _ c.child-nw_key.ensures) c.write_below-nw.ensures in
    let ne = written_key c.child-ne_key.ensures c.write_below-ne.ensures in
    let sw = written_key c.child-sw_key.ensures c.write_below-sw.ensures in
    let se = written_key c.child-se_key.ensures c.write_below-se.ensures in
    fits_four _ _ _ _ _ _ _ _ c.power_of_two-half.ensures c.power_of_five-step.ensures f nw ne sw se

pub returns : goal.returns
returns t c =
    let nw = written_key (once_step _ _ _ c.child-nw_key.ensures) c.write_below-nw.ensures in
    let ne = written_key c.child-ne_key.ensures c.write_below-ne.ensures in
    let sw = written_key c.child-sw_key.ensures c.write_below-sw.ensures in
    let se = written_key c.child-se_key.ensures c.write_below-se.ensures in
    let p = picture_of_rows c.args.side c.args.raster.now in
    let whole = written_quadrants p _ _ _ _ _ _ _ c.power_of_two-half.ensures c.power_of_five-step.ensures nw ne sw se c.write_four.ensures in
    block_written_at {p = p} (one_above (omega arith)) whole
