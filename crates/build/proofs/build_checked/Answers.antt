-- `build::build_checked`: too little room leaves all as it was, and else the records below the root and the root's own are the
-- whole list.
use Prim.Native.Nat.{ℕ, min, ◌^◌, ◌≤◌, ◌<◌}
use mathlib.Core.Bool.{Bool, true}
use mathlib.Core.List.{List}
use mathlib.Core.Path.{◌≡◌, sym, ap, ◌∙◌}
use native.Mathlib.Omega.{arith}
use lib.Dec.{leb}
use lib.ListN.{length}
use borrow.Author.Tests.{leb-true, leb-false}
use Rattle.definitions.specs.List.{list_of, list_of_raster}
use Rattle.laws.proofs.ListOf.{list_some}
use Rattle.list.proofs.Tests.{good_settings}
use Rattle.build.specs.BuildBlocks.{picture_of_rows}
use Rattle.build.proofs.FittingBlock.{keys_length, bits_length}
use Rattle.build.proofs.BuildRefusal.{early_passed, refusal_nine, refusal_none, refused, done}
use Rattle.build.proofs.BuildCall.{whole_inside, whole_fits, whole_keys, whole_bits, whole_count, rows_list}
use Rattle.build.proofs.build_checked.Goals as goal

-- the list by the rows that the code reads, and the room
abbrev rows : ℕ → ℕ → List ℕ → ℕ
rows m side raster = length (list_of (picture_of_rows side raster) m 0 0 0)

same_count : (m side : ℕ) (raster : List ℕ) → side ≡ 2 ^ m → rows m side raster ≡ length (list_of_raster m raster)
same_count m side raster e = ap length (rows_list m side raster e)

pub power_of_two-side-requires : goal.power_of_two-side-requires
power_of_two-side-requires c = let h = (good_settings _ _ (early_passed _ _ _ c.requires).settings).deep in omega arith

pub has_room-requires : goal.has_room-requires
has_room-requires c = (whole_inside _ _ _ _ (early_passed _ _ _ c.requires) c.power_of_two-side.ensures, c.power_of_two-side.ensures)

pub returns-then-not-has_room : goal.returns-then-not-has_room
returns-then-not-has_room c =
    let h : c.min-room.result < rows c.args.m c.power_of_two-side.result c.args.raster.now = leb-false _ _ (sym c.has_room.ensures ∙ c.if-not-has_room.true) in
    let e = same_count c.args.m _ c.args.raster.now c.power_of_two-side.ensures in
    let r = refused c.args.m c.args.s c.args.raster.now c.args.keys.now c.args.bits.now 9 (refusal_nine _ _ _ _ _ (early_passed _ _ _ c.requires) (omega (arith, c.min-room.ensures))) (λ z. omega arith) in
    record { value = r.0; keys_after = r.1.0; bits_after = r.1.1 }

-- past the test the list fits in both slices
module _ (count keys bits : ℕ) {n : ℕ} {b : Bool} (asked : b ≡ leb count n) (yes : b ≡ true) (least : n ≡ min keys bits) where
  keys_fit : count ≤ keys
  keys_fit = let h : count ≤ n = leb-true _ _ (sym asked ∙ yes) in omega arith

  bits_fit : count ≤ bits
  bits_fit = let h : count ≤ n = leb-true _ _ (sym asked ∙ yes) in omega arith

pub write_below-root-requires : goal.write_below-root-requires
write_below-root-requires c =
    let p = early_passed _ _ _ c.requires in (
      whole_inside _ _ _ _ p c.power_of_two-side.ensures,
      whole_fits _ _ _ _ _ _ p c.power_of_two-side.ensures
          (keys_fit _ _ _ c.has_room.ensures c.if-not-has_room.false c.min-room.ensures)
          (bits_fit _ _ _ c.has_room.ensures c.if-not-has_room.false c.min-room.ensures),
    )

pub bounds-keys-0 : goal.bounds-keys-0
bounds-keys-0 c =
    let h = keys_fit _ (length c.args.keys.now) (length c.args.bits.now) c.has_room.ensures c.if-not-has_room.false c.min-room.ensures in
    let n = list_some (picture_of_rows c.power_of_two-side.result c.args.raster.now) c.args.m 0 0 0 in
    omega (arith, keys_length c.write_below-root.ensures)

pub bounds-bits-0 : goal.bounds-bits-0
bounds-bits-0 c =
    let h = bits_fit _ (length c.args.keys.now) (length c.args.bits.now) c.has_room.ensures c.if-not-has_room.false c.min-room.ensures in
    let n = list_some (picture_of_rows c.power_of_two-side.result c.args.raster.now) c.args.m 0 0 0 in
    omega (arith, bits_length c.write_below-root.ensures)

pub returns : goal.returns
returns c =
    let h = keys_fit _ (length c.args.keys.now) (length c.args.bits.now) c.has_room.ensures c.if-not-has_room.false c.min-room.ensures in
    let j = bits_fit _ (length c.args.keys.now) (length c.args.bits.now) c.has_room.ensures c.if-not-has_room.false c.min-room.ensures in
    let k = c.power_of_two-side.ensures in
    let e = same_count c.args.m _ c.args.raster.now k in
    let w = c.write_below-root.ensures in
    let r = done _ _ _ _ _ _ _ _ (refusal_none _ _ _ _ _ (early_passed _ _ _ c.requires) (omega arith))
    (whole_count _ _ c.args.raster.now _ _ _ _ _ _ k w)
    (whole_keys _ _ c.args.raster.now _ _ _ _ _ _ k w h)
    (whole_bits _ _ c.args.raster.now _ _ _ _ _ _ k w j) in
    record { value = r.0; keys_after = r.1.0; bits_after = r.1.1 }
