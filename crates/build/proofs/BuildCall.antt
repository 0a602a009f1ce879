-- Build of the whole raster: it is a block, its list has room, and the records below the root with the root's own are the list. Rests on
-- BuildRefusal, WriteBlock and WrittenBlock.
use Prim.Native.Nat.{ℕ, ◌*◌, ◌^◌, ◌≤◌}
use mathlib.Core.Path.{◌≡◌, refl, sym, ◌∙◌, ap}
use mathlib.Core.List.{List, ◌∷◌, map}
use native.Mathlib.Omega.{arith}
use native.Mathlib.Nat.{zero-add}
use lib.ListN.{length, set, length-map}
use lib.Seq.{sets}
use borrow.Author.Tests.{eqb-true, not-false}
use Rattle.keys.proofs.Powers.{two_le, five_le}
use Rattle.definitions.specs.Picture.{Picture}
use Rattle.definitions.specs.Bits.{bits_of}
use Rattle.definitions.specs.List.{Record, record_of, list_of, list_of_raster, keys_of, values_of}
use Rattle.definitions.specs.Buffer.{over}
use Rattle.definitions.specs.Refusal.{bad_length}
use Rattle.laws.proofs.Buffer.{sets_over}
use Rattle.list.proofs.Tests.{good_settings}
use Rattle.build.specs.BuildBlocks.{picture_of_rows, below, Inside, Fitting, Written}
use Rattle.build.proofs.RasterTests.{pixels_below}
use Rattle.build.proofs.WriteBlock.{sets_front}
use Rattle.build.proofs.WrittenBlock.{own_first}
use Rattle.build.proofs.BuildRefusal.{EarlyPassed}

-- the whole raster is a block of it
pub whole_inside : (m s side : ℕ) (raster : List ℕ) → EarlyPassed m s raster → side ≡ 2 ^ m → Inside raster side m 0 0
unfolding bad_length
whole_inside m s side raster p e =
    let low = (good_settings m s p.settings).deep in
    let top = two_le 10 low in
    record {
      deep = low;
      square = eqb-true (length raster) (2 ^ m * 2 ^ m) (not-false _ p.size) ∙ ap (λ x. x * x) (sym e);
      narrow = omega arith;
      rows = omega arith;
      columns = omega arith;
      features = λ i. let h = pixels_below s raster (good_settings m s p.settings).some p.pixels i in let j = (good_settings m s p.settings).few in omega arith;
    }

-- the list of the raster, read by rows of the length that the code has
pub rows_list : (m side : ℕ) (raster : List ℕ) → side ≡ 2 ^ m → list_of (picture_of_rows side raster) m 0 0 0 ≡ list_of_raster m raster
rows_list m side raster e = ap (λ x. list_of (picture_of_rows x raster) m 0 0 0) e

-- the records below the root and the root's own at place 0 are the whole list
module _ (f : Record → ℕ) where
  pub root_run : (p : Picture) (m x : ℕ) (l l₁ : List ℕ) → length (list_of p m 0 0 0) ≤ length l
      → x ≡ f (record_of 0 (bits_of p m 0 0))
      → l₁ ≡ sets l 1 (map f (below p m 0 0 0))
      → set l₁ 0 x ≡ over (map f (list_of p m 0 0 0)) l
  root_run p m x l l₁ h e g =
      ap (λ q. set q 0 x) g
      ∙ sets_front (map f (below p m 0 0 0)) l 0 x
      ∙ ap (λ y. sets l 0 (y ∷ map f (below p m 0 0 0))) e
      ∙ ap (sets l 0) (sym (ap (map f) (own_first p m 0 0 0)))
      ∙ sets_over (map f (list_of p m 0 0 0)) l (rw (length-map (list_of p m 0 0 0) f) h)

-- the root's place is 0, and there is room for all
pub whole_fits : (m s side : ℕ) (raster keys bits : List ℕ) → EarlyPassed m s raster → side ≡ 2 ^ m
    → length (list_of (picture_of_rows side raster) m 0 0 0) ≤ length keys
    → length (list_of (picture_of_rows side raster) m 0 0 0) ≤ length bits
    → Fitting (picture_of_rows side raster) m 0 0 0 0 keys bits
whole_fits m s side raster keys bits p e h j = record {
  key_fits = let u = five_le 10 (good_settings m s p.settings).deep in omega arith;
  place_fits = omega arith;
  keys_room = λ t. omega arith;
  bits_room = λ t. omega arith;
}

-- what the slices hold in the end, and the count
module _ (m side : ℕ) (raster keys bits keys₁ bits₁ : List ℕ) (b n : ℕ) (e : side ≡ 2 ^ m) (w : Written (picture_of_rows side raster) m 0 0 0 0 keys bits keys₁ bits₁ b n) where
  pub whole_keys : length (list_of (picture_of_rows side raster) m 0 0 0) ≤ length keys → set keys₁ 0 0 ≡ over (keys_of (list_of_raster m raster)) keys
  whole_keys h =
      root_run (λ x. x.key) (picture_of_rows side raster) m 0 keys keys₁ h refl w.keys_are
      ∙ ap (λ l. over (keys_of l) keys) (rows_list m side raster e)

  pub whole_bits : length (list_of (picture_of_rows side raster) m 0 0 0) ≤ length bits → set bits₁ 0 b ≡ over (values_of (list_of_raster m raster)) bits
  whole_bits h =
      root_run (λ x. x.value) (picture_of_rows side raster) m b bits bits₁ h w.union_is w.bits_are
      ∙ ap (λ l. over (values_of l) bits) (rows_list m side raster e)

  -- the place after the last record is the number of records, since the first has place 0
  pub whole_count : n ≡ length (list_of_raster m raster)
  whole_count = w.next-is ∙ zero-add (length (list_of (picture_of_rows side raster) m 0 0 0)) ∙ ap length (rows_list m side raster e)
