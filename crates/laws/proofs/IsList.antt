-- When records are a list: exactly when they are the list of some picture, or of some raster, with features below s (specification S4.12).
-- Rests on ReadBack and RasterOf.
use Prim.Native.Nat.{ℕ, ◌≤◌}
use mathlib.Core.Path.{◌≡◌, refl, sym, ◌∙◌, ap}
use mathlib.Core.Bool.{true, false, ◌&&◌, false≢true}
use mathlib.Core.Logic.{◌↔◌}
use mathlib.Core.List.{List, [], ◌∷◌}
use lib.Dec.{leb, eqb}
use borrow.Author.Tests.{eqb-true, eq-eqb, leb-true, le-leb}
use Rattle.keys.specs.Key.{root_key}
use Rattle.keys.proofs.Cases.{and_left, and_right, and_both}
use Rattle.definitions.specs.Picture.{Picture, picture_of_raster, features_below}
use Rattle.definitions.specs.List.{Record, list_of, list_of_raster}
use Rattle.definitions.specs.Read.{room, records_of, picture_of, same_records, is_list_of_block, is_list}
use Rattle.definitions.specs.Refusal.{bad_length, bad_pixel}
use Rattle.laws.proofs.Pixels.{Agree}
use Rattle.laws.proofs.Features.{below_agree}
use Rattle.laws.proofs.ListOf.{list_agree}
use Rattle.laws.proofs.ReadBack.{KeysFrom, root_keys, block_back}
use Rattle.laws.proofs.RasterOf.{raster_of_picture, raster-length, raster_back, raster_below, raster_good, length_from}

-- records that pass the comparison are equal
pub same_to : (l l' : List Record) → same_records l l' ≡ true → l ≡ l'
unfolding same_records
same_to [] [] e = refl
same_to [] (y ∷ ys) e = absurd (false≢true e)
same_to (x ∷ xs) [] e = absurd (false≢true e)
same_to (x ∷ xs) (y ∷ ys) e =
    let both = and_left (eqb x.key y.key && eqb x.value y.value) (same_records xs ys) e in
    let κ : x.key ≡ y.key = eqb-true _ _ (and_left (eqb x.key y.key) (eqb x.value y.value) both) in
    let v : x.value ≡ y.value = eqb-true _ _ (and_right (eqb x.key y.key) (eqb x.value y.value) both) in
    let rest = same_to xs ys (and_right (eqb x.key y.key && eqb x.value y.value) (same_records xs ys) e) in
    λ i. record { key = κ i; value = v i } ∷ rest i

-- equal records pass
pub same_refl : (l : List Record) → same_records l l ≡ true
unfolding same_records
same_refl [] = refl
same_refl (x ∷ xs) =
    and_both (eqb x.key x.key && eqb x.value x.value) (same_records xs xs)
    (and_both (eqb x.key x.key) (eqb x.value x.value) (eq-eqb x.key x.key refl) (eq-eqb x.value x.value refl))
    (same_refl xs)

-- records pass the comparison exactly when they are equal
pub same_means : (l l' : List Record) → (same_records l l' ≡ true) ↔ (l ≡ l')
same_means l l' = (same_to l l', λ e. rw e (same_refl l'))

-- the records are the list of some picture's block, with features below s
pub record ShowsBlock (s k r c κ : ℕ) (l : List Record) : Type 0 where
  pub picture : Picture
  pub below : features_below s picture k r c ≡ true
  pub is : l ≡ list_of picture k r c κ

-- a list of a block is the list of the picture that it shows
pub block_list_to : (m s k r c κ : ℕ) (l : List Record) → is_list_of_block m s k r c κ l ≡ true → ShowsBlock s k r c κ l
unfolding is_list_of_block
block_list_to m s k r c κ l e = record {
  picture = picture_of m l;
  below = and_right (same_records l (list_of (picture_of m l) k r c κ)) (features_below s (picture_of m l) k r c) e;
  is = same_to l (list_of (picture_of m l) k r c κ) (and_left (same_records l (list_of (picture_of m l) k r c κ)) (features_below s (picture_of m l) k r c) e);
}

-- the list of a picture's block passes
pub list_passes : (m s : ℕ) (p : Picture) (k r c κ : ℕ) → KeysFrom m k r c κ → features_below s p k r c ≡ true
    → is_list_of_block m s k r c κ (list_of p k r c κ) ≡ true
unfolding is_list_of_block
list_passes m s p k r c κ keys below =
    let l = list_of p k r c κ in
    let back : Agree (picture_of m l) p k r c = block_back m p k r c κ keys in
    and_both (same_records l (list_of (picture_of m l) k r c κ)) (features_below s (picture_of m l) k r c)
    ((same_means l (list_of (picture_of m l) k r c κ)).1 (sym (list_agree (picture_of m l) p k r c κ back)))
    (below_agree s (picture_of m l) p k r c back ∙ below)

-- so do records that are one
pub block_list_from : (m s k r c κ : ℕ) (l : List Record) → KeysFrom m k r c κ → ShowsBlock s k r c κ l → is_list_of_block m s k r c κ l ≡ true
block_list_from m s k r c κ l keys x = ap (is_list_of_block m s k r c κ) x.is ∙ list_passes m s x.picture k r c κ keys x.below

-- records are a list of the block exactly when they are the list of some picture's block with features below s
pub block_list_means : (m s k r c κ : ℕ) (l : List Record) → KeysFrom m k r c κ → (is_list_of_block m s k r c κ l ≡ true) ↔ ShowsBlock s k r c κ l
block_list_means m s k r c κ l keys = (block_list_to m s k r c κ l, block_list_from m s k r c κ l keys)

-- the records are the list of a raster that passes the tests of refusals 2 and 3
pub record ShowsRaster (m s : ℕ) (l : List Record) : Type 0 where
  pub raster : List ℕ
  pub sized : bad_length m raster ≡ false
  pub below : bad_pixel s raster ≡ false
  pub is : l ≡ list_of_raster m raster

-- for a picture of the map there is its raster
pub raster_of_block : (m s : ℕ) (l : List Record) → ShowsBlock s m 0 0 root_key l → ShowsRaster m s l
raster_of_block m s l x = record {
  raster = raster_of_picture m x.picture;
  sized = length_from m (raster_of_picture m x.picture) (raster-length m x.picture);
  below = raster_good m s x.picture x.below;
  is = x.is ∙ sym (list_agree (picture_of_raster m (raster_of_picture m x.picture)) x.picture m 0 0 root_key (raster_back m x.picture));
}

-- and a raster is a picture of the map
pub block_of_raster : (m s : ℕ) (l : List Record) → ShowsRaster m s l → ShowsBlock s m 0 0 root_key l
block_of_raster m s l x = record {
  picture = picture_of_raster m x.raster;
  below = raster_below m s x.raster x.sized x.below;
  is = x.is;
}

-- the first n records are a list at m and s exactly when they are there and are the list of a raster with features below s
pub is_list_means : (m s : ℕ) (keys bits : List ℕ) (n : ℕ)
    → (is_list m s keys bits n ≡ true) ↔ ((n ≤ room keys bits) × ShowsRaster m s (records_of keys bits n))
unfolding is_list
is_list_means m s keys bits n = (
  λ e. (
    leb-true n (room keys bits) (and_left (leb n (room keys bits)) (is_list_of_block m s m 0 0 root_key (records_of keys bits n)) e),
    raster_of_block m s (records_of keys bits n)
        (block_list_to m s m 0 0 root_key (records_of keys bits n) (and_right (leb n (room keys bits)) (is_list_of_block m s m 0 0 root_key (records_of keys bits n)) e)),
  ),
  λ x. and_both (leb n (room keys bits)) (is_list_of_block m s m 0 0 root_key (records_of keys bits n))
      (le-leb n (room keys bits) x.0)
      (block_list_from m s m 0 0 root_key (records_of keys bits n) (root_keys m) (block_of_raster m s (records_of keys bits n) x.1)),
)
