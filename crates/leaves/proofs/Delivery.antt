-- Leaves are a delivery exactly when their features are below s and the raster's leaves end with them; and the picture of a delivery has in each
-- leaf's block the leaf's feature. Rests on Sound and Complete.
use Prim.Native.Nat.{ℕ, zero, suc, ◌^◌, ◌≤◌, ◌<◌}
use mathlib.Core.Path.{◌≡◌, refl, sym, ◌∙◌, ap}
use mathlib.Core.Bool.{true, false, not, ◌&&◌, true≢false}
use mathlib.Core.List.{List, [], ◌∷◌, ◌++◌, append-nil, Memᴰ}
use native.Mathlib.Nat.{le_of_suc-le-suc}
use native.Mathlib.Omega.{arith}
use lib.ListN.{length, get_or, drop}
use lib.Seq.{drop-length}
use lib.Dec.{leb, eqb}
use borrow.Author.Tests.{leb-true, eqb-true, eq-eqb, not-true}
use Rattle.keys.specs.Key.{valid_key}
use Rattle.keys.specs.Block.{in_block}
use Rattle.keys.proofs.Cases.{decide, and_left, and_right, and_both}
use Rattle.keys.specs.Under.{here, Every}
use Rattle.keys.proofs.Valid.{valid_below}
use Rattle.keys.proofs.InBlock.{in_block_iff, in_raster}
use Rattle.definitions.specs.Read.{paired}
use Rattle.definitions.specs.Leaves.{valid_keys, ascend_from, coverings, cover_once, are_leaves, picture_of_leaves}
use Rattle.definitions.specs.Refusal.{bad_pixel}
use Rattle.laws.proofs.Within.{first_within}
use Rattle.laws.proofs.Pixels.{every_to, every_from}
use Rattle.laws.proofs.Features.{one_from_leaf}
use Rattle.laws.proofs.AscendingKeys.{AscendingKeys, no_key, key}
use Rattle.leaves.specs.Delivered.{leaves_end, Parted}
use Rattle.leaves.proofs.Tiles.{Tiles, tiles_ascend, ascend_test, tiles_valid, tiles_once}
use Rattle.leaves.proofs.Sound.{leaves_sound}
use Rattle.leaves.proofs.Open.{OpenBlock, cover_cons, cover_some}
use Rattle.leaves.proofs.Complete.{LeafShows, all_read}

pub member_at : (l : List ℕ) (i : ℕ) → i < length l → Memᴰ (get_or l i 0) l
member_at [] i h = absurd (omega arith)
member_at (x ∷ l) zero h = Memᴰ.head refl
member_at (x ∷ l) (suc i) h = Memᴰ.tail (member_at l i (le_of_suc-le-suc h))

picture_here : (m κ f : ℕ) (keys features : List ℕ) (row column : ℕ) → in_block m κ row column ≡ true
    → picture_of_leaves m (paired (κ ∷ keys) (f ∷ features)) row column ≡ f
unfolding picture_of_leaves paired
picture_here m κ f keys features row column e = rw e

picture_later : (m κ f : ℕ) (keys features : List ℕ) (row column : ℕ) → in_block m κ row column ≡ false
    → picture_of_leaves m (paired (κ ∷ keys) (f ∷ features)) row column ≡ picture_of_leaves m (paired keys features) row column
unfolding picture_of_leaves paired
picture_later m κ f keys features row column e = rw e

-- where exactly one leaf has the pixel, its feature is the picture's there
pub once_feature : (m : ℕ) (keys features : List ℕ) (row column i : ℕ) → length features ≡ length keys → i < length keys
    → in_block m (get_or keys i 0) row column ≡ true
    → coverings m keys row column ≡ 1
    → picture_of_leaves m (paired keys features) row column ≡ get_or features i 0
once_feature m [] features row column i same h e one = absurd (omega arith)
once_feature m (κ ∷ keys) [] row column i same h e one = absurd (omega arith)
once_feature m (κ ∷ keys) (f ∷ features) row column zero same h e one = picture_here m κ f keys features row column e
once_feature m (κ ∷ keys) (f ∷ features) row column (suc i) same h e one =
    let j : i < length keys = le_of_suc-le-suc h in
    decide (in_block m κ row column)
    (λ t.
    let more = cover_some m row column (member_at keys i j) e in
    let all = cover_cons m κ keys row column true t in
    absurd (omega arith))
    (λ t.
    let all = cover_cons m κ keys row column false t in
    picture_later m κ f keys features row column t ∙ once_feature m keys features row column i (omega arith) j e (omega arith))

valid_member : (m : ℕ) (l : List ℕ) → valid_keys m l ≡ true → (x : ℕ) → Memᴰ x l → valid_key m x ≡ true
unfolding valid_keys
valid_member m [] e x n = elim n [ ]
valid_member m (κ ∷ l) e x (Memᴰ.head f) = ap (valid_key m) f ∙ and_left (valid_key m κ) (valid_keys m l) e
valid_member m (κ ∷ l) e x (Memᴰ.tail n) = valid_member m l (and_right (valid_key m κ) (valid_keys m l) e) x n

ascending_from : (lo hi : ℕ) (l : List ℕ) → ascend_from lo l ≡ true → lo ≤ hi → ((x : ℕ) → Memᴰ x l → x < hi) → AscendingKeys lo hi l
unfolding ascend_from
ascending_from lo hi [] e b h = no_key b
ascending_from lo hi (x ∷ l) e b h =
    key (leb-true lo x (and_left (leb lo x) (ascend_from (suc x) l) e))
    (ascending_from (suc x) hi l (and_right (leb lo x) (ascend_from (suc x) l) e) (h x (Memᴰ.head refl)) (λ y n. h y (Memᴰ.tail n)))

-- every pixel is covered once
once_to : (m : ℕ) (keys : List ℕ) → cover_once m keys ≡ true → (row column : ℕ) → row < 2 ^ m → column < 2 ^ m → coverings m keys row column ≡ 1
unfolding cover_once
once_to m keys e row column low narrow =
    eqb-true _ _ (every_to (λ r c. eqb (coverings m keys r c) 1) m 0 0 e row column (omega arith))

once_from : (m : ℕ) (keys : List ℕ) → ((row column : ℕ) → row < 2 ^ m → column < 2 ^ m → coverings m keys row column ≡ 1) → cover_once m keys ≡ true
unfolding cover_once
once_from m keys h =
    every_from (λ r c. eqb (coverings m keys r c) 1) m 0 0 (λ row column w. eq-eqb _ _ (h row column (omega arith) (omega arith)))

-- what the test of a delivery says
pub record Leaves (m s : ℕ) (keys features : List ℕ) : Type 0 where
  pub valid : valid_keys m keys ≡ true
  pub ascend : ascend_from 0 keys ≡ true
  pub below : bad_pixel s features ≡ false
  pub once : (row column : ℕ) → row < 2 ^ m → column < 2 ^ m → coverings m keys row column ≡ 1

module _ (m s : ℕ) (keys features : List ℕ) where
  pub leaves_to : are_leaves m s keys features ≡ true → Leaves m s keys features
  unfolding are_leaves
  leaves_to e =
      let a = and_left (valid_keys m keys && ascend_from 0 keys) (not (bad_pixel s features) && cover_once m keys) e in
      let b = and_right (valid_keys m keys && ascend_from 0 keys) (not (bad_pixel s features) && cover_once m keys) e in
      record {
        valid = and_left (valid_keys m keys) (ascend_from 0 keys) a;
        ascend = and_right (valid_keys m keys) (ascend_from 0 keys) a;
        below = not-true _ (and_left (not (bad_pixel s features)) (cover_once m keys) b);
        once = once_to m keys (and_right (not (bad_pixel s features)) (cover_once m keys) b);
      }

  pub leaves_from : Leaves m s keys features → are_leaves m s keys features ≡ true
  unfolding are_leaves
  leaves_from l =
      and_both (valid_keys m keys && ascend_from 0 keys) (not (bad_pixel s features) && cover_once m keys)
      (and_both (valid_keys m keys) (ascend_from 0 keys) l.valid l.ascend)
      (and_both (not (bad_pixel s features)) (cover_once m keys) (ap not l.below) (once_from m keys l.once))

  -- keys that tile the raster, with features below s, are a delivery
  pub tiles_leaves : Tiles m 0 0 0 keys → bad_pixel s features ≡ false → Leaves m s keys features
  tiles_leaves t h = record {
    valid = tiles_valid here t;
    ascend = ascend_test (tiles_ascend t);
    below = h;
    once = λ row column low narrow. tiles_once row column here t (omega arith);
  }

  module _ (same : length features ≡ length keys) where
    pub leaves_shows : Leaves m s keys features → LeafShows m (picture_of_leaves m (paired keys features)) keys features
    leaves_shows l i k r c h b =
        let f = get_or features i 0 in
        let p = picture_of_leaves m (paired keys features) in
        let feature : Every (λ a d. p a d ≡ f) k r c = λ a d w. once_feature m keys features a d i same h ((in_block_iff a d b).1 w) (l.once a d (in_raster b w).0 (in_raster b w).1) in
        (one_from_leaf p f k r c feature, feature r c (first_within k r c))

    open_leaves : Leaves m s keys features → OpenBlock m 0 keys
    open_leaves l = record {
      valid = valid_member m keys l.valid;
      ascends = ascending_from 0 (5 ^ m) keys l.ascend (omega arith) (λ x n. valid_below m x (valid_member m keys l.valid x n));
      covers = λ row column low narrow from. l.once row column low narrow;
    }

    pub leaves_parted : Leaves m s keys features → Parted (picture_of_leaves m (paired keys features)) keys features m 0 0 0 0
    leaves_parted l = (all_read m (picture_of_leaves m (paired keys features)) keys features (leaves_shows l) (open_leaves l)).0

    pub leaves-end : Leaves m s keys features → leaves_end keys m 0 0 ≡ length keys
    leaves-end l = (all_read m (picture_of_leaves m (paired keys features)) keys features (leaves_shows l) (open_leaves l)).1

  -- where the raster's leaves end with the last, they tile the raster
  end_tiles : leaves_end keys m 0 0 ≡ length keys → Tiles m 0 0 0 keys
  end_tiles e =
      let b = leaves_sound keys m 0 0 0 0 (omega arith) in
      let f : keys ≡ b.run = b.splits ∙ ap (λ i. b.run ++ drop i keys) e ∙ ap (λ l. b.run ++ l) (drop-length keys) ∙ append-nil b.run in
      rw f b.tiles

  pub end_leaves : leaves_end keys m 0 0 ≡ length keys → bad_pixel s features ≡ false → are_leaves m s keys features ≡ true
  end_leaves e h = leaves_from (tiles_leaves (end_tiles e) h)

  pub bad_leaves : bad_pixel s features ≡ true → are_leaves m s keys features ≡ false
  bad_leaves h = decide (are_leaves m s keys features) (λ e. absurd (true≢false (sym h ∙ (leaves_to e).below))) (λ e. e)

  pub other_leaves : length features ≡ length keys → (leaves_end keys m 0 0 ≡ length keys → ⊥) → are_leaves m s keys features ≡ false
  other_leaves same n = decide (are_leaves m s keys features) (λ e. absurd (n (leaves-end same (leaves_to e)))) (λ e. e)
