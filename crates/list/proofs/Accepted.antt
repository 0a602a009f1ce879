-- What an accepted list gives a caller: it is the list of the picture that it shows, its records are there, its keys ascend in the map's interval,
-- and its bits are below 2 ^ s. And the list of a picture is accepted. Rests on laws' Records and ReadBack.
use Prim.Native.Nat.{ℕ, zero, suc, ◌+◌, ◌*◌, ◌^◌, ◌≤◌, ◌<◌}
use mathlib.Core.Path.{◌≡◌, sym, ◌∙◌, ap, subst}
use mathlib.Core.Bool.{true}
use mathlib.Core.List.{List}
use native.Mathlib.Nat.{zero-add}
use native.Mathlib.Omega.{arith}
use lib.Dec.{leb}
use lib.ListN.{length, get_or}
use borrow.Author.Tests.{leb-true, le-leb}
use Rattle.keys.specs.Key.{root_key, height_of}
use Rattle.keys.specs.Block.{row_of, column_of}
use Rattle.keys.proofs.Cases.{and_left, and_right, and_both}
use Rattle.definitions.specs.Picture.{Picture, features_below}
use Rattle.definitions.specs.List.{Record, keys_of, list_of, list_of_picture, Ascending, none, next}
use Rattle.definitions.specs.Read.{room, records_of, picture_of, same_records, is_list_of_block, is_list}
use Rattle.definitions.specs.Log.{is_content}
use Rattle.definitions.specs.Edit.{content_of}
use Rattle.laws.proofs.Ascending.{ascending_bounds}
use Rattle.laws.proofs.ListOf.{list_ascends, list_some, list_most}
use Rattle.laws.proofs.ReadBack.{root_keys}
use Rattle.laws.proofs.IsList.{same_to, list_passes}
use Rattle.laws.proofs.Records.{records-length}

-- the records l are the list of the block of height k at row r and column c with key κ, as they show it
pub record BlockList (m s k r c κ : ℕ) (l : List Record) : Type 0 where
  pub is : l ≡ list_of (picture_of m l) k r c κ
  pub below : features_below s (picture_of m l) k r c ≡ true
  pub some : 1 ≤ length l
  pub few : 3 * length l < 4 ^ suc k
  pub ascends : Ascending κ (κ + 5 ^ k) l

pub block_list : (m s k r c κ : ℕ) (l : List Record) → is_list_of_block m s k r c κ l ≡ true → BlockList m s k r c κ l
unfolding is_list_of_block
block_list m s k r c κ l e =
    let p = picture_of m l in
    let is : l ≡ list_of p k r c κ = same_to l (list_of p k r c κ) (and_left (same_records l (list_of p k r c κ)) (features_below s p k r c) e) in
    record {
      is = is;
      below = and_right (same_records l (list_of p k r c κ)) (features_below s p k r c) e;
      some = let h = list_some p k r c κ in let z = ap length is in omega arith;
      few = let h = list_most p k r c κ in let z = ap length is in omega arith;
      ascends = subst (Ascending κ (κ + 5 ^ k)) (sym is) (list_ascends p k r c κ);
    }

-- the content of a log's entry
pub content_list : (m s κ : ℕ) (l : List Record) → is_content m s κ l ≡ true → BlockList m s (height_of m κ) (row_of m κ) (column_of m κ) κ l
unfolding is_content
content_list m s κ l e = block_list m s (height_of m κ) (row_of m κ) (column_of m κ) κ l e

-- it is that of the picture that it shows
pub content_is : (m s κ : ℕ) (l : List Record) → is_content m s κ l ≡ true → l ≡ content_of m (picture_of m l) κ
unfolding content_of
content_is m s κ l e = (content_list m s κ l e).is

-- keys that ascend lie between the bounds, and are smaller at a smaller place
key_from : {lo hi : ℕ} {l : List Record} (i : ℕ) → Ascending lo hi l → i < length l → lo ≤ get_or (keys_of l) i 0
key_from i (none h) v = absurd (omega arith)
key_from zero (next h a) v = h
key_from (suc i) (next {e = e} h a) v = let z = key_from i a (omega arith) in omega arith

pub place_key_below : {lo hi : ℕ} {l : List Record} (i : ℕ) → Ascending lo hi l → i < length l → get_or (keys_of l) i 0 < hi
place_key_below i (none h) v = absurd (omega arith)
place_key_below zero (next {e = e} h a) v = let z = ascending_bounds a in omega arith
place_key_below (suc i) (next h a) v = place_key_below i a (omega arith)

pub keys_ascend : {lo hi : ℕ} {l : List Record} (i j : ℕ) → Ascending lo hi l → i < j → j < length l → get_or (keys_of l) i 0 < get_or (keys_of l) j 0
keys_ascend i j (none h) u v = absurd (omega arith)
keys_ascend zero zero (next h a) u v = absurd (omega arith)
keys_ascend zero (suc j) (next h a) u v = key_from j a (omega arith)
keys_ascend (suc i) zero (next h a) u v = absurd (omega arith)
keys_ascend (suc i) (suc j) (next h a) u v = keys_ascend i j a (omega arith) (omega arith)

-- the first n records are a list at m and s
pub record AcceptedList (m s : ℕ) (K B : List ℕ) (n : ℕ) : Type 0 where
  pub in_keys : n ≤ length K
  pub in-bits : n ≤ length B
  pub some : 1 ≤ n
  pub few : 3 * n < 4 ^ suc m
  pub is : records_of K B n ≡ list_of_picture m (picture_of m (records_of K B n))
  pub below : features_below s (picture_of m (records_of K B n)) m 0 0 ≡ true
  pub ascends : Ascending 0 (5 ^ m) (records_of K B n)

pub accepted_as_list : (m s : ℕ) (K B : List ℕ) (n : ℕ) → is_list m s K B n ≡ true → AcceptedList m s K B n
unfolding is_list
accepted_as_list m s K B n e =
    let l = records_of K B n in
    let fits = leb-true n (room K B) (and_left (leb n (room K B)) (is_list_of_block m s m 0 0 root_key l) e) in
    let b = block_list m s m 0 0 root_key l (and_right (leb n (room K B)) (is_list_of_block m s m 0 0 root_key l) e) in
    let size = records-length K B n (omega arith) (omega arith) in
    record {
      in_keys = omega arith;
      in-bits = omega arith;
      some = let h = b.some in omega arith;
      few = let h = b.few in omega arith;
      is = b.is;
      below = b.below;
      ascends = rw (zero-add (5 ^ m)) at b.ascends;
    }

-- the list of a picture with features below s is accepted
pub list_accepted : (m s : ℕ) (p : Picture) (K B : List ℕ) (n : ℕ) → n ≤ length K → n ≤ length B → features_below s p m 0 0 ≡ true
    → records_of K B n ≡ list_of_picture m p
    → is_list m s K B n ≡ true
unfolding is_list
list_accepted m s p K B n in_keys in-bits below is =
    and_both (leb n (room K B)) (is_list_of_block m s m 0 0 root_key (records_of K B n)) (le-leb n (room K B) (omega arith))
    (ap (is_list_of_block m s m 0 0 root_key) is ∙ list_passes m s p m 0 0 root_key (root_keys m) below)
