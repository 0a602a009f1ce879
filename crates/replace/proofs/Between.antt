-- A block's list between other records, whose keys lie below the block's and at or above its end: the block's record is found at its key, and
-- a leaf's at every key of its interval. Rests on Places.
use Prim.Native.Nat.{ℕ, suc, ◌+◌, ◌^◌, ◌≤◌, ◌<◌}
use mathlib.Core.Path.{◌≡◌, ap}
use mathlib.Core.Bool.{true}
use mathlib.Core.List.{List, [], ◌∷◌, ◌++◌}
use native.Mathlib.Nat.{le_refl}
use lib.ListN.{length, get_or}
use Rattle.definitions.specs.Picture.{Picture, one_feature}
use Rattle.definitions.specs.Bits.{bits_of}
use Rattle.definitions.specs.List.{Record, record_of, list_of, keys_of, Ascending}
use Rattle.definitions.specs.Standing.{place_of}
use Rattle.laws.proofs.Ascending.{ascending-append, widen, ascending_rest}
use Rattle.laws.proofs.ListOf.{list_head_first, list_one, list_ascends}
use Rattle.replace.specs.Family.{block_bits}
use Rattle.replace.proofs.Places.{place_cut, bits_cut, key_cut}

-- a block's list between records whose keys lie below the block's and at or above its end
module _ (p : Picture) (k r c κ : ℕ) {lo hi : ℕ} {a b : List Record} (low : Ascending lo κ a) (high : Ascending (κ + 5 ^ k) hi b) where
  abbrev shown : ℕ → List Record → List Record
  shown v rest = a ++ record_of κ v ∷ (rest ++ b)

  own_first : (rest : List Record) × (a ++ (list_of p k r c κ ++ b) ≡ shown (bits_of p k r c) rest) × Ascending (suc κ) hi (rest ++ b)
  own_first =
      let f = list_head_first p k r c κ in
      let t = rw f.1 at (list_ascends p k r c κ) in
      (f.0, ap (λ l. a ++ (l ++ b)) f.1, ascending-append (ascending_rest t) high)

  -- its first record is found at its key
  pub place_own : place_of κ (a ++ (list_of p k r c κ ++ b)) ≡ length a
  place_own = rw own_first.1 (place_cut (record_of κ (bits_of p k r c)) low (le_refl κ) own_first.2)

  -- with the block's bits
  pub bits_own : block_bits κ (a ++ (list_of p k r c κ ++ b)) ≡ bits_of p k r c
  bits_own = rw own_first.1 (bits_cut (record_of κ (bits_of p k r c)) low (le_refl κ) own_first.2)

  -- and the block's key
  pub key_own : get_or (keys_of (a ++ (list_of p k r c κ ++ b))) (place_of κ (a ++ (list_of p k r c κ ++ b))) 0 ≡ κ
  key_own = rw own_first.1 (key_cut (record_of κ (bits_of p k r c)) low (le_refl κ) own_first.2)

  -- a leaf's record is found at every key of its interval
  module _ (one : one_feature p k r c ≡ true) (x : ℕ) (from : κ ≤ x) (until : x < κ + 5 ^ k) where
    leaf_first : a ++ (list_of p k r c κ ++ b) ≡ shown (2 ^ p r c) []
    leaf_first = ap (λ l. a ++ (l ++ b)) (list_one p k r c κ one)

    leaf_after : Ascending (suc x) hi b
    leaf_after = widen {lo' = suc x} {hi' = hi} until (le_refl hi) high

    -- at its place
    pub place_leaf : place_of x (a ++ (list_of p k r c κ ++ b)) ≡ length a
    place_leaf = rw leaf_first (place_cut (record_of κ (2 ^ p r c)) low from leaf_after)

    -- with its feature's slot
    pub bits_leaf : block_bits x (a ++ (list_of p k r c κ ++ b)) ≡ 2 ^ p r c
    bits_leaf = rw leaf_first (bits_cut (record_of κ (2 ^ p r c)) low from leaf_after)

    -- and its key
    pub key_leaf : get_or (keys_of (a ++ (list_of p k r c κ ++ b))) (place_of x (a ++ (list_of p k r c κ ++ b))) 0 ≡ κ
    key_leaf = rw leaf_first (key_cut (record_of κ (2 ^ p r c)) low from leaf_after)
