-- Records in two slices, one after the other: their lines, and the keys that a list that was built leaves there. Rests on ascending keys.
use Prim.Native.Nat.{ℕ, suc, ◌+◌, ◌-◌, ◌≤◌, ◌<◌}
use mathlib.Core.Path.{◌≡◌, refl, sym, ap, ap₂, ◌∙◌}
use mathlib.Core.List.{List, [], ◌∷◌, ◌++◌}
use native.Mathlib.Omega.{arith}
use native.Mathlib.Numerals.{add-one}
use lib.ListN.{length, take, drop, get_or, length-map, get_or-append}
use lib.Seq.{drop-cons, take-length, length-take-le, get_or-take}
use Rattle.keys.proofs.Descent.{one_less}
use Rattle.definitions.specs.List.{Record, record_of, keys_of, Ascending}
use Rattle.definitions.specs.Read.{paired, records_of}
use Rattle.definitions.specs.Buffer.{over}
use Rattle.list.proofs.Accepted.{place_key_below}
use Rattle.definitions.specs.Listing.{line_of, lines_of}
use Rattle.listing_text.specs.Put.{Records}

module _ (keys bits : List ℕ) (n i : ℕ) (h : i < n) (k : n ≤ length keys) (b : n ≤ length bits) where
  -- the first of the records left, and the others
  pub records_piece : records_of (drop i keys) (drop i bits) (n - i)
      ≡ record_of (get_or keys i 0) (get_or bits i 0) ∷ records_of (drop (i + 1) keys) (drop (i + 1) bits) (n - (i + 1))
  unfolding paired
  records_piece =
      ap (λ (j : ℕ). records_of (drop i keys) (drop i bits) j) (one_less n i h)
      ∙ ap₂ (λ (x y : List ℕ). records_of x y (suc (n - (i + 1)))) (next_of keys (omega arith)) (next_of bits (omega arith))
    where
      next_of : (l : List ℕ) → i < length l → drop i l ≡ get_or l i 0 ∷ drop (i + 1) l
      next_of l q = drop-cons l i 0 q ∙ ap (λ (j : ℕ). get_or l i 0 ∷ drop j l) (sym (add-one i))

  -- its line, and theirs
  pub lines_piece : (m s : ℕ) → lines_of m s (records_of (drop i keys) (drop i bits) (n - i))
      ≡ line_of m s (record_of (get_or keys i 0) (get_or bits i 0)) ++ lines_of m s (records_of (drop (i + 1) keys) (drop (i + 1) bits) (n - (i + 1)))
  unfolding lines_of
  lines_piece m s = ap (lines_of m s) records_piece

-- no records, no lines
pub lines_none : (m s : ℕ) (keys bits : List ℕ) → lines_of m s (records_of keys bits 0) ≡ []
unfolding lines_of paired
lines_none m s keys bits = refl

-- the keys of a list that was written ascend below the bound
pub record_written_key : {lo hi : ℕ} {l : List Record} → Ascending lo hi l → (keys : List ℕ) (i : ℕ) → i < length l → get_or (over (keys_of l) keys) i 0 < hi
record_written_key {l = l} a keys i q =
    let e = get_or-append (keys_of l) (drop (length (keys_of l)) keys) 0 i (rw (length-map l (λ x. x.key)) q) in
    let f = place_key_below i a q in
    omega arith

-- the parts of two slices that have just the records
module _ {m n : ℕ} {keys bits : List ℕ} (r : Records m keys bits n) where
  pub keys_part : length (take n keys) ≡ n
  keys_part = length-take-le n keys r.keys_hold

  pub bits_part : length (take n bits) ≡ n
  bits_part = length-take-le n bits r.bits_hold

  -- have them
  pub parts_hold : Records m (take n keys) (take n bits) (length (take n keys))
  parts_hold =
      let k = keys_part in
      let b = bits_part in
      record {
        resolution = r.resolution;
        keys_hold = omega arith;
        bits_hold = omega arith;
        digits = λ i h. let e = get_or-take n keys i 0 (omega arith) in let d = r.digits i (omega arith) in omega arith;
      }

  -- and show the same
  pub parts_are : records_of (take n keys) (take n bits) (length (take n keys)) ≡ records_of keys bits n
  parts_are =
      ap₂ paired (take-length (take n keys)) (ap (λ k. take k (take n bits)) (keys_part ∙ sym bits_part) ∙ take-length (take n bits))
