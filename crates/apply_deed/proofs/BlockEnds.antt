-- Where the records of a block end: as many keys from its own on are below the number past it as its list has records. Rests on ShownBlocks and the laws of
-- the searches.
use Prim.Native.Nat.{ℕ, suc, ◌+◌, ◌-◌, ◌^◌, ◌≤◌, ◌<◌}
use mathlib.Core.Path.{◌≡◌, sym, ◌∙◌, ap}
use mathlib.Core.Bool.{Bool}
use mathlib.Core.List.{List, ◌++◌}
use native.Mathlib.Nat.{add-zero}
use native.Mathlib.Omega.{arith}
use lib.ListN.{length, get_or, take, drop, length-append, length-drop}
use lib.Seq.{length-take-le, get_or-drop, get_or-take, take_all}
use lib.Dec.{ltb}
use borrow.Author.Tests.{lt-ltb, le-ltb}
use Rattle.keys.proofs.Powers.{five_pos}
use Rattle.definitions.specs.Picture.{Picture}
use Rattle.definitions.specs.List.{Record, keys_of, list_of, Ascending}
use Rattle.laws.proofs.Ascending.{ascending-append}
use Rattle.laws.proofs.Records.{paired_keys}
use Rattle.laws.proofs.ListOf.{list_ascends}
use Rattle.list.specs.Sorted.{Sorted, Near}
use Rattle.list.specs.Among.{keys_up_to, keys_below, place_among}
use Rattle.list.proofs.Accepted.{keys_ascend}
use Rattle.list.proofs.Count.{below_up_to}
use Rattle.list.proofs.Among.{up_to_some, place-below}
use Rattle.list.proofs.Counted.{counted, below_counted, counted-append, counted_all, counted_out}
use Rattle.deeds.specs.Meeting.{block_at}
use Rattle.apply_deed.specs.Passes.{Showing, ShowingBlock, EndAsked}
use Rattle.apply_deed.proofs.ShownBlocks.{drop-records, showing_many, shown_some, shown_key}

-- the keys from a place up to n
module _ {past at n : ℕ} {l : List Record} {ks bs : List ℕ} (s : Showing l past ks bs at n) where
  many : length (take (n - at) (drop at ks)) ≡ n - at
  many = let d = length-drop at ks in let i = s.in_keys in length-take-le (n - at) (drop at ks) (omega arith)

  many_bits : length (take (n - at) (drop at bs)) ≡ n - at
  many_bits = let d = length-drop at bs in let i = s.in-bits in length-take-le (n - at) (drop at bs) (omega arith)

  pub keys_shown : take (n - at) (drop at ks) ≡ keys_of (l ++ s.rest)
  keys_shown =
      sym (paired_keys (take (n - at) (drop at ks)) (take (n - at) (drop at bs)) (many ∙ sym many_bits))
      ∙ ap keys_of (sym (drop-records ks bs at n) ∙ s.is)

  key_shown : (i : ℕ) → at ≤ i → i < n → get_or (keys_of (l ++ s.rest)) (i - at) 0 ≡ get_or ks i 0
  key_shown i u w =
      let e : at + (i - at) ≡ i = omega arith in
      ap (λ z. get_or z (i - at) 0) (sym keys_shown)
      ∙ get_or-take (n - at) (drop at ks) (i - at) 0 (omega arith)
      ∙ get_or-drop at ks (i - at) 0
      ∙ ap (λ j. get_or ks j 0) e

module _ (p : Picture) (k r c κ : ℕ) {ks bs : List ℕ} {at n : ℕ} (s : ShowingBlock p (block_at k r c κ) ks bs at n) where
  all_ascend : Ascending κ s.limit (list_of p k r c κ ++ s.rest)
  all_ascend = ascending-append (list_ascends p k r c κ) s.behind

  -- the search can be asked for it
  pub end_asked : {past : ℕ} → past ≡ κ + 5 ^ k → EndAsked ks at n past
  end_asked e = record {
    some = shown_some p k r c κ s;
    room = s.in_keys;
    first = let f = shown_key p k r c κ s in let z = five_pos k in omega arith;
    ascend = λ i j u v w.
        let many = showing_many s in
        let joined = length-append (list_of p k r c κ) s.rest in
        let a = key_shown s i u (omega arith) in
        let b = key_shown s j (omega arith) w in
        let h = keys_ascend (i - at) (j - at) all_ascend (omega arith) (omega arith) in
        omega arith;
  }

  -- and it is found
  pub end_found : {past : ℕ} → past ≡ κ + 5 ^ k → keys_below past (take (n - at) (drop at ks)) ≡ length (list_of p k r c κ)
  end_found {past} e =
      let test : ℕ → Bool = λ x. ltb x past in
      ap (keys_below past) (keys_shown s)
      ∙ below_counted past (list_of p k r c κ ++ s.rest)
      ∙ counted-append test (list_of p k r c κ) s.rest
      ∙ ap (λ i. i + counted test s.rest) (counted_all test (list_ascends p k r c κ) (λ x i j. lt-ltb x past (omega arith)))
      ∙ ap (λ i. length (list_of p k r c κ) + i) (counted_out test s.behind (λ x i j. le-ltb x past (omega arith)))
      ∙ add-zero (length (list_of p k r c κ))

-- the search among the lent part of the keys
module _ {ks : List ℕ} {at n past : ℕ} (a : EndAsked ks at n past) where
  abbrev part : List ℕ
  part = take (n - at) (drop at ks)

  part_many : length part ≡ n - at
  part_many = let d = length-drop at ks in let i = a.room in length-take-le (n - at) (drop at ks) (omega arith)

  part_at : (i : ℕ) → i < n - at → get_or part i 0 ≡ get_or ks (at + i) 0
  part_at i h = get_or-take (n - at) (drop at ks) i 0 h ∙ get_or-drop at ks i 0

  part_sorted : Sorted part (n - at) (past - 1)
  part_sorted =
      let some = a.some in
      let first = a.first in
      record {
        ascends = record {
          room = let m = part_many in omega arith;
          ascend = λ i j u v. rw (part_at i (omega arith), part_at j v) (a.ascend (at + i) (at + j) (omega arith) (omega arith) (omega arith));
        };
        some = omega arith;
        first = rw (part_at 0 (omega arith), add-zero at) (omega arith);
      }

  -- it can be asked for
  pub part_asked : Sorted part (length part) (past - 1) × Near part (length part) 0 (past - 1)
  part_asked = let some = a.some in rw part_many (part_sorted, record { room = omega arith; before = part_sorted.first })

  module _ (place : ℕ) (is : place ≡ place_among (past - 1) part) where
    pub found_in : place < n - at
    found_in =
        let h = place-below part_sorted in
        let whole : part ≡ take (n - at) part = sym (take_all (n - at) part (let m = part_many in omega arith)) in
        let f = is ∙ ap (place_among (past - 1)) whole in
        omega arith

    pub found_end : (at + place) + 1 ≡ at + keys_below past part
    unfolding place_among
    found_end =
        let first = a.first in
        let some = a.some in
        let up : suc (past - 1) ≡ past = omega arith in
        let below : keys_below past part ≡ keys_up_to (past - 1) part = ap (λ x. keys_below x part) (sym up) ∙ below_up_to (past - 1) part in
        let same : keys_up_to (past - 1) (take (n - at) part) ≡ keys_up_to (past - 1) part = ap (keys_up_to (past - 1)) (take_all (n - at) part (let m = part_many in omega arith)) in
        let least = up_to_some (past - 1) (n - at) part (omega arith) (let m = part_many in omega arith) part_sorted.first in
        omega arith
