-- Searches among all keys of a slice: the laws of Among and Count, where the first n are all. Rests on Among and Count.
use Prim.Native.Nat.{ℕ, ◌-◌, ◌≤◌, ◌<◌}
use mathlib.Core.Path.{◌≡◌, ◌∙◌, ap, sym}
use mathlib.Core.Bool.{true, false}
use mathlib.Core.List.{List}
use native.Mathlib.Omega.{arith}
use lib.ListN.{length, get_or, take}
use lib.Seq.{take-length}
use lib.Dec.{leb}
use borrow.Author.Tests.{le-leb, leb-true, leb-false}
use Rattle.std.proofs.lemmas.List.{get_or_default}
use Rattle.keys.proofs.Cases.{split}
use Rattle.list.specs.Sorted.{Ascends, Sorted}
use Rattle.list.specs.Among.{keys_up_to, place_among}
use Rattle.list.proofs.Count.{count_up_to}
use Rattle.list.proofs.Among.{found_some, found_place, place_at}

module _ (keys : List ℕ) where
  -- the count among the first of them is the count
  pub count_of_all : (x count : ℕ) → count ≡ keys_up_to x (take (length keys) keys) → count ≡ keys_up_to x keys
  count_of_all x count e = e ∙ ap (keys_up_to x) (take-length keys)

  pub count_of_first : (x count : ℕ) → count ≡ keys_up_to x keys → count ≡ keys_up_to x (take (length keys) keys)
  count_of_first x count e = e ∙ sym (ap (keys_up_to x) (take-length keys))

  pub place_of_all : (x place : ℕ) → place ≡ place_among x (take (length keys) keys) → place ≡ place_among x keys
  place_of_all x place e = e ∙ ap (place_among x) (take-length keys)

  -- of sorted keys one at least is counted, and the one before the count is the place
  pub some_found : {x : ℕ} → Sorted keys (length keys) x → (count : ℕ) → count ≡ keys_up_to x keys → 1 ≤ count
  some_found {x} s count e = found_some s count (count_of_first x count e)

  pub place_found : {x : ℕ} → Sorted keys (length keys) x → (count : ℕ) → count ≡ keys_up_to x keys → count - 1 ≡ place_among x keys
  place_found {x} s count e = place_of_all x (count - 1) (found_place s count (count_of_first x count e))

  -- a key that stands at a place has it
  pub place_seen : Ascends keys (length keys) → (i x : ℕ) → i < length keys → get_or keys i 0 ≡ x → i ≡ place_among x keys
  place_seen a i x there same = place_of_all x i (place_at a i x there same)

  -- of keys that ascend, all before one that is at or before x are
  pub parted_at : Ascends keys (length keys) → (x i j d : ℕ) → i ≤ j → j < length keys → leb (get_or keys j d) x ≡ true → leb (get_or keys i d) x ≡ true
  parted_at a x i j d order within passes =
      split i j
      (λ lt.
      let one = get_or_default keys i d 0 (omega arith) in
      let two = get_or_default keys j d 0 within in
      let e = a.ascend i j lt within in
      let f = leb-true _ _ passes in
      le-leb _ x (omega arith))
      (λ ge. let same : i ≡ j = omega arith in ap (λ k. leb (get_or keys k d) x) same ∙ passes)

  -- where keys are at or before x before a place and after x from it on, that place is the count
  pub split_count : (x place : ℕ) → place ≤ length keys
      → ((i : ℕ) → i < place → leb (get_or keys i 0) x ≡ true)
      → ((i : ℕ) → place ≤ i → i < length keys → leb (get_or keys i 0) x ≡ false)
      → place ≡ keys_up_to x keys
  split_count x place most before after =
      count_of_all x place (sym (count_up_to keys (length keys) x place (omega arith) most
      (λ i h. leb-true _ _ (before i h)) (λ i h j. leb-false _ _ (after i h j))))
