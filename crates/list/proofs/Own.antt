-- An accepted list is the list of its own picture, and what that gives of the two slices: sorted keys, and at a block's place the block's bits and
-- the part that holds it. Rests on Accepted, Among, Lookup and PartLength.
use Prim.Native.Nat.{ℕ, ◌+◌, ◌-◌, ◌^◌, ◌≤◌, ◌<◌}
use mathlib.Core.Path.{◌≡◌, refl, sym, ◌∙◌, ap}
use mathlib.Core.Bool.{true}
use mathlib.Core.List.{List}
use native.Mathlib.Omega.{arith}
use lib.ListN.{length, get_or, take}
use Rattle.keys.specs.Under.{MapBlock}
use Rattle.definitions.specs.Bits.{bits_of}
use Rattle.definitions.specs.List.{keys_of, values_of, list_of_picture}
use Rattle.definitions.specs.Read.{records_of, is_list}
use Rattle.definitions.specs.Standing.{place_of, part_length}
use Rattle.laws.proofs.ListOf.{list_ascends, list_head_first, list_some}
use Rattle.laws.proofs.Records.{records-length, key_at, value-at}
use Rattle.list.specs.Own.{OwnList, shown_by}
use Rattle.list.specs.Sorted.{Ascends, Sorted, Near}
use Rattle.list.specs.Among.{keys_up_to, keys_below, place_among}
use Rattle.list.proofs.Accepted.{accepted_as_list, keys_ascend}
use Rattle.list.proofs.Count.{counted_before}
use Rattle.list.proofs.Among.{found_some, place-below, keys_of_records, values_of_records, place-among}
use Rattle.list.proofs.Lookup.{lookup_value}
use Rattle.list.proofs.PartLength.{part_some, part_end}

-- what the test of a list says
pub own_list : (m s : ℕ) (keys bits : List ℕ) (n : ℕ) → is_list m s keys bits n ≡ true → OwnList m keys bits n
own_list m s keys bits n e = let a = accepted_as_list m s keys bits n e in record { fits = omega (arith, a.in_keys, a.in-bits); own = a.is }

module _ {m : ℕ} {keys bits : List ℕ} {n : ℕ} (o : OwnList m keys bits n) where
  pub own_keys : keys_of (list_of_picture m (shown_by m keys bits n)) ≡ take n keys
  own_keys = ap keys_of (sym o.own) ∙ keys_of_records keys bits n o.fits

  pub own_values : values_of (list_of_picture m (shown_by m keys bits n)) ≡ take n bits
  own_values = ap values_of (sym o.own) ∙ values_of_records keys bits n o.fits

  in_keys : n ≤ length keys
  in_keys = let h = o.fits in omega arith

  in-bits : n ≤ length bits
  in-bits = let h = o.fits in omega arith

  pub own-length : length (list_of_picture m (shown_by m keys bits n)) ≡ n
  own-length = ap length (sym o.own) ∙ records-length keys bits n in_keys in-bits

  own_key : (i : ℕ) → i < n → get_or (keys_of (list_of_picture m (shown_by m keys bits n))) i 0 ≡ get_or keys i 0
  own_key i h = ap (λ l. get_or (keys_of l) i 0) (sym o.own) ∙ key_at keys bits n in_keys in-bits i h

  -- the first n keys ascend, below 5 ^ m
  pub own_ascends : Ascends keys n
  own_ascends =
      record {
        room = in_keys;
        ascend = λ i j u v.
            let e = own-length in
            let a = own_key i (omega arith) in
            let b = own_key j v in
            let h = keys_ascend i j (list_ascends (shown_by m keys bits n) m 0 0 0) u (omega arith) in
            omega arith;
      }

  -- the first is the root's, so every key has a place
  pub own_sorted : (key : ℕ) → Sorted keys n key
  own_sorted key =
      let some = list_some (shown_by m keys bits n) m 0 0 0 in
      let e = own-length in
      let f = ap (λ l. get_or (keys_of l) 0 0) (list_head_first (shown_by m keys bits n) m 0 0 0).1 in
      let a = own_key 0 (omega arith) in
      record { ascends = own_ascends; some = omega arith; first = omega arith }

  -- a place among the first n
  pub own_place : (κ : ℕ) → place_among κ (take n keys) < n
  own_place κ = place-below (own_sorted κ)

  -- a search for what comes later can begin there
  pub own_near : (κ : ℕ) → Near keys n (place_among κ (take n keys)) κ
  unfolding place_among
  own_near κ =
      let some = found_some (own_sorted κ) (keys_up_to κ (take n keys)) refl in
      let room = own_place κ in
      record { room = room; before = counted_before own_ascends κ (keys_up_to κ (take n keys) - 1) (omega arith) }

  -- of a block of the map: the bitstring at its place is its own, and the part that holds it ends with the keys below the end of its interval
  module _ {k r c κ : ℕ} (b : MapBlock m k r c κ) where
    pub own_bits : get_or bits (place_among κ (take n keys)) 0 ≡ bits_of (shown_by m keys bits n) k r c
    own_bits =
        sym (value-at keys bits n in_keys in-bits (place_among κ (take n keys)) (own_place κ))
        ∙ ap (λ i. get_or (values_of (records_of keys bits n)) i 0) (sym (place-among keys bits n o.fits κ))
        ∙ ap (λ l. get_or (values_of l) (place_of κ l) 0) o.own
        ∙ lookup_value (shown_by m keys bits n) b

    pub own_part_some : 1 ≤ part_length m κ (records_of keys bits n)
    own_part_some = rw o.own (part_some (shown_by m keys bits n) b)

    pub own_part : place_of κ (records_of keys bits n) + part_length m κ (records_of keys bits n) ≡ keys_below (κ + 5 ^ k) (take n keys)
    own_part = ap (λ l. place_of κ l + part_length m κ l) o.own ∙ part_end (shown_by m keys bits n) b ∙ ap (keys_below (κ + 5 ^ k)) own_keys
