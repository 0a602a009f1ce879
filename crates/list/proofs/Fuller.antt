-- The fuller standing (specification S5): its numbers by the list's test, and as the code finds them in an accepted list. A listed block's records
-- are one where one slot is set, and else end with the keys of its interval; inside a leaf the key found is the leaf's. Rests on Own and Shown.
use Prim.Native.Nat.{ℕ, zero, suc, ◌+◌, ◌-◌, ◌^◌, ◌≤◌, ◌<◌}
use mathlib.Core.Path.{◌≡◌, refl, sym, ◌∙◌, ap, ap₂}
use mathlib.Core.Bool.{Bool, true, false, cond}
use mathlib.Core.List.{List}
use native.Mathlib.Omega.{arith}
use lib.ListN.{length, get_or, take}
use lib.Seq.{get_or-take}
use borrow.Author.Tests.{eq-eqb, ne_eqb}
use Rattle.keys.specs.Key.{root_key, level_of, height_of}
use Rattle.keys.specs.Block.{row_of, column_of}
use Rattle.keys.proofs.Cases.{decide}
use Rattle.keys.proofs.Powers.{five_pos, five_le}
use Rattle.keys.specs.Under.{MapBlock, here}
use Rattle.keys.proofs.Interval.{within, one_block}
use Rattle.keys.proofs.Valid.{valid_block}
use Rattle.definitions.specs.Picture.{Picture, one_feature}
use Rattle.definitions.specs.Bits.{bits_of}
use Rattle.definitions.specs.List.{Record, keys_of, list_of}
use Rattle.definitions.specs.Read.{records_of}
use Rattle.definitions.specs.Standing.{place_of, key_found, is_listed, records_in, standing_of, part_length}
use Rattle.definitions.specs.declared.Standing.TheVariants.{Listed, Inside}
use Rattle.laws.proofs.ListOf.{list_one, list_zero, list_node}
use Rattle.list.specs.Check.{one_slot}
use Rattle.list.specs.Own.{OwnList, BlockIn, shown_by}
use Rattle.list.specs.Sorted.{Near}
use Rattle.list.specs.Among.{keys_up_to, keys_below, place_among}
use Rattle.list.proofs.Count.{below_up_to}
use Rattle.list.proofs.Among.{keys_of_records, place-among}
use Rattle.list.proofs.PartLength.{records-in}
use Rattle.list.proofs.Own.{own-length, own_sorted, own_place, own_near, own_bits, own_part}
use Rattle.list.proofs.Shown.{slot_one, slot_several}

-- the standing in a list, by the list's test
module _ (m κ : ℕ) (l : List Record) where
  by_test : (t : Bool) → is_listed κ l ≡ t
      → standing_of m κ l ≡ cond t (Listed (place_of κ l) (records_in m κ l)) (Inside (place_of κ l) (key_found κ l) (level_of m (key_found κ l)))
  unfolding standing_of
  by_test t e = rw e

  pub listed_standing : is_listed κ l ≡ true → Listed (place_of κ l) (records_in m κ l) ≡ standing_of m κ l
  listed_standing e = sym (by_test true e)

  pub inside_standing : is_listed κ l ≡ false → Inside (place_of κ l) (key_found κ l) (level_of m (key_found κ l)) ≡ standing_of m κ l
  inside_standing e = sym (by_test false e)

  -- a standing that is taken apart: its numbers
  pub listed_numbers : (place records : ℕ) → standing_of m κ l ≡ Listed place records
      → (is_listed κ l ≡ true) × (place ≡ place_of κ l) × (records ≡ records_in m κ l)
  listed_numbers place records e =
      decide (is_listed κ l) (λ t. let f = by_test true t in (t, cc, cc))
      (λ t. let f = by_test false t in let z : ◌≡◌ {A = ℕ} 0 1 = cc in absurd (omega arith))

  pub inside_numbers : (place leaf level : ℕ) → standing_of m κ l ≡ Inside place leaf level
      → (is_listed κ l ≡ false) × (place ≡ place_of κ l) × (leaf ≡ key_found κ l) × (level ≡ level_of m (key_found κ l))
  inside_numbers place leaf level e =
      decide (is_listed κ l)
      (λ t. let f = by_test true t in let z : ◌≡◌ {A = ℕ} 0 1 = cc in absurd (omega arith))
      (λ t. let f = by_test false t in (t, cc, cc, cc))

  -- the part that holds the block has as many places
  pub listed_part : is_listed κ l ≡ true → part_length m κ l ≡ records_in m κ l
  unfolding part_length
  listed_part e = rw e

  pub inside_part : is_listed κ l ≡ false → part_length m κ l ≡ 1
  unfolding part_length
  inside_part e = rw e

-- a block of height 1 that is no leaf has its own record and its four pixels'
four_pixels : (p : Picture) (r c κ : ℕ) → one_feature p 1 r c ≡ false → length (list_of p 1 r c κ) ≡ 5
four_pixels p r c κ e = rw (list_node p 0 r c κ e, list_zero p r c _, list_zero p r _ _, list_zero p _ c _, list_zero p _ _ _)

height_one : (h : ℕ) → 5 ^ h ≡ 5 → h ≡ 1
height_one zero e = omega arith
height_one (suc zero) e = refl
height_one (suc (suc h)) e = let f = five_le {k = 2} (suc (suc h)) (omega arith) in absurd (omega arith)

-- before any place was found, a search can begin with the root's
pub near_root : {m : ℕ} {keys bits : List ℕ} {n : ℕ} → OwnList m keys bits n → (κ : ℕ) → Near keys n 0 κ
near_root o κ = let s = own_sorted o κ in record { room = omega (arith, s.some); before = s.first }

-- a block of an accepted list
module _ {m : ℕ} {keys bits : List ℕ} {n κ : ℕ} (b : BlockIn m keys bits n κ) where
  block : MapBlock m (height_of m κ) (row_of m κ) (column_of m κ) κ
  block = valid_block m κ b.valid

  keys_are : keys_of (records_of keys bits n) ≡ take n keys
  keys_are = keys_of_records keys bits n b.own.fits

  place_is : place_among κ (take n keys) ≡ place_of κ (records_of keys bits n)
  place_is = sym (place-among keys bits n b.own.fits κ)

  -- the place that was found is the records'
  pub found_place : (place : ℕ) → place ≡ place_among κ (take n keys) → place ≡ place_of κ (records_of keys bits n)
  found_place place e = e ∙ place_is

  -- the interval of its keys ends within the largest map's
  pub step_fits : (step : ℕ) → step ≡ 5 ^ height_of m κ → (1 ≤ step) × (κ + step ≤ 5 ^ 10)
  step_fits step is =
      let w = within block in
      let h = five_le {k = m} 10 b.deepest in
      let p = five_pos (height_of m κ) in
      omega arith

  module _ (place : ℕ) (is : place ≡ place_of κ (records_of keys bits n)) where
    among : place ≡ place_among κ (take n keys)
    among = is ∙ sym place_is

    -- the place is one of the n
    pub there : place < n
    there = let h = own_place b.own κ in let e = among in omega arith

    pub in_keys : place < length keys
    in_keys = let h = there in omega (arith, b.own.fits)

    pub in-bits : place < length bits
    in-bits = let h = there in omega (arith, b.own.fits)

    -- the key that stands there
    pub key_there : get_or keys place 0 ≡ key_found κ (records_of keys bits n)
    key_there = sym (get_or-take n keys place 0 there) ∙ ap₂ (λ l i. get_or l i 0) (sym keys_are) is

    -- is the block's own where it is listed, and else another
    pub own_key : get_or keys place 0 ≡ κ → is_listed κ (records_of keys bits n) ≡ true
    unfolding is_listed
    own_key e = eq-eqb _ κ (sym key_there ∙ e)

    pub other_key : (get_or keys place 0 ≡ κ → ⊥) → is_listed κ (records_of keys bits n) ≡ false
    unfolding is_listed
    other_key e = ne_eqb _ κ (λ f. e (key_there ∙ f))

    -- and the bits, which are the block's
    pub bits_there : get_or bits place 0 ≡ bits_of (shown_by m keys bits n) (height_of m κ) (row_of m κ) (column_of m κ)
    bits_there = ap (λ i. get_or bits i 0) among ∙ own_bits b.own block

    -- a search for a later key can begin there
    pub near_later : (x : ℕ) → κ ≤ x → Near keys n place x
    near_later x later =
        let h = own_near b.own κ in
        let e = among in
        let f = ap (λ i. get_or keys i 0) e in
        record { room = there; before = omega (arith, h.before) }

    -- the records of a listed block
    module _ (listed : is_listed κ (records_of keys bits n) ≡ true) where
      records_are : records_in m κ (records_of keys bits n) ≡ length (list_of (shown_by m keys bits n) (height_of m κ) (row_of m κ) (column_of m κ) κ)
      records_are =
          ap (records_in m κ) b.own.own ∙ records-in (shown_by m keys bits n) block (ap (is_listed κ) (sym b.own.own) ∙ listed)

      -- the root has all records
      pub root_records : κ ≡ root_key → n ≡ records_in m κ (records_of keys bits n)
      root_records root =
          let same = one_block block here root in
          let p = shown_by m keys bits n in
          sym (own-length b.own) ∙ sym (records_are ∙ rw (same.heights, same.rows, same.columns, root) refl)

      -- a listed leaf has one
      pub leaf_records : one_slot (get_or bits place 0) ≡ true → 1 ≡ records_in m κ (records_of keys bits n)
      leaf_records one =
          let p = shown_by m keys bits n in
          sym (records_are ∙ ap length (list_one p _ _ _ κ (slot_one p _ _ _ (ap one_slot (sym bits_there) ∙ one))))

      -- a node of four pixels has five
      pub pixels_records : one_slot (get_or bits place 0) ≡ false → (step : ℕ) → step ≡ 5 ^ height_of m κ → step ≡ 5 → 5 ≡ records_in m κ (records_of keys bits n)
      pixels_records several step power five =
          let p = shown_by m keys bits n in
          let e = height_one (height_of m κ) (sym power ∙ five) in
          let f = slot_several p _ _ _ (ap one_slot (sym bits_there) ∙ several) in
          sym (records_are ∙ ap (λ k. length (list_of p k (row_of m κ) (column_of m κ) κ)) e ∙ four_pixels p _ _ κ (ap (λ k. one_feature p k (row_of m κ) (column_of m κ)) (sym e) ∙ f))

      -- a node's end with the keys of its interval
      module _ (step : ℕ) (power : step ≡ 5 ^ height_of m κ) (count : ℕ) (counted : count ≡ keys_up_to (κ + (step - 1)) (take n keys)) where
        ends : place_of κ (records_of keys bits n) + records_in m κ (records_of keys bits n) ≡ count
        ends =
            let s = step_fits step power in
            let last : κ + 5 ^ height_of m κ ≡ suc (κ + (step - 1)) = omega arith in
            ap (λ x. place_of κ (records_of keys bits n) + x) (sym (listed_part m κ (records_of keys bits n) listed))
            ∙ own_part b.own block
            ∙ ap (λ x. keys_below x (take n keys)) last
            ∙ below_up_to (κ + (step - 1)) (take n keys)
            ∙ sym counted

        pub ends_after : place ≤ count
        ends_after = let e = ends in omega arith

        pub node_records : count - place ≡ records_in m κ (records_of keys bits n)
        node_records = let e = ends in omega arith

      -- so its standing is known
      pub listed_found : (records : ℕ) → records ≡ records_in m κ (records_of keys bits n) → Listed place records ≡ standing_of m κ (records_of keys bits n)
      listed_found records e = ap₂ Listed is e ∙ listed_standing m κ (records_of keys bits n) listed

    -- inside a leaf its key is the key found
    pub inside_found : is_listed κ (records_of keys bits n) ≡ false → (level : ℕ) → level ≡ level_of m (get_or keys place 0)
        → Inside place (get_or keys place 0) level ≡ standing_of m κ (records_of keys bits n)
    inside_found inside level e =
        ap (Inside place (get_or keys place 0)) e
        ∙ ap₂ (λ i x. Inside i x (level_of m x)) is key_there
        ∙ inside_standing m κ (records_of keys bits n) inside
