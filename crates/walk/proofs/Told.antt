-- What asking told the walk, on an accepted list: the bits at the place are those of the block asked for, and of the whole block whose record stands there;
-- that one holds the block asked for; and the search for what comes after it can begin at its last record. Rests on Asked and the laws of standing.
use Prim.Native.Nat.{ℕ, ◌+◌, ◌-◌, ◌^◌, ◌≤◌, ◌<◌}
use mathlib.Core.Path.{◌≡◌, refl, sym, ◌∙◌, ap}
use mathlib.Core.Bool.{true, false}
use mathlib.Core.List.{List}
use native.Mathlib.Omega.{arith}
use lib.ListN.{length, get_or, take, length-take}
use borrow.Author.Tests.{eqb-true}
use Rattle.keys.specs.Key.{root_key, level_of, height_of, valid_key}
use Rattle.keys.specs.Block.{row_of, column_of, side_of}
use Rattle.keys.proofs.Cases.{decide}
use Rattle.keys.proofs.Interval.{SameBlock, one_block, within}
use Rattle.keys.proofs.Valid.{block_valid, valid_block}
use Rattle.definitions.specs.Picture.{Picture}
use Rattle.definitions.specs.Bits.{bits_of, has_slot}
use Rattle.definitions.specs.Read.{records_of}
use Rattle.definitions.specs.Standing.{place_of, key_found, is_listed, records_in, standing_of}
use Rattle.definitions.specs.declared.Standing.TheVariants.{Listed, Inside}
use Rattle.laws.proofs.Within.{first_within, under_within}
use Rattle.laws.proofs.Features.{one_to, one_under}
use Rattle.laws.proofs.BitsOf.{bits_one}
use Rattle.laws.proofs.Slots.{slot_power}
use Rattle.list.specs.Own.{OwnList, BlockIn, shown_by}
use Rattle.list.specs.Sorted.{Near}
use Rattle.list.specs.Among.{keys_up_to, place_among}
use Rattle.list.proofs.Count.{counted_before}
use Rattle.list.proofs.Among.{up_to_most, place-among}
use Rattle.list.proofs.Lookup.{InsideLeaf, lookup_inside}
use Rattle.list.proofs.Own.{own_ascends, own_part_some}
use Rattle.list.proofs.Fuller.{listed_standing, inside_standing, listed_numbers, listed_part, ends_after, node_records}
use Rattle.list.proofs.PatchLeaf.{in_leaf, leaf_contains, leaf_level}
use Rattle.walk.specs.declared.Spot.{Spot}
use Rattle.walk.specs.declared.asking.Told.{Told}
use Rattle.walk.specs.Walk.{BlockSpot}
use Rattle.walk.specs.Asked.{place_in, last_in, whole_in, Tells}
use Rattle.walk.proofs.Steps.{one_spot, one_side}
use Rattle.walk.proofs.SpotBits.{bits_at}
use Rattle.walk.proofs.Asked.{asked_place, near_place, near_later}

-- the block of a valid key, with the numbers that its key and level give
pub spot_of_key : {m κ row column side step : ℕ} → (level : ℕ) → valid_key m κ ≡ true → (row ≡ row_of m κ) × (column ≡ column_of m κ) × (side ≡ side_of m κ)
    → level ≡ level_of m κ
    → step ≡ 5 ^ (m - level)
    → BlockSpot m (record { key = κ; row = row; column = column; side = side; step = step })
unfolding height_of side_of
spot_of_key {m} {κ} level valid square is power =
    record {
      height = height_of m κ;
      block = rw (square.0, square.1) (valid_block m κ valid);
      side = square.2;
      step = power ∙ ap (λ l. 5 ^ (m - l)) is;
    }

-- one block has one bitstring
same_bits : (p : Picture) {k r c κ k' r' c' κ' : ℕ} → SameBlock k r c κ k' r' c' κ' → bits_of p k r c ≡ bits_of p k' r' c'
same_bits p same = rw (same.heights, same.rows, same.columns)

module _ {m : ℕ} {keys bits : List ℕ} {n : ℕ} (low : m ≤ 10) (o : OwnList m keys bits n) {s : Spot} (h : BlockSpot m s) where
  -- the block by its key
  pub asked_in : BlockIn m keys bits n s.key
  asked_in = record { deepest = low; own = o; valid = (block_valid h.block).valid }

  pub asked_step : s.step ≡ 5 ^ height_of m s.key
  asked_step = h.step ∙ ap (λ k. 5 ^ k) (sym (block_valid h.block).height)

  -- a listed block's records are there, and the search for what comes after them can begin at the last
  module _ (place records : ℕ) (is : standing_of m s.key (records_of keys bits n) ≡ Listed place records) where
    numbers : (is_listed s.key (records_of keys bits n) ≡ true)
        × (place ≡ place_of s.key (records_of keys bits n))
        × (records ≡ records_in m s.key (records_of keys bits n))
    numbers = listed_numbers m s.key (records_of keys bits n) place records is

    ends : place + records ≡ keys_up_to (s.key + (s.step - 1)) (take n keys)
    ends =
        let a = ends_after asked_in place numbers.1 numbers.0 s.step asked_step _ refl in
        let b = node_records asked_in place numbers.1 numbers.0 s.step asked_step _ refl in
        omega (arith, numbers.2)

    pub some_records : 1 ≤ records
    some_records =
        let e = listed_part m s.key (records_of keys bits n) numbers.0 in
        omega (arith, own_part_some o h.block, numbers.2)

    pub records_there : place + records ≤ n
    records_there = omega (arith, ends, up_to_most (s.key + (s.step - 1)) (take n keys), length-take n keys)

    last_near : Near keys n (place + (records - 1)) (s.key + s.step)
    last_near =
        let some = some_records in
        let before = counted_before (own_ascends o) (s.key + (s.step - 1)) (place + (records - 1)) (omega (arith, ends)) in
        record { room = omega (arith, records_there); before = omega arith }

  -- the leaf around a block has a valid key, and the level is its
  pub leaf_told : (place leaf level : ℕ) → standing_of m s.key (records_of keys bits n) ≡ Inside place leaf level
      → (valid_key m leaf ≡ true) × (level ≡ level_of m leaf)
  leaf_told place leaf level is =
      let p = shown_by m keys bits n in
      let e = ap (standing_of m s.key) (sym o.own) ∙ is in
      ((leaf_contains m p s.key asked_in.valid place leaf level e).0, leaf_level m p s.key asked_in.valid place leaf level e)

  module _ {told : Told} (t : Tells m keys bits n s told) where
    -- the place is that of the block's key
    pub told_place : told.place ≡ place_among s.key (take n keys)
    told_place =
        decide (is_listed s.key (records_of keys bits n))
        (λ e. t.place ∙ ap place_in (sym (listed_standing m s.key (records_of keys bits n) e)) ∙ place-among keys bits n o.fits s.key)
        (λ e. t.place ∙ ap place_in (sym (inside_standing m s.key (records_of keys bits n) e)) ∙ place-among keys bits n o.fits s.key)

    pub told_room : told.place < n
    told_room = (asked_place o h.block _ told_place).room

    pub told_bits : told.place < length bits
    told_bits = omega (arith, told_room, o.fits)

    -- where the block's bits are, and where a search from it can begin
    pub told_value : get_or bits told.place 0 ≡ bits_at (shown_by m keys bits n) h
    told_value = (asked_place o h.block _ told_place).value

    pub told_near : Near keys n told.place s.key
    told_near = near_place o s.key _ told_place

    -- a block that is listed
    module _ (e : is_listed s.key (records_of keys bits n) ≡ true) where
      itself : told.whole.key ≡ s.key
      itself = t.key ∙ ap (whole_in s.key) (sym (listed_standing m s.key (records_of keys bits n) e))

      last_is : told.last ≡ place_of s.key (records_of keys bits n) + (records_in m s.key (records_of keys bits n) - 1)
      last_is = t.last ∙ ap last_in (sym (listed_standing m s.key (records_of keys bits n) e))

      at_is : told.place ≡ place_of s.key (records_of keys bits n)
      at_is = t.place ∙ ap place_in (sym (listed_standing m s.key (records_of keys bits n) e))

      -- its standing, by what was told
      pub told_listed : standing_of m s.key (records_of keys bits n) ≡ Listed told.place (told.last + 1 - told.place)
      told_listed =
          let is = sym (listed_standing m s.key (records_of keys bits n) e) in
          let some = some_records _ _ is in
          let records : records_in m s.key (records_of keys bits n) ≡ told.last + 1 - told.place = omega (arith, at_is, last_is) in
          is ∙ ap (λ x. Listed x (records_in m s.key (records_of keys bits n))) (sym at_is) ∙ ap (Listed told.place) records

    -- a block inside a leaf
    module _ (e : is_listed s.key (records_of keys bits n) ≡ false) where
      around : InsideLeaf (shown_by m keys bits n) m 0 0 root_key h.height s.row s.column s.key
      around = lookup_inside (shown_by m keys bits n) h.block (ap (is_listed s.key) (sym o.own) ∙ e)

      leaf_is : SameBlock t.whole.height told.whole.row told.whole.column told.whole.key around.height around.row around.column around.at
      leaf_is =
          one_block t.whole.block around.under
          (t.key ∙ ap (whole_in s.key) (sym (inside_standing m s.key (records_of keys bits n) e)) ∙ ap (key_found s.key) o.own ∙ in_leaf h.block around)

      leaf_bits : bits_at (shown_by m keys bits n) h ≡ bits_at (shown_by m keys bits n) t.whole
      leaf_bits =
          let p = shown_by m keys bits n in
          let i = around in
          bits_one p h.height s.row s.column (one_under p i.holds i.one)
          ∙ ap (λ f. 2 ^ f) (one_to p i.height i.row i.column i.one s.row s.column (under_within i.holds (first_within h.height s.row s.column)))
          ∙ sym (bits_one p i.height i.row i.column i.one)
          ∙ sym (same_bits p leaf_is)

      -- the bits have the leaf's slot alone: whatever slot is set is all there is
      pub told_alone : (f : ℕ) → has_slot (bits_at (shown_by m keys bits n) h) f ≡ true → get_or bits told.place 0 ≡ 2 ^ f
      told_alone f has =
          let p = shown_by m keys bits n in
          let one = bits_one p h.height s.row s.column (one_under p around.holds around.one) in
          let g = p s.row s.column in
          told_value ∙ one ∙ ap (λ x. 2 ^ x) (eqb-true g f (sym (slot_power g f) ∙ ap (λ x. has_slot x f) (sym one) ∙ has))

      last_place : told.last ≡ told.place
      last_place =
          t.last
          ∙ ap last_in (sym (inside_standing m s.key (records_of keys bits n) e))
          ∙ sym (t.place ∙ ap place_in (sym (inside_standing m s.key (records_of keys bits n) e)))

    -- the whole block holds the block
    pub told_holds : (told.whole.key ≤ s.key) × (s.key + s.step ≤ told.whole.key + told.whole.step)
    told_holds =
        decide (is_listed s.key (records_of keys bits n))
        (λ e. let same = one_side {s = told.whole} {t = s} t.whole h (itself e) in omega (arith, itself e, same.1))
        (λ e.
        let same = leaf_is e in
        let w = within (around e).holds in
        let five = t.whole.step ∙ ap (λ k. 5 ^ k) same.heights in
        omega (arith, same.keys, h.step))

    -- and is the block where that is listed
    pub told_end : is_listed s.key (records_of keys bits n) ≡ true → told.whole.key + told.whole.step ≡ s.key + s.step
    told_end e = let same = one_side {s = told.whole} {t = s} t.whole h (itself e) in omega (arith, itself e, same.1)

    pub told_last : told.place ≤ told.last
    told_last = decide (is_listed s.key (records_of keys bits n)) (λ e. omega (arith, at_is e, last_is e)) (λ e. omega (arith, last_place e))

    -- it has the same bits
    pub told_whole : get_or bits told.place 0 ≡ bits_at (shown_by m keys bits n) t.whole
    told_whole =
        told_value
        ∙ decide (is_listed s.key (records_of keys bits n)) (λ e. same_bits (shown_by m keys bits n) (one_spot {s = s} {t = told.whole} h t.whole (sym (itself e)))) leaf_bits

    -- a search for what comes after it can begin at its last record
    pub told_beyond : Near keys n told.last (told.whole.key + told.whole.step)
    told_beyond =
        decide (is_listed s.key (records_of keys bits n))
        (λ e.
        let same = one_side {s = told.whole} {t = s} t.whole h (itself e) in
        rw (last_is e, itself e, same.1) (last_near _ _ (sym (listed_standing m s.key (records_of keys bits n) e))))
        (λ e. rw (last_place e) (near_later told_near _ (omega (arith, told_holds))))
