-- The leaves of a block with given bits, as sifting finds them: a run along a listed block's records up to its last key, and the block itself where it
-- lies inside such a leaf. Rests on Asked, Until and the laws of lists.
use Prim.Native.Nat.{ℕ, ◌+◌, ◌^◌, ◌≤◌, ◌<◌}
use mathlib.Core.Path.{◌≡◌, sym, ◌∙◌, ap}
use mathlib.Core.Bool.{true, false}
use mathlib.Core.List.{List, [], ◌∷◌, ◌++◌}
use lib.ListN.{get_or, take, drop}
use lib.Seq.{drop_at}
use borrow.Author.Tests.{eqb-true}
use Rattle.keys.specs.Key.{root_key}
use Rattle.keys.proofs.Cases.{equal}
use Rattle.keys.proofs.Valid.{block_valid}
use Rattle.definitions.specs.Picture.{one_feature}
use Rattle.definitions.specs.List.{Record, list_of, Ascending, none, next}
use Rattle.definitions.specs.Read.{records_of}
use Rattle.definitions.specs.Standing.{place_of, key_found, is_listed, records_in, standing_of}
use Rattle.definitions.specs.declared.Standing.TheVariants.{Listed, Inside}
use Rattle.definitions.specs.Edit.{content_of}
use Rattle.laws.proofs.Features.{one_under}
use Rattle.laws.proofs.Ascending.{ascending_bounds}
use Rattle.laws.proofs.ListOf.{list_ascends}
use Rattle.list.specs.Own.{OwnList, shown_by}
use Rattle.list.specs.Among.{place_among}
use Rattle.list.specs.Check.{one_slot}
use Rattle.list.proofs.Among.{place-among}
use Rattle.list.proofs.Lookup.{AtPlace, lookup_listed, lookup_inside}
use Rattle.list.proofs.Shown.{slot_one}
use Rattle.list.proofs.Fuller.{listed_numbers, inside_numbers, key_there}
use Rattle.walk.specs.declared.Spot.{Spot}
use Rattle.walk.specs.Walk.{BlockSpot}
use Rattle.walk.specs.Given.{keys_with}
use Rattle.walk.proofs.Asked.{asked_place}
use Rattle.walk.proofs.Content.{with_none, with_give, with_pass, content_at_spot, one_key, one_nothing}
use Rattle.finding.specs.Sift.{keys_until}
use Rattle.finding.proofs.Until.{until_none, until_stop, until_give, until_pass}

until_after : (end bits : ℕ) {hi : ℕ} {l : List Record} → Ascending end hi l → keys_until end bits l ≡ []
until_after end bits (none h) = until_none end bits
until_after end bits (next h a) = until_stop end bits _ _ h

-- a run stops where the keys reach the end
pub until_with : (end bits : ℕ) {lo hi : ℕ} (l after : List Record) → Ascending lo end l → Ascending end hi after → keys_until end bits (l ++ after) ≡ keys_with bits l
until_with end bits [] after a b = until_after end bits b ∙ sym (with_none bits)
until_with end bits (e ∷ l) after (next h a) b =
    let low = ascending_bounds a in
    equal e.value bits
    (λ same. until_give end bits e (l ++ after) low same ∙ ap (λ x. e.key ∷ x) (until_with end bits l after a b) ∙ sym (with_give bits e l same))
    (λ other. until_pass end bits e (l ++ after) low other ∙ until_with end bits l after a b ∙ sym (with_pass bits e l other))

module _
    {m : ℕ}
    {keys bits : List ℕ}
    {n : ℕ}
    (low : m ≤ 10)
    (o : OwnList m keys bits n)
    {s : Spot}
    (h : BlockSpot m s)
    (bit : ℕ)
    (place : ℕ)
  where
    -- a listed block, by its standing
    module _ (records : ℕ) (is : standing_of m s.key (records_of keys bits n) ≡ Listed place records) where
      numbers : (is_listed s.key (records_of keys bits n) ≡ true)
          × (place ≡ place_of s.key (records_of keys bits n))
          × (records ≡ records_in m s.key (records_of keys bits n))
      numbers = listed_numbers m s.key (records_of keys bits n) place records is

      at_place : AtPlace (shown_by m keys bits n) m 0 0 root_key h.height s.row s.column s.key s.key
      at_place = lookup_listed (shown_by m keys bits n) h.block (ap (is_listed s.key) (sym o.own) ∙ numbers.0)

      -- its key is there
      pub listed_key : get_or keys place 0 ≡ s.key
      unfolding is_listed
      listed_key =
          key_there (record { deepest = low; own = o; valid = (block_valid h.block).valid }) place numbers.1 ∙ eqb-true (key_found s.key (records_of keys bits n)) s.key numbers.0

      -- the records from its place on are its own, and then those past its keys
      from_place : drop place (records_of keys bits n) ≡ list_of (shown_by m keys bits n) h.height s.row s.column s.key ++ at_place.placed.after
      from_place =
          ap (drop place) (o.own ∙ at_place.placed.splits)
          ∙ drop_at at_place.placed.before _ place (sym (numbers.1 ∙ ap (place_of s.key) o.own ∙ at_place.place))

      -- so the run along its records gives the leaves
      pub listed_keys : (end : ℕ) → end ≡ s.key + s.step
          → keys_until end bit (drop place (records_of keys bits n)) ≡ keys_with bit (content_of m (shown_by m keys bits n) s.key)
      listed_keys end f =
          let p = shown_by m keys bits n in
          let g : end ≡ s.key + 5 ^ h.height = f ∙ ap (λ x. s.key + x) h.step in
          ap (keys_until end bit) from_place
          ∙ ap (λ x. keys_until x bit (list_of p h.height s.row s.column s.key ++ at_place.placed.after)) g
          ∙ until_with (s.key + 5 ^ h.height) bit _ _ (list_ascends p h.height s.row s.column s.key) at_place.placed.keys_after
          ∙ ap (keys_with bit) (sym (content_at_spot p h))

    -- a block inside a leaf
    module _ (leaf level : ℕ) (is : standing_of m s.key (records_of keys bits n) ≡ Inside place leaf level) where
      inside : (is_listed s.key (records_of keys bits n) ≡ false) × (place ≡ place_among s.key (take n keys))
      inside =
          let f = inside_numbers m s.key (records_of keys bits n) place leaf level is in
          (f.0, f.1 ∙ place-among keys bits n o.fits s.key)

      one : one_feature (shown_by m keys bits n) h.height s.row s.column ≡ true
      one =
          let i = lookup_inside (shown_by m keys bits n) h.block (ap (is_listed s.key) (sym o.own) ∙ inside.0) in
          one_under (shown_by m keys bits n) i.holds i.one

      pub leaf-there : place < n
      leaf-there = (asked_place o h.block place inside.1).room

      -- with the bits is given itself
      pub leaf_key : get_or bits place 0 ≡ bit → keys_with bit (content_of m (shown_by m keys bits n) s.key) ≡ s.key ∷ []
      leaf_key same = one_key o h bit place inside.1 one same

      -- and one inside another leaf gives nothing
      pub leaf_nothing : (get_or bits place 0 ≡ bit → ⊥) → keys_with bit (content_of m (shown_by m keys bits n) s.key) ≡ []
      leaf_nothing other = one_nothing o h bit place inside.1 one other

-- a block at whose place the bits stand alone is one itself, whether the record is its own or that of the leaf around it
pub alone_key : {m : ℕ} {keys bits : List ℕ} {n : ℕ} (o : OwnList m keys bits n) {s : Spot} (h : BlockSpot m s) (bit place : ℕ)
    → place ≡ place_among s.key (take n keys)
    → one_slot bit ≡ true
    → get_or bits place 0 ≡ bit
    → keys_with bit (content_of m (shown_by m keys bits n) s.key) ≡ s.key ∷ []
alone_key {m} {keys} {bits} {n} o {s} h bit place is slot same =
    let e = sym (asked_place o h.block place is).value ∙ same in
    one_key o h bit place is (slot_one (shown_by m keys bits n) h.height s.row s.column (ap one_slot e ∙ slot)) same
