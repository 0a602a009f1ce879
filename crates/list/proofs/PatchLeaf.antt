-- What a standing tells of the list of a picture (specification S5): a listed block's number of records is the length of its list, which is the
-- handed-back part's; the leaf's block contains the asked block, no other listed leaf does, and the level is that of the leaf's key. Rests on Fuller.
use Prim.Native.Nat.{ℕ, ◌<◌}
use mathlib.Core.Path.{◌≡◌, sym, ◌∙◌, ap, subst}
use mathlib.Core.Bool.{true, false, true≢false}
use mathlib.Core.Logic.{inr}
use native.Mathlib.Omega.{arith}
use lib.ListN.{length}
use Rattle.keys.specs.Key.{root_key, level_of, height_of, valid_key}
use Rattle.keys.specs.Block.{row_of, column_of, contains, is_ancestor}
use Rattle.keys.proofs.Cases.{equal}
use Rattle.keys.specs.Under.{Under, MapBlock}
use Rattle.keys.proofs.Interval.{key_within, same_key}
use Rattle.keys.proofs.Valid.{valid_block, block_valid}
use Rattle.keys.proofs.Ancestor.{contains_iff, ancestor_iff}
use Rattle.definitions.specs.Picture.{Picture, one_feature}
use Rattle.definitions.specs.List.{list_of, list_of_picture}
use Rattle.definitions.specs.Standing.{place_of, key_found, is_listed, standing_of, part_length}
use Rattle.definitions.specs.declared.Standing.TheVariants.{Listed, Inside}
use Rattle.list.proofs.Lookup.{InsideLeaf, lookup_listed, lookup_inside, around_key}
use Rattle.list.proofs.PartLength.{records-in}
use Rattle.list.proofs.Fuller.{listed_numbers, inside_numbers, listed_part}

-- a listed leaf of the picture's list
pub record IsLeaf (m : ℕ) (p : Picture) (leaf : ℕ) : Type 0 where
  pub valid : valid_key m leaf ≡ true
  pub listed : is_listed leaf (list_of_picture m p) ≡ true
  pub one : one_feature p (height_of m leaf) (row_of m leaf) (column_of m leaf) ≡ true

-- the key that stands last before a block that lies in a listed leaf is the leaf's
pub in_leaf : {p : Picture} {m k r c κ : ℕ} → MapBlock m k r c κ → (x : InsideLeaf p m 0 0 root_key k r c κ) → key_found κ (list_of_picture m p) ≡ x.at
in_leaf b x =
    around_key (record {
      height = x.height;
      row = x.row;
      column = x.column;
      at = x.at;
      placed = x.stands.placed;
      under = x.under;
      holds = x.holds;
      which = inr (x.one, x.before);
    })

module _ (m : ℕ) (p : Picture) (κ : ℕ) (valid : valid_key m κ ≡ true) where
  block : MapBlock m (height_of m κ) (row_of m κ) (column_of m κ) κ
  block = valid_block m κ valid

  -- a listed block: as many records as its list and its part have
  pub listed_means : (place records : ℕ) → standing_of m κ (list_of_picture m p) ≡ Listed place records
      → (records ≡ length (list_of p (height_of m κ) (row_of m κ) (column_of m κ) κ)) × (records ≡ part_length m κ (list_of_picture m p))
  listed_means place records e =
      let f = listed_numbers m κ (list_of_picture m p) place records e in
      (f.2 ∙ records-in p block f.0, f.2 ∙ sym (listed_part m κ (list_of_picture m p) f.0))

  -- a listed leaf around a block that is not listed is the key found
  leaf_found : is_listed κ (list_of_picture m p) ≡ false → (leaf : ℕ) → IsLeaf m p leaf → contains m leaf κ ≡ true → key_found κ (list_of_picture m p) ≡ leaf
  leaf_found inside leaf l holds =
      let u = (contains_iff (valid_block m leaf l.valid) block).0 holds in
      let w = key_within u in
      equal leaf κ
      (λ same. absurd (true≢false (sym l.listed ∙ ap (λ x. is_listed x (list_of_picture m p)) same ∙ inside)))
      (λ other.
      let before : leaf < κ = omega arith in
      around_key (record {
        height = height_of m leaf;
        row = row_of m leaf;
        column = column_of m leaf;
        at = leaf;
        placed = (lookup_listed p (valid_block m leaf l.valid) l.listed).placed;
        under = valid_block m leaf l.valid;
        holds = u;
        which = inr (l.one, before);
      }))

  module _ (place leaf level : ℕ) (e : standing_of m κ (list_of_picture m p) ≡ Inside place leaf level) where
    numbers : (is_listed κ (list_of_picture m p) ≡ false) × (place ≡ place_of κ (list_of_picture m p)) × (leaf ≡ key_found κ (list_of_picture m p)) × (level ≡ level_of m (key_found κ (list_of_picture m p)))
    numbers = inside_numbers m κ (list_of_picture m p) place leaf level e

    looked : InsideLeaf p m 0 0 root_key (height_of m κ) (row_of m κ) (column_of m κ) κ
    looked = lookup_inside p block numbers.0

    leaf_is : leaf ≡ looked.at
    leaf_is = numbers.2 ∙ in_leaf block looked

    around_it : MapBlock m looked.height looked.row looked.column leaf
    around_it = same_key looked.under (sym leaf_is)

    -- the leaf's block contains the asked block, which is smaller
    pub leaf_contains : (valid_key m leaf ≡ true) × (is_ancestor m leaf κ ≡ true)
    leaf_contains =
        let holds = subst (λ (x : ℕ). Under looked.height looked.row looked.column x (height_of m κ) (row_of m κ) (column_of m κ) κ) (sym leaf_is) looked.holds in
        let f = leaf_is in
        let less = looked.before in
        ((block_valid around_it).valid, (ancestor_iff around_it block).1 (holds, (λ (same : leaf ≡ κ). omega arith)))

    -- it has one feature
    pub leaf_one : one_feature p (height_of m leaf) (row_of m leaf) (column_of m leaf) ≡ true
    leaf_one = let i = block_valid around_it in rw (i.height, i.row, i.column) looked.one

    -- no other listed leaf contains it
    pub leaf_only : (other : ℕ) → IsLeaf m p other → contains m other κ ≡ true → other ≡ leaf
    leaf_only other l holds = sym (leaf_found numbers.0 other l holds) ∙ sym numbers.2

    -- the level is that of its key
    pub leaf_level : level ≡ level_of m leaf
    leaf_level = numbers.3 ∙ ap (level_of m) (sym numbers.2)
