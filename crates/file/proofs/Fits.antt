-- A list at good settings fits its file: each key into 4 bytes, each bitstring into 2 or 4, and their number into 4 (specification S15). Rests on
-- the laws of lists.
use Prim.Native.Nat.{ℕ, suc, ◌^◌, ◌≤◌, ◌<◌}
use mathlib.Core.Path.{◌≡◌, ap}
use mathlib.Core.Bool.{true}
use mathlib.Core.List.{List, Memᴰ}
use native.Mathlib.Nat.{pow-le-pow_right}
use native.Mathlib.Omega.{arith}
use lib.ListN.{length}
use lib.Dec.{lit<, leb}
use borrow.Author.Tests.{leb-true, le-leb}
use Rattle.keys.specs.Key.{root_key, slot_limit}
use Rattle.keys.proofs.Cases.{split, and_left, and_right, and_both}
use Rattle.definitions.specs.List.{Record, list_of}
use Rattle.definitions.specs.File.{first_slots, bit_bytes}
use Rattle.definitions.specs.Read.{room, records_of, is_list_of_block, is_list}
use Rattle.laws.proofs.Ascending.{member_below}
use Rattle.laws.proofs.BitsOf.{bits_below}
use Rattle.laws.proofs.Features.{below_under}
use Rattle.laws.proofs.ListOf.{list_ascends, list_most}
use Rattle.laws.proofs.Listed.{listed_to, listed_under}
use Rattle.laws.proofs.IsList.{ShowsBlock, block_list_to}
use Rattle.laws.proofs.FileOf.{FitsFile, fits_file, first_version, second_version}
use Rattle.list.proofs.Tests.{GoodSettings}

-- a list is the list of its own block, and there is room for it
pub list_parts : (m s : ℕ) (keys bits : List ℕ) (n : ℕ) → is_list m s keys bits n ≡ true
    → (n ≤ room keys bits) × (is_list_of_block m s m 0 0 root_key (records_of keys bits n) ≡ true)
unfolding is_list
list_parts m s keys bits n e = (
  leb-true n (room keys bits) (and_left (leb n (room keys bits)) (is_list_of_block m s m 0 0 root_key (records_of keys bits n)) e),
  and_right (leb n (room keys bits)) (is_list_of_block m s m 0 0 root_key (records_of keys bits n)) e,
)

-- and the other way round
pub list_whole : (m s : ℕ) (keys bits : List ℕ) (n : ℕ) → n ≤ room keys bits → is_list_of_block m s m 0 0 root_key (records_of keys bits n) ≡ true
    → is_list m s keys bits n ≡ true
unfolding is_list
list_whole m s keys bits n h e =
    and_both (leb n (room keys bits)) (is_list_of_block m s m 0 0 root_key (records_of keys bits n)) (le-leb n (room keys bits) h) e

-- a bitstring of s slots fits the bytes that s has: 16 slots into 2, and 32 into 4
slots_fit : (s : ℕ) → s ≤ slot_limit → 2 ^ s ≤ 256 ^ bit_bytes s
slots_fit s few =
    split first_slots s
    (λ h. rw (second_version s h).1 (pow-le-pow_right (lit< tt) few))
    (λ h. rw (first_version s h).1 (pow-le-pow_right (lit< tt) h))

module _ (m s : ℕ) (good : GoodSettings m s) (l : List Record) (is : is_list_of_block m s m 0 0 root_key l ≡ true) where
  shown : ShowsBlock s m 0 0 root_key l
  shown = block_list_to m s m 0 0 root_key l is

  -- every key is below 5 ^ 10, and every bitstring below 2 ^ s
  each : (x : Record) → Memᴰ x (list_of shown.picture m 0 0 root_key) → (x.key < 256 ^ 4) × (x.value < 256 ^ bit_bytes s)
  each x h =
      let key = member_below (list_ascends shown.picture m 0 0 root_key) h in
      let most : 5 ^ m ≤ 5 ^ 10 = pow-le-pow_right (lit< tt) good.deep in
      let at = listed_to shown.picture m 0 0 root_key x h in
      let value = bits_below s shown.picture at.height at.row at.column (below_under s shown.picture (listed_under at.listed) shown.below) in
      let wide = slots_fit s good.few in
      (omega arith, rw at.is (omega arith))

  -- the list's records fit a file
  pub list_fits : FitsFile (bit_bytes s) l
  list_fits = rw shown.is (fits_file (bit_bytes s) (list_of shown.picture m 0 0 root_key) each)

  -- their number does
  pub list_short : length l < 256 ^ 4
  list_short =
      let most = list_most shown.picture m 0 0 root_key in
      let level : suc m ≤ 11 = omega (arith, good.deep) in
      let deep : 4 ^ suc m ≤ 4 ^ 11 = pow-le-pow_right (lit< tt) level in
      let e = ap length shown.is in
      omega arith
