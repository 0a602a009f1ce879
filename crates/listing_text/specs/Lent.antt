-- Used in contracts only: what the listing program lends, and what it gets back. Rests on Listing.
use Rattle.std.specs.Prelude.{ℕ, ◌+◌, ◌*◌, ◌≤◌, ◌≡◌, List, length}
use Rattle.keys.specs.Key.{slot_limit}
use Rattle.definitions.specs.Buffer.{over}
use Rattle.definitions.specs.Listing.{listed, listed_keys, listed_bits}

-- bytes of the longest listing: a head of 10, and 1,365 lines of 5 digits, a blank, all slots and the line's end
abbrev pub longest_listing : ℕ
longest_listing = 10 + 1365 * (7 + slot_limit)

-- room for 1,365 records, and for the longest listing
pub record Lent (keys bits out : List ℕ) : Type 0 where
  pub keys_room : length keys ≡ 1365
  pub bits_room : length bits ≡ 1365
  pub out_room : longest_listing ≤ length out

-- the printed bytes stand from the first place on, the places past them stay, and the result is their number
pub record Printed (input keys bits out keys' bits' out' : List ℕ) (r : ℕ) : Type 0 where
  pub bytes : out' ≡ over (listed input) out
  pub count : r ≡ length (listed input)
  pub keys_after : keys' ≡ listed_keys input keys
  pub bits_after : bits' ≡ listed_bits input bits
