-- Used in contracts only: bytes written into a slice from a place on, and the records that are listed. Assumes nothing.
use Rattle.std.specs.Prelude.{ℕ, ◌+◌, ◌^◌, ◌≤◌, ◌<◌, ◌≡◌, List, length, get_or}
use Rattle.std.proofs.lemmas.List.Edits.{sets}

-- the bytes stand from a place on, all other places are as they were, and next is the place after them
pub record Put (bytes : List ℕ) (place : ℕ) (old later : List ℕ) (next : ℕ) : Type 0 where
  pub content : later ≡ sets old place bytes
  pub after : next ≡ place + length bytes

-- the bytes have room from a place on
pub record BytesFit (bytes : List ℕ) (place : ℕ) (old : List ℕ) : Type 0 where
  pub fits : place + length bytes ≤ length old

-- n records stand in the two slices, with keys of m digits
pub record Records (m : ℕ) (keys bits : List ℕ) (n : ℕ) : Type 0 where
  pub resolution : m ≤ 10
  pub keys_hold : n ≤ length keys
  pub bits_hold : n ≤ length bits
  pub digits : (i : ℕ) → i < n → get_or keys i 0 < 5 ^ m
