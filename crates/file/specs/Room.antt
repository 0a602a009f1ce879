-- What the inner functions of the crate require: two slices and a file have places for n records, and a file is as long as its n says. Only their
-- contracts need it.
use Rattle.std.specs.Prelude.{ℕ, ◌≤◌, ◌≡◌, List, length}
use Rattle.keys.specs.Key.{slot_limit}
use Rattle.definitions.specs.File.{s_in, n_in, bit_bytes, file_length}
use Rattle.file.specs.Layout.{RecordsFit}

pub record RoomFor (width n : ℕ) (keys bits file : List ℕ) : Type 0 where
  pub in_keys : n ≤ length keys
  pub in-bits : n ≤ length bits
  pub in_file : RecordsFit width n file

-- m and s are good settings, and the file's n records end where the file does
pub record Exact (m s n : ℕ) (file : List ℕ) : Type 0 where
  pub deepest : m ≤ 10
  pub slots : s ≤ slot_limit
  pub slots_are : s ≡ s_in file
  pub many : n ≡ n_in file
  pub ends : length file ≡ file_length (bit_bytes s) n
