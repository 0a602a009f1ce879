-- Where the records of a file lie, for bitstrings of so many bytes: record i from byte `file_length width i` on, its key first. Only the contracts
-- of the crate need it.
use Rattle.std.specs.Prelude.{ℕ, ◌+◌, ◌≤◌, List, length, drop}
use Rattle.definitions.specs.List.{Record, keys_of, values_of}
use Rattle.definitions.specs.File.{Width, head_length, key_bytes, file_length, number_at, read_records}

-- key and bitstring of record i
abbrev pub file_key_at : ℕ → ℕ → List ℕ → ℕ
file_key_at width i file = number_at (file_length width i) key_bytes file

abbrev pub file_bits_at : ℕ → ℕ → List ℕ → ℕ
file_bits_at width i file = number_at (file_length width i + key_bytes) width file

-- the first n records of a file, their keys and their bitstrings
abbrev pub records_at : ℕ → ℕ → List ℕ → List Record
records_at width n file = read_records width n (drop head_length file)

abbrev pub keys_at : ℕ → ℕ → List ℕ → List ℕ
keys_at width n file = keys_of (records_at width n file)

abbrev pub values_at : ℕ → ℕ → List ℕ → List ℕ
values_at width n file = values_of (records_at width n file)

-- the file has room for n records
pub record RecordsFit (width n : ℕ) (file : List ℕ) : Type 0 where
  pub width_is : Width width
  pub there : file_length width n ≤ length file
