-- The records of a log's file from byte 12 on: there the bytes have the layout of a list's file whose bitstrings have 4 bytes, so that its functions serve.
-- Their keys and values are the two slices of which the laws of a log speak. Only contracts need this. Rests on Layout of crate file.
use Rattle.std.specs.Prelude.{ℕ, ◌-◌, ◌/◌, List, length}
use Rattle.definitions.specs.List.{Record}
use Rattle.definitions.specs.Read.{records_of}
use Rattle.definitions.specs.File.{head_length, record_length}
use Rattle.definitions.specs.LogFile.{value_bytes}
use Rattle.file.specs.Layout.{keys_at, values_at}

-- how many records lie there whole
unfoldable pub places_in : (bytes : List ℕ) → ℕ
places_in bytes = (length bytes - head_length) / record_length value_bytes

-- their keys and their values
unfoldable pub keys_in_bytes : (bytes : List ℕ) → List ℕ
keys_in_bytes bytes = keys_at value_bytes (places_in bytes) bytes

unfoldable pub values_in_bytes : (bytes : List ℕ) → List ℕ
values_in_bytes bytes = values_at value_bytes (places_in bytes) bytes

-- the first of them
abbrev pub log_in : (bytes : List ℕ) (used : ℕ) → List Record
log_in bytes used = records_of (keys_in_bytes bytes) (values_in_bytes bytes) used
