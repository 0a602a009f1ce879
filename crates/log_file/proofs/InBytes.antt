-- The records of a log's file as they lie in its bytes: how many there are, the one at a place, those from a place on and a run of them. Rests on the laws of a
-- file's records.
use Prim.Native.Nat.{ℕ, ◌+◌, ◌-◌, ◌*◌, ◌≤◌, ◌<◌}
use mathlib.Core.Path.{◌≡◌, sym, ap, ap₂, ◌∙◌}
use mathlib.Core.List.{List}
use native.Mathlib.Omega.{arith}
use lib.ListN.{length, get_or, take, drop, length-drop}
use lib.Seq.{ext_get_or, length-take-le, get_or-take, get_or-drop, drop-drop}
use Rattle.definitions.specs.List.{Record, record_of}
use Rattle.definitions.specs.File.{four, number_at, read_records}
use Rattle.definitions.specs.LogFile.{value_bytes}
use Rattle.laws.proofs.FileBack.{length-read}
use Rattle.laws.proofs.Records.{paired_back, take-paired, drop-paired}
use Rattle.file.specs.Layout.{RecordsFit, file_key_at, file_bits_at, records_at, keys_at, values_at}
use Rattle.file.proofs.ReadBytes.{number_on, record_read, key_read, value_read, keys_many, bits_many}
use Rattle.edit_log.specs.Entries.{records_from_place}
use Rattle.log_file.specs.Records.{places_in, keys_in_bytes, values_in_bytes}

-- as many keys as places, and as many values
pub keys_size : (bytes : List ℕ) → length (keys_in_bytes bytes) ≡ places_in bytes
unfolding keys_in_bytes
keys_size bytes = keys_many value_bytes (places_in bytes) bytes

pub values_size : (bytes : List ℕ) → length (values_in_bytes bytes) ≡ places_in bytes
unfolding values_in_bytes
values_size bytes = bits_many value_bytes (places_in bytes) bytes

-- so what is among the places is in both slices
module _ (bytes : List ℕ) {used : ℕ} (there : used ≤ places_in bytes) where
  pub in_keys : used ≤ length (keys_in_bytes bytes)
  in_keys = let e = keys_size bytes in omega arith

  pub in_values : used ≤ length (values_in_bytes bytes)
  in_values = let e = values_size bytes in omega arith

-- and the other way round
pub in_places : (bytes : List ℕ) {used : ℕ} → used ≤ length (keys_in_bytes bytes) → used ≤ places_in bytes
in_places bytes h = let e = keys_size bytes in omega arith

-- the first places lie there whole
pub laid_first : (bytes : List ℕ) (n : ℕ) → 0 < n → n ≤ places_in bytes → RecordsFit value_bytes n bytes
unfolding places_in
laid_first bytes n some there = record { width_is = four; there = omega arith }

-- the key and the value at a place
pub key_in : (bytes : List ℕ) (i : ℕ) → i < places_in bytes → file_key_at value_bytes i bytes ≡ get_or (keys_in_bytes bytes) i 0
unfolding keys_in_bytes
key_in bytes i h = sym (key_read value_bytes (places_in bytes) i bytes h)

pub value_in : (bytes : List ℕ) (i : ℕ) → i < places_in bytes → file_bits_at value_bytes i bytes ≡ get_or (values_in_bytes bytes) i 0
unfolding values_in_bytes
value_in bytes i h = sym (value_read value_bytes (places_in bytes) i bytes h)

-- the places from one on
module _ (bytes : List ℕ) (k : ℕ) (there : k ≤ places_in bytes) where
  pub places_after : places_in (drop (8 * k) bytes) ≡ places_in bytes - k
  unfolding places_in
  places_after = let e = length-drop (8 * k) bytes in omega arith

  place_after : (i : ℕ) → 8 * k + (11 + 8 * i) ≡ 11 + 8 * (k + i)
  place_after i = omega arith

  pub keys_after : keys_in_bytes (drop (8 * k) bytes) ≡ drop k (keys_in_bytes bytes)
  keys_after =
      let a = keys_size (drop (8 * k) bytes) in
      let b = keys_size bytes in
      let d = length-drop k (keys_in_bytes bytes) in
      let p = places_after in
      ext_get_or 0 (keys_in_bytes (drop (8 * k) bytes)) (drop k (keys_in_bytes bytes)) (omega arith)
      (λ i h.
      sym (key_in (drop (8 * k) bytes) i (omega arith))
      ∙ number_on (8 * k) (11 + 8 * i) 4 bytes
      ∙ ap (λ q. number_at q 4 bytes) (place_after i)
      ∙ key_in bytes (k + i) (omega arith)
      ∙ sym (get_or-drop k (keys_in_bytes bytes) i 0))

  value_after : (i : ℕ) → 8 * k + (11 + 8 * i + 4) ≡ 11 + 8 * (k + i) + 4
  value_after i = omega arith

  pub values_after : values_in_bytes (drop (8 * k) bytes) ≡ drop k (values_in_bytes bytes)
  values_after =
      let a = values_size (drop (8 * k) bytes) in
      let b = values_size bytes in
      let d = length-drop k (values_in_bytes bytes) in
      let p = places_after in
      ext_get_or 0 (values_in_bytes (drop (8 * k) bytes)) (drop k (values_in_bytes bytes)) (omega arith)
      (λ i h.
      sym (value_in (drop (8 * k) bytes) i (omega arith))
      ∙ number_on (8 * k) (11 + 8 * i + 4) 4 bytes
      ∙ ap (λ q. number_at q 4 bytes) (value_after i)
      ∙ value_in bytes (k + i) (omega arith)
      ∙ sym (get_or-drop k (values_in_bytes bytes) i 0))

-- records read from a place on are a run of all
run_read : (n start count : ℕ) (bs : List ℕ) → start + count ≤ n → read_records 4 count (drop (8 * start) bs) ≡ take count (drop start (read_records 4 n bs))
run_read n start count bs h =
    let a = length-read 4 count (drop (8 * start) bs) in
    let b = length-read 4 n bs in
    let d = length-drop start (read_records 4 n bs) in
    let t = length-take-le count (drop start (read_records 4 n bs)) (omega arith) in
    ext_get_or (record_of 0 0) (read_records 4 count (drop (8 * start) bs)) (take count (drop start (read_records 4 n bs))) (omega arith)
    (λ i g.
    let key : 8 * start + 8 * i ≡ 8 * (start + i) = omega arith in
    let value : 8 * start + (8 * i + 4) ≡ 8 * (start + i) + 4 = omega arith in
    record_read 4 count i (drop (8 * start) bs) (record_of 0 0) (omega arith)
    ∙ ap₂ record_of
    (number_on (8 * start) (8 * i) 4 bs ∙ ap (λ p. number_at p 4 bs) key)
    (number_on (8 * start) (8 * i + 4) 4 bs ∙ ap (λ p. number_at p 4 bs) value)
    ∙ sym (record_read 4 n (start + i) bs (record_of 0 0) (omega arith))
    ∙ sym (get_or-drop start (read_records 4 n bs) i (record_of 0 0))
    ∙ sym (get_or-take count (drop start (read_records 4 n bs)) i (record_of 0 0) (omega arith)))

-- so the records from a place on are those of the keys and values there
pub run_in : (bytes : List ℕ) (start count : ℕ) → start + count ≤ places_in bytes
    → records_at value_bytes count (drop (8 * start) bytes) ≡ records_from_place (keys_in_bytes bytes) (values_in_bytes bytes) start count
unfolding keys_in_bytes values_in_bytes
run_in bytes start count h =
    let n = places_in bytes in
    let all : List Record = read_records 4 n (drop 11 bytes) in
    let swap : 8 * start + 11 ≡ 11 + 8 * start = omega arith in
    ap (read_records 4 count) (drop-drop 11 (8 * start) bytes ∙ ap (λ k. drop k bytes) swap ∙ sym (drop-drop (8 * start) 11 bytes))
    ∙ run_read n start count (drop 11 bytes) h
    ∙ ap (λ l. take count (drop start l)) (sym (paired_back all))
    ∙ ap (take count) (drop-paired start (keys_at 4 n bytes) (values_at 4 n bytes))
    ∙ take-paired count (drop start (keys_at 4 n bytes)) (drop start (values_at 4 n bytes))
