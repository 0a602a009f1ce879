-- The records read from a file, place by place, and what storing them one by one leaves. Rests on the laws of lists.
use Prim.Native.Nat.{ℕ, zero, suc, ◌+◌, ◌*◌, ◌≤◌, ◌<◌}
use mathlib.Core.Path.{◌≡◌, refl, sym, ap, ap₂, ◌∙◌}
use mathlib.Core.List.{List, ◌++◌}
use native.Mathlib.Nat.{zero-add, add_assoc, mul-zero, mul-suc}
use native.Mathlib.Numerals.{add-one}
use native.Mathlib.Omega.{arith}
use lib.ListN.{length, length-set, length-map, get_or, get_or-map, drop, set}
use lib.Seq.{drop-drop, paste, paste-suc, paste-zero, take-length}
use Rattle.definitions.specs.List.{Record, record_of}
use Rattle.definitions.specs.Buffer.{over}
use Rattle.definitions.specs.File.{number_at, read_records}
use Rattle.laws.proofs.FileBack.{length-read}
use Rattle.file.specs.Layout.{file_key_at, file_bits_at, records_at, keys_at, values_at}
use Rattle.file.specs.Room.{RoomFor}

-- a number read some bytes on
pub number_on : (skip place width : ℕ) (file : List ℕ) → number_at place width (drop skip file) ≡ number_at (skip + place) width file
unfolding number_at
number_on skip place width file = rw (drop-drop place skip file)

-- record i is read one record's bytes after the one before it
pub record_read : (w n i : ℕ) (bytes : List ℕ) (d : Record) → i < n
    → get_or (read_records w n bytes) i d ≡ record_of (number_at ((4 + w) * i) 4 bytes) (number_at ((4 + w) * i + 4) w bytes)
unfolding read_records
record_read w zero i bytes d h = absurd (omega arith)
record_read w (suc n) zero bytes d h = rw (mul-zero (4 + w)) refl
record_read w (suc n) (suc i) bytes d h =
    let one = mul-suc (4 + w) i in
    let key : (4 + w) + (4 + w) * i ≡ (4 + w) * suc i = omega arith in
    let value : (4 + w) + ((4 + w) * i + 4) ≡ (4 + w) * suc i + 4 = omega arith in
    record_read w n i (drop (4 + w) bytes) d (omega arith)
    ∙ ap₂ record_of
    (number_on (4 + w) ((4 + w) * i) 4 bytes ∙ ap (λ p. number_at p 4 bytes) key)
    (number_on (4 + w) ((4 + w) * i + 4) w bytes ∙ ap (λ p. number_at p w bytes) value)

-- the first i records are in two slices
pub record Read (w : ℕ) (file : List ℕ) (n : ℕ) (keys₀ bits₀ keys bits : List ℕ) (i : ℕ) : Type 0 where
  pub most : i ≤ n
  pub same_keys : length keys ≡ length keys₀
  pub same_bits : length bits ≡ length bits₀
  pub read_keys : keys ≡ paste keys₀ 0 (keys_at w n file) i
  pub read_bits : bits ≡ paste bits₀ 0 (values_at w n file) i

-- none is at first
pub none_read : (w : ℕ) (file : List ℕ) (n : ℕ) (keys bits : List ℕ) → Read w file n keys bits keys bits 0
none_read w file n keys bits = record {
  most = omega arith;
  same_keys = refl;
  same_bits = refl;
  read_keys = paste-zero keys 0 (keys_at w n file);
  read_bits = paste-zero bits 0 (values_at w n file);
}

-- key i is read where record i begins
pub key_read : (w n i : ℕ) (file : List ℕ) → i < n → get_or (keys_at w n file) i 0 ≡ file_key_at w i file
key_read w n i file h =
    get_or-map (λ x. x.key) (records_at w n file) i (record_of 0 0)
    ∙ ap (λ x. x.key) (record_read w n i (drop 11 file) (record_of 0 0) h)
    ∙ number_on 11 ((4 + w) * i) 4 file

-- and its bitstring four bytes on
pub value_read : (w n i : ℕ) (file : List ℕ) → i < n → get_or (values_at w n file) i 0 ≡ file_bits_at w i file
value_read w n i file h =
    get_or-map (λ x. x.value) (records_at w n file) i (record_of 0 0)
    ∙ ap (λ x. x.value) (record_read w n i (drop 11 file) (record_of 0 0) h)
    ∙ number_on 11 ((4 + w) * i + 4) w file
    ∙ ap (λ p. number_at p w file) (sym (add_assoc 11 ((4 + w) * i) 4))

-- there are as many as asked for
pub keys_many : (w n : ℕ) (file : List ℕ) → length (keys_at w n file) ≡ n
keys_many w n file = length-map (records_at w n file) (λ x. x.key) ∙ length-read w n (drop 11 file)

pub bits_many : (w n : ℕ) (file : List ℕ) → length (values_at w n file) ≡ n
bits_many w n file = length-map (records_at w n file) (λ x. x.value) ∙ length-read w n (drop 11 file)

one_more : (old new now' : List ℕ) (i x : ℕ) → i < length old → i < length new → now' ≡ paste old 0 new i → x ≡ get_or new i 0
    → set now' i x ≡ paste old 0 new (i + 1)
one_more old new now' i x h j e f =
    ap₂ (λ l y. set l i y) e f
    ∙ ap (λ k. set (paste old 0 new i) k (get_or new i 0)) (sym (zero-add i))
    ∙ paste-suc old 0 new i 0 (omega arith) j
    ∙ ap (λ k. paste old 0 new k) (sym (add-one i))

-- a turn of the loop that reads: one record more
pub record_taken : {w : ℕ} {file : List ℕ} {n : ℕ} {keys₀ bits₀ keys bits : List ℕ} {i κ v : ℕ} → RoomFor w n keys₀ bits₀ file
    → Read w file n keys₀ bits₀ keys bits i → i < n → κ ≡ file_key_at w i file → v ≡ file_bits_at w i file
    → Read w file n keys₀ bits₀ (set keys i κ) (set bits i v) (i + 1)
record_taken {w} {file} {n} {keys₀} {bits₀} {keys} {bits} {i} {κ} {v} room r h e f =
    let ks = keys_many w n file in
    let bs = bits_many w n file in
    record {
      most = omega arith;
      same_keys = length-set keys i κ ∙ r.same_keys;
      same_bits = length-set bits i v ∙ r.same_bits;
      read_keys = one_more keys₀ (keys_at w n file) keys i κ (omega arith) (omega arith) r.read_keys (e ∙ sym (key_read w n i file h));
      read_bits = one_more bits₀ (values_at w n file) bits i v (omega arith) (omega arith) r.read_bits (f ∙ sym (value_read w n i file h));
    }

paste_all : (old new : List ℕ) (n : ℕ) → n ≡ length new → paste old 0 new n ≡ over new old
paste_all old new n e =
    ap (λ k. paste old 0 new k) e
    ∙ ap₂ (λ front k. front ++ drop k old) (take-length new) (zero-add (length new))

-- all read: the records over what the slices held
pub all_read : {w : ℕ} {file : List ℕ} {n : ℕ} {keys₀ bits₀ keys bits : List ℕ} {i : ℕ} → Read w file n keys₀ bits₀ keys bits i → n ≤ i
    → (keys ≡ over (keys_at w n file) keys₀) × (bits ≡ over (values_at w n file) bits₀)
all_read {w} {file} {n} {keys₀} {bits₀} {i = i} r h =
    let ks = keys_many w n file in
    let bs = bits_many w n file in
    (r.read_keys ∙ paste_all keys₀ (keys_at w n file) i (omega arith), r.read_bits ∙ paste_all bits₀ (values_at w n file) i (omega arith))
