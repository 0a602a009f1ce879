-- The records of two slices one after the other, and the bytes that they are written as. Rests on Stores.
use Prim.Native.Nat.{ℕ, zero, suc, ◌+◌, ◌*◌, ◌≤◌, ◌<◌}
use mathlib.Core.Path.{◌≡◌, refl, sym, ap, ◌∙◌}
use mathlib.Core.List.{List, [], ◌∷◌, ◌++◌, append_assoc, append-nil}
use native.Mathlib.Numerals.{add-one}
use native.Mathlib.Omega.{arith}
use lib.ListN.{length, get_or}
use lib.Seq.{sets, length-sets}
use Rattle.definitions.specs.List.{Record, record_of}
use Rattle.definitions.specs.Read.{paired, records_of}
use Rattle.definitions.specs.File.{Width, file_length, bytes_of_record, bytes_of_records}
use Rattle.laws.proofs.Records.{records-length}
use Rattle.laws.proofs.FileOf.{length-records}
use Rattle.file.specs.Room.{RoomFor}
use Rattle.file.proofs.Stores.{sets_split}

-- one record more
pub records_more : (keys bits : List ℕ) (i : ℕ) → i < length keys → i < length bits
    → records_of keys bits (suc i) ≡ records_of keys bits i ++ (record_of (get_or keys i 0) (get_or bits i 0) ∷ [])
unfolding paired
records_more [] bits i h j = absurd (omega arith)
records_more (κ ∷ keys) [] i h j = absurd (omega arith)
records_more (κ ∷ keys) (v ∷ bits) zero h j = refl
records_more (κ ∷ keys) (v ∷ bits) (suc i) h j = ap (λ l. record_of κ v ∷ l) (records_more keys bits i (omega arith) (omega arith))

-- the bytes of records and then of others
record_bytes-append : (w : ℕ) (l l' : List Record) → bytes_of_records w (l ++ l') ≡ bytes_of_records w l ++ bytes_of_records w l'
unfolding bytes_of_records
record_bytes-append w [] l' = refl
record_bytes-append w (e ∷ l) l' =
    ap (λ bs. bytes_of_record w e ++ bs) (record_bytes-append w l l')
    ∙ sym (append_assoc (bytes_of_record w e) (bytes_of_records w l) (bytes_of_records w l'))

record_bytes_one : (w : ℕ) (e : Record) → bytes_of_records w (e ∷ []) ≡ bytes_of_record w e
unfolding bytes_of_records
record_bytes_one w e = append-nil (bytes_of_record w e)

-- the first i records are in the file
pub record WrittenRecords (w : ℕ) (keys bits : List ℕ) (n : ℕ) (old file : List ℕ) (i : ℕ) : Type 0 where
  pub most : i ≤ n
  pub same : length file ≡ length old
  pub written : file ≡ sets old 11 (bytes_of_records w (records_of keys bits i))

-- none is at first
pub none_written : (w : ℕ) (keys bits : List ℕ) (n : ℕ) (old : List ℕ) → WrittenRecords w keys bits n old old 0
unfolding paired bytes_of_records
none_written w keys bits n old = record { most = omega arith; same = refl; written = refl }

stored : {w : ℕ} → Width w → (keys bits : List ℕ) (i : ℕ) (old file : List ℕ) → i < length keys → i < length bits
    → file ≡ sets old 11 (bytes_of_records w (records_of keys bits i))
    → sets file (file_length w i) (bytes_of_record w (record_of (get_or keys i 0) (get_or bits i 0))) ≡ sets old 11 (bytes_of_records w (records_of keys bits (i + 1)))
stored {w} width keys bits i old file h j e =
    let before = bytes_of_records w (records_of keys bits i) in
    let this = bytes_of_record w (record_of (get_or keys i 0) (get_or bits i 0)) in
    let place : 11 + length before ≡ file_length w i
    = ap (λ k. 11 + k) (length-records width (records_of keys bits i) ∙ ap (λ k. (4 + w) * k) (records-length keys bits i (omega arith) (omega arith))) in
    let all : bytes_of_records w (records_of keys bits (i + 1)) ≡ before ++ this
    = ap (λ k. bytes_of_records w (records_of keys bits k)) (add-one i)
    ∙ ap (bytes_of_records w) (records_more keys bits i h j)
    ∙ record_bytes-append w (records_of keys bits i) (record_of (get_or keys i 0) (get_or bits i 0) ∷ [])
    ∙ ap (λ bs. before ++ bs) (record_bytes_one w (record_of (get_or keys i 0) (get_or bits i 0))) in
    sym
    (ap (λ bs. sets old 11 bs) all
    ∙ sets_split old 11 before this
    ∙ ap (λ l. sets l (11 + length before) this) (sym e)
    ∙ ap (λ k. sets file k this) place)

-- a turn of the loop that writes: record i stored after the first i makes the first i + 1
pub record_stored : {w : ℕ} {keys bits : List ℕ} {n : ℕ} {old file whole : List ℕ} {i : ℕ} → RoomFor w n keys bits old → WrittenRecords w keys bits n old file i
    → i < n → whole ≡ sets file (file_length w i) (bytes_of_record w (record_of (get_or keys i 0) (get_or bits i 0)))
    → WrittenRecords w keys bits n old whole (i + 1)
record_stored {w} {keys} {bits} {n} {old} {file} {whole} {i} room r h e =
    let all = e ∙ stored room.in_file.width_is keys bits i old file (omega arith) (omega arith) r.written in
    record { most = omega arith; same = ap length all ∙ length-sets old 11 (bytes_of_records w (records_of keys bits (i + 1))); written = all }

-- all written
pub all_written : {w : ℕ} {keys bits : List ℕ} {n : ℕ} {old file : List ℕ} {i : ℕ} → WrittenRecords w keys bits n old file i → n ≤ i
    → file ≡ sets old 11 (bytes_of_records w (records_of keys bits n))
all_written {w} {keys} {bits} {n} {old} {file} {i} r h =
    let e : i ≡ n = omega arith in
    r.written ∙ ap (λ k. sets old 11 (bytes_of_records w (records_of keys bits k))) e
