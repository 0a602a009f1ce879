-- The file of a list: its length, and that reading what was written gives it back (specification S15). Rests on FileBytes.
use Prim.Native.Nat.{ℕ, ◌+◌, ◌*◌, ◌^◌, ◌≤◌, ◌<◌}
use mathlib.Core.Path.{◌≡◌, refl, sym, ap, ap₂, ◌∙◌}
use mathlib.Core.Bool.{Bool, true, false, cond, not, ◌&&◌, ◌||◌}
use mathlib.Core.List.{List, [], ◌∷◌, Memᴰ}
use native.Mathlib.Omega.{arith}
use lib.ListN.{length}
use lib.Dec.{lit<, ltb, eqb}
use borrow.Author.Tests.{le-ltb, lt-ltb, eq-eqb}
use Rattle.definitions.specs.List.{Record, record_of}
use Rattle.definitions.specs.File.{first_slots, version_for, bit_bytes, Width, two, four, bytes_of, number_at, head_of, bytes_of_records, file_of, read_records, records_in_file, same_bytes, wrong_mark}
use Rattle.definitions.specs.File.{m_in, s_in, n_in, version_in, file_length, too_short, other_version, wrong_version, bad_at_version, wrong_settings, wrong_length}
use Rattle.definitions.specs.Refusal.{bad_settings}
use Rattle.laws.proofs.FileBytes.{number_of_bytes}

-- up to 16 slots: version 1, bitstrings of 2 bytes
pub first_version : (s : ℕ) → s ≤ first_slots → (version_for s ≡ 1) × (bit_bytes s ≡ 2)
unfolding version_for bit_bytes
first_version s h = rw (le-ltb first_slots s h) (refl, refl)

-- above: version 2, bitstrings of 4
pub second_version : (s : ℕ) → first_slots < s → (version_for s ≡ 2) × (bit_bytes s ≡ 4)
unfolding version_for bit_bytes
second_version s h = rw (lt-ltb first_slots s h) (refl, refl)

either_width : (b : Bool) → Width (cond b 4 2)
either_width true = four
either_width false = two

-- so their width is 2 or 4
pub width_of : (s : ℕ) → Width (bit_bytes s)
unfolding bit_bytes
width_of s = either_width (ltb first_slots s)

-- every record has a key that fits into 4 bytes and a value that fits into so many
pub data FitsFile (width : ℕ) : List Record → Type 0 where
  no_record : FitsFile width []
  fits : {e : Record} {l : List Record} → e.key < 256 ^ 4 → e.value < 256 ^ width → FitsFile width l → FitsFile width (e ∷ l)

-- it is enough that each record of the list does
pub fits_file : (width : ℕ) (l : List Record) → ((e : Record) → Memᴰ e l → (e.key < 256 ^ 4) × (e.value < 256 ^ width)) → FitsFile width l
fits_file width [] each = no_record
fits_file width (e ∷ l) each =
    let this = each e (Memᴰ.head refl) in
    fits this.0 this.1 (fits_file width l (λ x h. each x (Memᴰ.tail h)))

-- each record is four bytes and those of its bitstring
pub length-records : {width : ℕ} → Width width → (l : List Record) → length (bytes_of_records width l) ≡ (4 + width) * length l
unfolding bytes_of_records bytes_of
length-records two [] = refl
length-records two (e ∷ l) = let ih = length-records two l in omega arith
length-records four [] = refl
length-records four (e ∷ l) = let ih = length-records four l in omega arith

-- the length is exactly 11 + 6n at version 1, and 11 + 8n at version 2
pub length-file : (m s : ℕ) (l : List Record) → length (file_of m s l) ≡ file_length (bit_bytes s) (length l)
unfolding file_of head_of bytes_of
length-file m s l = let e = length-records (width_of s) l in omega arith

-- records that fit, written and read again
pub read_written : {width : ℕ} → Width width → {l : List Record} → FitsFile width l → read_records width (length l) (bytes_of_records width l) ≡ l
unfolding read_records bytes_of_records number_at bytes_of
read_written w no_record = refl
read_written two (fits {e} {l} hk hv h) = λ i. record_of (number_of_bytes 4 e.key hk i) (number_of_bytes 2 e.value hv i) ∷ read_written two h i
read_written four (fits {e} {l} hk hv h) = λ i. record_of (number_of_bytes 4 e.key hk i) (number_of_bytes 4 e.value hv i) ∷ read_written four h i

one_or_two : (b : Bool) → cond b 2 1 < 256 ^ 2
one_or_two true = lit< tt
one_or_two false = lit< tt

own_version : (s : ℕ) → other_version (version_for s) s ≡ false
unfolding other_version version_for
own_version s = at (ltb first_slots s)
  where
    at : (wide : Bool) → not (eqb (cond wide 2 1) 1 || eqb (cond wide 2 1) 2) || (eqb (cond wide 2 1) 2 && not wide) ≡ false
    at true = refl
    at false = refl

own_settings : (m s : ℕ) → bad_settings m s ≡ false → bad_at_version (version_for s) m s ≡ false
unfolding bad_at_version version_for
own_settings m s good = rw good (at (ltb first_slots s))
  where
    at : (wide : Bool) → (eqb (cond wide 2 1) 1 && wide) ≡ false
    at true = refl
    at false = refl

module _ (m s : ℕ) (l : List Record) where
  -- reading what was written gives it back: m
  pub read_m : m < 256 → m_in (file_of m s l) ≡ m
  unfolding file_of head_of bytes_of number_at
  read_m h = number_of_bytes 1 m h

  -- s
  pub read_s : s < 256 → s_in (file_of m s l) ≡ s
  unfolding file_of head_of bytes_of number_at
  read_s h = number_of_bytes 1 s h

  -- the number of records
  pub read_n : length l < 256 ^ 4 → n_in (file_of m s l) ≡ length l
  unfolding file_of head_of bytes_of number_at
  read_n h = number_of_bytes 4 (length l) h

  -- the version
  pub read_version : version_in (file_of m s l) ≡ version_for s
  unfolding file_of head_of bytes_of number_at version_for
  read_version = number_of_bytes 2 (version_for s) (one_or_two (ltb first_slots s))

  -- what was written has the right mark
  pub written_mark : wrong_mark (file_of m s l) ≡ false
  unfolding file_of head_of wrong_mark same_bytes
  written_mark = refl

  -- the right version
  pub written_version : s < 256 → wrong_version (file_of m s l) ≡ false
  written_version h = ap₂ other_version read_version (read_s h) ∙ own_version s

  -- with settings that have room in it
  pub written_settings : m < 256 → s < 256 → bad_settings m s ≡ false → wrong_settings (file_of m s l) ≡ false
  written_settings hm hs good = (λ i. bad_at_version (read_version i) (read_m hm i) (read_s hs i)) ∙ own_settings m s good

  -- the right length
  pub written-length : s < 256 → length l < 256 ^ 4 → wrong_length (file_of m s l) ≡ false
  written-length hs h = ap not (eq-eqb _ _ (length-file m s l ∙ ap₂ (λ k n. file_length (bit_bytes k) n) (sym (read_s hs)) (sym (read_n h))))

  -- and is not too short
  pub written_not_short : too_short (file_of m s l) ≡ false
  written_not_short = let e = length-file m s l in le-ltb (length (file_of m s l)) 11 (omega arith)

  -- reading what was written gives the list back
  pub read-records : s < 256 → length l < 256 ^ 4 → FitsFile (bit_bytes s) l → records_in_file (file_of m s l) ≡ l
  unfolding file_of head_of bytes_of records_in_file
  read-records hs h g =
      ap₂ (λ k n. read_records (bit_bytes k) n (bytes_of_records (bit_bytes s) l)) (read_s hs) (read_n h) ∙ read_written (width_of s) g
