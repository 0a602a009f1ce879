-- The file's bytes, written and read (specification S15): mark, version, m, s, n, and n records, high byte first.
-- Rests on List and Refusal.
use Rattle.std.specs.Prelude.{ℕ, zero, suc, ◌+◌, ◌*◌, ◌/◌, ◌%◌, ◌^◌, Bool, true, false, cond, not, ◌&&◌, ◌||◌, List, [], ◌∷◌, ◌++◌, length, take, drop, ltb, eqb}
use Rattle.definitions.specs.List.{Record, record_of}
use Rattle.definitions.specs.Refusal.{bad_settings}

-- a number in so many bytes, high byte first
unfoldable pub bytes_of : (width x : ℕ) → List ℕ
bytes_of zero x = []
bytes_of (suc k) x = x / 256 ^ k % 256 ∷ bytes_of k x

unfoldable pub number_after : (x : ℕ) (bytes : List ℕ) → ℕ
number_after x [] = x
number_after x (b ∷ bs) = number_after (x * 256 + b) bs

-- the number that bytes stand for, high byte first
unfoldable pub number_of : (bytes : List ℕ) → ℕ
number_of bytes = number_after 0 bytes

-- HLQ
abbrev pub mark : List ℕ
mark = 0x48 ∷ 0x4C ∷ 0x51 ∷ []

-- the slots of a file of version 1: with more than these it has version 2, and bitstrings of 4 bytes in place of 2
abbrev pub first_slots : ℕ
first_slots = 16

unfoldable pub version_for : (s : ℕ) → ℕ
version_for s = cond (ltb first_slots s) 2 1

unfoldable pub bit_bytes : (s : ℕ) → ℕ
bit_bytes s = cond (ltb first_slots s) 4 2

-- what a width of bitstrings is: 2 bytes or 4
pub data Width : ℕ → Type 0 where
  two : Width 2
  four : Width 4

-- bytes before the records, and bytes of a record: a key in 4, and a bitstring in so many
abbrev pub head_length : ℕ
head_length = 11

abbrev pub key_bytes : ℕ
key_bytes = 4

abbrev pub record_length : (width : ℕ) → ℕ
record_length width = key_bytes + width

abbrev pub bytes_of_record : (width : ℕ) (e : Record) → List ℕ
bytes_of_record width e = bytes_of key_bytes e.key ++ bytes_of width e.value

unfoldable pub bytes_of_records : (width : ℕ) (l : List Record) → List ℕ
bytes_of_records width [] = []
bytes_of_records width (e ∷ l) = bytes_of_record width e ++ bytes_of_records width l

unfoldable pub head_of : (m s n : ℕ) → List ℕ
head_of m s n = mark ++ (bytes_of 2 (version_for s) ++ (bytes_of 1 m ++ (bytes_of 1 s ++ bytes_of 4 n)))

-- the file of a list
unfoldable pub file_of : (m s : ℕ) (l : List Record) → List ℕ
file_of m s l = head_of m s (length l) ++ bytes_of_records (bit_bytes s) l

-- so many bytes from a place on, as a number
unfoldable pub number_at : (place width : ℕ) (file : List ℕ) → ℕ
number_at place width file = number_of (take width (drop place file))

abbrev pub version_in : (file : List ℕ) → ℕ
version_in file = number_at 3 2 file

abbrev pub m_in : (file : List ℕ) → ℕ
m_in file = number_at 5 1 file

abbrev pub s_in : (file : List ℕ) → ℕ
s_in file = number_at 6 1 file

abbrev pub n_in : (file : List ℕ) → ℕ
n_in file = number_at 7 4 file

unfoldable pub read_records : (width n : ℕ) (bytes : List ℕ) → List Record
read_records width zero bytes = []
read_records width (suc n) bytes =
    record_of (number_at 0 key_bytes bytes) (number_at key_bytes width bytes) ∷ read_records width n (drop (record_length width) bytes)

-- the records of a file
unfoldable pub records_in_file : (file : List ℕ) → List Record
records_in_file file = read_records (bit_bytes (s_in file)) (n_in file) (drop head_length file)

unfoldable pub same_bytes : (xs ys : List ℕ) → Bool
same_bytes [] [] = true
same_bytes [] (y ∷ ys) = false
same_bytes (x ∷ xs) [] = false
same_bytes (x ∷ xs) (y ∷ ys) = eqb x y && same_bytes xs ys

-- 15, under 11 bytes
abbrev pub too_short : (file : List ℕ) → Bool
too_short file = ltb (length file) head_length

-- 16
unfoldable pub wrong_mark : (file : List ℕ) → Bool
wrong_mark file = not (same_bytes (take 3 file) mark)

-- 17: neither version 1 nor 2, or version 2 with slots that have room in version 1
unfoldable pub other_version : (version s : ℕ) → Bool
other_version version s = not (eqb version 1 || eqb version 2) || (eqb version 2 && not (ltb first_slots s))

abbrev pub wrong_version : (file : List ℕ) → Bool
wrong_version file = other_version (version_in file) (s_in file)

-- 1: settings of no list, or version 1 with slots that have no room in it
unfoldable pub bad_at_version : (version m s : ℕ) → Bool
bad_at_version version m s = bad_settings m s || (eqb version 1 && ltb first_slots s)

abbrev pub wrong_settings : (file : List ℕ) → Bool
wrong_settings file = bad_at_version (version_in file) (m_in file) (s_in file)

-- bytes of a file of n records, whose bitstrings have so many bytes
abbrev pub file_length : (width n : ℕ) → ℕ
file_length width n = head_length + record_length width * n

-- 15, the length
abbrev pub wrong_length : (file : List ℕ) → Bool
wrong_length file = not (eqb (length file) (file_length (bit_bytes (s_in file)) (n_in file)))
