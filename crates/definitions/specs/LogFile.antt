-- The bytes of a log's file, written and read: a mark of its own, a version, m, s, how many records are used and how many of them are in force, and a key
-- and a value for each used record, high byte first as in the list's file. Rests on File, Log and Refusal.
use Rattle.std.specs.Prelude.{ℕ, ◌+◌, ◌*◌, Bool, not, List, [], ◌∷◌, ◌++◌, length, take, drop, ltb, eqb}
use Rattle.definitions.specs.List.{Record, keys_of, values_of}
use Rattle.definitions.specs.Log.{no_log}
use Rattle.definitions.specs.File.{bytes_of, record_length, bytes_of_records, number_at, read_records, same_bytes, version_in, m_in, s_in}
use Rattle.definitions.specs.Refusal.{bad_settings}

-- HLG
abbrev pub log_mark : List ℕ
log_mark = 0x48 ∷ 0x4C ∷ 0x47 ∷ []

abbrev pub log_version : ℕ
log_version = 1

-- bytes of a count, and of a record's value: as many as the numbers have that the calls take, so that every log has a file
abbrev pub count_bytes : ℕ
count_bytes = 8

abbrev pub value_bytes : ℕ
value_bytes = 4

-- bytes before the records
abbrev pub log_head_length : ℕ
log_head_length = 23

unfoldable pub log_head_of : (m s used in_force : ℕ) → List ℕ
log_head_of m s used in_force =
    log_mark ++ (bytes_of 2 log_version ++ (bytes_of 1 m ++ (bytes_of 1 s ++ (bytes_of count_bytes used ++ bytes_of count_bytes in_force))))

-- the file of a log: its used records, of which so many are in force
unfoldable pub log_file_of : (m s : ℕ) (log : List Record) (in_force : ℕ) → List ℕ
log_file_of m s log in_force = log_head_of m s (length log) in_force ++ bytes_of_records value_bytes log

-- bytes of the file of a log with so many used records
abbrev pub log_file_length : (used : ℕ) → ℕ
log_file_length used = log_head_length + record_length value_bytes * used

-- the version, m and s stand where the list's file has them; then come the counts
abbrev pub used_in : (file : List ℕ) → ℕ
used_in file = number_at 7 count_bytes file

abbrev pub in_force_in : (file : List ℕ) → ℕ
in_force_in file = number_at 15 count_bytes file

-- the used records of a log's file
unfoldable pub log_records_in : (file : List ℕ) → List Record
log_records_in file = read_records value_bytes (used_in file) (drop log_head_length file)

-- 15, shorter than what stands before the records
abbrev pub log_too_short : (file : List ℕ) → Bool
log_too_short file = ltb (length file) log_head_length

-- 16
unfoldable pub wrong_log_mark : (file : List ℕ) → Bool
wrong_log_mark file = not (same_bytes (take 3 file) log_mark)

-- 17
abbrev pub wrong_log_version : (file : List ℕ) → Bool
wrong_log_version file = not (eqb (version_in file) log_version)

-- 1
abbrev pub wrong_log_settings : (file : List ℕ) → Bool
wrong_log_settings file = bad_settings (m_in file) (s_in file)

-- 15, the length
abbrev pub wrong_log_length : (file : List ℕ) → Bool
wrong_log_length file = not (eqb (length file) (log_file_length (used_in file)))

-- 5: the file's own records are no log at its own m and s, with its own counts
unfoldable pub no_log_in : (file : List ℕ) → Bool
no_log_in file = no_log (m_in file) (s_in file) (keys_of (log_records_in file)) (values_of (log_records_in file)) (used_in file) (in_force_in file)
