-- The file of a log: reading what was written gives it back, and writing what was read from a file gives its bytes back. Rests on the laws of a file's bytes.
use Prim.Native.Nat.{ℕ, zero, suc, ◌+◌, ◌*◌, ◌^◌, ◌≤◌, ◌<◌}
use mathlib.Core.Path.{◌≡◌, refl, sym, ap, ap₂, ◌∙◌}
use mathlib.Core.Bool.{false, not}
use mathlib.Core.List.{List, [], ◌∷◌, ◌++◌, append_assoc}
use native.Mathlib.Omega.{arith}
use lib.ListN.{length, get_or, take, drop, length-drop, length-append, take-append-drop}
use lib.Dec.{lit<}
use borrow.Author.Tests.{le-ltb, ltb-false, eq-eqb, eqb-true, not-false}
use Rattle.definitions.specs.List.{Record}
use Rattle.definitions.specs.Read.{paired, records_of}
use Rattle.definitions.specs.File.{four, bytes_of, bytes_of_records, number_at, read_records, same_bytes, version_in, m_in, s_in}
use Rattle.definitions.specs.LogFile.{log_mark, log_head_of, log_file_of, log_file_length, used_in, in_force_in, log_records_in, log_too_short, wrong_log_mark, wrong_log_version, wrong_log_length}
use Rattle.laws.proofs.FileBytes.{Bytes, bytes_drop, number_of_bytes}
use Rattle.laws.proofs.FileOf.{FitsFile, no_record, fits, length-records, read_written}
use Rattle.laws.proofs.FileBack.{same_bytes_of, number_then, length-read, records_back}
use Rattle.log_file.proofs.HeadBytes.{length-head}

-- every number of a slice has 32 bits
abbrev pub Words : List ℕ → Type 0
Words l = (i : ℕ) → get_or l i 0 < 4294967296

-- records of such slices fit a file
pub words_fit : (n : ℕ) (keys values : List ℕ) → Words keys → Words values → FitsFile 4 (records_of keys values n)
unfolding paired
words_fit zero keys values a b = no_record
words_fit (suc n) [] values a b = no_record
words_fit (suc n) (κ ∷ keys) [] a b = no_record
words_fit (suc n) (κ ∷ keys) (v ∷ values) a b = fits (a 0) (b 0) (words_fit n keys values (λ i. a (suc i)) (λ i. b (suc i)))

module _ (m s : ℕ) (log : List Record) (in_force : ℕ) where
  -- reading what was written gives it back: m
  pub read_m : m < 256 → m_in (log_file_of m s log in_force) ≡ m
  unfolding log_file_of log_head_of bytes_of number_at
  read_m h = number_of_bytes 1 m h

  -- s
  pub read_s : s < 256 → s_in (log_file_of m s log in_force) ≡ s
  unfolding log_file_of log_head_of bytes_of number_at
  read_s h = number_of_bytes 1 s h

  -- both counts
  pub read_used : length log < 256 ^ 8 → used_in (log_file_of m s log in_force) ≡ length log
  unfolding log_file_of log_head_of bytes_of number_at
  read_used h = number_of_bytes 8 (length log) h

  pub read_in_force : in_force < 256 ^ 8 → in_force_in (log_file_of m s log in_force) ≡ in_force
  unfolding log_file_of log_head_of bytes_of number_at
  read_in_force h = number_of_bytes 8 in_force h

  -- what was written has the right mark
  pub written_mark : wrong_log_mark (log_file_of m s log in_force) ≡ false
  unfolding log_file_of log_head_of wrong_log_mark same_bytes
  written_mark = refl

  -- the right version
  read_version : version_in (log_file_of m s log in_force) ≡ 1
  unfolding log_file_of log_head_of bytes_of number_at
  read_version = number_of_bytes 2 1 (lit< tt)

  pub written_version : wrong_log_version (log_file_of m s log in_force) ≡ false
  written_version = ap not (eq-eqb (version_in (log_file_of m s log in_force)) 1 read_version)

  -- the right length
  pub length-file : length (log_file_of m s log in_force) ≡ log_file_length (length log)
  unfolding log_file_of
  length-file =
      let head = length-head m s (length log) in_force in
      let records = length-records four log in
      let all = length-append (log_head_of m s (length log) in_force) (bytes_of_records 4 log) in
      omega arith

  pub written-length : length log < 256 ^ 8 → wrong_log_length (log_file_of m s log in_force) ≡ false
  written-length h = ap not (eq-eqb _ _ (length-file ∙ ap log_file_length (sym (read_used h))))

  -- and is not too short
  pub written_not_short : log_too_short (log_file_of m s log in_force) ≡ false
  written_not_short = let e = length-file in le-ltb (length (log_file_of m s log in_force)) 23 (omega arith)

  -- and the records
  pub read-records : length log < 256 ^ 8 → FitsFile 4 log → log_records_in (log_file_of m s log in_force) ≡ log
  unfolding log_file_of log_head_of bytes_of log_records_in
  read-records h g = ap (λ n. read_records 4 n (bytes_of_records 4 log)) (read_used h) ∙ read_written four g

six_parts : {A : Type 0} (a b c d e f g : List A) → (a ++ (b ++ (c ++ (d ++ (e ++ f))))) ++ g ≡ a ++ (b ++ (c ++ (d ++ (e ++ (f ++ g)))))
six_parts a b c d e f g = simp append_assoc

-- of a file that load accepts as one: what is read from it, written again, is the file
pub log_file_back : (file : List ℕ) → Bytes file → log_too_short file ≡ false → wrong_log_mark file ≡ false → wrong_log_version file ≡ false
    → wrong_log_length file ≡ false → log_file_of (m_in file) (s_in file) (log_records_in file) (in_force_in file) ≡ file
unfolding log_file_of log_head_of wrong_log_mark log_records_in
log_file_back file h long marked versioned exact =
    let room : 23 ≤ length file = ltb-false (length file) 23 long in
    let all : length file ≡ 23 + 8 * used_in file = eqb-true _ _ (not-false _ exact) in
    let after = length-drop 23 file in
    let records : bytes_of_records 4 (read_records 4 (used_in file) (drop 23 file)) ≡ drop 23 file
    = records_back 4 (used_in file) (drop 23 file) (bytes_drop 23 h) (omega arith) in
    let version_is : version_in file ≡ 1 = eqb-true (version_in file) 1 (not-false _ versioned) in
    let mark_is : take 3 file ≡ log_mark = same_bytes_of (take 3 file) log_mark (not-false _ marked) in
    six_parts log_mark (bytes_of 2 1) (bytes_of 1 (m_in file)) (bytes_of 1 (s_in file)) (bytes_of 8 (length (read_records 4 (used_in file) (drop 23 file))))
    (bytes_of 8 (in_force_in file)) (bytes_of_records 4 (read_records 4 (used_in file) (drop 23 file)))
    ∙ ap (λ rest. log_mark ++ (bytes_of 2 1 ++ (bytes_of 1 (m_in file) ++ (bytes_of 1 (s_in file) ++ rest))))
    (ap₂ (λ n rest. bytes_of 8 n ++ (bytes_of 8 (in_force_in file) ++ rest)) (length-read 4 (used_in file) (drop 23 file)) records
    ∙ ap (λ rest. bytes_of 8 (used_in file) ++ rest) (number_then 15 8 23 refl h room)
    ∙ number_then 7 8 15 refl h (omega arith))
    ∙ ap (λ rest. log_mark ++ (bytes_of 2 1 ++ (bytes_of 1 (m_in file) ++ rest))) (number_then 6 1 7 refl h (omega arith))
    ∙ ap (λ rest. log_mark ++ (bytes_of 2 1 ++ rest)) (number_then 5 1 6 refl h (omega arith))
    ∙ ap (λ rest. log_mark ++ rest) (ap (λ x. bytes_of 2 x ++ drop 5 file) (sym version_is) ∙ number_then 3 2 5 refl h (omega arith))
    ∙ ap (λ begin. begin ++ drop 3 file) (sym mark_is)
    ∙ take-append-drop 3 file
