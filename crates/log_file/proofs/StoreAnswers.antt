-- The answers of store, one for each way out of the code: its result and what it leaves in the file's buffer. Rests on the laws of tables, LogAccepted and
-- HeadBytes.
use Prim.Native.Nat.{ℕ, ◌-◌, ◌≤◌, ◌<◌, min}
use mathlib.Core.Path.{◌≡◌, refl, sym, ap, ap₂, ◌∙◌}
use mathlib.Core.Bool.{true, false, cond}
use mathlib.Core.List.{List, ◌++◌}
use native.Mathlib.Omega.{arith}
use lib.ListN.{length, take, drop, length-drop, length-append}
use lib.Seq.{sets, length-sets, take-length, length-take-le}
use lib.Dec.{eqb}
use borrow.Author.Tests.{lt-ltb}
use Rattle.definitions.specs.Read.{room, paired, records_of}
use Rattle.definitions.specs.Buffer.{over}
use Rattle.definitions.specs.File.{four, bytes_of_records}
use Rattle.definitions.specs.Log.{no_log}
use Rattle.definitions.specs.LogFile.{log_file_length, log_head_of, log_file_of}
use Rattle.definitions.specs.Refusal.{accepted, bad_settings}
use Rattle.definitions.specs.Calls.StoreLog.{stored_log, largest_count, store_log_refusal, store_log, store_log_file}
use Rattle.definitions.specs.declared.Counted.{Counted}
use Rattle.laws.proofs.First.{this, later, holds_first}
use Rattle.laws.proofs.FileOf.{length-records}
use Rattle.laws.proofs.Records.{records-length}
use Rattle.laws.proofs.Buffer.{sets_over}
use Rattle.file.specs.Room.{RoomFor}
use Rattle.edit_log.proofs.Parts.{whole_log}
use Rattle.edit_log.specs.Entries.{WholeLog}
use Rattle.log_file.proofs.Lent.{rest_lent, rest_back}
use Rattle.log_file.proofs.LogAccepted.{store_accepts}
use Rattle.log_file.proofs.HeadBytes.{length-head, log_head_then}

-- the length of a log's file
pub length-log_file : (m s : ℕ) (keys values : List ℕ) (used in_force : ℕ) → used ≤ length keys → used ≤ length values
    → length (stored_log m s keys values used in_force) ≡ log_file_length used
unfolding stored_log log_file_of
length-log_file m s keys values used in_force in_keys in_values =
    let log = records_of keys values used in
    let head = length-head m s (length log) in_force in
    let records = length-records four log in
    let many = records-length keys values used in_keys in_values in
    let all = length-append (log_head_of m s (length log) in_force) (bytes_of_records 4 log) in
    omega arith

module _ (m s : ℕ) (keys values : List ℕ) (used in_force : ℕ) (file : List ℕ) where
  -- what store promises of its result and of the buffer
  abbrev pub StoredAs : Counted → List ℕ → Type 0
  StoredAs r whole = (r ≡ store_log m s keys values used in_force file) × (whole ≡ store_log_file m s keys values used in_force file)

  abbrev bytes : List ℕ
  bytes = stored_log m s keys values used in_force

  -- both by the number that the table gives
  by_number : (k : ℕ) → store_log_refusal m s keys values used in_force file ≡ k
      → StoredAs (record { refusal = k; count = accepted k (length bytes) (cond (eqb k 12) (min (length bytes) largest_count) 0) })
      (accepted k (over bytes file) file)
  unfolding store_log store_log_file
  by_number k e = (
    sym (λ i. record { refusal = e i; count = accepted (e i) (length bytes) (cond (eqb (e i) 12) (min (length bytes) largest_count) 0) }),
    sym (λ i. accepted (e i) (over bytes file) file),
  )

  -- 1
  pub bad-settings : bad_settings m s ≡ true → StoredAs (record { refusal = 1; count = 0 }) file
  unfolding store_log_refusal
  bad-settings bad = by_number 1 (holds_first (this bad refl))

  module _ (good : bad_settings m s ≡ false) where
    -- 5
    pub no-log : no_log m s keys values used in_force ≡ true → StoredAs (record { refusal = 5; count = 0 }) file
    unfolding store_log_refusal
    no-log bad = by_number 5 (holds_first (later good (this bad refl)))

    module _ (sound : no_log m s keys values used in_force ≡ false) where
      w : WholeLog m s keys values used in_force
      w = whole_log m s keys values used in_force sound

      -- the used records are there
      pub roomy : used ≤ room keys values
      roomy = let a = w.in_keys in let b = w.in_values in omega arith

      -- the bytes needed
      needed : length bytes ≡ log_file_length used
      needed = length-log_file m s keys values used in_force w.in_keys w.in_values

      module _ (k : ℕ) (k-is : k ≡ min (log_file_length used) largest_count) where
        told : k ≡ min (length bytes) largest_count
        told = k-is ∙ ap (λ x. min x largest_count) (sym needed)

        -- 12
        pub no_room : length file < k → StoredAs (record { refusal = 12; count = k }) file
        unfolding store_log_refusal
        no_room h =
            let e = needed in
            let full = lt-ltb (length file) (length bytes) (omega arith) in
            let answer = by_number 12 (holds_first (later good (later sound (this full refl)))) in
            ((λ i. record { refusal = 12; count = told i }) ∙ answer.0, answer.1)

        module _ (fits : k ≤ length file) (small : length file < 9223372036854775808) where
          -- a buffer that is long enough has the bytes that are told
          exact : k ≡ log_file_length used
          exact = omega arith

          -- the part of it from byte 12 on has room for the records
          pub room_in : (headed : List ℕ) → length headed ≡ length file
              → RoomFor 4 (length (take used keys)) (take used keys) (take used values) (take (length headed - 12) (drop 12 headed))
          room_in headed same =
              let e = exact in
              let d = length-drop 12 headed in
              let a = length-take-le used keys w.in_keys in
              let b = length-take-le used values w.in_values in
              rw (rest_lent headed 12) (record { in_keys = omega arith; in-bits = omega arith; in_file = record { width_is = four; there = omega arith } })

          -- the parts of the two slices that are lent have the used records
          narrowed : records_of (take used keys) (take used values) (length (take used keys)) ≡ records_of keys values used
          narrowed =
              let a = length-take-le used keys w.in_keys in
              let b = length-take-le used values w.in_values in
              let pair : length (take used keys) ≡ length (take used values) = omega arith in
              ap₂ paired (take-length (take used keys)) (ap (λ k. take k (take used values)) pair ∙ take-length (take used values))

          -- the head, and then the records in that part, are the file
          pub all_stored : (headed part : List ℕ) → headed ≡ sets file 0 (log_head_of m s used in_force)
              → part ≡ sets (take (length headed - 12) (drop 12 headed)) 11
              (bytes_of_records 4 (records_of (take used keys) (take used values) (length (take used keys))))
              → StoredAs (record { refusal = 0; count = k }) (take 12 headed ++ (part ++ drop (length headed - 12) (drop 12 headed)))
          unfolding stored_log log_file_of
          all_stored headed part e f =
              let size = needed in
              let same = exact in
              let many = records-length keys values used w.in_keys w.in_values in
              let answer = by_number 0 (store_accepts m s keys values used in_force file (record { settings = good; whole = sound; roomy = omega arith })) in
              let records = bytes_of_records 4 (records_of keys values used) in
              let long = length-records four (records_of keys values used) in
              let kept : length headed ≡ length file = ap length e ∙ length-sets file 0 (log_head_of m s used in_force) in
              let written : take 12 headed ++ (part ++ drop (length headed - 12) (drop 12 headed)) ≡ over bytes file
              = rest_back headed 12 11 records (omega arith) part (f ∙ ap (λ l. sets (take (length headed - 12) (drop 12 headed)) 11 (bytes_of_records 4 l)) narrowed)
              ∙ ap (λ x. sets x 23 records) e
              ∙ sym (log_head_then file m s used in_force records)
              ∙ ap (λ n. sets file 0 (log_head_of m s n in_force ++ records)) (sym many)
              ∙ sets_over bytes file (omega arith) in
              ((λ i. record { refusal = 0; count = (exact ∙ sym needed) i }) ∙ answer.0, written ∙ answer.1)
