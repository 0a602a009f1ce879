-- Store a log: its used records and both counts become the bytes of a file. Refusals 1, 5, 12.
use Rattle.std.specs.Prelude.{ℕ, min, cond, List, [], ◌∷◌, length, ltb, eqb}
use Rattle.definitions.specs.Read.{records_of}
use Rattle.definitions.specs.Buffer.{over}
use Rattle.definitions.specs.Log.{no_log}
use Rattle.definitions.specs.LogFile.{log_file_of}
use Rattle.definitions.specs.Refusal.{◌gives◌, first, accepted, bad_settings}
use Rattle.definitions.specs.declared.Counted.{Counted}

unfoldable pub stored_log : (m s : ℕ) (keys values : List ℕ) (used in_force : ℕ) → List ℕ
stored_log m s keys values used in_force = log_file_of m s (records_of keys values used) in_force

-- the largest count of 64 bits; no buffer has so many bytes
abbrev pub largest_count : ℕ
largest_count = 18446744073709551615

module _ (m s : ℕ) (keys values : List ℕ) (used in_force : ℕ) (file : List ℕ) where
  unfoldable pub store_log_refusal : ℕ
  store_log_refusal =
      first
      (bad_settings m s gives 1
      ∷ no_log m s keys values used in_force gives 5
      ∷ ltb (length file) (length (stored_log m s keys values used in_force)) gives 12
      ∷ [])

  -- the count is in bytes; with 12 it is the number of bytes needed, or the largest count where that does not hold it
  unfoldable pub store_log : Counted
  store_log =
      record {
        refusal = store_log_refusal;
        count = accepted store_log_refusal
            (length (stored_log m s keys values used in_force))
            (cond (eqb store_log_refusal 12) (min (length (stored_log m s keys values used in_force)) largest_count) 0);
      }

  unfoldable pub store_log_file : List ℕ
  store_log_file = accepted store_log_refusal (over (stored_log m s keys values used in_force) file) file
