-- Load a log: the bytes of its file become its used records and both counts. Refusals 15 (under 23 bytes), 16, 17, 1, 15 (length), 5 (the file's own log), 10.
use Rattle.std.specs.Prelude.{ℕ, List, [], ◌∷◌, ltb}
use Rattle.definitions.specs.List.{keys_of, values_of}
use Rattle.definitions.specs.Read.{room}
use Rattle.definitions.specs.Buffer.{over}
use Rattle.definitions.specs.File.{m_in, s_in}
use Rattle.definitions.specs.LogFile.{used_in, in_force_in, log_records_in, log_too_short, wrong_log_mark, wrong_log_version, wrong_log_settings, wrong_log_length, no_log_in}
use Rattle.definitions.specs.Refusal.{◌gives◌, first, accepted}
use Rattle.definitions.specs.declared.LoadedLog.{LoadedLog}

module _ (file keys values : List ℕ) where
  unfoldable pub load_log_refusal : ℕ
  load_log_refusal =
      first
      (log_too_short file gives 15
      ∷ wrong_log_mark file gives 16
      ∷ wrong_log_version file gives 17
      ∷ wrong_log_settings file gives 1
      ∷ wrong_log_length file gives 15
      ∷ no_log_in file gives 5
      ∷ ltb (room keys values) (used_in file) gives 10
      ∷ [])

  unfoldable pub load_log : LoadedLog
  load_log =
      record {
        refusal = load_log_refusal;
        m = accepted load_log_refusal (m_in file) 0;
        s = accepted load_log_refusal (s_in file) 0;
        used = accepted load_log_refusal (used_in file) 0;
        in_force = accepted load_log_refusal (in_force_in file) 0;
      }

  -- the used records go into the first places; the places past them stay
  unfoldable pub load_log_keys : List ℕ
  load_log_keys = accepted load_log_refusal (over (keys_of (log_records_in file)) keys) keys

  unfoldable pub load_log_values : List ℕ
  load_log_values = accepted load_log_refusal (over (values_of (log_records_in file)) values) values
