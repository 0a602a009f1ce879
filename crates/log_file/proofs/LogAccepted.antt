-- What holds where storing and loading a log are not refused, row by row of their tables, and what they give and leave there. Rests on the laws of tables.
use Prim.Native.Nat.{ℕ, ◌≤◌, min}
use mathlib.Core.Path.{◌≡◌, refl}
use mathlib.Core.Bool.{false, cond}
use mathlib.Core.List.{List}
use lib.ListN.{length}
use lib.Dec.{eqb}
use borrow.Author.Tests.{ltb-false, le-ltb}
use Rattle.definitions.specs.List.{keys_of, values_of}
use Rattle.definitions.specs.Read.{room}
use Rattle.definitions.specs.Buffer.{over}
use Rattle.definitions.specs.Refusal.{bad_settings}
use Rattle.definitions.specs.File.{m_in, s_in}
use Rattle.definitions.specs.Log.{no_log}
use Rattle.definitions.specs.LogFile.{used_in, in_force_in, log_records_in, log_too_short, wrong_log_mark, wrong_log_version, wrong_log_settings, wrong_log_length, no_log_in}
use Rattle.definitions.specs.Calls.StoreLog.{stored_log, largest_count, store_log_refusal, store_log, store_log_file}
use Rattle.definitions.specs.Calls.LoadLog.{load_log_refusal, load_log, load_log_keys, load_log_values}
use Rattle.laws.proofs.First.{first_none, none_first, accepted_done}

-- store's rows
pub record LogStoreAccepted (m s : ℕ) (keys values : List ℕ) (used in_force : ℕ) (file : List ℕ) : Type 0 where
  pub settings : bad_settings m s ≡ false
  pub whole : no_log m s keys values used in_force ≡ false
  pub roomy : length (stored_log m s keys values used in_force) ≤ length file

module _ (m s : ℕ) (keys values : List ℕ) (used in_force : ℕ) (file : List ℕ) where
  -- where store gives 0, no row of its table holds
  pub store_accepted : store_log_refusal m s keys values used in_force file ≡ 0 → LogStoreAccepted m s keys values used in_force file
  unfolding store_log_refusal
  store_accepted e =
      let none = first_none _ refl e in
      record { settings = none.0; whole = none.1.0; roomy = ltb-false _ _ none.1.1.0 }

  -- where none holds, store gives 0
  pub store_accepts : LogStoreAccepted m s keys values used in_force file → store_log_refusal m s keys values used in_force file ≡ 0
  unfolding store_log_refusal
  store_accepts a = none_first _ (a.settings, (a.whole, (le-ltb _ _ a.roomy, tt)))

  -- accepted, store gives the number of bytes
  pub store_count : store_log_refusal m s keys values used in_force file ≡ 0
      → store_log m s keys values used in_force file ≡ record { refusal = 0; count = length (stored_log m s keys values used in_force) }
  unfolding store_log
  store_count e =
      let bytes = length (stored_log m s keys values used in_force) in
      λ i. record {
        refusal = e i;
        count = accepted_done bytes (cond (eqb (store_log_refusal m s keys values used in_force file) 12) (min bytes largest_count) 0) e i;
      }

  -- and leaves them over what was lent
  pub store_leaves : store_log_refusal m s keys values used in_force file ≡ 0
      → store_log_file m s keys values used in_force file ≡ over (stored_log m s keys values used in_force) file
  unfolding store_log_file
  store_leaves e = accepted_done _ _ e

-- load's rows
pub record LogLoadAccepted (file keys values : List ℕ) : Type 0 where
  pub long : log_too_short file ≡ false
  pub marked : wrong_log_mark file ≡ false
  pub versioned : wrong_log_version file ≡ false
  pub settings : wrong_log_settings file ≡ false
  pub exact : wrong_log_length file ≡ false
  pub whole : no_log_in file ≡ false
  pub roomy : used_in file ≤ room keys values

module _ (file keys values : List ℕ) where
  -- where load gives 0, no row of its table holds
  pub load_accepted : load_log_refusal file keys values ≡ 0 → LogLoadAccepted file keys values
  unfolding load_log_refusal
  load_accepted e =
      let none = first_none _ refl e in
      let late = none.1.1.1.1 in
      record {
        long = none.0;
        marked = none.1.0;
        versioned = none.1.1.0;
        settings = none.1.1.1.0;
        exact = late.0;
        whole = late.1.0;
        roomy = ltb-false _ _ late.1.1.0;
      }

  -- where none holds, load gives 0
  pub load_accepts : LogLoadAccepted file keys values → load_log_refusal file keys values ≡ 0
  unfolding load_log_refusal
  load_accepts a =
      none_first _
      (a.long, (a.marked, (a.versioned, (a.settings, (a.exact, (a.whole, (le-ltb _ _ a.roomy, tt)))))))

  -- accepted, load gives the file's numbers
  pub load_gives : load_log_refusal file keys values ≡ 0
      → load_log file keys values ≡ record { refusal = 0; m = m_in file; s = s_in file; used = used_in file; in_force = in_force_in file }
  unfolding load_log
  load_gives e = λ i. record {
    refusal = e i;
    m = accepted_done (m_in file) 0 e i;
    s = accepted_done (s_in file) 0 e i;
    used = accepted_done (used_in file) 0 e i;
    in_force = accepted_done (in_force_in file) 0 e i;
  }

  -- and leaves the file's records over what was lent
  pub load_leaves : load_log_refusal file keys values ≡ 0
      → (load_log_keys file keys values ≡ over (keys_of (log_records_in file)) keys) × (load_log_values file keys values ≡ over (values_of (log_records_in file)) values)
  unfolding load_log_keys load_log_values
  load_leaves e = (accepted_done _ _ e, accepted_done _ _ e)
