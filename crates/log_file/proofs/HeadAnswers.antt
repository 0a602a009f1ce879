-- The answers of the test of a log file's head, one for each way out of the code, and how they stand to load's own table. Rests on the laws of tables.
use Prim.Native.Nat.{ℕ, ◌≤◌, ◌<◌}
use mathlib.Core.Path.{◌≡◌, refl, sym, ap, ap₂, ◌∙◌}
use mathlib.Core.Bool.{Bool, true, false, not}
use mathlib.Core.List.{List}
use lib.ListN.{length, take}
use lib.Dec.{eqb}
use borrow.Author.Tests.{lt-ltb, le-ltb, ltb-false, eq-eqb, ne_eqb, eqb-true, not-false}
use Rattle.definitions.specs.Refusal.{bad_settings}
use Rattle.definitions.specs.File.{version_in, same_bytes}
use Rattle.definitions.specs.LogFile.{log_mark, log_file_length, used_in, log_too_short, wrong_log_mark, wrong_log_version, wrong_log_settings, wrong_log_length}
use Rattle.definitions.specs.Calls.LoadLog.{load_log_refusal}
use Rattle.laws.proofs.First.{this, later, holds_first, first_holds, first_none, none_first, holds_more}
use Rattle.list.proofs.Tests.{GoodSettings, good_settings}
use Rattle.log_file.specs.Head.{log_head_rows, log_head_refusal, LogHeadIn}
use Rattle.definitions.specs.declared.answers.LogHead.{LogHead}

-- the head's rows
pub record LogHeadAccepted (file : List ℕ) : Type 0 where
  pub long : log_too_short file ≡ false
  pub marked : wrong_log_mark file ≡ false
  pub versioned : wrong_log_version file ≡ false
  pub settings : wrong_log_settings file ≡ false
  pub exact : wrong_log_length file ≡ false

-- where the head gives 0, none of them holds
pub log_head_accepted : (file : List ℕ) → log_head_refusal file ≡ 0 → LogHeadAccepted file
unfolding log_head_refusal
log_head_accepted file e =
    let none = first_none (log_head_rows file) refl e in
    record {
      long = none.0;
      marked = none.1.0;
      versioned = none.1.1.0;
      settings = none.1.1.1.0;
      exact = none.1.1.1.1.0;
    }

-- a refused head refuses the file
pub log_head_refuses : (file keys values : List ℕ) (k : ℕ) → k ≡ log_head_refusal file → (k ≡ 0 → ⊥) → load_log_refusal file keys values ≡ k
unfolding log_head_refusal load_log_refusal
log_head_refuses file keys values k e not-zero = holds_first (holds_more _ (first_holds k (log_head_rows file) not-zero (sym e)))

module _ (file : List ℕ) where
  -- 15: under 23 bytes
  pub short_head : length file < 23 → 15 ≡ log_head_refusal file
  unfolding log_head_refusal
  short_head h = sym (holds_first {rows = log_head_rows file} (this (lt-ltb (length file) 23 h) refl))

  module _ (long : 23 ≤ length file) where
    not_short : log_too_short file ≡ false
    not_short = le-ltb (length file) 23 long

    -- 16
    pub mark_head : wrong_log_mark file ≡ true → 16 ≡ log_head_refusal file
    unfolding log_head_refusal
    mark_head e = sym (holds_first {rows = log_head_rows file} (later not_short (this e refl)))

    module _ (marked : wrong_log_mark file ≡ false) where
      -- 17
      pub version_head : (version_in file ≡ 1 → ⊥) → 17 ≡ log_head_refusal file
      unfolding log_head_refusal
      version_head h = sym (holds_first {rows = log_head_rows file} (later not_short (later marked (this (ap not (ne_eqb (version_in file) 1 h)) refl))))

      module _ (first_version : version_in file ≡ 1) where
        versioned : wrong_log_version file ≡ false
        versioned = ap not (eq-eqb (version_in file) 1 first_version)

        -- 1
        pub settings_head : wrong_log_settings file ≡ true → 1 ≡ log_head_refusal file
        unfolding log_head_refusal
        settings_head e = sym (holds_first {rows = log_head_rows file} (later not_short (later marked (later versioned (this e refl)))))

        module _ (good : wrong_log_settings file ≡ false) where
          -- 15: the length
          pub length-head : eqb (length file) (log_file_length (used_in file)) ≡ false → 15 ≡ log_head_refusal file
          unfolding log_head_refusal
          length-head e = sym (holds_first {rows = log_head_rows file} (later not_short (later marked (later versioned (later good (this (ap not e) refl))))))

          -- none
          pub good_head : eqb (length file) (log_file_length (used_in file)) ≡ true → 0 ≡ log_head_refusal file
          unfolding log_head_refusal
          good_head e = sym (none_first (log_head_rows file) (not_short, (marked, (versioned, (good, (ap not e, tt))))))

-- an accepted head
module _ {file : List ℕ} {head : LogHead} (e : 0 ≡ log_head_refusal file) (is : LogHeadIn file head) where
  a : LogHeadAccepted file
  a = log_head_accepted file (sym e)

  -- is long enough
  pub head_long : 23 ≤ length file
  head_long = ltb-false (length file) 23 a.long

  -- has good settings
  pub head_settings : GoodSettings head.m head.s
  head_settings = good_settings head.m head.s (ap₂ bad_settings is.m_is is.s_is ∙ a.settings)

  -- and its file is as long as its count says
  pub head_exact : length file ≡ log_file_length (used_in file)
  head_exact = eqb-true _ _ (not-false _ a.exact)

-- the test of the three bytes is that of the mark
pub log_mark_test : (file : List ℕ) (r : Bool) → r ≡ not (same_bytes (take 3 file) log_mark) → wrong_log_mark file ≡ r
unfolding wrong_log_mark
log_mark_test file r e = sym e
