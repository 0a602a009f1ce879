-- The answers of the test of a file's head, one for each way out of the code, and how they stand to load's own table. Rests on the laws of
-- tables.
use Prim.Native.Nat.{ℕ, ◌≤◌, ◌<◌}
use mathlib.Core.Path.{◌≡◌, refl, sym, ap, ap₂, ◌∙◌}
use mathlib.Core.Bool.{Bool, true, false, not}
use mathlib.Core.List.{List}
use lib.ListN.{length, take}
use borrow.Author.Tests.{lt-ltb, le-ltb, eq-eqb, ne_eqb, eqb-true, not-false}
use Rattle.definitions.specs.File.{bit_bytes, file_length, m_in, s_in, n_in, too_short, mark, same_bytes, wrong_mark, wrong_version, wrong_settings, wrong_length}
use Rattle.definitions.specs.Calls.Load.{load_refusal}
use Rattle.laws.proofs.First.{this, later, holds_first, first_holds, first_none, none_first, holds_more}
use Rattle.definitions.specs.Refusal.{bad_settings}
use Rattle.laws.proofs.FileBack.{settings_good}
use Rattle.list.proofs.Tests.{good_settings}
use Rattle.file.specs.Room.{Exact}
use Rattle.definitions.specs.declared.answers.ListHead.{ListHead}
use Rattle.file.specs.Head.{head_rows, head_refusal, HeadIn}

-- the head's rows
pub record HeadAccepted (file : List ℕ) : Type 0 where
  pub long : too_short file ≡ false
  pub marked : wrong_mark file ≡ false
  pub versioned : wrong_version file ≡ false
  pub settings : wrong_settings file ≡ false
  pub exact : wrong_length file ≡ false

-- where the head gives 0, none of them holds
pub head_accepted : (file : List ℕ) → head_refusal file ≡ 0 → HeadAccepted file
unfolding head_refusal
head_accepted file e =
    let none = first_none (head_rows file) refl e in
    record {
      long = none.0;
      marked = none.1.0;
      versioned = none.1.1.0;
      settings = none.1.1.1.0;
      exact = none.1.1.1.1.0;
    }

-- a refused head refuses the file
pub head_refuses : (file keys bits : List ℕ) (k : ℕ) → k ≡ head_refusal file → (k ≡ 0 → ⊥) → load_refusal file keys bits ≡ k
unfolding head_refusal load_refusal
head_refuses file keys bits k e not-zero = holds_first (holds_more _ (first_holds k (head_rows file) not-zero (sym e)))

-- the test of the three bytes is that of the mark
pub mark_test : (file : List ℕ) (r : Bool) → r ≡ not (same_bytes (take 3 file) mark) → wrong_mark file ≡ r
unfolding wrong_mark
mark_test file r e = sym e

module _ (file : List ℕ) where
  -- 15: under 11 bytes
  pub short_head : length file < 11 → 15 ≡ head_refusal file
  unfolding head_refusal
  short_head h = sym (holds_first {rows = head_rows file} (this (lt-ltb (length file) 11 h) refl))

  module _ (long : 11 ≤ length file) where
    not_short : too_short file ≡ false
    not_short = le-ltb (length file) 11 long

    -- 16
    pub mark_head : wrong_mark file ≡ true → 16 ≡ head_refusal file
    unfolding head_refusal
    mark_head e = sym (holds_first {rows = head_rows file} (later not_short (this e refl)))

    module _ (marked : wrong_mark file ≡ false) where
      -- 17
      pub version_head : wrong_version file ≡ true → 17 ≡ head_refusal file
      unfolding head_refusal
      version_head e = sym (holds_first {rows = head_rows file} (later not_short (later marked (this e refl))))

      module _ (versioned : wrong_version file ≡ false) where
        -- 1
        pub settings_head : wrong_settings file ≡ true → 1 ≡ head_refusal file
        unfolding head_refusal
        settings_head e = sym (holds_first {rows = head_rows file} (later not_short (later marked (later versioned (this e refl)))))

        module _ (good : wrong_settings file ≡ false) where
          -- 15: the length
          pub length-head : (length file ≡ file_length (bit_bytes (s_in file)) (n_in file) → ⊥) → 15 ≡ head_refusal file
          unfolding head_refusal
          length-head h =
              sym (holds_first {rows = head_rows file} (later not_short (later marked (later versioned (later good (this (ap not (ne_eqb (length file) (file_length (bit_bytes (s_in file)) (n_in file)) h)) refl))))))

          -- none
          pub good_head : length file ≡ file_length (bit_bytes (s_in file)) (n_in file) → 0 ≡ head_refusal file
          unfolding head_refusal
          good_head e =
              sym (none_first (head_rows file) (not_short, (marked, (versioned, (good, (ap not (eq-eqb (length file) (file_length (bit_bytes (s_in file)) (n_in file)) e), tt))))))

-- the file of an accepted head is as long as its n says
pub head_exact : (file : List ℕ) (head : ListHead) → 0 ≡ head_refusal file → HeadIn file head → Exact head.m head.s head.n file
head_exact file head e is =
    let a = head_accepted file (sym e) in
    let good = good_settings head.m head.s (ap₂ bad_settings is.m_is is.s_is ∙ settings_good _ (m_in file) (s_in file) a.settings) in
    let ends : length file ≡ file_length (bit_bytes (s_in file)) (n_in file) = eqb-true _ _ (not-false _ a.exact) in
    record {
      deepest = good.deep;
      slots = good.few;
      slots_are = is.s_is;
      many = is.n-is;
      ends = ends ∙ ap₂ (λ k n. file_length (bit_bytes k) n) (sym is.s_is) (sym is.n-is);
    }
