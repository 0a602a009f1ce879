-- The answers of load, one for each way out of the code: the number that its table gives, its result, and what it leaves in the two slices. Rests on the laws
-- of tables, Lent, HeadAnswers and LogAccepted.
use Prim.Native.Nat.{ℕ, ◌-◌, ◌≤◌, ◌<◌}
use mathlib.Core.Path.{◌≡◌, refl, sym, ap, ap₂, ◌∙◌}
use mathlib.Core.Bool.{true, false}
use mathlib.Core.List.{List}
use native.Mathlib.Omega.{arith}
use lib.ListN.{length, take, drop, length-drop}
use lib.Seq.{drop-drop}
use borrow.Author.Tests.{lt-ltb, ltb-false, eqb-true, not-false}
use Rattle.definitions.specs.List.{keys_of, values_of}
use Rattle.definitions.specs.Read.{room}
use Rattle.definitions.specs.Buffer.{over}
use Rattle.definitions.specs.File.{four, m_in, s_in, read_records}
use Rattle.definitions.specs.Log.{no_log}
use Rattle.definitions.specs.LogFile.{log_file_length, used_in, in_force_in, log_records_in, no_log_in}
use Rattle.definitions.specs.Refusal.{accepted}
use Rattle.definitions.specs.Calls.LoadLog.{load_log_refusal, load_log, load_log_keys, load_log_values}
use Rattle.definitions.specs.declared.LoadedLog.{LoadedLog}
use Rattle.definitions.specs.declared.answers.LogHead.{LogHead}
use Rattle.definitions.specs.declared.refusal.Refusal.{Refusal}
use Rattle.definitions.specs.Refused.{refusal_number}
use Rattle.definitions.specs.Answered.{as_loaded_log}
use Rattle.definitions.proofs.Refused.{refusal_some}
use Rattle.std.specs.Prelude.{Ok, Err}
use Rattle.laws.proofs.First.{this, later, holds_first, accepted_left}
use Rattle.file.specs.Layout.{records_at, keys_at, values_at}
use Rattle.file.specs.Room.{RoomFor}
use Rattle.log_file.specs.Head.{log_head_refusal, LogHeadIn}
use Rattle.log_file.specs.Records.{places_in, keys_in_bytes, values_in_bytes}
use Rattle.log_file.proofs.Lent.{rest_lent}
use Rattle.log_file.proofs.HeadAnswers.{LogHeadAccepted, log_head_accepted}
use Rattle.log_file.proofs.LogAccepted.{LogLoadAccepted, load_accepted, load_accepts}

-- the bytes from byte 12 on, as code lends them
module _ (file : List ℕ) (exact : length file ≡ log_file_length (used_in file)) where
  places_are : places_in (drop 12 file) ≡ used_in file
  unfolding places_in
  places_are = let e = length-drop 12 file in omega arith

  keys_are : keys_in_bytes (drop 12 file) ≡ keys_of (log_records_in file)
  unfolding keys_in_bytes log_records_in
  keys_are = ap₂ (λ n bs. keys_of (read_records 4 n bs)) places_are (drop-drop 11 12 file)

  values_are : values_in_bytes (drop 12 file) ≡ values_of (log_records_in file)
  unfolding values_in_bytes log_records_in
  values_are = ap₂ (λ n bs. values_of (read_records 4 n bs)) places_are (drop-drop 11 12 file)

  -- the used records lie there
  pub used_there : (head : LogHead) → LogHeadIn file head → head.used ≤ places_in (take (length file - 12) (drop 12 file))
  used_there head is = let e = places_are in rw (rest_lent file 12) (omega (arith, is.used_is))

  -- whether they are a log is whether the file's are
  pub log_is : (head : LogHead) → LogHeadIn file head
      → no_log head.m head.s (keys_in_bytes (take (length file - 12) (drop 12 file))) (values_in_bytes (take (length file - 12) (drop 12 file))) head.used head.in_force
      ≡ no_log_in file
  unfolding no_log_in
  log_is head is =
      ap (λ l. no_log head.m head.s (keys_in_bytes l) (values_in_bytes l) head.used head.in_force) (rest_lent file 12)
      ∙ (λ i. no_log (is.m_is i) (is.s_is i) (keys_are i) (values_are i) (is.used_is i) (is.force_is i))

-- the table, once the head is accepted
module _ {file : List ℕ} {head : LogHead} (none : 0 ≡ log_head_refusal file) (is : LogHeadIn file head) (keys values : List ℕ) where
  a : LogHeadAccepted file
  a = log_head_accepted file (sym none)

  -- 5
  pub no-log : no_log_in file ≡ true → 5 ≡ load_log_refusal file keys values
  unfolding load_log_refusal
  no-log bad =
      sym (holds_first (later a.long (later a.marked (later a.versioned (later a.settings (later a.exact (this bad refl)))))))

  module _ (whole : no_log_in file ≡ false) where
    -- 10
    pub no_room : room keys values < head.used → 10 ≡ load_log_refusal file keys values
    unfolding load_log_refusal
    no_room h =
        let full = lt-ltb (room keys values) (used_in file) (omega (arith, is.used_is)) in
        sym (holds_first
        (later a.long
        (later a.marked (later a.versioned (later a.settings (later a.exact (later whole (this full refl))))))))

    -- none
    pub all_good : head.used ≤ room keys values → 0 ≡ load_log_refusal file keys values
    all_good h = sym (load_accepts file keys values (record {
      long = a.long;
      marked = a.marked;
      versioned = a.versioned;
      settings = a.settings;
      exact = a.exact;
      whole = whole;
      roomy = omega (arith, is.used_is);
    }))

module _ (file keys values : List ℕ) where
  -- what load promises of its result and of the two slices
  abbrev pub LoadedAs : LoadedLog → List ℕ → List ℕ → Type 0
  LoadedAs r keys' values' = (r ≡ load_log file keys values) × ((keys' ≡ load_log_keys file keys values) × (values' ≡ load_log_values file keys values))

  -- all by the number that the table gives
  by_number : (k : ℕ) → load_log_refusal file keys values ≡ k
      → LoadedAs
      (record {
        refusal = k;
        m = accepted k (m_in file) 0;
        s = accepted k (s_in file) 0;
        used = accepted k (used_in file) 0;
        in_force = accepted k (in_force_in file) 0;
      })
      (accepted k (over (keys_of (log_records_in file)) keys) keys)
      (accepted k (over (values_of (log_records_in file)) values) values)
  unfolding load_log load_log_keys load_log_values
  by_number k e = (
    sym (λ i. record {
      refusal = e i;
      m = accepted (e i) (m_in file) 0;
      s = accepted (e i) (s_in file) 0;
      used = accepted (e i) (used_in file) 0;
      in_force = accepted (e i) (in_force_in file) 0;
    }),
    (
      sym (λ i. accepted (e i) (over (keys_of (log_records_in file)) keys) keys),
      sym (λ i. accepted (e i) (over (values_of (log_records_in file)) values) values),
    ),
  )

  -- a refusal gives its number alone and leaves what was lent
  pub refused : (refusal : Refusal) → refusal_number refusal ≡ load_log_refusal file keys values → LoadedAs (as_loaded_log (Err refusal)) keys values
  refused refusal e =
      let k : ℕ = refusal_number refusal in
      let not-zero : k ≡ 0 → ⊥ = refusal_some refusal in
      let told = by_number k (sym e) in
      let nothing : (x : ℕ) → accepted k x 0 ≡ 0 = λ x. accepted_left x 0 not-zero in (
        sym (λ i. record {
          refusal = k;
          m = nothing (m_in file) i;
          s = nothing (s_in file) i;
          used = nothing (used_in file) i;
          in_force = nothing (in_force_in file) i;
        }) ∙ told.0,
        (
          sym (accepted_left (over (keys_of (log_records_in file)) keys) keys not-zero) ∙ told.1.0,
          sym (accepted_left (over (values_of (log_records_in file)) values) values not-zero) ∙ told.1.1,
        ),
      )

  module _ (none : 0 ≡ load_log_refusal file keys values) where
    b : LogLoadAccepted file keys values
    b = load_accepted file keys values (sym none)

    -- an accepted file has its head
    pub long : 23 ≤ length file
    long = ltb-false (length file) 23 b.long

    -- and its records have room
    pub room_for : (head : LogHead) → LogHeadIn file head → RoomFor 4 head.used keys values (take (length file - 12) (drop 12 file))
    room_for head is =
        let h = b.roomy in
        let e = length-drop 12 file in
        let ends : length file ≡ log_file_length (used_in file) = eqb-true _ _ (not-false _ b.exact) in
        let many = is.used_is in
        rw (rest_lent file 12) (record { in_keys = omega arith; in-bits = omega arith; in_file = record { width_is = four; there = omega arith } })

    read_as : (used : ℕ) → used ≡ used_in file → records_at 4 used (take (length file - 12) (drop 12 file)) ≡ log_records_in file
    unfolding log_records_in
    read_as used used_is = ap (records_at 4 used) (rest_lent file 12) ∙ ap₂ (read_records 4) used_is (drop-drop 11 12 file)

    -- the records read are what load leaves
    pub all_loaded : (head : LogHead) (keys' values' : List ℕ) → LogHeadIn file head
        → keys' ≡ over (keys_at 4 head.used (take (length file - 12) (drop 12 file))) keys
        → values' ≡ over (values_at 4 head.used (take (length file - 12) (drop 12 file))) values
        → LoadedAs (as_loaded_log (Ok head)) keys' values'
    all_loaded head keys' values' is e f =
        let told = by_number 0 (sym none) in (
          (λ i. record { refusal = 0; m = is.m_is i; s = is.s_is i; used = is.used_is i; in_force = is.force_is i }) ∙ told.0,
          (
            e ∙ ap (λ l. over (keys_of l) keys) (read_as head.used is.used_is) ∙ told.1.0,
            f ∙ ap (λ l. over (values_of l) values) (read_as head.used is.used_is) ∙ told.1.1,
          ),
        )
