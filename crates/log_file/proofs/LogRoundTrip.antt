-- Store and load of a log undo each other, as their promises state them: a log stored and loaded is the same log, a file loaded and stored is the same bytes,
-- one log has one file, and neither call takes the other kind of file. Rests on LogAccepted, LogFileOf and the laws of files.
use Prim.Native.Nat.{ℕ, ◌^◌, ◌≤◌, ◌<◌}
use mathlib.Core.Path.{◌≡◌, refl, sym, ap, ap₂, ◌∙◌}
use mathlib.Core.Bool.{true, false, not, ◌&&◌}
use mathlib.Core.List.{List}
use native.Mathlib.Omega.{arith}
use lib.ListN.{length, length-map, take, drop}
use lib.Seq.{take_all, take-append_seam}
use lib.Dec.{leb}
use borrow.Author.Tests.{le-leb, le-ltb, lt-ltb}
use Rattle.keys.proofs.Cases.{and_both}
use Rattle.definitions.specs.List.{Record, keys_of, values_of}
use Rattle.definitions.specs.Read.{room, paired, records_of}
use Rattle.definitions.specs.Buffer.{over}
use Rattle.definitions.specs.File.{m_in, s_in, head_of, file_of, same_bytes, wrong_mark}
use Rattle.definitions.specs.Log.{is_sound, to_redo, no_log}
use Rattle.definitions.specs.LogFile.{log_head_of, log_file_of, used_in, in_force_in, log_records_in, wrong_log_mark, no_log_in}
use Rattle.definitions.specs.Refusal.{bad_settings}
use Rattle.definitions.specs.Calls.Load.{load_refusal}
use Rattle.definitions.specs.Calls.StoreLog.{stored_log, store_log_refusal, store_log, store_log_file}
use Rattle.definitions.specs.Calls.LoadLog.{load_log_refusal, load_log, load_log_keys, load_log_values}
use Rattle.laws.proofs.First.{this, later, holds_first}
use Rattle.laws.proofs.FileBytes.{Bytes}
use Rattle.laws.proofs.FileBack.{length-read}
use Rattle.laws.proofs.Records.{paired_back, records-length, records_first, records_over}
use Rattle.list.proofs.Tests.{good_settings}
use Rattle.laws.proofs.Buffer.{past_over}
use Rattle.file.proofs.SliceRecords.{over_room}
use Rattle.edit_log.proofs.Parts.{whole_log}
use Rattle.edit_log.specs.Entries.{WholeLog}
use Rattle.log_file.proofs.LogAccepted.{store_accepted, store_accepts, store_count, store_leaves, load_accepted, load_accepts, load_gives, load_leaves}
use Rattle.log_file.proofs.LogFileOf.{Words, words_fit, read_m, read_s, read_used, read_in_force, written_mark, written_version, length-file, written-length, written_not_short, read-records, log_file_back}

-- a log is whole by its four tests
log_whole : {m s : ℕ} {keys values : List ℕ} {used in_force : ℕ} → WholeLog m s keys values used in_force → no_log m s keys values used in_force ≡ false
unfolding no_log
log_whole {m} {s} {keys} {values} {used} {in_force} w =
    let a = w.in_keys in
    let b = w.in_values in
    let there : leb used (room keys values) ≡ true = le-leb used (room keys values) (omega arith) in
    let within : leb in_force used ≡ true = le-leb in_force used w.within in
    ap not
    (and_both (leb used (room keys values) && leb in_force used && is_sound m s (records_of keys values in_force)) (is_sound m s (to_redo keys values used in_force))
    (and_both (leb used (room keys values) && leb in_force used) (is_sound m s (records_of keys values in_force))
    (and_both (leb used (room keys values)) (leb in_force used) there within) w.in-force)
    w.redoable)

-- slices with the same used records hold the same log
pub log_same : (m s : ℕ) (keys values keys' values' : List ℕ) (used in_force : ℕ) → used ≤ room keys' values'
    → records_of keys' values' used ≡ records_of keys values used
    → no_log m s keys values used in_force ≡ false → no_log m s keys' values' used in_force ≡ false
log_same m s keys values keys' values' used in_force roomy same sound =
    let w = whole_log m s keys values used in_force sound in
    let front : records_of keys' values' in_force ≡ records_of keys values in_force
    = sym (records_first keys' values' used in_force w.within) ∙ ap (take in_force) same ∙ records_first keys values used in_force w.within in
    log_whole (record {
      in_keys = omega arith;
      in_values = omega arith;
      within = w.within;
      in-force = ap (is_sound m s) front ∙ w.in-force;
      redoable = ap (λ l. is_sound m s (drop in_force l)) same ∙ w.redoable;
    })

-- records taken apart are those records again
apart : (l : List Record) (n : ℕ) → length l ≡ n → records_of (keys_of l) (values_of l) n ≡ l
apart l n e =
    let ks = length-map l (λ x. x.key) in
    let vs = length-map l (λ x. x.value) in
    ap₂ paired (take_all n (keys_of l) (omega arith)) (take_all n (values_of l) (omega arith)) ∙ paired_back l

apart_room : (l : List Record) (n : ℕ) → length l ≡ n → n ≤ room (keys_of l) (values_of l)
apart_room l n e = let ks = length-map l (λ x. x.key) in let vs = length-map l (λ x. x.value) in omega arith

-- as many records are in a file as it says
in_file : (file : List ℕ) → length (log_records_in file) ≡ used_in file
unfolding log_records_in
in_file file = length-read 4 (used_in file) (drop 23 file)

-- load gives m, s and both counts, and leaves the records log as the first; the places past them stay
pub record LoadsLog (file keys values : List ℕ) (m s used in_force : ℕ) (log : List Record) : Type 0 where
  pub result : load_log file keys values ≡ record { refusal = 0; m = m; s = s; used = used; in_force = in_force }
  pub records : records_of (load_log_keys file keys values) (load_log_values file keys values) used ≡ log
  pub keys_past : drop used (load_log_keys file keys values) ≡ drop used keys
  pub values_past : drop used (load_log_values file keys values) ≡ drop used values

-- of an accepted file: its records are the first of the slices
loads_records : (file keys values : List ℕ) → load_log_refusal file keys values ≡ 0
    → records_of (load_log_keys file keys values) (load_log_values file keys values) (used_in file) ≡ log_records_in file
loads_records file keys values e =
    let left = load_leaves file keys values e in
    ap₂ (λ ks vs. records_of ks vs (used_in file)) left.0 left.1 ∙ records_over (log_records_in file) (used_in file) keys values (in_file file)

-- what store leaves, as long as it says, is the log's file
pub stored_log_bytes : (m s : ℕ) (keys values : List ℕ) (used in_force : ℕ) (buffer : List ℕ) → store_log_refusal m s keys values used in_force buffer ≡ 0
    → take (store_log m s keys values used in_force buffer).count (store_log_file m s keys values used in_force buffer)
    ≡ log_file_of m s (records_of keys values used) in_force
unfolding stored_log
stored_log_bytes m s keys values used in_force buffer e =
    ap₂ (λ r file. take r.count file) (store_count m s keys values used in_force buffer e) (store_leaves m s keys values used in_force buffer e)
    ∙ take-append_seam (log_file_of m s (records_of keys values used) in_force) _

-- the file of a log of 32 bit numbers is accepted wherever there is room, and loaded as that log
file_accepted : (m s : ℕ) (keys values : List ℕ) (used in_force : ℕ) (keys' values' : List ℕ) → bad_settings m s ≡ false
    → no_log m s keys values used in_force ≡ false → Words keys → Words values → used < 2 ^ 64 → used ≤ room keys' values'
    → LoadsLog (log_file_of m s (records_of keys values used) in_force) keys' values' m s used in_force (records_of keys values used)
unfolding no_log_in
file_accepted m s keys values used in_force keys' values' settings sound ks vs short roomy =
    let good = good_settings m s settings in
    let w = whole_log m s keys values used in_force sound in
    let log = records_of keys values used in
    let file = log_file_of m s log in_force in
    let many : length log ≡ used = records-length keys values used w.in_keys w.in_values in
    let few : length log < 256 ^ 8 = omega arith in
    let within = w.within in
    let m_is : m_in file ≡ m = read_m m s log in_force (omega (arith, good.deep)) in
    let s_is : s_in file ≡ s = read_s m s log in_force (omega (arith, good.few)) in
    let used_is : used_in file ≡ used = read_used m s log in_force few ∙ many in
    let force-is : in_force_in file ≡ in_force = read_in_force m s log in_force (omega arith) in
    let log_is : log_records_in file ≡ log = read-records m s log in_force few (words_fit used keys values ks vs) in
    let whole : no_log_in file ≡ false
    = (λ i. no_log (m_is i) (s_is i) (keys_of (log_is i)) (values_of (log_is i)) (used_is i) (force-is i))
    ∙ log_same m s keys values (keys_of log) (values_of log) used in_force (apart_room log used many) (apart log used many) sound in
    let e = load_accepts file keys' values' (record {
      long = written_not_short m s log in_force;
      marked = written_mark m s log in_force;
      versioned = written_version m s log in_force;
      settings = ap₂ bad_settings m_is s_is ∙ settings;
      exact = written-length m s log in_force few;
      whole = whole;
      roomy = rw used_is roomy;
    }) in
    let left = load_leaves file keys' values' e in
    record {
      result = load_gives file keys' values' e ∙ (λ i. record { refusal = 0; m = m_is i; s = s_is i; used = used_is i; in_force = force-is i });
      records = ap (λ n. records_of (load_log_keys file keys' values') (load_log_values file keys' values') n) (sym used_is) ∙ loads_records file keys' values' e ∙ log_is;
      keys_past = ap (drop used) left.0
          ∙ past_over (keys_of (log_records_in file)) keys' used (length-map (log_records_in file) (λ x. x.key) ∙ in_file file ∙ used_is);
      values_past = ap (drop used) left.1
          ∙ past_over (values_of (log_records_in file)) values' used (length-map (log_records_in file) (λ x. x.value) ∙ in_file file ∙ used_is);
    }

-- load after store gives the log back, in any slices with room
pub load_log_after_store : (m s : ℕ) (keys values : List ℕ) (used in_force : ℕ) (buffer keys' values' : List ℕ) → store_log_refusal m s keys values used in_force buffer ≡ 0
    → Words keys → Words values → used < 2 ^ 64 → used ≤ room keys' values'
    → LoadsLog (take (store_log m s keys values used in_force buffer).count (store_log_file m s keys values used in_force buffer)) keys' values' m s used in_force
    (records_of keys values used)
load_log_after_store m s keys values used in_force buffer keys' values' e ks vs short roomy =
    let a = store_accepted m s keys values used in_force buffer e in
    rw (stored_log_bytes m s keys values used in_force buffer e) (file_accepted m s keys values used in_force keys' values' a.settings a.whole ks vs short roomy)

-- an accepted file is that of its m, its s, its count in force and the records that load leaves
file_is : (file keys values : List ℕ) → Bytes file → load_log_refusal file keys values ≡ 0
    → log_file_of (m_in file) (s_in file) (records_of (load_log_keys file keys values) (load_log_values file keys values) (used_in file)) (in_force_in file) ≡ file
file_is file keys values bytes e =
    let a = load_accepted file keys values e in
    ap (λ l. log_file_of (m_in file) (s_in file) l (in_force_in file)) (loads_records file keys values e) ∙ log_file_back file bytes a.long a.marked a.versioned a.exact

-- store gives the file's length and leaves its bytes over what the buffer held
pub record StoresLog (m s : ℕ) (keys values : List ℕ) (used in_force : ℕ) (buffer file : List ℕ) : Type 0 where
  pub result : store_log m s keys values used in_force buffer ≡ record { refusal = 0; count = length file }
  pub bytes : store_log_file m s keys values used in_force buffer ≡ over file buffer

-- store after load gives the bytes back, in any buffer with room
pub store_log_after_load : (file keys values buffer : List ℕ) → Bytes file → load_log_refusal file keys values ≡ 0 → length file ≤ length buffer
    → let r = load_log file keys values in
    StoresLog r.m r.s (load_log_keys file keys values) (load_log_values file keys values) r.used r.in_force buffer file
unfolding stored_log no_log_in
store_log_after_load file keys values buffer bytes e long =
    let a = load_accepted file keys values e in
    let left = load_leaves file keys values e in
    let ks = load_log_keys file keys values in
    let vs = load_log_values file keys values in
    let l = log_records_in file in
    let roomy : used_in file ≤ room ks vs = rw (left.0, left.1) (over_room l (used_in file) keys values (in_file file) a.roomy) in
    let records : records_of ks vs (used_in file) ≡ records_of (keys_of l) (values_of l) (used_in file) = loads_records file keys values e ∙ sym (apart l (used_in file) (in_file file)) in
    let sound = log_same (m_in file) (s_in file) (keys_of l) (values_of l) ks vs (used_in file) (in_force_in file) roomy records a.whole in
    let same = file_is file keys values bytes e in
    let f = store_accepts (m_in file) (s_in file) ks vs (used_in file) (in_force_in file) buffer (record { settings = a.settings; whole = sound; roomy = rw same long }) in
    rw (load_gives file keys values e) (record {
      result = store_count (m_in file) (s_in file) ks vs (used_in file) (in_force_in file) buffer f ∙ ap (λ x. record { refusal = 0; count = length x }) same;
      bytes = store_leaves (m_in file) (s_in file) ks vs (used_in file) (in_force_in file) buffer f ∙ ap (λ x. over x buffer) same;
    })

-- an accepted file is that of what load gives and leaves
pub log_file_of_loaded : (file keys values : List ℕ) → Bytes file → load_log_refusal file keys values ≡ 0
    → let r = load_log file keys values in
    log_file_of r.m r.s (records_of (load_log_keys file keys values) (load_log_values file keys values) r.used) r.in_force ≡ file
log_file_of_loaded file keys values bytes e = rw (load_gives file keys values e) (file_is file keys values bytes e)

refusal_of : (file keys values : List ℕ) → (load_log file keys values).refusal ≡ load_log_refusal file keys values
unfolding load_log
refusal_of file keys values = refl

-- one log has one file: two files that are loaded as the same log are the same bytes
pub one_log_file : (file file' keys values keys' values' : List ℕ) → Bytes file → Bytes file' → load_log_refusal file keys values ≡ 0
    → load_log file keys values ≡ load_log file' keys' values'
    → records_of (load_log_keys file keys values) (load_log_values file keys values) (load_log file keys values).used
    ≡ records_of (load_log_keys file' keys' values') (load_log_values file' keys' values') (load_log file' keys' values').used
    → file ≡ file'
one_log_file file file' keys values keys' values' is-bytes is-bytes' e same records =
    let e' : load_log_refusal file' keys' values' ≡ 0
    = sym (refusal_of file' keys' values') ∙ ap (λ r. r.refusal) (sym same) ∙ refusal_of file keys values ∙ e in
    sym (log_file_of_loaded file keys values is-bytes e)
    ∙ ap₂ (λ r l. log_file_of r.m r.s l r.in_force) same records
    ∙ log_file_of_loaded file' keys' values' is-bytes' e'

-- the marks differ
no_list_mark : (m s : ℕ) (log : List Record) (in_force : ℕ) → wrong_mark (log_file_of m s log in_force) ≡ true
unfolding wrong_mark same_bytes log_file_of log_head_of
no_list_mark m s log in_force = refl

no_log_mark : (m s : ℕ) (l : List Record) → wrong_log_mark (file_of m s l) ≡ true
unfolding wrong_log_mark same_bytes file_of head_of
no_log_mark m s l = refl

-- a log's file is no list's file
pub log_file_not_loaded : (m s : ℕ) (log : List Record) (in_force : ℕ) (keys bits : List ℕ) → load_refusal (log_file_of m s log in_force) keys bits ≡ 16
unfolding load_refusal
log_file_not_loaded m s log in_force keys bits =
    let e = length-file m s log in_force in
    holds_first (later (le-ltb (length (log_file_of m s log in_force)) 11 (omega arith)) (this (no_list_mark m s log in_force) refl))

-- nor is a list's file a log's file, unless it is shorter than any of them
pub list_file_not_loaded : (m s : ℕ) (l : List Record) (keys values : List ℕ) → 23 ≤ length (file_of m s l) → load_log_refusal (file_of m s l) keys values ≡ 16
unfolding load_log_refusal
list_file_not_loaded m s l keys values long = holds_first (later (le-ltb (length (file_of m s l)) 23 long) (this (no_log_mark m s l) refl))

pub short_list_file_not_loaded : (m s : ℕ) (l : List Record) (keys values : List ℕ) → length (file_of m s l) < 23 → load_log_refusal (file_of m s l) keys values ≡ 15
unfolding load_log_refusal
short_list_file_not_loaded m s l keys values short = holds_first (this (lt-ltb (length (file_of m s l)) 23 short) refl)
