-- Store and load undo each other, as their promises state them: a list stored and loaded is the same list, a file loaded and stored is the same
-- bytes, and one list has one file (specification S15). Rests on Accepted, Fits, SliceRecords and the laws of files.
use Prim.Native.Nat.{ℕ, ◌≤◌, ◌<◌}
use mathlib.Core.Path.{◌≡◌, refl, sym, ap, ap₂, ◌∙◌}
use mathlib.Core.Bool.{true, false}
use mathlib.Core.List.{List}
use native.Mathlib.Omega.{arith}
use lib.ListN.{length, length-map, take, drop}
use lib.Seq.{take-append_seam}
use Rattle.keys.specs.Key.{root_key}
use Rattle.definitions.specs.List.{Record, keys_of, values_of}
use Rattle.definitions.specs.Read.{room, records_of, is_list_of_block}
use Rattle.definitions.specs.Buffer.{over}
use Rattle.definitions.specs.File.{bit_bytes, file_of, m_in, s_in, n_in, records_in_file}
use Rattle.definitions.specs.Refusal.{bad_settings}
use Rattle.definitions.specs.Calls.Store.{stored, store_refusal, store, store_file}
use Rattle.definitions.specs.Calls.Load.{load_refusal, load, load_keys, load_bits}
use Rattle.laws.proofs.Buffer.{past_over}
use Rattle.laws.proofs.FileBytes.{Bytes}
use Rattle.laws.proofs.FileOf.{read_m, read_s, read_n, read-records, written_mark, written_version, written_settings, written-length, written_not_short}
use Rattle.laws.proofs.FileBack.{length-read, settings_good, file_back}
use Rattle.laws.proofs.Records.{records-length, records_over}
use Rattle.list.proofs.Tests.{good_settings}
use Rattle.file.proofs.Accepted.{StoreAccepted, store_accepted, store_accepts, store_count, store_leaves, LoadAccepted, load_accepted, load_accepts, load_gives, load_leaves}
use Rattle.file.proofs.Fits.{list_parts, list_whole, list_fits, list_short}
use Rattle.file.proofs.SliceRecords.{over_room}

-- as many records are in a file as it says
in_file : (file : List ℕ) → length (records_in_file file) ≡ n_in file
unfolding records_in_file
in_file file = length-read (bit_bytes (s_in file)) (n_in file) (drop 11 file)

-- load gives m, s, n and leaves the records l as the first n; the places past them stay
pub record LoadsList (file keys bits : List ℕ) (m s n : ℕ) (l : List Record) : Type 0 where
  pub result : load file keys bits ≡ record { refusal = 0; m = m; s = s; n = n }
  pub records : records_of (load_keys file keys bits) (load_bits file keys bits) n ≡ l
  pub keys_past : drop n (load_keys file keys bits) ≡ drop n keys
  pub bits_past : drop n (load_bits file keys bits) ≡ drop n bits

-- of an accepted file: its records are the first of the slices
pub loads_records : (file keys bits : List ℕ) → load_refusal file keys bits ≡ 0
    → records_of (load_keys file keys bits) (load_bits file keys bits) (n_in file) ≡ records_in_file file
loads_records file keys bits e =
    let left = load_leaves file keys bits e in
    ap₂ (λ ks bs. records_of ks bs (n_in file)) left.0 left.1 ∙ records_over (records_in_file file) (n_in file) keys bits (in_file file)

-- the file of a list at good settings is accepted wherever there is room
file_accepted : (m s n : ℕ) (l : List Record) (keys bits : List ℕ) → bad_settings m s ≡ false → is_list_of_block m s m 0 0 root_key l ≡ true → length l ≡ n
    → n ≤ room keys bits → LoadsList (file_of m s l) keys bits m s n l
file_accepted m s n l keys bits settings is many roomy =
    let good = good_settings m s settings in
    let file = file_of m s l in
    let short = list_short m s good l is in
    let small-m : m < 256 = omega (arith, good.deep) in
    let small-s : s < 256 = omega (arith, good.few) in
    let m_is : m_in file ≡ m = read_m m s l small-m in
    let s_is : s_in file ≡ s = read_s m s l small-s in
    let n-is : n_in file ≡ n = read_n m s l short ∙ many in
    let l-is : records_in_file file ≡ l = read-records m s l small-s short (list_fits m s good l is) in
    let none : LoadAccepted file keys bits = record {
      long = written_not_short m s l;
      marked = written_mark m s l;
      versioned = written_version m s l small-s;
      settings = written_settings m s l small-m small-s settings;
      exact = written-length m s l small-s short;
      listed = rw (m_is, s_is, l-is) is;
      roomy = rw n-is roomy;
    } in
    let e = load_accepts file keys bits none in
    record {
      result = load_gives file keys bits e ∙ (λ i. record { refusal = 0; m = m_is i; s = s_is i; n = n-is i });
      records = ap (λ k. records_of (load_keys file keys bits) (load_bits file keys bits) k) (sym n-is) ∙ loads_records file keys bits e ∙ l-is;
      keys_past = ap (drop n) (load_leaves file keys bits e).0 ∙ past_over (keys_of (records_in_file file)) keys n (length-map (records_in_file file) (λ x. x.key) ∙ in_file file ∙ n-is);
      bits_past = ap (drop n) (load_leaves file keys bits e).1 ∙ past_over (values_of (records_in_file file)) bits n (length-map (records_in_file file) (λ x. x.value) ∙ in_file file ∙ n-is);
    }

-- an accepted file is that of its m, its s and the records that load leaves
file_is : (file keys bits : List ℕ) → Bytes file → load_refusal file keys bits ≡ 0
    → file_of (m_in file) (s_in file) (records_of (load_keys file keys bits) (load_bits file keys bits) (n_in file)) ≡ file
file_is file keys bits bytes e =
    let a = load_accepted file keys bits e in
    ap (file_of (m_in file) (s_in file)) (loads_records file keys bits e) ∙ file_back file bytes a.long a.marked a.versioned a.settings a.exact

-- what store leaves, as long as it says, is the list's file
pub stored_bytes : (m s : ℕ) (keys bits : List ℕ) (n : ℕ) (buffer : List ℕ) → store_refusal m s keys bits n buffer ≡ 0
    → take (store m s keys bits n buffer).count (store_file m s keys bits n buffer) ≡ file_of m s (records_of keys bits n)
unfolding stored
stored_bytes m s keys bits n buffer e =
    ap₂ (λ r file. take r.count file) (store_count m s keys bits n buffer e) (store_leaves m s keys bits n buffer e)
    ∙ take-append_seam (file_of m s (records_of keys bits n)) _

-- load after store gives the list back, in any buffers with room
pub load_after_store : (m s : ℕ) (keys bits : List ℕ) (n : ℕ) (buffer keys' bits' : List ℕ) → store_refusal m s keys bits n buffer ≡ 0 → n ≤ room keys' bits'
    → LoadsList (take (store m s keys bits n buffer).count (store_file m s keys bits n buffer)) keys' bits' m s n (records_of keys bits n)
load_after_store m s keys bits n buffer keys' bits' e roomy =
    let a = store_accepted m s keys bits n buffer e in
    let parts = list_parts m s keys bits n a.listed in
    let many : length (records_of keys bits n) ≡ n = records-length keys bits n (omega (arith, parts.0)) (omega (arith, parts.0)) in
    rw (stored_bytes m s keys bits n buffer e) (file_accepted m s n (records_of keys bits n) keys' bits' a.settings parts.1 many roomy)

-- store gives the file's length and leaves its bytes over what the buffer held
pub record StoresFile (m s : ℕ) (keys bits : List ℕ) (n : ℕ) (buffer file : List ℕ) : Type 0 where
  pub result : store m s keys bits n buffer ≡ record { refusal = 0; count = length file }
  pub bytes : store_file m s keys bits n buffer ≡ over file buffer

-- store after load gives the bytes back, in any buffer with room
pub store_after_load : (file keys bits buffer : List ℕ) → Bytes file → load_refusal file keys bits ≡ 0 → length file ≤ length buffer
    → StoresFile (load file keys bits).m (load file keys bits).s (load_keys file keys bits) (load_bits file keys bits) (load file keys bits).n buffer file
unfolding stored
store_after_load file keys bits buffer bytes e long =
    let a = load_accepted file keys bits e in
    let left = load_leaves file keys bits e in
    let ks = load_keys file keys bits in
    let bs = load_bits file keys bits in
    let l-is : records_of ks bs (n_in file) ≡ records_in_file file = loads_records file keys bits e in
    let same = file_is file keys bits bytes e in
    let roomy : n_in file ≤ room ks bs = rw (left.0, left.1) (over_room (records_in_file file) (n_in file) keys bits (in_file file) a.roomy) in
    let none : StoreAccepted (m_in file) (s_in file) ks bs (n_in file) buffer = record {
      settings = settings_good _ (m_in file) (s_in file) a.settings;
      listed = list_whole (m_in file) (s_in file) ks bs (n_in file) roomy (rw l-is a.listed);
      roomy = rw same long;
    } in
    let f = store_accepts (m_in file) (s_in file) ks bs (n_in file) buffer none in
    rw (load_gives file keys bits e) (record {
      result = store_count (m_in file) (s_in file) ks bs (n_in file) buffer f ∙ ap (λ x. record { refusal = 0; count = length x }) same;
      bytes = store_leaves (m_in file) (s_in file) ks bs (n_in file) buffer f ∙ ap (λ x. over x buffer) same;
    })

refusal_of : (file keys bits : List ℕ) → (load file keys bits).refusal ≡ load_refusal file keys bits
unfolding load
refusal_of file keys bits = refl

-- an accepted file is that of what load gives and leaves
pub file_of_loaded : (file keys bits : List ℕ) → Bytes file → load_refusal file keys bits ≡ 0
    → file_of (load file keys bits).m (load file keys bits).s (records_of (load_keys file keys bits) (load_bits file keys bits) (load file keys bits).n) ≡ file
file_of_loaded file keys bits bytes e = rw (load_gives file keys bits e) (file_is file keys bits bytes e)

-- one list has one file: two files that are loaded as the same list are the same bytes
pub one_file : (file file' keys bits keys' bits' : List ℕ) → Bytes file → Bytes file' → load_refusal file keys bits ≡ 0
    → load file keys bits ≡ load file' keys' bits'
    → records_of (load_keys file keys bits) (load_bits file keys bits) (load file keys bits).n
    ≡ records_of (load_keys file' keys' bits') (load_bits file' keys' bits') (load file' keys' bits').n
    → file ≡ file'
one_file file file' keys bits keys' bits' is-bytes is-bytes' e same records =
    let e' : load_refusal file' keys' bits' ≡ 0 = sym (refusal_of file' keys' bits') ∙ ap (λ r. r.refusal) (sym same) ∙ refusal_of file keys bits ∙ e in
    sym (file_of_loaded file keys bits is-bytes e)
    ∙ ap₂ (λ r l. file_of r.m r.s l) same records
    ∙ file_of_loaded file' keys' bits' is-bytes' e'
