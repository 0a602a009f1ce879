-- A file that is not of version 2 gives the former answer whole: the refusal, m, s, n, and what is left in both slices (specification S15.20). Rests on
-- FormerFile.
use Prim.Native.Nat.{ℕ, ◌≤◌}
use mathlib.Core.Path.{◌≡◌, refl, sym, ap, ◌∙◌}
use mathlib.Core.List.{List}
use lib.ListN.{drop}
use lib.Dec.{ltb, eqb}
use borrow.Author.Tests.{ltb-false}
use Rattle.keys.specs.Key.{deepest_level}
use Rattle.keys.proofs.Cases.{equal, neither_right}
use Rattle.definitions.specs.List.{Record, keys_of, values_of}
use Rattle.definitions.specs.Buffer.{over}
use Rattle.definitions.specs.Refusal.{accepted}
use Rattle.definitions.specs.File.{read_records, records_in_file, m_in, s_in, n_in, version_in}
use Rattle.definitions.specs.Calls.Load.{load, load_keys, load_bits}
use Rattle.definitions.specs.declared.Loaded.{Loaded}
use Rattle.laws.proofs.First.{first_none, accepted_done, accepted_left}
use Rattle.laws.proofs.FormerFile.{former_records, former_last, former_refusal, former_judged, former_same_records}
use Rattle.laws.proofs.FileOf.{first_version}

module _ (file keys bits : List ℕ) where
  -- the records of a file of then
  abbrev former_list : List Record
  former_list = former_records (n_in file) (drop 11 file)

  -- load's answer of then
  unfoldable pub former_load : Loaded
  former_load =
      record {
        refusal = former_refusal file keys bits;
        m = accepted (former_refusal file keys bits) (m_in file) 0;
        s = accepted (former_refusal file keys bits) (s_in file) 0;
        n = accepted (former_refusal file keys bits) (n_in file) 0;
      }

  unfoldable pub former_keys : List ℕ
  former_keys = accepted (former_refusal file keys bits) (over (keys_of former_list) keys) keys

  unfoldable pub former_bits : List ℕ
  former_bits = accepted (former_refusal file keys bits) (over (values_of former_list) bits) bits

  -- a file that was accepted has at most 16 slots
  few_slots : former_refusal file keys bits ≡ 0 → s_in file ≤ 16
  unfolding former_refusal former_last
  few_slots e =
      let good = (first_none _ refl e).1.1.1.0 in
      ltb-false 16 (s_in file) (neither_right (eqb (s_in file) 0) _ (neither_right (ltb deepest_level (m_in file)) _ good))

  -- so its records are read as they were
  records_were : former_refusal file keys bits ≡ 0 → records_in_file file ≡ former_list
  unfolding records_in_file
  records_were e = ap (λ width. read_records width (n_in file) (drop 11 file)) (first_version (s_in file) (few_slots e)).1 ∙ former_same_records (n_in file) (drop 11 file)

  -- a slice into which the records' numbers go is left as it was
  slice_was : (numbers : List Record → List ℕ) (slice : List ℕ)
      → accepted (former_refusal file keys bits) (over (numbers (records_in_file file)) slice) slice ≡ accepted (former_refusal file keys bits) (over (numbers former_list) slice) slice
  slice_was numbers slice =
      let now = over (numbers (records_in_file file)) slice in
      let was = over (numbers former_list) slice in
      equal (former_refusal file keys bits) 0
      (λ done. accepted_done now slice done ∙ ap (λ l. over (numbers l) slice) (records_were done) ∙ sym (accepted_done was slice done))
      (λ refused. accepted_left now slice refused ∙ sym (accepted_left was slice refused))

  -- the former answer, whole
  pub former-load : (version_in file ≡ 2 → ⊥)
      → (load file keys bits ≡ former_load) × (load_keys file keys bits ≡ former_keys) × (load_bits file keys bits ≡ former_bits)
  unfolding load load_keys load_bits former_load former_keys former_bits
  former-load other =
      let same = former_judged file keys bits other in (
        ap (λ r. record { refusal = r; m = accepted r (m_in file) 0; s = accepted r (s_in file) 0; n = accepted r (n_in file) 0 }) same,
        ap (λ r. accepted r (over (keys_of (records_in_file file)) keys) keys) same ∙ slice_was keys_of keys,
        ap (λ r. accepted r (over (values_of (records_in_file file)) bits) bits) same ∙ slice_was values_of bits,
      )
