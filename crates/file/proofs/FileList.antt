-- The answers of the check of a block's records in a file, one for each way out of the code: those of the check of two slices that hold the file's keys and
-- bitstrings. Rests on FileTurn and the laws of the check.
use Prim.Native.Nat.{ℕ, ◌^◌, ◌≤◌, ◌<◌}
use mathlib.Core.Path.{◌≡◌, sym, ap, ap₂, ◌∙◌}
use mathlib.Core.Bool.{Bool, true, false, ◌&&◌}
use mathlib.Core.List.{List}
use native.Mathlib.Omega.{arith}
use lib.ListN.{get_or, drop}
use lib.Seq.{take_all}
use lib.Dec.{eqb}
use borrow.Author.Tests.{le-leb}
use Rattle.keys.specs.Key.{root_key, valid_key, height_of}
use Rattle.keys.proofs.Digits.{row_zero, column_zero, height_zero}
use Rattle.definitions.specs.Read.{room, paired, records_of, is_list_of_block}
use Rattle.definitions.specs.Log.{is_content}
use Rattle.definitions.specs.File.{bit_bytes, records_in_file}
use Rattle.laws.proofs.FileOf.{width_of}
use Rattle.list.specs.Check.{one_slot, rest_place, after_node, step_under}
use Rattle.list.proofs.Content.{Stand, ContentAnswer, no_records, other_key, large_bits, one_record, many_records, keys_length}
use Rattle.file.specs.Layout.{RecordsFit, file_key_at, file_bits_at, records_at, keys_at, values_at}
use Rattle.file.specs.Room.{Exact}
use Rattle.file.proofs.ReadBytes.{key_read, value_read}
use Rattle.file.proofs.FileTurn.{many, size, in_file, TurnAnswered}

-- the first n records of the file's keys and bitstrings are its records
records_are : (w n : ℕ) (file : List ℕ) → records_of (keys_at w n file) (values_at w n file) n ≡ records_at w n file
records_are w n file =
    let e = many w n file in
    let f = size w n file in
    ap₂ paired (take_all n (keys_at w n file) (omega arith)) (take_all n (values_at w n file) (omega arith)) ∙ in_file w n file

module _ (m s κ w n : ℕ) (file : List ℕ) (valid : valid_key m κ ≡ true) where
  -- so whether they are a block's list in two slices is whether they are one in the file
  content_is : ContentAnswer m s κ (keys_at w n file) (values_at w n file) n ≡ is_content m s κ (records_at w n file)
  content_is =
      let e = many w n file in
      let f = size w n file in
      ap₂ (λ b l. b && is_content m s κ l) (le-leb n (room (keys_at w n file) (values_at w n file)) (omega arith)) (records_are w n file)

  -- no records are no list
  pub none_in_file : n ≡ 0 → false ≡ is_content m s κ (records_at w n file)
  none_in_file e = no_records m s κ (keys_at w n file) (values_at w n file) n valid e ∙ content_is

  module _ (some : n ≡ 0 → ⊥) where
    stand : Stand m κ (keys_at w n file) (values_at w n file) n
    stand =
        let e = many w n file in
        let f = size w n file in
        record { some = some; in_keys = omega arith; in-bits = omega arith; valid = valid }

    pub first : 0 < n
    first = omega (arith, some)

    module _ (x : ℕ) (x-is : x ≡ file_key_at w 0 file) where
      key-is : get_or (keys_at w n file) 0 0 ≡ x
      key-is = key_read w n 0 file first ∙ sym x-is

      -- the first key is another
      pub other_first : (x ≡ κ → ⊥) → false ≡ is_content m s κ (records_at w n file)
      other_first h = other_key stand s (λ e. h (sym key-is ∙ e)) ∙ content_is

      module _ (same : x ≡ κ) (own : ℕ) (own_is : own ≡ file_bits_at w 0 file) where
        bits_is : get_or (values_at w n file) 0 0 ≡ own
        bits_is = value_read w n 0 file first ∙ sym own_is

        -- its bits have a slot at or above s
        pub large_first : 2 ^ s ≤ own → false ≡ is_content m s κ (records_at w n file)
        large_first h = large_bits stand s (key-is ∙ same) (rw bits_is h) ∙ content_is

        module _ (small : own < 2 ^ s) where
          -- a leaf is the only record
          pub leaf_first : one_slot own ≡ true → eqb n 1 ≡ is_content m s κ (records_at w n file)
          leaf_first one = one_record stand s (key-is ∙ same) (rw bits_is small) (ap one_slot bits_is ∙ one) ∙ content_is

          -- a node ends where the records end
          pub node_first : (step place : ℕ) → one_slot own ≡ false → step ≡ step_under (height_of m κ) → TurnAnswered w n file 1 κ own step place
              → eqb place n ≡ is_content m s κ (records_at w n file)
          node_first step place other step_is h =
              many_records stand s (key-is ∙ same) (rw bits_is small) place (ap one_slot bits_is ∙ other)
              (h.1 (height_of m κ) step_is
              ∙ sym (λ i. rest_place (keys_length stand i) (after_node (height_of m κ) κ (bits_is i) (drop 1 (records_are w n file i)))))
              ∙ content_is

module _ {m s n : ℕ} {file : List ℕ} (exact : Exact m s n file) (w : ℕ) (w-is : w ≡ bit_bytes s) where
  -- the file has room for its records
  pub all_laid : RecordsFit w n file
  all_laid = let e = exact.ends in record { width_is = rw w-is (width_of s); there = rw w-is (omega arith) }

  -- of its own width and number they are the file's
  own_records : records_at w n file ≡ records_in_file file
  unfolding records_in_file
  own_records = ap₂ (λ w n. records_at w n file) (w-is ∙ ap bit_bytes exact.slots_are) exact.many

  -- and the root's block is the map
  pub root_decides : (r : Bool) → r ≡ is_content m s root_key (records_at w n file) → r ≡ is_list_of_block m s m 0 0 root_key (records_in_file file)
  unfolding is_content
  root_decides r told = told ∙ rw (height_zero m, row_zero m, column_zero m) (ap (is_list_of_block m s m 0 0 root_key) own_records)
