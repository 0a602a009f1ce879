-- The answers of store, one for each way out of the code: its result and what it leaves in the file's buffer. Rests on the laws of tables, Accepted,
-- Stores and FileOf.
use Prim.Native.Nat.{ℕ, ◌^◌, ◌≤◌, ◌<◌}
use mathlib.Core.Path.{◌≡◌, refl, sym, ap, ap₂, ◌∙◌}
use mathlib.Core.Bool.{true, false, cond, not}
use mathlib.Core.List.{List, ◌++◌}
use native.Mathlib.Omega.{arith}
use lib.ListN.{length}
use lib.Seq.{sets}
use lib.Dec.{eqb}
use borrow.Author.Tests.{lt-ltb, ne_eqb}
use Rattle.definitions.specs.Read.{room, records_of, is_list}
use Rattle.definitions.specs.Buffer.{over}
use Rattle.definitions.specs.File.{bit_bytes, file_length, head_of, bytes_of_records, file_of}
use Rattle.definitions.specs.Refusal.{accepted, bad_settings}
use Rattle.definitions.specs.Calls.Store.{stored, store_refusal, store, store_file}
use Rattle.definitions.specs.declared.Counted.{Counted}
use Rattle.definitions.specs.declared.refusal.Refusal.{Refusal}
use Rattle.definitions.specs.Refused.{refusal_number}
use Rattle.definitions.specs.Answered.{as_counted}
use Rattle.definitions.proofs.Refused.{refusal_some}
use Rattle.std.specs.Prelude.{Err}
use Rattle.definitions.proofs.Needed.{none_needed}
use Rattle.laws.proofs.First.{this, later, holds_first, accepted_left}
use Rattle.laws.proofs.FileOf.{length-file}
use Rattle.laws.proofs.Records.{records-length}
use Rattle.laws.proofs.Buffer.{sets_over}
use Rattle.list.specs.First.{first_refusal}
use Rattle.list.proofs.FirstRefusal.{refused_first, first_small}
use Rattle.list.proofs.Tests.{good_settings}
use Rattle.file.proofs.Accepted.{store_accepts}
use Rattle.file.proofs.Fits.{list_parts, list_short}
use Rattle.file.proofs.Stores.{head_then}

module _ (m s : ℕ) (keys bits : List ℕ) (n : ℕ) (file : List ℕ) where
  -- what store promises of its result and of the buffer
  abbrev pub Stored : Counted → List ℕ → Type 0
  Stored r whole = (r ≡ store m s keys bits n file) × (whole ≡ store_file m s keys bits n file)

  -- both by the number that the table gives
  by_number : (k : ℕ) → store_refusal m s keys bits n file ≡ k
      → Stored (record { refusal = k; count = accepted k (length (stored m s keys bits n)) (cond (eqb k 12) (length (stored m s keys bits n)) 0) })
      (accepted k (over (stored m s keys bits n) file) file)
  unfolding store store_file
  by_number k e =
      let bytes = length (stored m s keys bits n) in (
        sym (λ i. record { refusal = e i; count = accepted (e i) bytes (cond (eqb (e i) 12) bytes 0) }),
        sym (λ i. accepted (e i) (over (stored m s keys bits n) file) file),
      )

  -- 1 and 4
  pub refused_early : (refusal : Refusal) → refusal_number refusal ≡ first_refusal m s keys bits n → Stored (as_counted (Err refusal)) file
  unfolding store_refusal
  refused_early refusal e =
      let k : ℕ = refusal_number refusal in
      let h : k ≡ 0 → ⊥ = refusal_some refusal in
      let small = first_small m s keys bits n in
      let other : k ≡ 12 → ⊥ = λ twelve. omega arith in
      let bytes = length (stored m s keys bits n) in
      let told = by_number k (sym (refused_first m s keys bits n k _ e h)) in
      let none = accepted_left {refusal = k} bytes (cond (eqb k 12) bytes 0) h ∙ ap (λ b. cond b bytes 0) (ne_eqb k 12 other) in (
        (λ i. record { refusal = k; count = (none_needed refusal other ∙ sym none) i }) ∙ told.0,
        sym (accepted_left {refusal = k} (over (stored m s keys bits n) file) file h) ∙ told.1,
      )

  module _ (good : bad_settings m s ≡ false) where
    module _ (list : is_list m s keys bits n ≡ true) where
      -- there are n records
      pub roomy : n ≤ room keys bits
      roomy = (list_parts m s keys bits n list).0

      many : length (records_of keys bits n) ≡ n
      many = let h = roomy in records-length keys bits n (omega arith) (omega arith)

      -- their number fits into 32 bits
      pub few : n < 2 ^ 32
      few = rw many at (list_short m s (good_settings m s good) (records_of keys bits n) (list_parts m s keys bits n list).1)

      -- the bytes needed
      pub needed : length (stored m s keys bits n) ≡ file_length (bit_bytes s) n
      unfolding stored
      needed = length-file m s (records_of keys bits n) ∙ ap (file_length (bit_bytes s)) many

      -- 12
      pub no_room : (k : ℕ) → k ≡ file_length (bit_bytes s) n → length file < k → Stored (record { refusal = 12; count = k }) file
      unfolding store_refusal
      no_room k k-is h =
          let e = needed in
          let told = by_number 12 (holds_first (later good (later (ap not list) (this (lt-ltb (length file) (length (stored m s keys bits n)) (omega arith)) refl)))) in
          ((λ i. record { refusal = 12; count = (k-is ∙ sym needed) i }) ∙ told.0, told.1)

      -- the head and then the records, stored one after the other, are the file
      pub all_stored : (w k : ℕ) (headed whole : List ℕ) → w ≡ bit_bytes s → k ≡ file_length (bit_bytes s) n → k ≤ length file → headed ≡ sets file 0 (head_of m s n)
          → whole ≡ sets headed 11 (bytes_of_records w (records_of keys bits n)) → Stored (record { refusal = 0; count = k }) whole
      unfolding stored file_of
      all_stored w k headed whole w-is k-is h e f =
          let size = needed in
          let told = by_number 0 (store_accepts m s keys bits n file (record { settings = good; listed = list; roomy = omega arith })) in
          let bytes = bytes_of_records (bit_bytes s) (records_of keys bits n) in
          let written : whole ≡ over (stored m s keys bits n) file
          = f ∙ ap₂ (λ x w. sets x 11 (bytes_of_records w (records_of keys bits n))) e w-is
          ∙ sym (head_then file m s n bytes)
          ∙ ap (λ k. sets file 0 (head_of m s k ++ bytes)) (sym many)
          ∙ sets_over (stored m s keys bits n) file (omega arith) in
          ((λ i. record { refusal = 0; count = (k-is ∙ sym needed) i }) ∙ told.0, written ∙ told.1)
