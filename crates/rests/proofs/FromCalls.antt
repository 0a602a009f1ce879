-- A list that was loaded, read from leaves or bit strings, or combined is as good a start as a build: its summary filled and its log empty, a history
-- with rests begins there. Rests on Theorem and Given.
use Prim.Native.Nat.{ℕ}
use mathlib.Core.Path.{◌≡◌, refl}
use mathlib.Core.Bool.{false}
use mathlib.Core.List.{List}
use Rattle.definitions.specs.Read.{records_of, picture_of}
use Rattle.definitions.specs.Area.{bad_summary_length}
use Rattle.definitions.specs.Calls.Load.{load_refusal, load, load_keys, load_bits}
use Rattle.definitions.specs.Calls.ReadLeaves.{read_leaves_refusal, read_leaves, read_leaves_keys, read_leaves_bits}
use Rattle.definitions.specs.Calls.ReadBitStrings.{read_strings_refusal, read_strings, read_keys, read_bits}
use Rattle.definitions.specs.Calls.Combine.{combine_refusal, combine, combine_keys, combine_bits}
use Rattle.definitions.specs.Calls.FillSummary.{fill_refusal}
use Rattle.laws.proofs.SameNumbers.{summary_right}
use Rattle.rests.specs.Starts.{GivesList, HasList, filled_from, GoodStart}
use Rattle.rests.proofs.Given.{fill_accepts, fill_given, fill_leaves, load_gives_list, leaves_give_list, strings_give_list, combine_gives_list}
use Rattle.rests.proofs.Theorem.{from_a_list}

module _ (summary log_keys log_values : List ℕ) where
  -- where filling the summary of a list is accepted a history can begin, wherever the list comes from
  pub filled_begins : (m s : ℕ) (keys bits : List ℕ) (n : ℕ) → fill_refusal m s keys bits n summary ≡ 0 → HasList m s (filled_from m s keys bits n summary log_keys log_values)
  filled_begins m s keys bits n e =
      record {
        gives = fill_given m s keys bits n summary e;
        is_summary = summary_right m s (picture_of m (records_of keys bits n)) _ (fill_leaves m s keys bits n summary e);
        none_used = refl;
        none_in_force = refl;
      }

  pub from_filled : (m s : ℕ) (keys bits : List ℕ) (n : ℕ) → fill_refusal m s keys bits n summary ≡ 0 → GoodStart m s (filled_from m s keys bits n summary log_keys log_values)
  from_filled m s keys bits n e = from_a_list m s (filled_from m s keys bits n summary log_keys log_values) (filled_begins m s keys bits n e)

  -- it is accepted of every list at good settings, if the summary has its length
  pub from_given : (m s : ℕ) (keys bits : List ℕ) (n : ℕ) → GivesList m s keys bits n → bad_summary_length m s summary ≡ false
      → GoodStart m s (filled_from m s keys bits n summary log_keys log_values)
  from_given m s keys bits n h sized = from_filled m s keys bits n (fill_accepts m s keys bits n summary h sized)

  -- so of what an accepted load leaves
  pub from_load : (file keys bits : List ℕ) → load_refusal file keys bits ≡ 0
      → bad_summary_length (load file keys bits).m (load file keys bits).s summary ≡ false
      → GoodStart (load file keys bits).m (load file keys bits).s
      (filled_from (load file keys bits).m (load file keys bits).s (load_keys file keys bits) (load_bits file keys bits) (load file keys bits).n summary log_keys log_values)
  from_load file keys bits e sized = from_given _ _ _ _ _ (load_gives_list file keys bits e) sized

  -- of what an accepted reading of leaves leaves
  pub from_leaves : (m s : ℕ) (leafKeys leafFeatures : List ℕ) (leaves : ℕ) (keys bits : List ℕ) → read_leaves_refusal m s leafKeys leafFeatures leaves keys bits ≡ 0
      → bad_summary_length m s summary ≡ false
      → GoodStart m s
      (filled_from m s (read_leaves_keys m s leafKeys leafFeatures leaves keys bits) (read_leaves_bits m s leafKeys leafFeatures leaves keys bits)
      (read_leaves m s leafKeys leafFeatures leaves keys bits).count summary log_keys log_values)
  from_leaves m s leafKeys leafFeatures leaves keys bits e sized = from_given m s _ _ _ (leaves_give_list m s leafKeys leafFeatures leaves keys bits e) sized

  -- of bit strings
  pub from_bit_strings : (m s : ℕ) (nodes leaves keys bits : List ℕ) → read_strings_refusal m s nodes leaves keys bits ≡ 0 → bad_summary_length m s summary ≡ false
      → GoodStart m s
      (filled_from m s (read_keys m s nodes leaves keys bits) (read_bits m s nodes leaves keys bits) (read_strings m s nodes leaves keys bits).count summary log_keys log_values)
  from_bit_strings m s nodes leaves keys bits e sized = from_given m s _ _ _ (strings_give_list m s nodes leaves keys bits e) sized

  -- and of two lists combined, at the first one's m and the result's s
  pub from_combine : (m₁ s₁ : ℕ) (keys₁ bits₁ : List ℕ) (n₁ m₂ s₂ : ℕ) (keys₂ bits₂ : List ℕ) (n₂ s₃ : ℕ) (table keys bits : List ℕ)
      → combine_refusal m₁ s₁ keys₁ bits₁ n₁ m₂ s₂ keys₂ bits₂ n₂ s₃ table keys bits ≡ 0
      → bad_summary_length m₁ s₃ summary ≡ false
      → GoodStart m₁ s₃
      (filled_from m₁ s₃ (combine_keys m₁ s₁ keys₁ bits₁ n₁ m₂ s₂ keys₂ bits₂ n₂ s₃ table keys bits)
      (combine_bits m₁ s₁ keys₁ bits₁ n₁ m₂ s₂ keys₂ bits₂ n₂ s₃ table keys bits)
      (combine m₁ s₁ keys₁ bits₁ n₁ m₂ s₂ keys₂ bits₂ n₂ s₃ table keys bits).count summary log_keys log_values)
  from_combine m₁ s₁ keys₁ bits₁ n₁ m₂ s₂ keys₂ bits₂ n₂ s₃ table keys bits e sized =
      from_given m₁ s₃ _ _ _ (combine_gives_list m₁ s₁ keys₁ bits₁ n₁ m₂ s₂ keys₂ bits₂ n₂ s₃ table keys bits e) sized
