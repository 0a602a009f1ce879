-- Load: the bytes of a file become a list. Refusals 15 (under 11 bytes), 16, 17, 1, 15 (length), 4 (the file's own records), 9.
use Rattle.std.specs.Prelude.{ℕ, not, List, [], ◌∷◌, ltb}
use Rattle.keys.specs.Key.{root_key}
use Rattle.definitions.specs.List.{keys_of, values_of}
use Rattle.definitions.specs.Read.{room, is_list_of_block}
use Rattle.definitions.specs.Buffer.{over}
use Rattle.definitions.specs.File.{m_in, s_in, n_in, records_in_file, too_short, wrong_mark, wrong_version, wrong_settings, wrong_length}
use Rattle.definitions.specs.Refusal.{◌gives◌, first, accepted}
use Rattle.definitions.specs.declared.Loaded.{Loaded}

module _ (file keys bits : List ℕ) where
  unfoldable pub load_refusal : ℕ
  load_refusal =
      first
      (too_short file gives 15
      ∷ wrong_mark file gives 16
      ∷ wrong_version file gives 17
      ∷ wrong_settings file gives 1
      ∷ wrong_length file gives 15
      ∷ not (is_list_of_block (m_in file) (s_in file) (m_in file) 0 0 root_key (records_in_file file)) gives 4
      ∷ ltb (room keys bits) (n_in file) gives 9
      ∷ [])

  unfoldable pub load : Loaded
  load =
      record {
        refusal = load_refusal;
        m = accepted load_refusal (m_in file) 0;
        s = accepted load_refusal (s_in file) 0;
        n = accepted load_refusal (n_in file) 0;
      }

  unfoldable pub load_keys : List ℕ
  load_keys = accepted load_refusal (over (keys_of (records_in_file file)) keys) keys

  unfoldable pub load_bits : List ℕ
  load_bits = accepted load_refusal (over (values_of (records_in_file file)) bits) bits
