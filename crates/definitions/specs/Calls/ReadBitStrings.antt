-- Read bit strings: a pair of bit strings becomes its list. Refusals 1, 23, 9.
use Rattle.std.specs.Prelude.{ℕ, not, ◌||◌, List, [], ◌∷◌, length, ltb, eqb}
use Rattle.definitions.specs.List.{keys_of, values_of}
use Rattle.definitions.specs.Read.{room}
use Rattle.definitions.specs.Buffer.{over}
use Rattle.definitions.specs.BitStrings.{is_pair, records_of_pair}
use Rattle.definitions.specs.Refusal.{◌gives◌, first, accepted, bad_settings}
use Rattle.definitions.specs.declared.Counted.{Counted}

module _ (m s : ℕ) (nodes leaves keys bits : List ℕ) where
  unfoldable pub read_strings_refusal : ℕ
  read_strings_refusal =
      first
      (bad_settings m s gives 1
      ∷ (not (eqb s 2) || not (is_pair m nodes leaves)) gives 23
      ∷ ltb (room keys bits) (length (records_of_pair m nodes leaves)) gives 9
      ∷ [])

  unfoldable pub read_strings : Counted
  read_strings =
      record {
        refusal = read_strings_refusal;
        count = accepted read_strings_refusal (length (records_of_pair m nodes leaves)) 0;
      }

  unfoldable pub read_keys : List ℕ
  read_keys = accepted read_strings_refusal (over (keys_of (records_of_pair m nodes leaves)) keys) keys

  unfoldable pub read_bits : List ℕ
  read_bits = accepted read_strings_refusal (over (values_of (records_of_pair m nodes leaves)) bits) bits
