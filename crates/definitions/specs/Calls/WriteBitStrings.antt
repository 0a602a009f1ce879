-- Write bit strings: a list of two features becomes its pair of bit strings. Refusals 1, 23, 4, 12.
use Rattle.std.specs.Prelude.{ℕ, cond, not, ◌||◌, List, [], ◌∷◌, length, ltb, eqb}
use Rattle.definitions.specs.Read.{records_of}
use Rattle.definitions.specs.Buffer.{over}
use Rattle.definitions.specs.BitStrings.{node_bits, leaf_bits, packed}
use Rattle.definitions.specs.Refusal.{◌gives◌, first, accepted, bad_settings, no_list}
use Rattle.definitions.specs.declared.Strings.{Strings}

unfoldable pub node_string : (keys bits : List ℕ) (n : ℕ) → List ℕ
node_string keys bits n = packed (node_bits (records_of keys bits n))

unfoldable pub leaf_string : (keys bits : List ℕ) (n : ℕ) → List ℕ
leaf_string keys bits n = packed (leaf_bits (records_of keys bits n))

module _ (m s : ℕ) (keys bits : List ℕ) (n : ℕ) (nodes leaves : List ℕ) where
  unfoldable pub write_strings_refusal : ℕ
  write_strings_refusal =
      first
      (bad_settings m s gives 1
      ∷ not (eqb s 2) gives 23
      ∷ no_list m s keys bits n gives 4
      ∷ (ltb (length nodes) (length (node_string keys bits n)) || ltb (length leaves) (length (leaf_string keys bits n))) gives 12
      ∷ [])

  -- with 12 the bytes needed of each
  unfoldable pub write_strings : Strings
  write_strings =
      record {
        refusal = write_strings_refusal;
        node_bytes = cond (eqb write_strings_refusal 0 || eqb write_strings_refusal 12) (length (node_string keys bits n)) 0;
        leaf_bytes = cond (eqb write_strings_refusal 0 || eqb write_strings_refusal 12) (length (leaf_string keys bits n)) 0;
      }

  unfoldable pub written_nodes : List ℕ
  written_nodes = accepted write_strings_refusal (over (node_string keys bits n) nodes) nodes

  unfoldable pub written_leaves : List ℕ
  written_leaves = accepted write_strings_refusal (over (leaf_string keys bits n) leaves) leaves
