-- Write leaves: the leaves of a list, a key and a feature each (specification S17). Refusals 1, 4, 12. Rests on Leaves.
use Rattle.std.specs.Prelude.{ℕ, cond, List, [], ◌∷◌, length, ltb, eqb}
use Rattle.definitions.specs.List.{Record, keys_of, values_of}
use Rattle.definitions.specs.Read.{room, records_of}
use Rattle.definitions.specs.Leaves.{leaves_of}
use Rattle.definitions.specs.Buffer.{over}
use Rattle.definitions.specs.Refusal.{◌gives◌, first, accepted, bad_settings, no_list}
use Rattle.definitions.specs.declared.Counted.{Counted}

-- the leaves of the first n records
abbrev pub leaves_in : (keys bits : List ℕ) (n : ℕ) → List Record
leaves_in keys bits n = leaves_of (records_of keys bits n)

module _ (m s : ℕ) (keys bits : List ℕ) (n : ℕ) (leafKeys leafFeatures : List ℕ) where
  unfoldable pub write_leaves_refusal : ℕ
  write_leaves_refusal =
      first
      (bad_settings m s gives 1
      ∷ no_list m s keys bits n gives 4
      ∷ ltb (room leafKeys leafFeatures) (length (leaves_in keys bits n)) gives 12
      ∷ [])

  -- the count is the number of leaves; with 12 it is the number of places needed, which is the same
  unfoldable pub write_leaves : Counted
  write_leaves =
      record {
        refusal = write_leaves_refusal;
        count = accepted write_leaves_refusal
            (length (leaves_in keys bits n))
            (cond (eqb write_leaves_refusal 12) (length (leaves_in keys bits n)) 0);
      }

  unfoldable pub written_leaf_keys : List ℕ
  written_leaf_keys = accepted write_leaves_refusal (over (keys_of (leaves_in keys bits n)) leafKeys) leafKeys

  unfoldable pub written_leaf_features : List ℕ
  written_leaf_features = accepted write_leaves_refusal (over (values_of (leaves_in keys bits n)) leafFeatures) leafFeatures
