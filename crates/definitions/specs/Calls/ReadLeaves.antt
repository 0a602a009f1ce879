-- Read leaves: a delivery becomes the list of the raster that it describes (specification S17). Refusals 1, 19, 9. Rests on Leaves.
use Rattle.std.specs.Prelude.{ℕ, not, List, [], ◌∷◌, length, ltb}
use Rattle.definitions.specs.List.{Record, list_of_picture, keys_of, values_of}
use Rattle.definitions.specs.Read.{room}
use Rattle.definitions.specs.Leaves.{is_delivery, picture_delivered}
use Rattle.definitions.specs.Buffer.{over}
use Rattle.definitions.specs.Refusal.{◌gives◌, first, accepted, bad_settings}
use Rattle.definitions.specs.declared.Counted.{Counted}

-- the list of the raster that the leaves describe
abbrev pub list_delivered : (m : ℕ) (leafKeys leafFeatures : List ℕ) (leaves : ℕ) → List Record
list_delivered m leafKeys leafFeatures leaves = list_of_picture m (picture_delivered m leafKeys leafFeatures leaves)

module _ (m s : ℕ) (leafKeys leafFeatures : List ℕ) (leaves : ℕ) (keys bits : List ℕ) where
  unfoldable pub read_leaves_refusal : ℕ
  read_leaves_refusal =
      first
      (bad_settings m s gives 1
      ∷ not (is_delivery m s leafKeys leafFeatures leaves) gives 19
      ∷ ltb (room keys bits) (length (list_delivered m leafKeys leafFeatures leaves)) gives 9
      ∷ [])

  -- the count is the number of records
  unfoldable pub read_leaves : Counted
  read_leaves =
      record {
        refusal = read_leaves_refusal;
        count = accepted read_leaves_refusal (length (list_delivered m leafKeys leafFeatures leaves)) 0;
      }

  unfoldable pub read_leaves_keys : List ℕ
  read_leaves_keys = accepted read_leaves_refusal (over (keys_of (list_delivered m leafKeys leafFeatures leaves)) keys) keys

  unfoldable pub read_leaves_bits : List ℕ
  read_leaves_bits = accepted read_leaves_refusal (over (values_of (list_delivered m leafKeys leafFeatures leaves)) bits) bits
