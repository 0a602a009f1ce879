-- Leaf lists (specification S17): the leaves of Nardelli and Proietti (1994), section 2.2, whose list has 21 records, Map A delivered merged and in parts, each
-- way in which leaves are no delivery, and the orders of refusals. One table under one claim, proved by computation.
use Prim.Native.Nat.{ℕ}
use mathlib.Core.Path.{refl}
use mathlib.Core.List.{List, [], ◌∷◌, ◌++◌}
use Rattle.keys.specs.Key.{valid_key, digits_of, digits_then_zeros, only_zeros, level_of, digits_before_zero, height_of}
use Rattle.keys.specs.Block.{row_of, column_of, side_of, in_block, pixel_key}
use Rattle.definitions.specs.Picture.{every_pixel, one_feature, features_below}
use Rattle.definitions.specs.Bits.{bits_of, union_of_four, twos_in, feature_of}
use Rattle.definitions.specs.List.{list_of}
use Rattle.definitions.specs.Read.{paired, value_at, picture_of, same_records, is_list_of_block, is_list}
use Rattle.definitions.specs.Refusal.{first, bad_settings, bad_pixel}
use Rattle.definitions.specs.Leaves.{leaves_of, valid_keys, ascend_from, coverings, cover_once, are_leaves, is_delivery, picture_of_leaves}
use Rattle.definitions.specs.Calls.ReadLeaves.{read_leaves_refusal, read_leaves, read_leaves_keys, read_leaves_bits}
use Rattle.definitions.specs.Calls.WriteLeaves.{write_leaves_refusal, write_leaves, written_leaf_keys, written_leaf_features}
use Rattle.definitions.proofs.Vectors.{VectorRow, row, RowHolds, key, of_counted, keys_a, bits_a, unwritten}

-- a key of three digits, and one of two
abbrev at3 : ℕ → ℕ → ℕ → ℕ
at3 a b c = key (a ∷ b ∷ c ∷ [])

abbrev at2 : ℕ → ℕ → ℕ
at2 a b = key (a ∷ b ∷ [])

-- the leaves of Figure 1 as section 2.2 lists them
abbrev figure_keys : List ℕ
figure_keys =
    (at3 1 1 1 ∷ at3 1 1 2 ∷ at3 1 1 3 ∷ at3 1 1 4 ∷ at3 1 2 0 ∷ at3 1 3 0 ∷ at3 1 4 1 ∷ at3 1 4 2 ∷ at3 1 4 3 ∷ [])
    ++ (at3 1 4 4 ∷ at3 2 0 0 ∷ at3 3 0 0 ∷ at3 4 1 0 ∷ at3 4 2 0 ∷ at3 4 3 0 ∷ at3 4 4 0 ∷ [])

abbrev figure_features : List ℕ
figure_features = 0 ∷ 2 ∷ 0 ∷ 0 ∷ 2 ∷ 3 ∷ 1 ∷ 0 ∷ 0 ∷ 1 ∷ 0 ∷ 3 ∷ 1 ∷ 0 ∷ 0 ∷ 0 ∷ []

-- the list of section 2.3
abbrev list_keys : List ℕ
list_keys =
    (at3 0 0 0 ∷ at3 1 0 0 ∷ at3 1 1 0 ∷ at3 1 1 1 ∷ at3 1 1 2 ∷ at3 1 1 3 ∷ at3 1 1 4 ∷ at3 1 2 0 ∷ at3 1 3 0 ∷ at3 1 4 0 ∷ [])
    ++ (at3 1 4 1 ∷ at3 1 4 2 ∷ at3 1 4 3 ∷ at3 1 4 4 ∷ at3 2 0 0 ∷ at3 3 0 0 ∷ at3 4 0 0 ∷ at3 4 1 0 ∷ at3 4 2 0 ∷ at3 4 3 0 ∷ at3 4 4 0 ∷ [])

abbrev list_bits : List ℕ
list_bits = 15 ∷ 15 ∷ 5 ∷ 1 ∷ 4 ∷ 1 ∷ 1 ∷ 4 ∷ 8 ∷ 3 ∷ 2 ∷ 1 ∷ 1 ∷ 2 ∷ 1 ∷ 8 ∷ 3 ∷ 2 ∷ 1 ∷ 1 ∷ 1 ∷ []

-- the leaves of Map A
abbrev leaf_keys_a : List ℕ
leaf_keys_a = at2 1 0 ∷ at2 2 1 ∷ at2 2 2 ∷ at2 2 3 ∷ at2 2 4 ∷ at2 3 0 ∷ at2 4 0 ∷ []

abbrev leaf_features_a : List ℕ
leaf_features_a = 0 ∷ 1 ∷ 1 ∷ 1 ∷ 2 ∷ 2 ∷ 0 ∷ []

-- Map A with block 30 in four parts
abbrev parted_keys_a : List ℕ
parted_keys_a = at2 1 0 ∷ at2 2 1 ∷ at2 2 2 ∷ at2 2 3 ∷ at2 2 4 ∷ at2 3 1 ∷ at2 3 2 ∷ at2 3 3 ∷ at2 3 4 ∷ at2 4 0 ∷ []

abbrev parted_features_a : List ℕ
parted_features_a = 0 ∷ 1 ∷ 1 ∷ 1 ∷ 2 ∷ 2 ∷ 2 ∷ 2 ∷ 2 ∷ 0 ∷ []

-- a whole sheet of feature 2 in 16 pixels: it is merged twice
abbrev pixel_keys : List ℕ
pixel_keys =
    (at2 1 1 ∷ at2 1 2 ∷ at2 1 3 ∷ at2 1 4 ∷ at2 2 1 ∷ at2 2 2 ∷ at2 2 3 ∷ at2 2 4 ∷ [])
    ++ (at2 3 1 ∷ at2 3 2 ∷ at2 3 3 ∷ at2 3 4 ∷ at2 4 1 ∷ at2 4 2 ∷ at2 4 3 ∷ at2 4 4 ∷ [])

abbrev twos : List ℕ
twos = 2 ∷ 2 ∷ 2 ∷ 2 ∷ 2 ∷ 2 ∷ 2 ∷ 2 ∷ 2 ∷ 2 ∷ 2 ∷ 2 ∷ 2 ∷ 2 ∷ 2 ∷ 2 ∷ []

-- reading leaves at m = 2, s = 3 into 9 places
abbrev asked : List ℕ → List ℕ → ℕ → List ℕ
asked leafKeys leafFeatures leaves = of_counted (read_leaves 2 3 leafKeys leafFeatures leaves (unwritten 9) (unwritten 9))

table : List VectorRow
table =
    -- Nardelli and Proietti (1994): read, and written again
    row (of_counted (read_leaves 3 4 figure_keys figure_features 16 (unwritten 22) (unwritten 21))) (0 ∷ 21 ∷ [])
    ∷ row (read_leaves_keys 3 4 figure_keys figure_features 16 (unwritten 22) (unwritten 21)) (list_keys ++ (77 ∷ []))
    ∷ row (read_leaves_bits 3 4 figure_keys figure_features 16 (unwritten 22) (unwritten 21)) list_bits
    ∷ row (of_counted (write_leaves 3 4 list_keys list_bits 21 (unwritten 16) (unwritten 17))) (0 ∷ 16 ∷ [])
    ∷ row (written_leaf_keys 3 4 list_keys list_bits 21 (unwritten 16) (unwritten 17)) figure_keys
    ∷ row (written_leaf_features 3 4 list_keys list_bits 21 (unwritten 16) (unwritten 17)) (figure_features ++ (77 ∷ []))
    -- Map A, and Map A in parts
    ∷ row (read_leaves_keys 2 3 leaf_keys_a leaf_features_a 7 (unwritten 9) (unwritten 9)) (keys_a 0)
    ∷ row (read_leaves_bits 2 3 leaf_keys_a leaf_features_a 7 (unwritten 9) (unwritten 9)) (bits_a 0)
    ∷ row (read_leaves_keys 2 3 parted_keys_a parted_features_a 10 (unwritten 9) (unwritten 9)) (keys_a 0)
    ∷ row (read_leaves_bits 2 3 parted_keys_a parted_features_a 10 (unwritten 9) (unwritten 9)) (bits_a 0)
    ∷ row (read_leaves_keys 2 3 pixel_keys twos 16 (unwritten 2) (unwritten 1)) (0 ∷ 77 ∷ [])
    ∷ row (read_leaves_bits 2 3 pixel_keys twos 16 (unwritten 2) (unwritten 1)) (4 ∷ [])
    -- m = 0: the one pixel
    ∷ row (of_counted (read_leaves 0 1 (0 ∷ []) (0 ∷ []) 1 (unwritten 1) (unwritten 1))) (0 ∷ 1 ∷ [])
    -- 19: no leaf, more than one slice has, a gap, an overlap, the wrong order, a leaf twice, a key of no block, a feature of no slot
    ∷ row (asked leaf_keys_a leaf_features_a 0) (19 ∷ 0 ∷ [])
    ∷ row (asked leaf_keys_a (leaf_features_a ++ (0 ∷ [])) 8) (19 ∷ 0 ∷ [])
    ∷ row (asked leaf_keys_a leaf_features_a 6) (19 ∷ 0 ∷ [])
    ∷ row (asked (at2 1 0 ∷ at2 1 1 ∷ at2 2 0 ∷ at2 3 0 ∷ at2 4 0 ∷ []) (0 ∷ 0 ∷ 1 ∷ 2 ∷ 0 ∷ []) 5) (19 ∷ 0 ∷ [])
    ∷ row (asked (at2 1 0 ∷ at2 3 0 ∷ at2 2 0 ∷ at2 4 0 ∷ []) (0 ∷ 0 ∷ 1 ∷ 2 ∷ []) 4) (19 ∷ 0 ∷ [])
    ∷ row (asked (at2 1 0 ∷ at2 2 0 ∷ at2 2 0 ∷ at2 3 0 ∷ at2 4 0 ∷ []) (0 ∷ 0 ∷ 1 ∷ 2 ∷ 0 ∷ []) 5) (19 ∷ 0 ∷ [])
    ∷ row (asked (at2 0 1 ∷ at2 1 0 ∷ at2 2 0 ∷ at2 3 0 ∷ at2 4 0 ∷ []) (0 ∷ 0 ∷ 1 ∷ 2 ∷ 0 ∷ []) 5) (19 ∷ 0 ∷ [])
    ∷ row (asked (at2 1 0 ∷ at2 2 0 ∷ at2 3 0 ∷ at2 4 0 ∷ []) (0 ∷ 1 ∷ 3 ∷ 0 ∷ []) 4) (19 ∷ 0 ∷ [])
    -- 1 before 19, 19 before 9, and 9
    ∷ row (of_counted (read_leaves 11 3 leaf_keys_a leaf_features_a 7 (unwritten 9) (unwritten 9))) (1 ∷ 0 ∷ [])
    ∷ row (of_counted (read_leaves 2 0 leaf_keys_a leaf_features_a 0 (unwritten 9) (unwritten 9))) (1 ∷ 0 ∷ [])
    ∷ row (of_counted (read_leaves 2 3 leaf_keys_a leaf_features_a 0 [] [])) (19 ∷ 0 ∷ [])
    ∷ row (of_counted (read_leaves 2 3 leaf_keys_a leaf_features_a 7 (unwritten 9) (unwritten 8))) (9 ∷ 0 ∷ [])
    ∷ row (read_leaves_keys 2 3 leaf_keys_a leaf_features_a 7 (unwritten 9) (unwritten 8)) (unwritten 9)
    -- writing: 1 before 4, 4 before 12, and 12 with the places needed
    ∷ row (of_counted (write_leaves 2 0 (keys_a 0) (bits_a 0) 8 (unwritten 7) (unwritten 7))) (1 ∷ 0 ∷ [])
    ∷ row (of_counted (write_leaves 2 3 (keys_a 0) (bits_a 0) 8 (unwritten 7) (unwritten 0))) (4 ∷ 0 ∷ [])
    ∷ row (of_counted (write_leaves 2 3 (keys_a 0) (bits_a 0) 9 (unwritten 7) (unwritten 6))) (12 ∷ 7 ∷ [])
    ∷ row (written_leaf_keys 2 3 (keys_a 0) (bits_a 0) 9 (unwritten 7) (unwritten 6)) (unwritten 7)
    ∷ []

claim : RowHolds table
unfolding
    table
    valid_key digits_of digits_then_zeros only_zeros level_of digits_before_zero height_of row_of column_of side_of in_block pixel_key
    every_pixel one_feature features_below bits_of union_of_four twos_in feature_of list_of
    paired value_at picture_of same_records is_list_of_block is_list
    first bad_settings bad_pixel
    leaves_of valid_keys ascend_from coverings cover_once are_leaves is_delivery picture_of_leaves
    read_leaves_refusal read_leaves read_leaves_keys read_leaves_bits
    write_leaves_refusal write_leaves written_leaf_keys written_leaf_features
claim = refl
