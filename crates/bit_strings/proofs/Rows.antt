-- A sheet of two features worked by computation: its strings, byte for byte, what they read back as, each reason of refusal 23 alone, and the order
-- of the refusals (docs/BIT-STRINGS.md works the same sheet by hand). Rests on the definitions.
use Prim.Native.Nat.{ℕ}
use mathlib.Core.Path.{◌≡◌, refl}
use mathlib.Core.List.{List, [], ◌∷◌}
use Rattle.keys.specs.Key.{zeros_at_end}
use Rattle.definitions.specs.Picture.{every_pixel, one_feature, features_below}
use Rattle.definitions.specs.Bits.{union_of_four, bits_of, feature_of, twos_in}
use Rattle.definitions.specs.List.{list_of, list_of_raster, keys_of, values_of}
use Rattle.definitions.specs.BitStrings.{is_inner, node_bits, leaf_bits, high_first, packed_in, packed, bits_of_byte, bits_in, key_after}
use Rattle.definitions.specs.BitStrings.{begins_with, four_equal, any_set, left_over, reading, records_from, records_of_pair, is_whole, is_pair}
use Rattle.definitions.specs.BitStrings.{Reading, whole, ends_early, runs_on, too_deep, spare_bit_set, equal_siblings}
use Rattle.definitions.specs.Refusal.{first, bad_settings}
use Rattle.keys.specs.Block.{pixel_key}
use Rattle.definitions.specs.Read.{paired, value_at, picture_of, same_records, is_list_of_block, is_list}
use Rattle.definitions.specs.Calls.WriteBitStrings.{node_string, leaf_string, write_strings_refusal, write_strings, written_nodes, written_leaves}
use Rattle.definitions.specs.Calls.ReadBitStrings.{read_strings_refusal}

-- four rows of four pixels
abbrev sheet : List ℕ
sheet = 0 ∷ 0 ∷ 1 ∷ 1 ∷ 0 ∷ 0 ∷ 1 ∷ 0 ∷ 1 ∷ 1 ∷ 1 ∷ 1 ∷ 1 ∷ 1 ∷ 1 ∷ 1 ∷ []

abbrev sheet_nodes : List ℕ
sheet_nodes = 0x5F ∷ 0x80 ∷ []

abbrev sheet_leaves : List ℕ
sheet_leaves = 0x76 ∷ []

-- what comes of reading a pair at m
abbrev read_as : ℕ → List ℕ → List ℕ → Reading
read_as m nodes leaves = reading m 0 (bits_in nodes) (bits_in leaves)

pub written_rows : (packed (node_bits (list_of_raster 2 sheet)) ≡ sheet_nodes) × (packed (leaf_bits (list_of_raster 2 sheet)) ≡ sheet_leaves)
unfolding list_of bits_of union_of_four one_feature every_pixel is_inner node_bits leaf_bits high_first packed_in packed
written_rows = (refl, refl)

pub read_back : (read_as 2 sheet_nodes sheet_leaves ≡ whole)
    × (keys_of (records_of_pair 2 sheet_nodes sheet_leaves) ≡ 0 ∷ 5 ∷ 10 ∷ 11 ∷ 12 ∷ 13 ∷ 14 ∷ 15 ∷ 20 ∷ [])
    × (values_of (records_of_pair 2 sheet_nodes sheet_leaves) ≡ 3 ∷ 1 ∷ 3 ∷ 2 ∷ 2 ∷ 2 ∷ 1 ∷ 2 ∷ 2 ∷ [])
unfolding bits_of_byte bits_in zeros_at_end key_after begins_with four_equal any_set left_over reading records_from records_of_pair
read_back = (refl, refl, refl)

-- one pixel of feature 1
pub one_pixel_rows : (packed (node_bits (list_of_raster 0 (1 ∷ []))) ≡ 0x80 ∷ []) × (packed (leaf_bits (list_of_raster 0 (1 ∷ []))) ≡ 0x80 ∷ [])
    × (read_as 0 (0x80 ∷ []) (0x80 ∷ []) ≡ whole)
unfolding list_of bits_of is_inner node_bits leaf_bits high_first packed_in packed bits_of_byte bits_in zeros_at_end key_after any_set left_over reading
one_pixel_rows = (refl, refl, refl)

-- each reason alone: the nodes or the leaves end early; a byte too many of either; deeper than m; a spare bit set in either; four equal siblings
pub reasons : (read_as 2 (0x5F ∷ []) sheet_leaves ≡ ends_early) × (read_as 2 sheet_nodes [] ≡ ends_early) × (read_as 2 [] [] ≡ ends_early)
    × (read_as 2 (0x5F ∷ 0x80 ∷ 0 ∷ []) sheet_leaves ≡ runs_on) × (read_as 2 sheet_nodes (0x76 ∷ 0 ∷ []) ≡ runs_on)
    × (read_as 1 sheet_nodes sheet_leaves ≡ too_deep)
    × (read_as 2 (0x5F ∷ 0x81 ∷ []) sheet_leaves ≡ spare_bit_set) × (read_as 2 sheet_nodes (0x77 ∷ []) ≡ spare_bit_set)
    × (read_as 1 (0x78 ∷ []) (0x00 ∷ []) ≡ equal_siblings) × (read_as 1 (0x78 ∷ []) (0xF0 ∷ []) ≡ equal_siblings)
unfolding bits_of_byte bits_in zeros_at_end key_after begins_with four_equal any_set left_over reading
reasons = (refl, refl, refl, refl, refl, refl, refl, refl, refl, refl)

-- the order on reading: each number alone, and each two neighbours at once
pub order : (read_strings_refusal 2 2 sheet_nodes sheet_leaves (0 ∷ []) (0 ∷ []) ≡ 9)
    × (read_strings_refusal 2 3 sheet_nodes sheet_leaves (0 ∷ []) (0 ∷ []) ≡ 23)
    × (read_strings_refusal 2 2 sheet_nodes [] [] [] ≡ 23)
    × (read_strings_refusal 11 3 sheet_nodes [] [] [] ≡ 1)
    × (read_strings_refusal 0 2 (0x80 ∷ []) (0x80 ∷ []) (0 ∷ []) (0 ∷ []) ≡ 0)
unfolding read_strings_refusal first bad_settings is_pair is_whole bits_of_byte bits_in zeros_at_end key_after begins_with four_equal any_set left_over reading records_from records_of_pair
order = (refl, refl, refl, refl, refl)

-- the order on writing, on a map of one pixel of feature 0: each number alone, and each two neighbours at once
pub order_writing : (write_strings_refusal 0 2 (0 ∷ []) (1 ∷ []) 1 (9 ∷ []) (9 ∷ []) ≡ 0)
    × (write_strings_refusal 0 2 (0 ∷ []) (1 ∷ []) 1 [] (9 ∷ []) ≡ 12)
    × (write_strings_refusal 0 2 (0 ∷ []) (1 ∷ []) 1 (9 ∷ []) [] ≡ 12)
    × (write_strings_refusal 0 2 (0 ∷ []) (3 ∷ []) 1 [] [] ≡ 4)
    × (write_strings_refusal 0 3 (0 ∷ []) (1 ∷ []) 2 [] [] ≡ 23)
    × (write_strings_refusal 0 1 (0 ∷ []) (1 ∷ []) 1 (9 ∷ []) (9 ∷ []) ≡ 23)
    × (write_strings_refusal 11 3 (0 ∷ []) (1 ∷ []) 1 [] [] ≡ 1)
unfolding write_strings_refusal first bad_settings is_list is_list_of_block same_records picture_of value_at paired feature_of twos_in features_below pixel_key list_of bits_of one_feature every_pixel node_string leaf_string is_inner node_bits leaf_bits high_first packed_in packed
order_writing = (refl, refl, refl, refl, refl, refl, refl)

-- with 12 the bytes needed of each string, and nothing is written
pub needed : (write_strings 0 2 (0 ∷ []) (1 ∷ []) 1 [] (9 ∷ []) ≡ record { refusal = 12; node_bytes = 1; leaf_bytes = 1 })
    × (written_leaves 0 2 (0 ∷ []) (1 ∷ []) 1 [] (9 ∷ []) ≡ 9 ∷ [])
    × (written_nodes 0 2 (0 ∷ []) (1 ∷ []) 1 (9 ∷ 9 ∷ []) (9 ∷ []) ≡ 0x80 ∷ 9 ∷ [])
unfolding write_strings written_leaves written_nodes write_strings_refusal first bad_settings is_list is_list_of_block same_records picture_of value_at paired feature_of twos_in features_below pixel_key list_of bits_of one_feature every_pixel node_string leaf_string is_inner node_bits leaf_bits high_first packed_in packed
needed = (refl, refl, refl)
