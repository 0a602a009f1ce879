-- Combining (specification S19) on small maps: what the result is, that it is merged, and each refusal alone and each two neighbours of the order
-- at once. One table under one claim, proved by computation.
use Prim.Native.Nat.{ℕ}
use mathlib.Core.Path.{refl}
use mathlib.Core.List.{List, [], ◌∷◌, ◌++◌}
use Rattle.keys.specs.Block.{pixel_key}
use Rattle.definitions.specs.Picture.{every_pixel, one_feature, features_below}
use Rattle.definitions.specs.Bits.{bits_of, union_of_four, twos_in, feature_of}
use Rattle.definitions.specs.List.{list_of}
use Rattle.definitions.specs.Read.{paired, value_at, picture_of, same_records, is_list_of_block, is_list}
use Rattle.definitions.specs.Refusal.{first, bad_settings, bad_pixel}
use Rattle.definitions.specs.Combine.{combined, combined_list, bad_class_table}
use Rattle.definitions.specs.Calls.Combine.{combination, combine_refusal, combine, combine_keys, combine_bits}
use Rattle.definitions.proofs.Vectors.{VectorRow, row, RowHolds, of_counted, keys_a, bits_a, unwritten}

-- a map of side 2 with two features, and its list of five records
abbrev keys : List ℕ
keys = 0 ∷ 1 ∷ 2 ∷ 3 ∷ 4 ∷ []

abbrev bits : List ℕ
bits = 3 ∷ 1 ∷ 1 ∷ 1 ∷ 2 ∷ []

-- that map and a map of one feature, 1 of 2, of resolution m: settings, counts, table and room as given
abbrev asked : ℕ → ℕ → ℕ → ℕ → ℕ → ℕ → ℕ → List ℕ → ℕ → List ℕ
asked m₁ s₁ n₁ m₂ s₂ n₂ s₃ table room =
    of_counted (combine m₁ s₁ keys bits n₁ m₂ s₂ (0 ∷ []) (2 ∷ []) n₂ s₃ table (unwritten room) (unwritten 7))

-- a class for each of the four pairs
abbrev four : List ℕ
four = 0 ∷ 1 ∷ 2 ∷ 3 ∷ []

-- Map A with itself, through a table of nine entries
abbrev keys_with : List ℕ → List ℕ
keys_with table = combine_keys 2 3 (keys_a 0) (bits_a 0) 9 2 3 (keys_a 0) (bits_a 0) 9 3 table (unwritten 10) (unwritten 11)

abbrev bits_with : List ℕ → List ℕ
bits_with table = combine_bits 2 3 (keys_a 0) (bits_a 0) 9 2 3 (keys_a 0) (bits_a 0) 9 3 table (unwritten 10) (unwritten 11)

table : List VectorRow
table =
    -- class a * 2 + b, and the second feature is 1 everywhere
    row (asked 1 2 5 1 2 1 4 four 5) (0 ∷ 5 ∷ [])
    ∷ row (combine_keys 1 2 keys bits 5 1 2 (0 ∷ []) (2 ∷ []) 1 4 four (unwritten 6) (unwritten 5)) (0 ∷ 1 ∷ 2 ∷ 3 ∷ 4 ∷ 77 ∷ [])
    ∷ row (combine_bits 1 2 keys bits 5 1 2 (0 ∷ []) (2 ∷ []) 1 4 four (unwritten 6) (unwritten 5)) (10 ∷ 2 ∷ 2 ∷ 2 ∷ 8 ∷ [])
    -- one class for all is one record, so one place is enough
    ∷ row (asked 1 2 5 1 2 1 4 (0 ∷ 3 ∷ 0 ∷ 3 ∷ []) 1) (0 ∷ 1 ∷ [])
    -- Map A with itself: a diagonal table gives it back, the places past it stay
    ∷ row (keys_with (0 ∷ 2 ∷ 2 ∷ 2 ∷ 1 ∷ 2 ∷ 2 ∷ 2 ∷ 2 ∷ [])) (keys_a 0 ++ (77 ∷ []))
    ∷ row (bits_with (0 ∷ 2 ∷ 2 ∷ 2 ∷ 1 ∷ 2 ∷ 2 ∷ 2 ∷ 2 ∷ [])) (bits_a 0 ++ (77 ∷ 77 ∷ []))
    -- and a table that makes 1 and 2 alike merges its NE quadrant
    ∷ row (bits_with (0 ∷ 0 ∷ 0 ∷ 0 ∷ 2 ∷ 0 ∷ 0 ∷ 0 ∷ 2 ∷ [])) (5 ∷ 1 ∷ 4 ∷ 4 ∷ 1 ∷ 77 ∷ 77 ∷ 77 ∷ 77 ∷ 77 ∷ 77 ∷ [])
    -- 1 for each pair of settings and for the third s, 24, 4 for the first and for the second list, 25 for length and entry, 9
    ∷ row
    (asked 11 2 5 11 2 1 4 four 5
    ++ (asked 1 0 5 1 2 1 4 four 5
    ++ (asked 1 2 5 1 33 1 4 four 5
    ++ (asked 1 2 5 1 2 1 0 four 5
    ++ (asked 1 2 5 1 2 1 33 four 5
    ++ (asked 1 2 5 2 2 1 4 four 5
    ++ (asked 1 2 4 1 2 1 4 four 5
    ++ (asked 1 2 5 1 1 1 4 (0 ∷ 1 ∷ []) 5
    ++ (asked 1 2 5 1 2 1 4 (0 ∷ 1 ∷ 2 ∷ []) 5
    ++ (asked 1 2 5 1 2 1 4 (0 ∷ 1 ∷ 2 ∷ 3 ∷ 0 ∷ []) 5
    ++ (asked 1 2 5 1 2 1 3 four 5 ++ asked 1 2 5 1 2 1 4 four 4)))))))))))
    (1 ∷ 0 ∷ 1 ∷ 0 ∷ 1 ∷ 0 ∷ 1 ∷ 0 ∷ 1 ∷ 0 ∷ 24 ∷ 0 ∷ 4 ∷ 0 ∷ 4 ∷ 0 ∷ 25 ∷ 0 ∷ 25 ∷ 0 ∷ 25 ∷ 0 ∷ 9 ∷ 0 ∷ [])
    -- and neighbours at once: 1 and 24, 24 and 4 of either list, 4 and 25, 25 and 9
    ∷ row
    (asked 1 2 5 2 2 1 0 four 5
    ++ (asked 1 2 4 2 2 1 4 four 5
    ++ (asked 1 2 5 2 2 0 4 four 5
    ++ (asked 1 2 4 1 2 1 4 [] 5 ++ (asked 1 2 5 1 2 0 4 [] 5 ++ asked 1 2 5 1 2 1 3 four 4)))))
    (1 ∷ 0 ∷ 24 ∷ 0 ∷ 24 ∷ 0 ∷ 4 ∷ 0 ∷ 4 ∷ 0 ∷ 25 ∷ 0 ∷ [])
    ∷ []

claim : RowHolds table
unfolding
    table pixel_key every_pixel one_feature features_below bits_of union_of_four twos_in feature_of list_of
    paired value_at picture_of same_records is_list_of_block is_list
    first bad_settings bad_pixel
    combined combined_list bad_class_table combination combine_refusal combine combine_keys combine_bits
claim = refl
