-- Areas and summaries (specification S8): the summary of Map A and of small maps, areas in Map A, the keys of the summary's blocks, and the orders
-- of refusals of filling and area. One table under one claim, proved by computation.
use Prim.Native.Nat.{ℕ, zero, suc}
use mathlib.Core.Path.{refl}
use mathlib.Core.List.{List, [], ◌∷◌, ◌++◌}
use lib.ListN.{set}
use Rattle.keys.specs.Block.{pixel_key}
use Rattle.definitions.specs.Picture.{Picture, picture_of_raster, every_pixel, one_feature, features_below}
use Rattle.definitions.specs.Bits.{bits_of, union_of_four, twos_in, feature_of}
use Rattle.definitions.specs.List.{list_of}
use Rattle.definitions.specs.Read.{paired, value_at, picture_of, same_records, is_list_of_block, is_list}
use Rattle.definitions.specs.Refusal.{first, bad_settings}
use Rattle.definitions.specs.Window.{is_window, features_of_row, features_of_rows, features_in}
use Rattle.definitions.specs.Area.{count_of, area_in, pixels_with, counts_from, summary_below, summary_of, key_below, block_key, same_numbers, no_summary}
use Rattle.definitions.specs.Calls.FillSummary.{fill_refusal, filled_summary}
use Rattle.definitions.specs.Calls.Area.{area_refusal, area}
use Rattle.definitions.specs.declared.Window.{Window}
use Rattle.definitions.specs.declared.Measured.{Measured}
use Rattle.definitions.proofs.Vectors.{VectorRow, row, RowHolds, key, window, map_a, keys_a, bits_a, unwritten}

abbrev picture_a : Picture
picture_a = picture_of_raster 2 map_a

-- the counts of blocks of one pixel each, at s = 3
abbrev pub areas_counted : List ℕ → List ℕ
areas_counted [] = []
areas_counted (zero ∷ pixels) = 1 ∷ 0 ∷ 0 ∷ areas_counted pixels
areas_counted (suc zero ∷ pixels) = 0 ∷ 1 ∷ 0 ∷ areas_counted pixels
areas_counted (suc (suc f) ∷ pixels) = 0 ∷ 0 ∷ 1 ∷ areas_counted pixels

-- Map A's pixels in key order: NW, NE, SW, SE
abbrev pub summary_a : List ℕ
summary_a = areas_counted (0 ∷ 0 ∷ 0 ∷ 0 ∷ 1 ∷ 1 ∷ 1 ∷ 2 ∷ 2 ∷ 2 ∷ 2 ∷ 2 ∷ 0 ∷ 0 ∷ 0 ∷ 0 ∷ [])

-- the areas of the three features in a window of Map A
abbrev areas_a : Window → List ℕ
areas_a w = area_in picture_a w 0 ∷ area_in picture_a w 1 ∷ area_in picture_a w 2 ∷ []

-- m = 3, s = 2: feature 1 at the first pixel and in the whole last row
abbrev last_row : List ℕ
last_row =
    (1 ∷ 0 ∷ 0 ∷ 0 ∷ 0 ∷ 0 ∷ 0 ∷ 0 ∷ [])
    ++ (zeros ++ (zeros ++ (zeros ++ (zeros ++ (zeros ++ (zeros ++ (1 ∷ 1 ∷ 1 ∷ 1 ∷ 1 ∷ 1 ∷ 1 ∷ 1 ∷ [])))))))
  where
    zeros : List ℕ
    zeros = 0 ∷ 0 ∷ 0 ∷ 0 ∷ 0 ∷ 0 ∷ 0 ∷ 0 ∷ []

abbrev of_measured : Measured → List ℕ
of_measured r = r.refusal ∷ r.pixels ∷ []

-- area of feature f in a window of Map A, at m, s and n, with a summary
abbrev asked : ℕ → ℕ → ℕ → List ℕ → Window → ℕ → List ℕ
asked m s n summary w f = of_measured (area m s (keys_a 0) (bits_a 0) n summary w f)

table : List VectorRow
table =
    -- the summary of Map A has 16 blocks of one pixel
    row (summary_of 2 3 picture_a) summary_a
    -- m = 0: one block, which is the map
    ∷ row (summary_of 0 2 (picture_of_raster 0 (1 ∷ []))) (0 ∷ 1 ∷ [])
    -- m = 1: four
    ∷ row (summary_of 1 2 (picture_of_raster 1 (0 ∷ 1 ∷ 1 ∷ 1 ∷ []))) (1 ∷ 0 ∷ 0 ∷ 1 ∷ 0 ∷ 1 ∷ 0 ∷ 1 ∷ [])
    -- m = 3: 16 of four pixels
    ∷ row (summary_of 3 2 (picture_of_raster 3 last_row))
    ((3 ∷ 1 ∷ 4 ∷ 0 ∷ 4 ∷ 0 ∷ 4 ∷ 0 ∷ [])
    ++ ((4 ∷ 0 ∷ 4 ∷ 0 ∷ 4 ∷ 0 ∷ 4 ∷ 0 ∷ []) ++ ((4 ∷ 0 ∷ 4 ∷ 0 ∷ 2 ∷ 2 ∷ 2 ∷ 2 ∷ []) ++ (4 ∷ 0 ∷ 4 ∷ 0 ∷ 2 ∷ 2 ∷ 2 ∷ 2 ∷ []))))
    -- the keys of blocks: at m = 2 the first, 6 and the last, at m = 3 block 6, at m = 1 block 2, at m = 0 the root
    ∷ row (block_key 2 0 ∷ block_key 2 6 ∷ block_key 2 15 ∷ block_key 3 6 ∷ block_key 1 2 ∷ block_key 0 0 ∷ [])
    (key (1 ∷ 1 ∷ []) ∷ key (2 ∷ 3 ∷ []) ∷ key (4 ∷ 4 ∷ []) ∷ key (2 ∷ 3 ∷ 0 ∷ []) ∷ key (3 ∷ []) ∷ 0 ∷ [])
    -- areas in Map A: the whole sheet, the NE quadrant, a window over all four quadrants, and a pixel
    ∷ row (areas_a (window 0 0 4 4)) (8 ∷ 3 ∷ 5 ∷ [])
    ∷ row (areas_a (window 0 2 2 2)) (0 ∷ 3 ∷ 1 ∷ [])
    ∷ row (areas_a (window 1 1 2 2)) (2 ∷ 1 ∷ 1 ∷ [])
    ∷ row (areas_a (window 0 1 3 3)) (4 ∷ 3 ∷ 2 ∷ [])
    ∷ row (areas_a (window 1 3 1 1)) (0 ∷ 0 ∷ 1 ∷ [])
    -- filling writes every place; a refused call none
    ∷ row (filled_summary 2 3 (keys_a 1) (bits_a 1) 9 (unwritten 48)) summary_a
    ∷ row (filled_summary 2 3 (keys_a 1) (bits_a 1) 8 (unwritten 3)) (unwritten 3)
    -- 1, 4, 18 alone, and neighbours at once
    ∷ row
    (fill_refusal 11 3 (keys_a 0) (bits_a 0) 9 (unwritten 48)
    ∷ fill_refusal 2 3 (keys_a 0) (bits_a 0) 8 (unwritten 48)
    ∷ fill_refusal 2 3 (keys_a 0) (bits_a 0) 9 (unwritten 47)
    ∷ fill_refusal 2 3 (keys_a 0) (bits_a 0) 9 (unwritten 49)
    ∷ fill_refusal 2 0 (keys_a 0) (bits_a 0) 8 (unwritten 48)
    ∷ fill_refusal 2 3 (keys_a 0) (bits_a 0) 8 (unwritten 47)
    ∷ [])
    (1 ∷ 4 ∷ 18 ∷ 18 ∷ 1 ∷ 4 ∷ [])
    -- area, asked of the list
    ∷ row (asked 2 3 9 summary_a (window 0 1 3 3) 1) (0 ∷ 3 ∷ [])
    -- 1, 4, 18 (too short, too long, one number off), 6, 7 alone
    ∷ row
    (asked 2 33 9 summary_a (window 0 1 3 3) 1
    ++ (asked 2 3 8 summary_a (window 0 1 3 3) 1
    ++ (asked 2 3 9 [] (window 0 1 3 3) 1
    ++ (asked 2 3 9 (summary_a ++ (0 ∷ [])) (window 0 1 3 3) 1
    ++ (asked 2 3 9 (set summary_a 47 1) (window 0 1 3 3) 1
    ++ (asked 2 3 9 summary_a (window 0 2 1 3) 1 ++ asked 2 3 9 summary_a (window 0 1 3 3) 3))))))
    (1 ∷ 0 ∷ 4 ∷ 0 ∷ 18 ∷ 0 ∷ 18 ∷ 0 ∷ 18 ∷ 0 ∷ 6 ∷ 0 ∷ 7 ∷ 0 ∷ [])
    -- and neighbours at once
    ∷ row
    (asked 2 33 8 summary_a (window 0 1 3 3) 1
    ++ (asked 2 3 8 [] (window 0 1 3 3) 1 ++ (asked 2 3 9 [] (window 0 2 1 3) 1 ++ asked 2 3 9 summary_a (window 0 2 1 3) 3)))
    (1 ∷ 0 ∷ 4 ∷ 0 ∷ 18 ∷ 0 ∷ 6 ∷ 0 ∷ [])
    ∷ []

claim : RowHolds table
unfolding
    table pixel_key every_pixel one_feature features_below bits_of union_of_four twos_in feature_of list_of
    paired value_at picture_of same_records is_list_of_block is_list
    first bad_settings
    is_window features_of_row features_of_rows features_in
    count_of area_in pixels_with counts_from summary_below summary_of key_below block_key same_numbers no_summary
    fill_refusal filled_summary area_refusal area
claim = refl
