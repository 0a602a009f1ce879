-- Groups on Map A (specification S10 to S12): a window is painted as one step, taken back and redone whole; the list is
-- full only if the end result does not fit; and what is no group is refused with 5. Worked out by hand from Map A's rows 0011, 0012, 2200, 2200. One table
-- under one claim, proved by computation.
use Prim.Native.Nat.{ℕ}
use mathlib.Core.Path.{refl}
use mathlib.Core.List.{List, [], ◌∷◌, ◌++◌}
use lib.ListN.{set}
use Rattle.keys.specs.Key.{valid_key, digits_of, digits_then_zeros, only_zeros, level_of, digits_before_zero, height_of}
use Rattle.keys.specs.Block.{row_of, column_of, side_of, in_block, pixel_key}
use Rattle.definitions.specs.Picture.{every_pixel, one_feature, features_below}
use Rattle.definitions.specs.Bits.{bits_of, union_of_four, twos_in, feature_of}
use Rattle.definitions.specs.List.{list_of}
use Rattle.definitions.specs.Read.{paired, value_at, picture_of, same_records, is_list_of_block, is_list}
use Rattle.definitions.specs.Refusal.{first, bad_settings, bad_length, bad_pixel}
use Rattle.definitions.specs.Window.{is_window, in_window, features_of_row, features_of_rows, is_inside, blocks_from, largest_blocks}
use Rattle.definitions.specs.Area.{count_of, pixels_with, counts_from, summary_below, summary_of, same_numbers, no_summary}
use Rattle.definitions.specs.Edit.{put, paint_in, fill_window, content_of}
use Rattle.definitions.specs.Log.{closed, entry_of, count_record, last_record, last_key, last_feature, last_count, before_last, last_content, is_content, closes, last_is_entry, grouped, entries_of, group_of, ends_in_mark, step_count, step_entries, before_entries, before_step, ends_in_entries, last_is_group, last_is_step, divides_in, is_sound, put_back, paint_again, first_in, first_step, no_log}
use Rattle.definitions.specs.Calls.Edit.{edit_refusal, edit_answer, keys_left, bits_left, summary_left, log_keys_left, log_values_left}
use Rattle.definitions.specs.Calls.Paint.{gained, paint}
use Rattle.definitions.specs.Calls.PaintWindow.{group_gained, paint_window}
use Rattle.definitions.specs.Calls.TakeBack.{take_back}
use Rattle.definitions.specs.Calls.Redo.{redo}
use Rattle.definitions.proofs.Vectors.{VectorRow, row, RowHolds, key, slots, window, of_edited, keys_a, bits_a, unwritten}
use Rattle.definitions.proofs.AreaVectors.{areas_counted, summary_a}

-- the window of rows 0 and 1, columns 1 to 3, has the largest blocks 12, 14 and 20; painted with 2 it leaves 0222, 0222, 2200, 2200
abbrev keys_w : List ℕ
keys_w =
    key (0 ∷ 0 ∷ []) ∷ key (1 ∷ 0 ∷ []) ∷ key (1 ∷ 1 ∷ []) ∷ key (1 ∷ 2 ∷ []) ∷ key (1 ∷ 3 ∷ []) ∷ key (1 ∷ 4 ∷ [])
    ∷ key (2 ∷ 0 ∷ []) ∷ key (3 ∷ 0 ∷ []) ∷ key (4 ∷ 0 ∷ []) ∷ []

abbrev bits_w : List ℕ
bits_w =
    slots (1 ∷ 0 ∷ 1 ∷ []) ∷ slots (1 ∷ 0 ∷ 1 ∷ []) ∷ slots (1 ∷ 0 ∷ 0 ∷ []) ∷ slots (0 ∷ 0 ∷ 1 ∷ []) ∷ slots (1 ∷ 0 ∷ 0 ∷ []) ∷ slots (0 ∷ 0 ∷ 1 ∷ [])
    ∷ slots (0 ∷ 0 ∷ 1 ∷ []) ∷ slots (0 ∷ 0 ∷ 1 ∷ []) ∷ slots (1 ∷ 0 ∷ 0 ∷ []) ∷ []

abbrev summary_w : List ℕ
summary_w = areas_counted (0 ∷ 2 ∷ 0 ∷ 2 ∷ 2 ∷ 2 ∷ 2 ∷ 2 ∷ 2 ∷ 2 ∷ 2 ∷ 2 ∷ 0 ∷ 0 ∷ 0 ∷ 0 ∷ [])

-- its group: two blocks inside the leaf 10, the five records of 20, and the closing records with 3 and the mark
abbrev log_keys_w : List ℕ
log_keys_w =
    key (1 ∷ 2 ∷ []) ∷ key (1 ∷ 2 ∷ []) ∷ key (1 ∷ 2 ∷ [])
    ∷ key (1 ∷ 4 ∷ []) ∷ key (1 ∷ 4 ∷ []) ∷ key (1 ∷ 4 ∷ [])
    ∷ key (2 ∷ 0 ∷ []) ∷ key (2 ∷ 1 ∷ []) ∷ key (2 ∷ 2 ∷ []) ∷ key (2 ∷ 3 ∷ []) ∷ key (2 ∷ 4 ∷ []) ∷ key (2 ∷ 0 ∷ []) ∷ key (2 ∷ 0 ∷ [])
    ∷ 0 ∷ 0 ∷ 77 ∷ []

abbrev log_values_w : List ℕ
log_values_w =
    slots (1 ∷ 0 ∷ 0 ∷ []) ∷ 1 ∷ 2
    ∷ slots (1 ∷ 0 ∷ 0 ∷ []) ∷ 1 ∷ 2
    ∷ slots (0 ∷ 1 ∷ 1 ∷ []) ∷ slots (0 ∷ 1 ∷ 0 ∷ []) ∷ slots (0 ∷ 1 ∷ 0 ∷ []) ∷ slots (0 ∷ 1 ∷ 0 ∷ []) ∷ slots (0 ∷ 0 ∷ 1 ∷ []) ∷ 5 ∷ 2
    ∷ 3 ∷ 255 ∷ 77 ∷ []

-- a group of one, an entry, and a count of two over both: a second count inside a group
abbrev nested_keys : List ℕ
nested_keys = 7 ∷ 7 ∷ 7 ∷ 0 ∷ 0 ∷ 9 ∷ 9 ∷ 9 ∷ 0 ∷ 0 ∷ []

abbrev nested_values : List ℕ
nested_values = 1 ∷ 1 ∷ 2 ∷ 1 ∷ 255 ∷ 1 ∷ 1 ∷ 2 ∷ 2 ∷ 255 ∷ []

-- a group from another map: block 20 and then block 21, which lies in it
abbrev overlap_keys : List ℕ
overlap_keys = key (2 ∷ 0 ∷ []) ∷ key (2 ∷ 0 ∷ []) ∷ key (2 ∷ 0 ∷ []) ∷ key (2 ∷ 1 ∷ []) ∷ key (2 ∷ 1 ∷ []) ∷ key (2 ∷ 1 ∷ []) ∷ 0 ∷ 0 ∷ []

abbrev overlap_values : List ℕ
overlap_values = slots (1 ∷ 0 ∷ 0 ∷ []) ∷ 1 ∷ 2 ∷ slots (0 ∷ 1 ∷ 0 ∷ []) ∷ 1 ∷ 1 ∷ 2 ∷ 255 ∷ []

table : List VectorRow
table =
    row (largest_blocks 2 (window 0 1 2 3)) (key (1 ∷ 2 ∷ []) ∷ key (1 ∷ 4 ∷ []) ∷ key (2 ∷ 0 ∷ []) ∷ [])
    -- painted, into exactly the nine places that the list has then; its first block alone would need thirteen
    ∷ row (of_edited (edit_answer (paint_window 2 3 (keys_a 0) (bits_a 0) 9 summary_a (unwritten 16) (unwritten 16) 0 0 (window 0 1 2 3) 2))) (0 ∷ 9 ∷ 15 ∷ 15 ∷ [])
    ∷ row (of_edited (edit_answer (paint 2 3 (keys_a 0) (bits_a 0) 9 summary_a (unwritten 16) (unwritten 16) 0 0 (key (1 ∷ 2 ∷ [])) 2))) (9 ∷ 0 ∷ 0 ∷ 0 ∷ [])
    ∷ row (keys_left (paint_window 2 3 (keys_a 0) (bits_a 0) 9 summary_a (unwritten 16) (unwritten 16) 0 0 (window 0 1 2 3) 2)) keys_w
    ∷ row (bits_left (paint_window 2 3 (keys_a 0) (bits_a 0) 9 summary_a (unwritten 16) (unwritten 16) 0 0 (window 0 1 2 3) 2)) bits_w
    ∷ row (summary_left (paint_window 2 3 (keys_a 0) (bits_a 0) 9 summary_a (unwritten 16) (unwritten 16) 0 0 (window 0 1 2 3) 2)) summary_w
    ∷ row (log_keys_left (paint_window 2 3 (keys_a 0) (bits_a 0) 9 summary_a (unwritten 16) (unwritten 16) 0 0 (window 0 1 2 3) 2)) log_keys_w
    ∷ row (log_values_left (paint_window 2 3 (keys_a 0) (bits_a 0) 9 summary_a (unwritten 16) (unwritten 16) 0 0 (window 0 1 2 3) 2)) log_values_w
    -- 10 counts the whole group
    ∷ row (of_edited (edit_answer (paint_window 2 3 (keys_a 0) (bits_a 0) 9 summary_a (unwritten 14) (unwritten 14) 0 0 (window 0 1 2 3) 2))) (10 ∷ 0 ∷ 0 ∷ 0 ∷ [])
    -- 6 where 8 stood, before 7
    ∷ row (of_edited (edit_answer (paint_window 2 3 (keys_a 0) (bits_a 0) 9 summary_a (unwritten 16) (unwritten 16) 0 0 (window 0 1 2 4) 3))) (6 ∷ 0 ∷ 0 ∷ 0 ∷ [])
    ∷ row (of_edited (edit_answer (paint_window 2 3 (keys_a 0) (bits_a 0) 9 summary_a (unwritten 16) (unwritten 16) 0 0 (window 0 1 2 3) 3))) (7 ∷ 0 ∷ 0 ∷ 0 ∷ [])
    -- 1 before 4, 4 before 18, 18 before 5, 5 before 6, 7 before 10, 10 before 9, and 9
    ∷ row (of_edited (edit_answer (paint_window 2 0 (keys_a 0) (bits_a 0) 8 summary_a (unwritten 16) (unwritten 16) 0 0 (window 0 1 2 3) 2))) (1 ∷ 0 ∷ 0 ∷ 0 ∷ [])
    ∷ row (of_edited (edit_answer (paint_window 2 3 (keys_a 0) (bits_a 0) 8 [] (unwritten 16) (unwritten 16) 0 0 (window 0 1 2 3) 2))) (4 ∷ 0 ∷ 0 ∷ 0 ∷ [])
    ∷ row (of_edited (edit_answer (paint_window 2 3 (keys_a 0) (bits_a 0) 9 [] (unwritten 16) (unwritten 16) 4 4 (window 0 1 2 3) 2))) (18 ∷ 0 ∷ 0 ∷ 0 ∷ [])
    ∷ row (of_edited (edit_answer (paint_window 2 3 (keys_a 0) (bits_a 0) 9 summary_a (unwritten 16) (unwritten 16) 4 4 (window 0 1 2 4) 2))) (5 ∷ 0 ∷ 0 ∷ 0 ∷ [])
    ∷ row (of_edited (edit_answer (paint_window 2 3 (keys_a 0) (bits_a 0) 9 summary_a (unwritten 14) (unwritten 14) 0 0 (window 0 1 2 3) 3))) (7 ∷ 0 ∷ 0 ∷ 0 ∷ [])
    ∷ row (of_edited (edit_answer (paint_window 2 3 (keys_a 0) (bits_a 0) 9 summary_a (unwritten 4) (unwritten 5) 0 0 (window 0 1 1 1) 2))) (10 ∷ 0 ∷ 0 ∷ 0 ∷ [])
    ∷ row (of_edited (edit_answer (paint_window 2 3 (keys_a 0) (bits_a 0) 9 summary_a (unwritten 5) (unwritten 5) 0 0 (window 0 1 1 1) 2))) (9 ∷ 0 ∷ 0 ∷ 0 ∷ [])
    -- taken back whole, and redone whole, in the same nine places
    ∷ row (of_edited (edit_answer (take_back 2 3 keys_w bits_w 9 summary_w log_keys_w log_values_w 15 15))) (0 ∷ 9 ∷ 15 ∷ 0 ∷ [])
    ∷ row (keys_left (take_back 2 3 keys_w bits_w 9 summary_w log_keys_w log_values_w 15 15)) (keys_a 0)
    ∷ row (bits_left (take_back 2 3 keys_w bits_w 9 summary_w log_keys_w log_values_w 15 15)) (bits_a 0)
    ∷ row (summary_left (take_back 2 3 keys_w bits_w 9 summary_w log_keys_w log_values_w 15 15)) summary_a
    ∷ row (log_keys_left (take_back 2 3 keys_w bits_w 9 summary_w log_keys_w log_values_w 15 15)) log_keys_w
    ∷ row (of_edited (edit_answer (redo 2 3 (keys_a 0) (bits_a 0) 9 summary_a log_keys_w log_values_w 15 0))) (0 ∷ 9 ∷ 15 ∷ 15 ∷ [])
    ∷ row (keys_left (redo 2 3 (keys_a 0) (bits_a 0) 9 summary_a log_keys_w log_values_w 15 0)) keys_w
    ∷ row (bits_left (redo 2 3 (keys_a 0) (bits_a 0) 9 summary_a log_keys_w log_values_w 15 0)) bits_w
    -- a window that is one block, and one that is the whole sheet, give a group of one; one that changes no pixel is logged
    ∷ row (of_edited (edit_answer (paint_window 2 3 (keys_a 0) (bits_a 0) 9 summary_a (unwritten 16) (unwritten 16) 0 0 (window 0 2 2 2) 2))) (0 ∷ 5 ∷ 9 ∷ 9 ∷ [])
    ∷ row (of_edited (edit_answer (paint_window 2 3 (keys_a 0) (bits_a 0) 9 summary_a (unwritten 16) (unwritten 16) 0 0 (window 0 0 4 4) 1))) (0 ∷ 1 ∷ 13 ∷ 13 ∷ [])
    ∷ row (of_edited (edit_answer (paint_window 2 3 (keys_a 0) (bits_a 0) 9 summary_a (unwritten 16) (unwritten 16) 0 0 (window 0 0 2 2) 0))) (0 ∷ 9 ∷ 5 ∷ 5 ∷ [])
    -- 5: a number of 0, one that exceeds the entries before it, a count with another key, the mark behind another key
    ∷ row (of_edited (edit_answer (take_back 2 3 keys_w bits_w 9 summary_w log_keys_w (set log_values_w 13 0) 15 15))) (5 ∷ 0 ∷ 0 ∷ 0 ∷ [])
    ∷ row (of_edited (edit_answer (take_back 2 3 keys_w bits_w 9 summary_w log_keys_w (set log_values_w 13 4) 15 15))) (5 ∷ 0 ∷ 0 ∷ 0 ∷ [])
    ∷ row (of_edited (edit_answer (take_back 2 3 keys_w bits_w 9 summary_w (set log_keys_w 13 7) log_values_w 15 15))) (5 ∷ 0 ∷ 0 ∷ 0 ∷ [])
    ∷ row (of_edited (edit_answer (take_back 2 3 keys_w bits_w 9 summary_w (set log_keys_w 14 7) log_values_w 15 15))) (5 ∷ 0 ∷ 0 ∷ 0 ∷ [])
    -- 5: a second count inside a group, and the count in force inside a group
    ∷ row (of_edited (edit_answer (take_back 2 3 keys_w bits_w 9 summary_w nested_keys nested_values 10 10))) (5 ∷ 0 ∷ 0 ∷ 0 ∷ [])
    ∷ row (of_edited (edit_answer (take_back 2 3 keys_w bits_w 9 summary_w nested_keys nested_values 8 8))) (0 ∷ 9 ∷ 8 ∷ 5 ∷ [])
    ∷ row (of_edited (edit_answer (redo 2 3 (keys_a 0) (bits_a 0) 9 summary_a log_keys_w log_values_w 15 3))) (5 ∷ 0 ∷ 0 ∷ 0 ∷ [])
    -- a number below the entries before it is sound: the first entry stands alone, and stays in force
    ∷ row (of_edited (edit_answer (take_back 2 3 (keys_w ++ (0 ∷ 0 ∷ 0 ∷ 0 ∷ [])) (bits_w ++ (0 ∷ 0 ∷ 0 ∷ 0 ∷ [])) 9 summary_w log_keys_w (set log_values_w 13 2) 15 15))) (0 ∷ 13 ∷ 15 ∷ 3 ∷ [])
    ∷ row (of_edited (edit_answer (redo 2 3 keys_w bits_w 9 summary_w log_keys_w (set log_values_w 13 2) 15 3))) (0 ∷ 9 ∷ 15 ∷ 15 ∷ [])
    -- blocks that overlap: taken back last to first the first entry's content stays, redone first to last the last entry's feature
    ∷ row (of_edited (edit_answer (take_back 2 3 (keys_a 1) (bits_a 1) 9 summary_a overlap_keys overlap_values 8 8))) (0 ∷ 5 ∷ 8 ∷ 0 ∷ [])
    ∷ row (of_edited (edit_answer (redo 2 3 (keys_a 1) (bits_a 1) 9 summary_a overlap_keys overlap_values 8 0))) (0 ∷ 9 ∷ 8 ∷ 8 ∷ [])
    ∷ []

claim : RowHolds table
unfolding
    table valid_key digits_of digits_then_zeros only_zeros level_of digits_before_zero height_of row_of column_of side_of in_block pixel_key
    every_pixel one_feature features_below bits_of union_of_four twos_in feature_of list_of
    paired value_at picture_of same_records is_list_of_block is_list
    first bad_settings bad_length bad_pixel
    is_window in_window features_of_row features_of_rows is_inside blocks_from largest_blocks
    count_of pixels_with counts_from summary_below summary_of same_numbers no_summary
    put paint_in fill_window content_of
    closed entry_of count_record last_record last_key last_feature last_count before_last last_content is_content closes last_is_entry
    grouped entries_of group_of ends_in_mark step_count step_entries before_entries before_step ends_in_entries last_is_group last_is_step divides_in is_sound put_back paint_again
    first_in first_step no_log
    gained
    group_gained
    edit_refusal edit_answer keys_left bits_left summary_left log_keys_left log_values_left
claim = refl
