-- Redo on Map A (specification S12.8): an entry that was taken back is redone, a paint drops what could be redone and zeroes its places, whether the new entry
-- is longer or shorter, and a refused paint drops nothing. One table under one claim, proved by computation.
use Prim.Native.Nat.{ℕ}
use mathlib.Core.Path.{refl}
use mathlib.Core.List.{List, [], ◌∷◌}
use lib.ListN.{take}
use Rattle.keys.specs.Key.{valid_key, digits_of, digits_then_zeros, only_zeros, level_of, digits_before_zero, height_of}
use Rattle.keys.specs.Block.{row_of, column_of, side_of, in_block, pixel_key}
use Rattle.definitions.specs.Picture.{every_pixel, one_feature, features_below}
use Rattle.definitions.specs.Bits.{bits_of, union_of_four, twos_in, feature_of}
use Rattle.definitions.specs.List.{list_of}
use Rattle.definitions.specs.Read.{paired, value_at, picture_of, same_records, is_list_of_block, is_list}
use Rattle.definitions.specs.Refusal.{first, bad_settings, bad_length, bad_pixel}
use Rattle.definitions.specs.Window.{features_of_row, features_of_rows}
use Rattle.definitions.specs.Area.{count_of, pixels_with, counts_from, summary_below, summary_of, same_numbers, no_summary}
use Rattle.definitions.specs.Edit.{put, paint_in, content_of}
use Rattle.definitions.specs.Log.{closed, entry_of, count_record, last_record, last_key, last_feature, last_count, before_last, last_content, is_content, closes, last_is_entry, ends_in_mark, step_count, step_entries, before_entries, before_step, ends_in_entries, last_is_group, last_is_step, divides_in, is_sound, put_back, paint_again, first_in, first_step, no_log}
use Rattle.definitions.specs.Calls.Edit.{edit_refusal, edit_answer, keys_left, bits_left, summary_left, log_keys_left, log_values_left}
use Rattle.definitions.specs.Calls.Paint.{gained, paint}
use Rattle.definitions.specs.Calls.TakeBack.{take_back}
use Rattle.definitions.specs.Calls.Redo.{redo}
use Rattle.definitions.proofs.Vectors.{VectorRow, row, RowHolds, key, slots, of_edited, keys_a, bits_a, unwritten}
use Rattle.definitions.proofs.AreaVectors.{areas_counted, summary_a}

-- the list after A9's paint of 24 with 1
abbrev keys_p : List ℕ
keys_p = key (0 ∷ 0 ∷ []) ∷ key (1 ∷ 0 ∷ []) ∷ key (2 ∷ 0 ∷ []) ∷ key (3 ∷ 0 ∷ []) ∷ key (4 ∷ 0 ∷ []) ∷ 0 ∷ 0 ∷ 0 ∷ 0 ∷ 99 ∷ []

abbrev bits_p : List ℕ
bits_p = slots (1 ∷ 1 ∷ 1 ∷ []) ∷ slots (1 ∷ 0 ∷ 0 ∷ []) ∷ slots (0 ∷ 1 ∷ 0 ∷ []) ∷ slots (0 ∷ 0 ∷ 1 ∷ []) ∷ slots (1 ∷ 0 ∷ 0 ∷ []) ∷ 0 ∷ 0 ∷ 0 ∷ 0 ∷ 99 ∷ []

abbrev summary_p : List ℕ
summary_p = areas_counted (0 ∷ 0 ∷ 0 ∷ 0 ∷ 1 ∷ 1 ∷ 1 ∷ 1 ∷ 2 ∷ 2 ∷ 2 ∷ 2 ∷ 0 ∷ 0 ∷ 0 ∷ 0 ∷ [])

-- the log after it, of nine places
abbrev log_keys_p : List ℕ
log_keys_p = key (2 ∷ 4 ∷ []) ∷ key (2 ∷ 4 ∷ []) ∷ key (2 ∷ 4 ∷ []) ∷ 77 ∷ 77 ∷ 77 ∷ 77 ∷ 77 ∷ 77 ∷ []

abbrev log_values_p : List ℕ
log_values_p = slots (0 ∷ 0 ∷ 1 ∷ []) ∷ 1 ∷ 1 ∷ 77 ∷ 77 ∷ 77 ∷ 77 ∷ 77 ∷ 77 ∷ []

-- the log after A12's paint of 20 with 2, whose entry is longer
abbrev log_keys_l : List ℕ
log_keys_l = key (2 ∷ 0 ∷ []) ∷ key (2 ∷ 1 ∷ []) ∷ key (2 ∷ 2 ∷ []) ∷ key (2 ∷ 3 ∷ []) ∷ key (2 ∷ 4 ∷ []) ∷ key (2 ∷ 0 ∷ []) ∷ key (2 ∷ 0 ∷ []) ∷ 77 ∷ 77 ∷ []

abbrev log_values_l : List ℕ
log_values_l = slots (0 ∷ 1 ∷ 1 ∷ []) ∷ slots (0 ∷ 1 ∷ 0 ∷ []) ∷ slots (0 ∷ 1 ∷ 0 ∷ []) ∷ slots (0 ∷ 1 ∷ 0 ∷ []) ∷ slots (0 ∷ 0 ∷ 1 ∷ []) ∷ 5 ∷ 2 ∷ 77 ∷ 77 ∷ []

-- and after A9 over the longer entry, taken back
abbrev short_keys : List ℕ
short_keys = key (2 ∷ 4 ∷ []) ∷ key (2 ∷ 4 ∷ []) ∷ key (2 ∷ 4 ∷ []) ∷ 0 ∷ 0 ∷ 0 ∷ 0 ∷ 77 ∷ 77 ∷ []

abbrev short_values : List ℕ
short_values = slots (0 ∷ 0 ∷ 1 ∷ []) ∷ 1 ∷ 1 ∷ 0 ∷ 0 ∷ 0 ∷ 0 ∷ 77 ∷ 77 ∷ []

table : List VectorRow
table =
    -- the entries of A9 and A12
    row (log_keys_left (paint 2 3 (keys_a 1) (bits_a 1) 9 summary_a (unwritten 9) (unwritten 9) 0 0 (key (2 ∷ 4 ∷ [])) 1)) log_keys_p
    ∷ row (log_values_left (paint 2 3 (keys_a 1) (bits_a 1) 9 summary_a (unwritten 9) (unwritten 9) 0 0 (key (2 ∷ 4 ∷ [])) 1)) log_values_p
    ∷ row (log_keys_left (paint 2 3 (keys_a 1) (bits_a 1) 9 summary_a (unwritten 9) (unwritten 9) 0 0 (key (2 ∷ 0 ∷ [])) 2)) log_keys_l
    ∷ row (log_values_left (paint 2 3 (keys_a 1) (bits_a 1) 9 summary_a (unwritten 9) (unwritten 9) 0 0 (key (2 ∷ 0 ∷ [])) 2)) log_values_l
    -- A10 leaves the entry to be redone
    ∷ row (of_edited (edit_answer (take_back 2 3 keys_p bits_p 5 summary_p log_keys_p log_values_p 3 3))) (0 ∷ 9 ∷ 3 ∷ 0 ∷ [])
    ∷ row (log_keys_left (take_back 2 3 keys_p bits_p 5 summary_p log_keys_p log_values_p 3 3)) log_keys_p
    -- redone it is A9 again, and the log stays
    ∷ row (of_edited (edit_answer (redo 2 3 (keys_a 1) (bits_a 1) 9 summary_a log_keys_p log_values_p 3 0))) (0 ∷ 5 ∷ 3 ∷ 3 ∷ [])
    ∷ row (keys_left (redo 2 3 (keys_a 1) (bits_a 1) 9 summary_a log_keys_p log_values_p 3 0)) keys_p
    ∷ row (bits_left (redo 2 3 (keys_a 1) (bits_a 1) 9 summary_a log_keys_p log_values_p 3 0)) bits_p
    ∷ row (summary_left (redo 2 3 (keys_a 1) (bits_a 1) 9 summary_a log_keys_p log_values_p 3 0)) summary_p
    ∷ row (log_keys_left (redo 2 3 (keys_a 1) (bits_a 1) 9 summary_a log_keys_p log_values_p 3 0)) log_keys_p
    ∷ row (log_values_left (redo 2 3 (keys_a 1) (bits_a 1) 9 summary_a log_keys_p log_values_p 3 0)) log_values_p
    -- with none in force nothing is taken back, with all in force nothing is redone
    ∷ row (of_edited (edit_answer (take_back 2 3 (keys_a 1) (bits_a 1) 9 summary_a log_keys_p log_values_p 3 0))) (11 ∷ 0 ∷ 0 ∷ 0 ∷ [])
    ∷ row (of_edited (edit_answer (redo 2 3 keys_p bits_p 5 summary_p log_keys_p log_values_p 3 3))) (20 ∷ 0 ∷ 0 ∷ 0 ∷ [])
    -- a refused paint drops nothing: 33 with 0 has no room for 13 records
    ∷ row (of_edited (edit_answer (paint 2 3 (keys_a 1) (bits_a 1) 9 summary_a log_keys_p log_values_p 3 0 (key (3 ∷ 3 ∷ [])) 0))) (9 ∷ 0 ∷ 0 ∷ 0 ∷ [])
    ∷ row (log_keys_left (paint 2 3 (keys_a 1) (bits_a 1) 9 summary_a log_keys_p log_values_p 3 0 (key (3 ∷ 3 ∷ [])) 0)) log_keys_p
    ∷ row (log_values_left (paint 2 3 (keys_a 1) (bits_a 1) 9 summary_a log_keys_p log_values_p 3 0 (key (3 ∷ 3 ∷ [])) 0)) log_values_p
    -- a longer entry goes over one that is dropped
    ∷ row (of_edited (edit_answer (paint 2 3 (keys_a 1) (bits_a 1) 9 summary_a log_keys_p log_values_p 3 0 (key (2 ∷ 0 ∷ [])) 2))) (0 ∷ 5 ∷ 7 ∷ 7 ∷ [])
    ∷ row (log_keys_left (paint 2 3 (keys_a 1) (bits_a 1) 9 summary_a log_keys_p log_values_p 3 0 (key (2 ∷ 0 ∷ [])) 2)) log_keys_l
    ∷ row (log_values_left (paint 2 3 (keys_a 1) (bits_a 1) 9 summary_a log_keys_p log_values_p 3 0 (key (2 ∷ 0 ∷ [])) 2)) log_values_l
    -- a shorter one too, and what it leaves of the dropped places becomes zero; then there is nothing to redo
    ∷ row (of_edited (edit_answer (paint 2 3 (keys_a 1) (bits_a 1) 9 summary_a log_keys_l log_values_l 7 0 (key (2 ∷ 4 ∷ [])) 1))) (0 ∷ 5 ∷ 3 ∷ 3 ∷ [])
    ∷ row (log_keys_left (paint 2 3 (keys_a 1) (bits_a 1) 9 summary_a log_keys_l log_values_l 7 0 (key (2 ∷ 4 ∷ [])) 1)) short_keys
    ∷ row (log_values_left (paint 2 3 (keys_a 1) (bits_a 1) 9 summary_a log_keys_l log_values_l 7 0 (key (2 ∷ 4 ∷ [])) 1)) short_values
    ∷ row (of_edited (edit_answer (redo 2 3 keys_p bits_p 5 summary_p short_keys short_values 3 3))) (20 ∷ 0 ∷ 0 ∷ 0 ∷ [])
    -- 10 counts from the records in force: both entries have seven records in seven places
    ∷ row (of_edited (edit_answer (paint 2 3 (keys_a 1) (bits_a 1) 9 summary_a (take 7 log_keys_l) (take 7 log_values_l) 7 0 (key (2 ∷ 0 ∷ [])) 2))) (0 ∷ 5 ∷ 7 ∷ 7 ∷ [])
    ∷ []

claim : RowHolds table
unfolding
    table valid_key digits_of digits_then_zeros only_zeros level_of digits_before_zero height_of row_of column_of side_of in_block pixel_key
    every_pixel one_feature features_below bits_of union_of_four twos_in feature_of list_of
    paired value_at picture_of same_records is_list_of_block is_list
    first bad_settings bad_length bad_pixel
    features_of_row features_of_rows count_of pixels_with counts_from summary_below summary_of same_numbers no_summary
    put paint_in content_of
    closed entry_of count_record last_record last_key last_feature last_count before_last last_content is_content closes last_is_entry ends_in_mark step_count step_entries before_entries before_step ends_in_entries last_is_group last_is_step divides_in is_sound put_back paint_again first_in first_step no_log
    gained
    edit_refusal edit_answer keys_left bits_left summary_left log_keys_left log_values_left
claim = refl
