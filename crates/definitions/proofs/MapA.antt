-- Map A, rows A1 to A12 (specification S27), with summaries and logs, and Figure 1 of Nardelli and Proietti (1994): what the definitions compute, held
-- against what both say, as one table under one claim. Proved by computation.
use Prim.Native.Nat.{ℕ}
use mathlib.Core.Path.{refl}
use mathlib.Core.List.{List, [], ◌∷◌, ◌++◌}
use Rattle.keys.specs.Key.{valid_key, digits_of, digits_then_zeros, only_zeros, level_of, digits_before_zero, height_of}
use Rattle.keys.specs.Block.{row_of, column_of, side_of, in_block, pixel_key}
use Rattle.definitions.specs.Picture.{every_pixel, one_feature, features_below}
use Rattle.definitions.specs.Bits.{bits_of, union_of_four, twos_in, feature_of}
use Rattle.definitions.specs.List.{list_of_raster, keys_of, values_of, list_of}
use Rattle.definitions.specs.Read.{paired, value_at, picture_of, same_records, is_list_of_block, is_list}
use Rattle.definitions.specs.Refusal.{first, bad_settings, bad_length, bad_pixel}
use Rattle.definitions.specs.Window.{is_window, in_window, features_of_row, features_of_rows, features_in, occurs, union_of, exist_in, report_in, is_given, blocks_from, select_in}
use Rattle.definitions.specs.Area.{count_of, pixels_with, counts_from, summary_below, summary_of, same_numbers, no_summary}
use Rattle.definitions.specs.Edit.{put, paint_in, content_of}
use Rattle.definitions.specs.Log.{closed, entry_of, count_record, last_record, last_key, last_feature, last_count, before_last, last_content, is_content, closes, last_is_entry, ends_in_mark, step_count, step_entries, before_entries, before_step, ends_in_entries, last_is_group, last_is_step, divides_in, is_sound, put_back, paint_again, no_log}
use Rattle.definitions.specs.Calls.Exist.{exist_refusal, exist}
use Rattle.definitions.specs.Calls.Report.{report_refusal, report}
use Rattle.definitions.specs.Calls.Select.{selected, select_refusal, select, select_answer}
use Rattle.definitions.specs.Calls.Edit.{edit_refusal, edit_answer, keys_left, bits_left, summary_left, log_keys_left, log_values_left}
use Rattle.definitions.specs.Calls.Paint.{gained, paint}
use Rattle.definitions.specs.Calls.TakeBack.{take_back}
use Rattle.definitions.proofs.Vectors.{VectorRow, row, RowHolds, key, slots, window, shown, of_exist, of_report, of_counted, of_edited, map_a, keys_a, bits_a, unwritten}
use Rattle.definitions.proofs.AreaVectors.{areas_counted, summary_a}

-- m = 3: the leaves of Nardelli and Proietti (1994), section 2.2, as a raster
abbrev figure1 : List ℕ
figure1 =
    (0 ∷ 2 ∷ 2 ∷ 2 ∷ 0 ∷ 0 ∷ 0 ∷ 0 ∷ [])
    ++ ((0 ∷ 0 ∷ 2 ∷ 2 ∷ 0 ∷ 0 ∷ 0 ∷ 0 ∷ [])
    ++ ((3 ∷ 3 ∷ 1 ∷ 0 ∷ 0 ∷ 0 ∷ 0 ∷ 0 ∷ [])
    ++ ((3 ∷ 3 ∷ 0 ∷ 1 ∷ 0 ∷ 0 ∷ 0 ∷ 0 ∷ [])
    ++ ((3 ∷ 3 ∷ 3 ∷ 3 ∷ 1 ∷ 1 ∷ 0 ∷ 0 ∷ [])
    ++ ((3 ∷ 3 ∷ 3 ∷ 3 ∷ 1 ∷ 1 ∷ 0 ∷ 0 ∷ [])
    ++ ((3 ∷ 3 ∷ 3 ∷ 3 ∷ 0 ∷ 0 ∷ 0 ∷ 0 ∷ []) ++ (3 ∷ 3 ∷ 3 ∷ 3 ∷ 0 ∷ 0 ∷ 0 ∷ 0 ∷ [])))))))

-- a record of Figure 1: three digits and four slots
abbrev node3 : ℕ → ℕ → ℕ → ℕ → ℕ → ℕ → ℕ → List ℕ → List ℕ
node3 a b c s₀ s₁ s₂ s₃ rest = key (a ∷ b ∷ c ∷ []) ∷ slots (s₀ ∷ s₁ ∷ s₂ ∷ s₃ ∷ []) ∷ rest

-- the list of Nardelli and Proietti (1994), section 2.3
abbrev list_of_figure1 : List ℕ
list_of_figure1 =
    node3 0 0 0 1 1 1 1
    (node3 1 0 0 1 1 1 1
    (node3 1 1 0 1 0 1 0
    (node3 1 1 1 1 0 0 0
    (node3 1 1 2 0 0 1 0
    (node3 1 1 3 1 0 0 0
    (node3 1 1 4 1 0 0 0
    (node3 1 2 0 0 0 1 0
    (node3 1 3 0 0 0 0 1
    (node3 1 4 0 1 1 0 0
    (node3 1 4 1 0 1 0 0
    (node3 1 4 2 1 0 0 0
    (node3 1 4 3 1 0 0 0
    (node3 1 4 4 0 1 0 0
    (node3 2 0 0 1 0 0 0
    (node3 3 0 0 0 0 0 1
    (node3 4 0 0 1 1 0 0
    (node3 4 1 0 0 1 0 0
    (node3 4 2 0 1 0 0 0
    (node3 4 3 0 1 0 0 0
    (node3 4 4 0 1 0 0 0 []))))))))))))))))))))

-- what A9's paint leaves, which A10 takes back
abbrev painted_keys : List ℕ
painted_keys = key (0 ∷ 0 ∷ []) ∷ key (1 ∷ 0 ∷ []) ∷ key (2 ∷ 0 ∷ []) ∷ key (3 ∷ 0 ∷ []) ∷ key (4 ∷ 0 ∷ []) ∷ 0 ∷ 0 ∷ 0 ∷ 0 ∷ 99 ∷ []

abbrev painted_bits : List ℕ
painted_bits = slots (1 ∷ 1 ∷ 1 ∷ []) ∷ slots (1 ∷ 0 ∷ 0 ∷ []) ∷ slots (0 ∷ 1 ∷ 0 ∷ []) ∷ slots (0 ∷ 0 ∷ 1 ∷ []) ∷ slots (1 ∷ 0 ∷ 0 ∷ []) ∷ 0 ∷ 0 ∷ 0 ∷ 0 ∷ 99 ∷ []

abbrev painted_summary : List ℕ
painted_summary = areas_counted (0 ∷ 0 ∷ 0 ∷ 0 ∷ 1 ∷ 1 ∷ 1 ∷ 1 ∷ 2 ∷ 2 ∷ 2 ∷ 2 ∷ 0 ∷ 0 ∷ 0 ∷ 0 ∷ [])

abbrev painted_log_keys : List ℕ
painted_log_keys = key (2 ∷ 4 ∷ []) ∷ key (2 ∷ 4 ∷ []) ∷ key (2 ∷ 4 ∷ []) ∷ 77 ∷ []

abbrev painted_log_values : List ℕ
painted_log_values = slots (0 ∷ 0 ∷ 1 ∷ []) ∷ 1 ∷ 1 ∷ 77 ∷ []

table : List VectorRow
table =
    -- A1
    row (keys_of (list_of_raster 2 map_a)) (keys_a 0)
    ∷ row (values_of (list_of_raster 2 map_a)) (bits_a 0)
    -- A2
    ∷ row (shown (list_of_raster 0 (0 ∷ []))) (0 ∷ 1 ∷ [])
    -- A3: select 1 in row 0, column 1, height 2, width 3
    ∷ row (of_counted (select 2 3 (keys_a 0) (bits_a 0) 9 (window 0 1 2 3) 1 (unwritten 4))) (0 ∷ 3 ∷ [])
    ∷ row (select_answer 2 3 (keys_a 0) (bits_a 0) 9 (window 0 1 2 3) 1 (unwritten 4))
    (key (2 ∷ 1 ∷ []) ∷ key (2 ∷ 2 ∷ []) ∷ key (2 ∷ 3 ∷ []) ∷ 77 ∷ [])
    -- A4
    ∷ row (of_report (report 2 3 (keys_a 0) (bits_a 0) 9 (window 0 1 2 3))) (0 ∷ slots (1 ∷ 1 ∷ 1 ∷ []) ∷ [])
    -- A5: select 0 in row 2, column 1, height 2, width 3
    ∷ row (select_answer 2 3 (keys_a 0) (bits_a 0) 9 (window 2 1 2 3) 0 (unwritten 1)) (key (4 ∷ 0 ∷ []) ∷ [])
    -- A6: select 2 there, cut from leaf 30
    ∷ row (select_answer 2 3 (keys_a 0) (bits_a 0) 9 (window 2 1 2 3) 2 (unwritten 2)) (key (3 ∷ 2 ∷ []) ∷ key (3 ∷ 4 ∷ []) ∷ [])
    -- A7: exist 1 there
    ∷ row (of_exist (exist 2 3 (keys_a 0) (bits_a 0) 9 (window 2 1 2 3) 1)) (0 ∷ 0 ∷ [])
    -- A8: exist 1 in the window of pixel (0,0)
    ∷ row (of_exist (exist 2 3 (keys_a 0) (bits_a 0) 9 (window 0 0 1 1) 1)) (0 ∷ 0 ∷ [])
    -- A9: paint 24 with 1. Four places are given up, the spare one stays
    ∷ row (of_edited (edit_answer (paint 2 3 (keys_a 1) (bits_a 1) 9 summary_a (unwritten 4) (unwritten 4) 0 0 (key (2 ∷ 4 ∷ [])) 1))) (0 ∷ 5 ∷ 3 ∷ 3 ∷ [])
    ∷ row (keys_left (paint 2 3 (keys_a 1) (bits_a 1) 9 summary_a (unwritten 4) (unwritten 4) 0 0 (key (2 ∷ 4 ∷ [])) 1)) painted_keys
    ∷ row (bits_left (paint 2 3 (keys_a 1) (bits_a 1) 9 summary_a (unwritten 4) (unwritten 4) 0 0 (key (2 ∷ 4 ∷ [])) 1)) painted_bits
    ∷ row (summary_left (paint 2 3 (keys_a 1) (bits_a 1) 9 summary_a (unwritten 4) (unwritten 4) 0 0 (key (2 ∷ 4 ∷ [])) 1)) painted_summary
    ∷ row (log_keys_left (paint 2 3 (keys_a 1) (bits_a 1) 9 summary_a (unwritten 4) (unwritten 4) 0 0 (key (2 ∷ 4 ∷ [])) 1)) painted_log_keys
    ∷ row (log_values_left (paint 2 3 (keys_a 1) (bits_a 1) 9 summary_a (unwritten 4) (unwritten 4) 0 0 (key (2 ∷ 4 ∷ [])) 1)) painted_log_values
    -- A10: taking it back gives A1; the entry stays in the log, no longer in force
    ∷ row (of_edited (edit_answer (take_back 2 3 painted_keys painted_bits 5 painted_summary painted_log_keys painted_log_values 3 3))) (0 ∷ 9 ∷ 3 ∷ 0 ∷ [])
    ∷ row (keys_left (take_back 2 3 painted_keys painted_bits 5 painted_summary painted_log_keys painted_log_values 3 3)) (keys_a 1)
    ∷ row (bits_left (take_back 2 3 painted_keys painted_bits 5 painted_summary painted_log_keys painted_log_values 3 3)) (bits_a 1)
    ∷ row (summary_left (take_back 2 3 painted_keys painted_bits 5 painted_summary painted_log_keys painted_log_values 3 3)) summary_a
    ∷ row (log_keys_left (take_back 2 3 painted_keys painted_bits 5 painted_summary painted_log_keys painted_log_values 3 3)) painted_log_keys
    ∷ row (log_values_left (take_back 2 3 painted_keys painted_bits 5 painted_summary painted_log_keys painted_log_values 3 3)) painted_log_values
    -- A11: paint 33 with 0, in room 12, where all stays as it was, and in room 13
    ∷ row (of_edited (edit_answer (paint 2 3 (keys_a 3) (bits_a 3) 9 summary_a (unwritten 3) (unwritten 3) 0 0 (key (3 ∷ 3 ∷ [])) 0))) (9 ∷ 0 ∷ 0 ∷ 0 ∷ [])
    ∷ row (bits_left (paint 2 3 (keys_a 3) (bits_a 3) 9 summary_a (unwritten 3) (unwritten 3) 0 0 (key (3 ∷ 3 ∷ [])) 0)) (bits_a 3)
    ∷ row (log_keys_left (paint 2 3 (keys_a 3) (bits_a 3) 9 summary_a (unwritten 3) (unwritten 3) 0 0 (key (3 ∷ 3 ∷ [])) 0)) (unwritten 3)
    ∷ row (of_edited (edit_answer (paint 2 3 (keys_a 4) (bits_a 4) 9 summary_a (unwritten 3) (unwritten 3) 0 0 (key (3 ∷ 3 ∷ [])) 0))) (0 ∷ 13 ∷ 3 ∷ 3 ∷ [])
    ∷ row (summary_left (paint 2 3 (keys_a 3) (bits_a 3) 9 summary_a (unwritten 3) (unwritten 3) 0 0 (key (3 ∷ 3 ∷ [])) 0)) summary_a
    ∷ row (summary_left (paint 2 3 (keys_a 4) (bits_a 4) 9 summary_a (unwritten 3) (unwritten 3) 0 0 (key (3 ∷ 3 ∷ [])) 0))
    (areas_counted (0 ∷ 0 ∷ 0 ∷ 0 ∷ 1 ∷ 1 ∷ 1 ∷ 2 ∷ 2 ∷ 2 ∷ 0 ∷ 2 ∷ 0 ∷ 0 ∷ 0 ∷ 0 ∷ []))
    -- A12: paint 20 with 2, with 7 and with 6 free in the log
    ∷ row (of_edited (edit_answer (paint 2 3 (keys_a 0) (bits_a 0) 9 summary_a (unwritten 7) (unwritten 7) 0 0 (key (2 ∷ 0 ∷ [])) 2))) (0 ∷ 5 ∷ 7 ∷ 7 ∷ [])
    ∷ row (of_edited (edit_answer (paint 2 3 (keys_a 0) (bits_a 0) 9 summary_a (unwritten 6) (unwritten 6) 0 0 (key (2 ∷ 0 ∷ [])) 2))) (10 ∷ 0 ∷ 0 ∷ 0 ∷ [])
    ∷ row (summary_left (paint 2 3 (keys_a 0) (bits_a 0) 9 summary_a (unwritten 7) (unwritten 7) 0 0 (key (2 ∷ 0 ∷ [])) 2))
    (areas_counted (0 ∷ 0 ∷ 0 ∷ 0 ∷ 2 ∷ 2 ∷ 2 ∷ 2 ∷ 2 ∷ 2 ∷ 2 ∷ 2 ∷ 0 ∷ 0 ∷ 0 ∷ 0 ∷ []))
    ∷ row (summary_left (paint 2 3 (keys_a 0) (bits_a 0) 9 summary_a (unwritten 6) (unwritten 6) 0 0 (key (2 ∷ 0 ∷ [])) 2)) summary_a
    -- Figure 1 of Nardelli and Proietti (1994)
    ∷ row (shown (list_of_raster 3 figure1)) list_of_figure1
    ∷ []

claim : RowHolds table
unfolding
    table valid_key digits_of digits_then_zeros only_zeros level_of digits_before_zero height_of row_of column_of side_of in_block pixel_key
    every_pixel one_feature features_below bits_of union_of_four twos_in feature_of list_of
    paired value_at picture_of same_records is_list_of_block is_list
    first bad_settings bad_length bad_pixel
    is_window in_window features_of_row features_of_rows features_in occurs union_of exist_in report_in is_given blocks_from select_in
    count_of pixels_with counts_from summary_below summary_of same_numbers no_summary
    put paint_in content_of
    closed entry_of count_record last_record last_key last_feature last_count before_last last_content is_content closes last_is_entry ends_in_mark step_count step_entries before_entries before_step ends_in_entries last_is_group last_is_step divides_in is_sound put_back paint_again no_log
    exist_refusal exist report_refusal report selected select_refusal select select_answer
    gained
    edit_refusal edit_answer keys_left bits_left summary_left log_keys_left log_values_left
claim = refl
