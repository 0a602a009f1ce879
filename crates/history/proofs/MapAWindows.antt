-- A history of Map A with paints of windows, by computation: a group is one paint in taking back and in redo, and a refused paint of a window is none.
use mathlib.Core.Path.{◌≡◌, refl}
use mathlib.Core.List.{List, [], ◌∷◌, ◌++◌}
use lib.ListN.{replicate}
use Rattle.keys.specs.Key.{valid_key, digits_of, digits_then_zeros, only_zeros, level_of, digits_before_zero, height_of}
use Rattle.keys.specs.Block.{row_of, column_of, side_of, in_block, pixel_key}
use Rattle.definitions.specs.Picture.{every_pixel, one_feature, features_below}
use Rattle.definitions.specs.Bits.{bits_of, union_of_four, twos_in, feature_of}
use Rattle.definitions.specs.List.{list_of}
use Rattle.definitions.specs.Read.{paired, value_at, picture_of, same_records, is_list_of_block, is_list}
use Rattle.definitions.specs.Refusal.{first, bad_settings, bad_length, bad_pixel}
use Rattle.definitions.specs.Window.{is_window, in_window, features_of_row, features_of_rows, is_inside, blocks_from, largest_blocks}
use Rattle.definitions.specs.declared.Window.{Window}
use Rattle.definitions.specs.Area.{count_of, pixels_with, counts_from, summary_below, summary_of, same_numbers, no_summary}
use Rattle.definitions.specs.Edit.{put, paint_in, fill_window, content_of}
use Rattle.definitions.specs.Log.{closed, entry_of, grouped, entries_of, group_of, ends_in_entries, last_is_group, count_record, last_record, last_key, last_feature, last_count, before_last, last_content, is_content, closes, last_is_entry, ends_in_mark, step_count, step_entries, before_entries, before_step, last_is_step, divides_in, is_sound, first_in, first_step, put_back, paint_again, no_log}
use Rattle.definitions.specs.Calls.Survey.{survey_refusal, survey, survey_keys, survey_bits, survey_summary}
use Rattle.definitions.specs.Calls.Edit.{edit_refusal, edit_answer, keys_left, bits_left, summary_left, log_keys_left, log_values_left}
use Rattle.definitions.specs.Calls.Paint.{gained}
use Rattle.definitions.specs.Calls.PaintWindow.{group_gained}
use Rattle.definitions.proofs.Vectors.{map_a}
use Rattle.history.specs.History.{Call, of_block, of_window, painting, taking_back, redoing, Buffers, nothing, without_latest, with_next, built, answer, after, after_calls, keep, kept, applied, drawn, picture_left, raster_left}
use Rattle.history.proofs.MapAHistory.{answers, four}

-- built in 12 places of the list, 48 of the summary, with 20 of the log
abbrev start : Buffers
start = built 2 3 map_a (replicate 12 99) (replicate 12 98) (replicate 48 95) (replicate 20 97) (replicate 20 96)

-- the two upper rows without their first pixels: the pixels 12 and 14 and the block 20
abbrev strip : Window
strip = record { row = 0; column = 1; height = 2; width = 3 }

-- the four pixels in the middle
abbrev middle : Window
middle = record { row = 1; column = 1; height = 2; width = 2 }

-- a strip that goes past the map
abbrev past : Window
past = record { row = 0; column = 2; height = 2; width = 3 }

-- each call with what comes of it
abbrev calls : List Call
calls =
    painting (of_window middle 1)  -- 9: 21 records in room 12; the log has room for its 14
    ∷ painting (of_window strip 1)  -- three entries of 3, 3 and 7 records, and 2 that close the group
    ∷ painting (of_window past 1)  -- 6
    ∷ painting (of_window strip 3)  -- 7
    ∷ painting (of_window strip 1)  -- 10: 11 records more in a log of room 20
    ∷ taking_back  -- the whole group
    ∷ taking_back  -- 11: it was one paint
    ∷ redoing  -- the whole group again
    ∷ redoing  -- 20
    ∷ painting (of_block 6 1)  -- 11 with 1: a single entry behind the group
    ∷ taking_back  -- the entry
    ∷ taking_back  -- the group
    ∷ []

-- what the history gives: Map A again, and both paints can be redone
record Gives : Type 0 where
  answered : answers 2 3 start calls ≡ 9 ∷ 0 ∷ 6 ∷ 7 ∷ 10 ∷ 0 ∷ 11 ∷ 0 ∷ 20 ∷ 0 ∷ 0 ∷ 0 ∷ []
  paints : kept 2 3 start nothing calls ≡ record { held = []; undone = of_window strip 1 ∷ of_block 6 1 ∷ []; fixed = [] }
  raster : raster_left 2 map_a (kept 2 3 start nothing calls) ≡ map_a
  buffers : after_calls 2 3 start calls
      ≡ record {
        keys = 0 ∷ 5 ∷ 10 ∷ 11 ∷ 12 ∷ 13 ∷ 14 ∷ 15 ∷ 20 ∷ replicate 3 99;
        bits = 7 ∷ 1 ∷ 6 ∷ 2 ∷ 2 ∷ 2 ∷ 4 ∷ 4 ∷ 1 ∷ replicate 3 98;
        n = 9;
        summary = four 1 0 0 ++ ((0 ∷ 1 ∷ 0 ∷ 0 ∷ 1 ∷ 0 ∷ 0 ∷ 1 ∷ 0 ∷ 0 ∷ 0 ∷ 1 ∷ []) ++ (four 0 0 1 ++ four 1 0 0));
        log_keys = 7 ∷ 7 ∷ 7 ∷ 9 ∷ 9 ∷ 9 ∷ 10 ∷ 11 ∷ 12 ∷ 13 ∷ 14 ∷ 10 ∷ 10 ∷ 0 ∷ 0 ∷ 6 ∷ 6 ∷ 6 ∷ 97 ∷ 97 ∷ [];
        log_values = 1 ∷ 1 ∷ 1 ∷ 1 ∷ 1 ∷ 1 ∷ 6 ∷ 2 ∷ 2 ∷ 2 ∷ 4 ∷ 5 ∷ 1 ∷ 3 ∷ 255 ∷ 1 ∷ 1 ∷ 1 ∷ 96 ∷ 96 ∷ [];
        used = 18;
        in_force = 0;
      }

gives : Gives
unfolding answers answer after after_calls kept keep without_latest with_next built applied drawn picture_left raster_left
    valid_key digits_of digits_then_zeros only_zeros level_of digits_before_zero height_of row_of column_of side_of in_block pixel_key
    every_pixel one_feature features_below bits_of union_of_four twos_in feature_of list_of
    paired value_at picture_of same_records is_list_of_block is_list first bad_settings bad_length bad_pixel is_window in_window features_of_row features_of_rows is_inside blocks_from largest_blocks
    count_of pixels_with counts_from summary_below summary_of same_numbers no_summary put paint_in fill_window content_of
    closed entry_of grouped entries_of group_of count_record last_record last_key last_feature last_count before_last last_content is_content closes last_is_entry
    ends_in_mark step_count step_entries before_entries before_step ends_in_entries last_is_group last_is_step divides_in is_sound first_in first_step put_back paint_again no_log
    survey_refusal survey survey_keys survey_bits survey_summary gained
    group_gained
    edit_refusal edit_answer keys_left bits_left summary_left log_keys_left log_values_left
gives = record { answered = refl; paints = refl; raster = refl; buffers = refl }
