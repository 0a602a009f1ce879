-- A history of Map A, by computation: its answers, the paints kept, the raster left and the buffers. A9 and A10 (specification S27) are among its steps.
use Prim.Native.Nat.{ℕ}
use mathlib.Core.Path.{◌≡◌, refl}
use mathlib.Core.List.{List, [], ◌∷◌, ◌++◌}
use lib.ListN.{replicate}
use Rattle.keys.specs.Key.{valid_key, digits_of, digits_then_zeros, only_zeros, level_of, digits_before_zero, height_of}
use Rattle.keys.specs.Block.{row_of, column_of, side_of, in_block, pixel_key}
use Rattle.definitions.specs.Picture.{every_pixel, one_feature, features_below}
use Rattle.definitions.specs.Bits.{bits_of, union_of_four, twos_in, feature_of}
use Rattle.definitions.specs.List.{list_of}
use Rattle.definitions.specs.Read.{paired, value_at, picture_of, same_records, is_list_of_block, is_list}
use Rattle.definitions.specs.Refusal.{first, bad_settings, bad_length, bad_pixel}
use Rattle.definitions.specs.Window.{features_of_row, features_of_rows}
use Rattle.definitions.specs.Area.{count_of, pixels_with, counts_from, summary_below, summary_of, same_numbers, no_summary}
use Rattle.definitions.specs.Edit.{put, paint_in, content_of}
use Rattle.definitions.specs.Log.{closed, entry_of, count_record, last_record, last_key, last_feature, last_count, before_last, last_content, is_content, closes, last_is_entry, ends_in_mark, step_count, step_entries, before_entries, before_step, last_is_step, divides_in, is_sound, first_in, first_step, put_back, paint_again, no_log}
use Rattle.definitions.specs.Calls.Survey.{survey_refusal, survey, survey_keys, survey_bits, survey_summary}
use Rattle.definitions.specs.Calls.Edit.{edit_refusal, edit_answer, keys_left, bits_left, summary_left, log_keys_left, log_values_left}
use Rattle.definitions.specs.Calls.Paint.{gained}
use Rattle.definitions.proofs.Vectors.{map_a}
use Rattle.history.specs.History.{Call, of_block, painting, taking_back, redoing, emptying, Buffers, nothing, without_latest, with_next, built, answer, after, after_calls, keep, kept, applied, drawn, picture_left, raster_left}

-- the answers of a run of calls
unfoldable pub answers : ℕ → ℕ → Buffers → List Call → List ℕ
answers m s b [] = []
answers m s b (c ∷ cs) = answer m s b c ∷ answers m s (after m s b c) cs

-- built in 12 places of the list, 48 of the summary, with 8 of the log
abbrev start : Buffers
start = built 2 3 map_a (replicate 12 99) (replicate 12 98) (replicate 48 95) (replicate 8 97) (replicate 8 96)

-- each call with what comes of it
abbrev calls : List Call
calls =
    painting (of_block 14 1)  -- 24 with 1, A9: the list shrinks to 5, the log gains 3
    ∷ painting (of_block 4 1)  -- 8: not valid
    ∷ redoing  -- 20
    ∷ taking_back  -- A10
    ∷ taking_back  -- 11
    ∷ redoing  -- A9 again
    ∷ taking_back
    ∷ painting (of_block 18 0)  -- 33 with 0, A11: 13 records in room 12, 9; nothing is dropped
    ∷ painting (of_block 10 2)  -- 20 with 2, A12: the log gains 7, over what could be redone
    ∷ redoing  -- 20
    ∷ painting (of_block 14 1)  -- 10 records in a log of room 8, 10
    ∷ emptying
    ∷ taking_back  -- 11
    ∷ []

-- the counts of a quadrant's four pixels that have one feature
abbrev pub four : ℕ → ℕ → ℕ → List ℕ
four a b c = a ∷ b ∷ c ∷ a ∷ b ∷ c ∷ a ∷ b ∷ c ∷ a ∷ b ∷ c ∷ []

-- what the history gives, the list being that of the raster, then zeroes up to 9 places, and then what was lent
record Gives : Type 0 where
  answered : answers 2 3 start calls ≡ 0 ∷ 8 ∷ 20 ∷ 0 ∷ 11 ∷ 0 ∷ 0 ∷ 9 ∷ 0 ∷ 20 ∷ 10 ∷ 0 ∷ 11 ∷ []
  paints : kept 2 3 start nothing calls ≡ record { held = []; undone = []; fixed = of_block 10 2 ∷ [] }
  raster : raster_left 2 map_a (kept 2 3 start nothing calls) ≡ 0 ∷ 0 ∷ 2 ∷ 2 ∷ 0 ∷ 0 ∷ 2 ∷ 2 ∷ 2 ∷ 2 ∷ 0 ∷ 0 ∷ 2 ∷ 2 ∷ 0 ∷ 0 ∷ []
  buffers : after_calls 2 3 start calls
      ≡ record {
        keys = 0 ∷ 5 ∷ 10 ∷ 15 ∷ 20 ∷ (replicate 4 0 ++ replicate 3 99);
        bits = 5 ∷ 1 ∷ 4 ∷ 4 ∷ 1 ∷ (replicate 4 0 ++ replicate 3 98);
        n = 5;
        summary = four 1 0 0 ++ (four 0 0 1 ++ (four 0 0 1 ++ four 1 0 0));
        log_keys = 10 ∷ 11 ∷ 12 ∷ 13 ∷ 14 ∷ 10 ∷ 10 ∷ 97 ∷ [];
        log_values = 6 ∷ 2 ∷ 2 ∷ 2 ∷ 4 ∷ 5 ∷ 2 ∷ 96 ∷ [];
        used = 0;
        in_force = 0;
      }

gives : Gives
unfolding answers answer after after_calls kept keep without_latest with_next built applied drawn picture_left raster_left
    valid_key digits_of digits_then_zeros only_zeros level_of digits_before_zero height_of row_of column_of side_of in_block pixel_key
    every_pixel one_feature features_below bits_of union_of_four twos_in feature_of list_of
    paired value_at picture_of same_records is_list_of_block is_list first bad_settings bad_length bad_pixel features_of_row features_of_rows
    count_of pixels_with counts_from summary_below summary_of same_numbers no_summary put paint_in content_of
    closed entry_of count_record last_record last_key last_feature last_count before_last last_content is_content closes last_is_entry
    ends_in_mark step_count step_entries before_entries before_step last_is_step divides_in is_sound first_in first_step put_back paint_again no_log
    survey_refusal survey survey_keys survey_bits survey_summary gained
    edit_refusal edit_answer keys_left bits_left summary_left log_keys_left log_values_left
gives = record { answered = refl; paints = refl; raster = refl; buffers = refl }
