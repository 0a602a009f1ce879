-- Map A over three nights, by computation: the first rest leads to slices that just hold the list, and there taking back is refused with 9; the second
-- to larger ones, and there it is accepted, and redo after it; the third leaves the paint that could be redone behind, and redo is refused with 20. Rests
-- on History and Events.
use Prim.Native.Nat.{ℕ}
use mathlib.Core.Path.{◌≡◌, refl}
use mathlib.Core.List.{List, [], ◌∷◌, ◌++◌}
use lib.ListN.{replicate}
use native.Mathlib.Omega.{arith}
use Rattle.keys.specs.Key.{valid_key, digits_of, digits_then_zeros, only_zeros, level_of, digits_before_zero, height_of}
use Rattle.keys.specs.Block.{row_of, column_of, side_of, in_block, pixel_key}
use Rattle.definitions.specs.Picture.{every_pixel, one_feature, features_below}
use Rattle.definitions.specs.Bits.{bits_of, union_of_four, twos_in, feature_of}
use Rattle.definitions.specs.List.{list_of}
use Rattle.definitions.specs.Read.{paired, value_at, picture_of, same_records, is_list_of_block, is_list}
use Rattle.definitions.specs.Refusal.{first, bad_settings, bad_length, bad_pixel}
use Rattle.definitions.specs.Window.{features_of_row, features_of_rows}
use Rattle.definitions.specs.Area.{count_of, pixels_with, counts_from, summary_below, summary_of, same_numbers, no_summary}
use Rattle.definitions.specs.Edit.{put, paint_in, content_of}
use Rattle.definitions.specs.Log.{closed, entry_of, count_record, last_record, last_key, last_feature, last_count, before_last, last_content, is_content, closes, last_is_entry, ends_in_mark, step_count, step_entries, before_entries, before_step, last_is_step, divides_in, is_sound, first_in, first_step, put_back, paint_again, no_log}
use Rattle.definitions.specs.Calls.Survey.{survey_refusal, survey, survey_keys, survey_bits, survey_summary}
use Rattle.definitions.specs.Calls.Edit.{edit_refusal, edit_answer, keys_left, bits_left, summary_left, log_keys_left, log_values_left}
use Rattle.definitions.specs.Calls.Paint.{gained}
use Rattle.definitions.proofs.Vectors.{map_a}
use Rattle.history.specs.History.{of_block, painting, taking_back, redoing, Buffers, without_latest, with_next, built, answer, after, keep, applied, drawn, picture_left, raster_left}
use Rattle.history.proofs.MapAHistory.{four}
use Rattle.rests.specs.Events.{Event, calling, resting, resting_short, Reached, built_into, after_event, after_events, AllMay}

-- the answers to the calls among events
unfoldable answers_to : ℕ → ℕ → Reached → List Event → List ℕ
answers_to m s t [] = []
answers_to m s t (calling c ∷ es) = answer m s t.buffers c ∷ answers_to m s (after_event m s t (calling c)) es
answers_to m s t (resting to ∷ es) = answers_to m s (after_event m s t (resting to)) es
answers_to m s t (resting_short to ∷ es) = answers_to m s (after_event m s t (resting_short to)) es

-- built in 12 places of the list, 48 of the summary, with 8 of the log
abbrev start : Reached
start =
    built_into 2 3 map_a
    (record { keys = replicate 12 99; bits = replicate 12 98; summary = replicate 48 95; log_keys = replicate 8 97; log_values = replicate 8 96 })

-- A9's list and log, in slices that hold these and more
abbrev night_in : (keys bits log_keys log_values : List ℕ) → Buffers
night_in keys bits log_keys log_values =
    record {
      keys = 0 ∷ 5 ∷ 10 ∷ 15 ∷ 20 ∷ keys;
      bits = 7 ∷ 1 ∷ 2 ∷ 4 ∷ 1 ∷ bits;
      n = 5;
      summary = four 1 0 0 ++ (four 0 1 0 ++ (four 0 0 1 ++ four 1 0 0));
      log_keys = 14 ∷ 14 ∷ 14 ∷ log_keys;
      log_values = 4 ∷ 1 ∷ 1 ∷ log_values;
      used = 3;
      in_force = 3;
    }

-- Map A's list, in 9 places, and no log
abbrev last_night : Buffers
last_night =
    record {
      keys = 0 ∷ 5 ∷ 10 ∷ 11 ∷ 12 ∷ 13 ∷ 14 ∷ 15 ∷ 20 ∷ [];
      bits = 7 ∷ 1 ∷ 6 ∷ 2 ∷ 2 ∷ 2 ∷ 4 ∷ 4 ∷ 1 ∷ [];
      n = 9;
      summary = four 1 0 0 ++ ((0 ∷ 1 ∷ 0 ∷ 0 ∷ 1 ∷ 0 ∷ 0 ∷ 1 ∷ 0 ∷ 0 ∷ 0 ∷ 1 ∷ []) ++ (four 0 0 1 ++ four 1 0 0));
      log_keys = [];
      log_values = [];
      used = 0;
      in_force = 0;
    }

abbrev events : List Event
events =
    calling (painting (of_block 14 1))  -- 24 with 1, A9: the list shrinks from 9 to 5, the log gains 3
    ∷ resting (night_in [] [] [] [])  -- no place more than needed
    ∷ calling taking_back  -- 9
    ∷ resting (night_in (replicate 4 55) (replicate 5 54) [] (53 ∷ []))  -- 9 places
    ∷ calling taking_back  -- A10
    ∷ calling redoing
    ∷ calling taking_back
    ∷ calling taking_back  -- 11
    ∷ resting_short last_night  -- the paint that could be redone is left behind
    ∷ calling redoing  -- 20
    ∷ []

-- what comes of them: Map A's own list and raster
record Gives : Type 0 where
  answered : answers_to 2 3 start events ≡ 0 ∷ 9 ∷ 0 ∷ 0 ∷ 0 ∷ 11 ∷ 20 ∷ []
  paints : (after_events 2 3 start events).paints ≡ record { held = []; undone = []; fixed = [] }
  raster : raster_left 2 map_a (after_events 2 3 start events).paints ≡ map_a
  keys : (after_events 2 3 start events).buffers.keys ≡ 0 ∷ 5 ∷ 10 ∷ 11 ∷ 12 ∷ 13 ∷ 14 ∷ 15 ∷ 20 ∷ []
  largest : (after_events 2 3 start events).largest ≡ 12
  -- and the rests may happen
  may : AllMay 2 3 start events

gives : Gives
unfolding answers_to AllMay after_event after_events answer after keep without_latest with_next built applied drawn picture_left raster_left
    valid_key digits_of digits_then_zeros only_zeros level_of digits_before_zero height_of row_of column_of side_of in_block pixel_key
    every_pixel one_feature features_below bits_of union_of_four twos_in feature_of list_of
    paired value_at picture_of same_records is_list_of_block is_list first bad_settings bad_length bad_pixel features_of_row features_of_rows
    count_of pixels_with counts_from summary_below summary_of same_numbers no_summary put paint_in content_of
    closed entry_of count_record last_record last_key last_feature last_count before_last last_content is_content closes last_is_entry
    ends_in_mark step_count step_entries before_entries before_step last_is_step divides_in is_sound first_in first_step put_back paint_again no_log
    survey_refusal survey survey_keys survey_bits survey_summary gained
    edit_refusal edit_answer keys_left bits_left summary_left log_keys_left log_values_left
gives =
    record {
      answered = refl;
      paints = refl;
      raster = refl;
      keys = refl;
      largest = refl;
      may = (
        tt,
        (
          record { count = refl; fits = omega arith; records = refl; counted = refl; log = record { fits = omega arith; records = refl }; used = refl; force = refl },
          (
            tt,
            (
              record { count = refl; fits = omega arith; records = refl; counted = refl; log = record { fits = omega arith; records = refl }; used = refl; force = refl },
              (tt, (tt, (tt, (tt, (record { count = refl; fits = omega arith; records = refl; counted = refl; log = record { fits = omega arith; records = refl }; used = refl; force = refl }, (tt, tt)))))),
            ),
          ),
        ),
      );
    }
