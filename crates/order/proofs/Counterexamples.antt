-- Each hypothesis is needed, by computation: paints of one block, paints of which one block contains the other, and an order that is refused for want
-- of room, in the list or in the log, leave other lists. Rests on the definitions alone.
use Prim.Native.Nat.{ℕ}
use mathlib.Core.Path.{◌≡◌, refl, ap}
use mathlib.Core.Bool.{Bool, true, false}
use mathlib.Core.List.{List, [], ◌∷◌}
use lib.ListN.{replicate, get_or}
use borrow.Author.Tests.{eqb-false}
use Rattle.keys.specs.Key.{valid_key, digits_of, digits_then_zeros, only_zeros, level_of, digits_before_zero, height_of}
use Rattle.keys.specs.Block.{row_of, column_of, side_of, in_block, pixel_key, contains, is_ancestor}
use Rattle.definitions.specs.Picture.{every_pixel, one_feature, features_below}
use Rattle.definitions.specs.Bits.{bits_of, union_of_four, twos_in, feature_of}
use Rattle.definitions.specs.List.{list_of}
use Rattle.definitions.specs.Read.{paired, value_at, picture_of, same_records, is_list_of_block, is_list}
use Rattle.definitions.specs.Refusal.{first, bad_settings, bad_length, bad_pixel}
use Rattle.definitions.specs.Window.{features_of_row, features_of_rows}
use Rattle.definitions.specs.Area.{count_of, pixels_with, counts_from, summary_below, summary_of, same_numbers, no_summary}
use Rattle.definitions.specs.Edit.{put, paint_in, content_of}
use Rattle.definitions.specs.Log.{closed, entry_of, count_record, last_record, last_key, last_feature, last_count, before_last, last_content, is_content, closes, last_is_entry, ends_in_mark, step_count, step_entries, before_entries, before_step, last_is_step, divides_in, is_sound, no_log}
use Rattle.definitions.specs.Calls.Survey.{survey_refusal, survey, survey_keys, survey_bits, survey_summary}
use Rattle.definitions.specs.Calls.Edit.{edit_refusal, edit_answer, keys_left, bits_left, summary_left, log_keys_left, log_values_left}
use Rattle.definitions.specs.Calls.Paint.{gained}
use Rattle.history.specs.History.{Buffers, built, answer, after, after_calls}
use Rattle.order.specs.Paint.{BlockPaint}
use Rattle.order.specs.Apart.{apart}
use Rattle.order.specs.Either.{as_call, as_calls, SameSheet, after_paints}

abbrev paint_of : ℕ → ℕ → BlockPaint
paint_of κ f = record { key = κ; feature = f }

-- the refusal numbers of two paints, one after the other
abbrev answers_to : ℕ → ℕ → Buffers → BlockPaint → BlockPaint → List ℕ
answers_to m s b x y = answer m s b (as_call x) ∷ answer m s (after m s b (as_call x)) (as_call y) ∷ []

-- what comes of two paints on a sheet in either order: whether they are apart, the answers and the numbers of records of each order, and that the
-- sheets are not the same
record Unlike (m s : ℕ) (b : Buffers) (x y : BlockPaint) (is_apart : Bool) (answers answers' : List ℕ) (n n' : ℕ) : Type 0 where
  apartness : apart m x y ≡ is_apart
  answered : answers_to m s b x y ≡ answers
  answered' : answers_to m s b y x ≡ answers'
  records : (after_paints m s b (x ∷ y ∷ [])).n ≡ n
  records' : (after_paints m s b (y ∷ x ∷ [])).n ≡ n'
  unlike : SameSheet (after_paints m s b (x ∷ y ∷ [])) (after_paints m s b (y ∷ x ∷ [])) → ⊥

-- four pixels of feature 0, with room for any list, and so many places of the log
abbrev four : ℕ → Buffers
four places = built 1 2 (replicate 4 0) (replicate 5 99) (replicate 5 98) (replicate 8 95) (replicate places 97) (replicate places 96)

-- m = 2, s = 3, rows 0011, 0012, 2200, 2200: 9 records in room 9
abbrev map_a : Buffers
map_a =
    built 2 3 (0 ∷ 0 ∷ 1 ∷ 1 ∷ 0 ∷ 0 ∷ 1 ∷ 2 ∷ 2 ∷ 2 ∷ 0 ∷ 0 ∷ 2 ∷ 2 ∷ 0 ∷ 0 ∷ [])
    (replicate 9 99) (replicate 9 98) (replicate 48 95) (replicate 6 97) (replicate 6 96)

record Needed : Type 0 where
  -- one block painted twice: the later paint wins
  one_block : Unlike 1 2 (four 6) (paint_of 1 1) (paint_of 1 0) false (0 ∷ 0 ∷ []) (0 ∷ 0 ∷ []) 1 5
  -- the whole map and a block of it
  block_inside : Unlike 1 2 (four 6) (paint_of 0 1) (paint_of 1 0) false (0 ∷ 0 ∷ []) (0 ∷ 0 ∷ []) 5 1
  -- 24 with 1 makes the room that 11 with 1 needs; the other way round 11 is refused with 9
  room_of_list : Unlike 2 3 map_a (paint_of 14 1) (paint_of 6 1) true (0 ∷ 0 ∷ []) (9 ∷ 0 ∷ []) 9 5
  -- the log has room for one entry: the crew that comes first is served, the other is refused with 10; both lists have 5 records
  room_of_log : Unlike 1 2 (four 5) (paint_of 1 1) (paint_of 4 1) true (0 ∷ 10 ∷ []) (0 ∷ 10 ∷ []) 5 5

needed : Needed
unfolding as_calls after_calls answer after built apart is_ancestor contains
    valid_key digits_of digits_then_zeros only_zeros level_of digits_before_zero height_of row_of column_of side_of in_block pixel_key
    every_pixel one_feature features_below bits_of union_of_four twos_in feature_of list_of
    paired value_at picture_of same_records is_list_of_block is_list first bad_settings bad_length bad_pixel features_of_row features_of_rows
    count_of pixels_with counts_from summary_below summary_of same_numbers no_summary put paint_in content_of
    closed entry_of count_record last_record last_key last_feature last_count before_last last_content is_content closes last_is_entry
    ends_in_mark step_count step_entries before_entries before_step last_is_step divides_in is_sound no_log
    survey_refusal survey survey_keys survey_bits survey_summary gained
    edit_refusal edit_answer keys_left bits_left summary_left log_keys_left log_values_left
needed = record {
  one_block = record {
    apartness = refl;
    answered = refl;
    answered' = refl;
    records = refl;
    records' = refl;
    unlike = λ same. eqb-false 1 5 refl same.count;
  };
  block_inside = record {
    apartness = refl;
    answered = refl;
    answered' = refl;
    records = refl;
    records' = refl;
    unlike = λ same. eqb-false 5 1 refl same.count;
  };
  room_of_list = record {
    apartness = refl;
    answered = refl;
    answered' = refl;
    records = refl;
    records' = refl;
    unlike = λ same. eqb-false 9 5 refl same.count;
  };
  room_of_log = record {
    apartness = refl;
    answered = refl;
    answered' = refl;
    records = refl;
    records' = refl;
    unlike = λ same. eqb-false 1 0 refl (ap (λ l. get_or l 1 9) same.summary);
  };
}
