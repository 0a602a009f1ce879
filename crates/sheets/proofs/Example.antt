-- By computation: ground of 3 rows and 5 columns on six sheets of side 2, its answers and refusals; a window over its edge; a paint over four sheets and its taking
-- back, each in an order of its own; five steps of two paints; and that filler counts where a window reaches over the edge and is not clipped. Rests on the
-- definitions alone.
use Prim.Native.Nat.{ℕ, ◌+◌, ◌*◌}
use mathlib.Core.Path.{◌≡◌, refl}
use mathlib.Core.Bool.{true, false}
use mathlib.Core.List.{List, [], ◌∷◌, map}
use lib.IntN.{pos, negsuc}
use lib.ListN.{get_or, replicate}
use Rattle.keys.specs.Key.{valid_key, digits_of, digits_then_zeros, only_zeros, level_of, digits_before_zero, height_of}
use Rattle.keys.specs.Block.{row_of, column_of, side_of, in_block, pixel_key}
use Rattle.definitions.specs.Picture.{every_pixel, one_feature, features_below}
use Rattle.definitions.specs.Bits.{bits_of, union_of_four, twos_in, feature_of}
use Rattle.definitions.specs.List.{list_of}
use Rattle.definitions.specs.Read.{paired, value_at, picture_of, same_records, is_list_of_block, is_list}
use Rattle.definitions.specs.Refusal.{first, bad_settings, bad_length, bad_pixel}
use Rattle.definitions.specs.Window.{window_at, is_window, in_window, features_of_row, features_of_rows, features_in, occurs, union_of, exist_in, report_in, is_given, blocks_from, select_in, is_inside, largest_blocks}
use Rattle.definitions.specs.Area.{count_of, area_in, pixels_with, counts_from, summary_below, summary_of, same_numbers, no_summary, sum_below}
use Rattle.definitions.specs.Clip.{not_before, overlap_end, overlap_length, overlap_window}
use Rattle.definitions.specs.Edit.{put, paint_in, fill_window, content_of}
use Rattle.definitions.specs.Log.{closed, entry_of, grouped, entries_of, group_of, count_record, last_record, last_key, last_feature, last_count, before_last, last_content, is_content, closes, last_is_entry, ends_in_mark, step_count, step_entries, before_entries, before_step, ends_in_entries, last_is_group, last_is_step, divides_in, is_sound, first_in, first_step, put_back, paint_again, no_log}
use Rattle.definitions.specs.Calls.Survey.{survey_refusal, survey, survey_keys, survey_bits, survey_summary}
use Rattle.definitions.specs.Calls.Exist.{exist_refusal, exist}
use Rattle.definitions.specs.Calls.Report.{report_refusal, report}
use Rattle.definitions.specs.Calls.Area.{area_refusal, area}
use Rattle.definitions.specs.Calls.Select.{selected, select_refusal, select, select_answer}
use Rattle.definitions.specs.Calls.Edit.{edit_refusal, edit_answer, keys_left, bits_left, summary_left, log_keys_left, log_values_left}
use Rattle.definitions.specs.Calls.PaintWindow.{group_gained}
use Rattle.definitions.specs.declared.Window.{Window}
use Rattle.laws.proofs.RasterOf.{raster_of_picture}
use Rattle.history.specs.History.{Call, Buffers, built, answer, after, after_calls, taking_back, redoing}
use Rattle.sheets.specs.Ground.{Ground, in_ground, inside_ground, ground_window, is_empty, sheets_for, cut_at, on_sheet, sheet_picture, meets, meets_sheet}
use Rattle.sheets.specs.Together.{SheetBlock, some_below, union_below, list_below, block_number, area_sheets}
use Rattle.sheets.specs.Calls.{area_on, select_on, exist_together, report_together, area_together, select_together, area_asked, select_asked, places_asked}
use Rattle.sheets.specs.Paints.{paint_on, take_back_on, SheetPlace, is_among, each_once, after_sheets}
use Rattle.sheets.specs.Steps.{GroundPaint, GroundStep, paint_step, back_step, redo_step, last_back, next_again, keep_step, kept_steps, of_first, step_calls, run_calls, all_accepted}

-- rows 00112, 01122, 22101
abbrev ground : Ground
ground = record {
  rows = 3;
  columns = 5;
  picture = λ r c. get_or (0 ∷ 0 ∷ 1 ∷ 1 ∷ 2 ∷ 0 ∷ 1 ∷ 1 ∷ 2 ∷ 2 ∷ 2 ∷ 2 ∷ 1 ∷ 0 ∷ 1 ∷ []) (r * 5 + c) 0;
}

-- its sheets, each built in buffers that are just long enough, with filler 0 and an empty log
abbrev sheets : ℕ → ℕ → Buffers
sheets i j = built 1 3 (raster_of_picture 1 (sheet_picture 1 ground 0 i j)) (replicate 5 99) (replicate 5 98) (replicate 12 97) (replicate 16 96) (replicate 16 95)

-- rows 1 and 2, columns 1 to 3: 112 and 210; it meets four of the six sheets
abbrev asked : Window
asked = window_at 1 1 2 3

abbrev whole : Window
whole = window_at 0 0 3 5

abbrev block : (i j κ : ℕ) → SheetBlock
block i j κ = record { down = i; across = j; key = κ }

abbrev place : (i j : ℕ) → SheetPlace
place i j = record { down = i; across = j }

record Answers : Type 0 where
  down : sheets_for 1 3 ≡ 2
  across : sheets_for 1 5 ≡ 3
  inside : inside_ground ground asked ≡ true
  found : exist_together 1 3 ground sheets asked 2 ≡ true
  reported : report_together 1 3 ground sheets asked ≡ 7
  -- the last sheets' row of filler 0 is not counted
  zeros : area_together 1 3 ground sheets asked 0 ≡ 1
  ones : area_together 1 3 ground sheets asked 1 ≡ 3
  twos : area_together 1 3 ground sheets asked 2 ≡ 2
  -- a sheet is asked, and one that has no pixel of the window
  accepted_on : (area_on 1 3 (sheets 1 1) asked 1 1 0).refusal ≡ 0
  refused_on : (area_on 1 3 (sheets 0 2) asked 0 2 0).refusal ≡ 6
  -- the blocks of feature 1, sheet after sheet; one of the four sheets has none
  given : select_together 1 3 ground sheets asked 1 (λ i j. replicate 4 94) ≡ block 0 0 4 ∷ block 0 1 3 ∷ block 1 1 1 ∷ []
  given_asked : select_asked 1 3 ground sheets asked 1 (λ i j. replicate 4 94) ≡ block 0 0 4 ∷ block 0 1 3 ∷ block 1 1 1 ∷ []
  order : map (block_number 1 ground) (block 0 0 4 ∷ block 0 1 3 ∷ block 1 1 1 ∷ []) ≡ 4 ∷ 8 ∷ 21 ∷ []
  -- with answers of no place the counts say how many are needed, and the refusal is 12
  places : places_asked 1 3 ground sheets asked 1 (λ i j. []) ≡ 3
  no_room : (select_on 1 3 (sheets 0 1) asked 0 1 1 []).refusal ≡ 12

answers : Answers
unfolding sheets_for inside_ground in_ground cut_at on_sheet meets meets_sheet some_below union_below list_below sum_below block_number exist_together report_together area_together select_together select_asked places_asked built height_of level_of digits_of only_zeros digits_then_zeros digits_before_zero row_of column_of side_of in_block pixel_key every_pixel one_feature features_below bits_of union_of_four twos_in feature_of list_of paired value_at picture_of same_records is_list_of_block is_list first bad_settings bad_length bad_pixel is_window in_window features_of_row features_of_rows features_in occurs union_of exist_in report_in is_given blocks_from select_in count_of area_in pixels_with counts_from summary_below summary_of same_numbers no_summary not_before overlap_end overlap_length overlap_window survey_refusal survey survey_keys survey_bits survey_summary exist_refusal exist report_refusal report area_refusal area selected select_refusal select select_answer
answers = record {
  down = refl;
  across = refl;
  inside = refl;
  found = refl;
  reported = refl;
  zeros = refl;
  ones = refl;
  twos = refl;
  accepted_on = refl;
  refused_on = refl;
  given = refl;
  given_asked = refl;
  order = refl;
  places = refl;
  no_room = refl;
}

-- dragged from a row above the ground to four columns past it: rows 0 and 1, columns 3 and 4 are common, 12 and 22
record Clipped : Type 0 where
  overlap : ground_window ground (negsuc 0) (pos 3) 3 6 ≡ window_at 0 3 2 2
  ones : area_asked 1 3 ground sheets (ground_window ground (negsuc 0) (pos 3) 3 6) 1 ≡ 1
  twos : area_asked 1 3 ground sheets (ground_window ground (negsuc 0) (pos 3) 3 6) 2 ≡ 3
  -- no filler, though the last sheets have it
  zeros : area_asked 1 3 ground sheets (ground_window ground (negsuc 0) (pos 3) 3 6) 0 ≡ 0
  -- above the ground and past it nothing is common
  above : is_empty (ground_window ground (negsuc 4) (pos 0) 5 5) ≡ true
  past : is_empty (ground_window ground (pos 0) (pos 5) 3 1) ≡ true

clipped : Clipped
unfolding ground_window is_empty sheets_for in_ground cut_at on_sheet meets meets_sheet sum_below area_asked built height_of level_of digits_of only_zeros digits_then_zeros digits_before_zero row_of column_of side_of in_block pixel_key every_pixel one_feature features_below bits_of union_of_four twos_in feature_of list_of paired value_at picture_of same_records is_list_of_block is_list first bad_settings bad_length bad_pixel is_window in_window features_of_row features_of_rows features_in count_of area_in pixels_with counts_from summary_below summary_of same_numbers no_summary not_before overlap_end overlap_length overlap_window survey_refusal survey survey_keys survey_bits survey_summary area_refusal area
clipped = record { overlap = refl; ones = refl; twos = refl; zeros = refl; above = refl; past = refl }

-- the four sheets painted with 0, in one order, and taken back in another
abbrev painted : ℕ → ℕ → Buffers
painted = after_sheets 1 3 (paint_on 1 asked 0) (place 1 1 ∷ place 0 0 ∷ place 1 0 ∷ place 0 1 ∷ []) sheets

abbrev taken : ℕ → ℕ → Buffers
taken = after_sheets 1 3 take_back_on (place 0 0 ∷ place 0 1 ∷ place 1 0 ∷ place 1 1 ∷ []) painted

-- rows 00112, 00002, 20001
record Paints : Type 0 where
  once : each_once (place 1 1 ∷ place 0 0 ∷ place 1 0 ∷ place 0 1 ∷ []) ≡ true
  answered : answer 1 3 (sheets 1 1) (paint_on 1 asked 0 1 1) ≡ 0
  -- a sheet that it does not meet
  not_met : answer 1 3 (sheets 0 2) (paint_on 1 asked 0 0 2) ≡ 6
  zeros : area_together 1 3 ground painted whole 0 ≡ 9
  ones : area_together 1 3 ground painted whole 1 ≡ 3
  twos : area_together 1 3 ground painted whole 2 ≡ 3
  -- with the filler below it sheet (1, 1) is one leaf
  leaf : (painted 1 1).n ≡ 1
  stays : painted 0 2 ≡ sheets 0 2
  back : answer 1 3 (painted 1 0) taking_back ≡ 0
  ones_back : area_together 1 3 ground taken whole 1 ≡ 6
  twos_back : area_together 1 3 ground taken whole 2 ≡ 5

paints : Paints
unfolding sheets_for in_ground cut_at on_sheet sum_below area_together is_among each_once after_sheets built answer after valid_key height_of level_of digits_of only_zeros digits_then_zeros digits_before_zero row_of column_of side_of in_block pixel_key every_pixel one_feature features_below bits_of union_of_four twos_in feature_of list_of paired value_at picture_of same_records is_list_of_block is_list first bad_settings bad_length bad_pixel is_window in_window features_of_row features_of_rows features_in is_inside blocks_from largest_blocks count_of area_in pixels_with counts_from summary_below summary_of same_numbers no_summary not_before overlap_end overlap_length overlap_window put paint_in fill_window content_of closed entry_of grouped entries_of group_of count_record last_record last_key last_feature last_count before_last last_content is_content closes last_is_entry ends_in_mark step_count step_entries before_entries before_step ends_in_entries last_is_group last_is_step divides_in is_sound put_back no_log survey_refusal survey survey_keys survey_bits survey_summary area_refusal area group_gained edit_refusal edit_answer keys_left bits_left summary_left log_keys_left log_values_left
paints = record {
  once = refl;
  answered = refl;
  not_met = refl;
  zeros = refl;
  ones = refl;
  twos = refl;
  leaf = refl;
  stays = refl;
  back = refl;
  ones_back = refl;
  twos_back = refl;
}

-- two paints with sheet (0, 1) in common; both are taken back, and the first is redone
abbrev one : GroundPaint
one = record { row = pos 1; column = pos 1; height = 2; width = 3; feature = 0 }

abbrev two : GroundPaint
two = record { row = negsuc 0; column = pos 3; height = 3; width = 6; feature = 1 }

abbrev steps : List GroundStep
steps = paint_step one ∷ paint_step two ∷ back_step ∷ back_step ∷ redo_step ∷ []

abbrev calls : ℕ → ℕ → List Call
calls i j = run_calls 1 ground i j steps (record { held = []; undone = [] })

abbrev left : ℕ → ℕ → Buffers
left i j = after_calls 1 3 (sheets i j) (calls i j)

-- rows 00112, 00002, 20001 again
record Steps : Type 0 where
  paints_kept : kept_steps steps (record { held = []; undone = [] }) ≡ record { held = one ∷ []; undone = two ∷ [] }
  -- a sheet gets the calls of the paints that meet it
  calls_both : calls 0 1 ≡ paint_on 1 asked 0 0 1 ∷ paint_on 1 (window_at 0 3 2 2) 1 0 1 ∷ taking_back ∷ taking_back ∷ redoing ∷ []
  calls_second : calls 0 2 ≡ paint_on 1 (window_at 0 3 2 2) 1 0 2 ∷ taking_back ∷ []
  none_refused : all_accepted 1 3 (sheets 0 1) (calls 0 1) ≡ true
  zeros : area_together 1 3 ground left whole 0 ≡ 9
  ones : area_together 1 3 ground left whole 1 ≡ 3
  twos : area_together 1 3 ground left whole 2 ≡ 3

steps_leave : Steps
unfolding ground_window meets meets_sheet kept_steps keep_step last_back next_again of_first step_calls run_calls all_accepted after_calls sheets_for in_ground cut_at on_sheet sum_below area_together built answer after valid_key height_of level_of digits_of only_zeros digits_then_zeros digits_before_zero row_of column_of side_of in_block pixel_key every_pixel one_feature features_below bits_of union_of_four twos_in feature_of list_of paired value_at picture_of same_records is_list_of_block is_list first bad_settings bad_length bad_pixel is_window in_window features_of_row features_of_rows features_in is_inside blocks_from largest_blocks count_of area_in pixels_with counts_from summary_below summary_of same_numbers no_summary not_before overlap_end overlap_length overlap_window put paint_in fill_window content_of closed entry_of grouped entries_of group_of count_record last_record last_key last_feature last_count before_last last_content is_content closes last_is_entry ends_in_mark step_count step_entries before_entries before_step ends_in_entries last_is_group last_is_step divides_in is_sound first_in first_step put_back paint_again no_log survey_refusal survey survey_keys survey_bits survey_summary area_refusal area group_gained edit_refusal edit_answer keys_left bits_left summary_left log_keys_left log_values_left
steps_leave = record { paints_kept = refl; calls_both = refl; calls_second = refl; none_refused = refl; zeros = refl; ones = refl; twos = refl }

-- row 2, and one row past the ground's last; columns 0 and 1
abbrev over_edge : Window
over_edge = window_at 2 0 2 2

-- past the ground's edge filler counts: so the laws want the window inside, and a window is clipped first
record FillerCounts : Type 0 where
  outside : inside_ground ground over_edge ≡ false
  with_two : area_sheets 1 ground 2 over_edge 2 ≡ 4
  with_other : area_sheets 1 ground 0 over_edge 2 ≡ 2

filler_counts : FillerCounts
unfolding area_sheets sheets_for inside_ground in_ground cut_at on_sheet sum_below features_of_row features_of_rows features_in count_of area_in not_before overlap_end overlap_length overlap_window
filler_counts = record { outside = refl; with_two = refl; with_other = refl }
