-- The orders of refusals (specification S25): for each call, every number alone and every two neighbours at once, of which the first is given; and what
-- standing, part, findings and the file answer on Map A. One table under one claim, proved by computation.
use Prim.Native.Nat.{ℕ}
use mathlib.Core.Path.{refl}
use mathlib.Core.List.{List, [], ◌∷◌, ◌++◌}
use lib.IntN.{negsuc}
use lib.ListN.{length}
use Rattle.keys.specs.Key.{valid_key, digits_of, digits_then_zeros, only_zeros, level_of, digits_before_zero, height_of}
use Rattle.keys.specs.Block.{row_of, column_of, side_of, in_block, in_interval, pixel_key}
use Rattle.definitions.specs.Picture.{every_pixel, one_feature, features_below}
use Rattle.definitions.specs.Bits.{bits_of, union_of_four, twos_in, feature_of}
use Rattle.definitions.specs.List.{list_of}
use Rattle.definitions.specs.Read.{paired, value_at, picture_of, same_records, is_list_of_block, is_list}
use Rattle.definitions.specs.Refusal.{first, bad_settings, bad_length, bad_pixel}
use Rattle.definitions.specs.Standing.{up_to, place_of, is_listed, standing_of, records_in, part_length, part_of}
use Rattle.definitions.specs.Window.{is_window, in_window, features_of_row, features_of_rows, features_in, occurs, union_of, exist_in, report_in, is_given, blocks_from, select_in}
use Rattle.definitions.specs.Clip.{not_before, overlap_end, overlap_length, overlap_window}
use Rattle.definitions.specs.Area.{count_of, pixels_with, counts_from, summary_below, summary_of, same_numbers, no_summary}
use Rattle.definitions.specs.Edit.{put, paint_in, content_of}
use Rattle.definitions.specs.Log.{closed, entry_of, count_record, last_record, last_key, last_feature, last_count, before_last, last_content, is_content, closes, last_is_entry, ends_in_mark, step_count, step_entries, before_entries, before_step, ends_in_entries, last_is_group, last_is_step, divides_in, is_sound, put_back, paint_again, first_in, first_step, no_log}
use Rattle.definitions.specs.Rules.{findings_of, all_findings, waivers_of, is_waived_at, is_hidden, live_of, hidden_count, is_rule, all_rules, ids_ascend, bad_rules, findings_ascend, is_rule_id, all_waivers, bad_waivers}
use Rattle.definitions.specs.File.{bytes_of, number_after, number_of, version_for, bit_bytes, bytes_of_records, head_of, file_of, number_at, read_records, records_in_file, same_bytes, wrong_mark, other_version, bad_at_version}
use Rattle.definitions.specs.Calls.Build.{build_refusal}
use Rattle.definitions.specs.Calls.Survey.{survey_refusal}
use Rattle.definitions.specs.Calls.BlockOf.{block_of_refusal}
use Rattle.definitions.specs.Calls.KeyAt.{key_at_refusal}
use Rattle.definitions.specs.Calls.Raster.{raster_refusal, raster_pixels}
use Rattle.definitions.specs.Calls.Standing.{standing_refusal, standing}
use Rattle.definitions.specs.Calls.Part.{part, part_span}
use Rattle.definitions.specs.Calls.Exist.{exist_refusal, exist}
use Rattle.definitions.specs.Calls.Report.{report_refusal, report}
use Rattle.definitions.specs.Calls.Select.{selected, select_refusal, select}
use Rattle.definitions.specs.Calls.Batch.{refusal_to, value_to, batch_refusal, batch, batch_refusals, batch_values}
use Rattle.definitions.specs.Calls.Edit.{edit_refusal}
use Rattle.definitions.specs.Calls.Paint.{gained, paint}
use Rattle.definitions.specs.Calls.TakeBack.{take_back}
use Rattle.definitions.specs.Calls.Redo.{redo}
use Rattle.definitions.specs.Calls.Findings.{live_in, hidden_in, refusal_with, found_with, ids_with, found_keys_with, findings_refusal, findings, findings_ids, findings_keys}
use Rattle.definitions.specs.Offices.{rows_in, table_of, rows_of, rows_ascend, offices_known, is_sound_table, is_table, row_keys_valid}
use Rattle.definitions.specs.Calls.Store.{stored, store_refusal, store, store_file}
use Rattle.definitions.specs.Calls.Load.{load_refusal, load, load_keys, load_bits}
use Rattle.definitions.specs.declared.Rule.{Rule}
use Rattle.definitions.specs.declared.Question.{Question}
use Rattle.definitions.specs.declared.Stands.{Stands}
use Rattle.definitions.specs.declared.Found.{Found}
use Rattle.definitions.proofs.Vectors.{table_with, VectorRow, row, RowHolds, key, window, of_counted, keys_a, bits_a, unwritten}

-- a map of side 2 with two features, and its list of five records
abbrev pixels : List ℕ
pixels = 0 ∷ 0 ∷ 0 ∷ 1 ∷ []

abbrev keys : List ℕ
keys = 0 ∷ 1 ∷ 2 ∷ 3 ∷ 4 ∷ []

abbrev bits : List ℕ
bits = 3 ∷ 1 ∷ 1 ∷ 1 ∷ 2 ∷ []

-- the two counts of each of its pixels, and those of a map of feature 0 alone
abbrev summary : List ℕ
summary = 1 ∷ 0 ∷ 1 ∷ 0 ∷ 1 ∷ 0 ∷ 0 ∷ 1 ∷ []

abbrev summary_of_one : List ℕ
summary_of_one = 1 ∷ 0 ∷ 1 ∷ 0 ∷ 1 ∷ 0 ∷ 1 ∷ 0 ∷ []

-- an entry of block 4, and then a record that closes nothing
abbrev log_keys : List ℕ
log_keys = 4 ∷ 4 ∷ 4 ∷ 0 ∷ []

abbrev log_values : List ℕ
log_values = 1 ∷ 1 ∷ 0 ∷ 0 ∷ []

-- a question about the window that begins a row and a column before the map
abbrev question : ℕ → ℕ → ℕ → Question
question report side feature =
    record { report = report; row = negsuc 0; column = negsuc 0; height = side; width = side; feature = feature }

-- exist of a feature that is there and of one past s, report with that feature, report and exist without a common pixel, exist where the feature is not
abbrev questions : List Question
questions = question 0 3 1 ∷ question 0 3 2 ∷ question 9 3 2 ∷ question 1 1 0 ∷ question 0 1 2 ∷ question 0 2 1 ∷ []

abbrev rule : ℕ → ℕ → ℕ → Rule
rule id height feature = record { id = id; row = 0; column = 0; height = height; width = 2; feature = feature }

-- a file of the list, with its mark, version, slots and length as given
abbrev file_with : ℕ → ℕ → ℕ → List ℕ → List ℕ
file_with mark_byte version s rest =
    (0x48 ∷ 0x4C ∷ mark_byte ∷ 0 ∷ version ∷ 1 ∷ s ∷ 0 ∷ 0 ∷ 0 ∷ 5 ∷ [])
    ++ ((0 ∷ 0 ∷ 0 ∷ 0 ∷ 0 ∷ 3 ∷ [])
    ++ ((0 ∷ 0 ∷ 0 ∷ 1 ∷ 0 ∷ 1 ∷ [])
    ++ ((0 ∷ 0 ∷ 0 ∷ 2 ∷ 0 ∷ 1 ∷ [])
    ++ ((0 ∷ 0 ∷ 0 ∷ 3 ∷ 0 ∷ 1 ∷ [])
    ++ (0 ∷ 0 ∷ 0 ∷ 4 ∷ 0 ∷ rest)))))

-- the number that a call gives, and the one that the specification says
abbrev gives : ℕ → ℕ → VectorRow
gives computed said = row (computed ∷ []) (said ∷ [])

table : List VectorRow
table =
    -- build: 1, 2, 3, 9
    gives (build_refusal 1 0 pixels keys bits) 1
    ∷ gives (build_refusal 1 33 pixels keys bits) 1
    ∷ gives (build_refusal 1 0 (0 ∷ pixels) keys bits) 1
    ∷ gives (build_refusal 1 2 (0 ∷ pixels) keys bits) 2
    ∷ gives (build_refusal 1 1 (0 ∷ pixels) keys bits) 2
    ∷ gives (build_refusal 1 1 pixels keys bits) 3
    ∷ gives (build_refusal 1 1 pixels keys []) 3
    ∷ gives (build_refusal 1 2 pixels keys (unwritten 4)) 9
    ∷ gives (build_refusal 1 2 pixels keys bits) 0
    -- build with its summary: 1, 2, 3, 18, 9
    ∷ gives (survey_refusal 1 0 (0 ∷ pixels) keys bits summary) 1
    ∷ gives (survey_refusal 1 1 (0 ∷ pixels) keys bits summary) 2
    ∷ gives (survey_refusal 1 1 pixels keys bits (unwritten 4)) 3
    ∷ gives (survey_refusal 1 1 pixels keys bits summary) 3
    ∷ gives (survey_refusal 1 2 pixels keys bits (unwritten 7)) 18
    ∷ gives (survey_refusal 1 2 pixels keys bits (unwritten 9)) 18
    ∷ gives (survey_refusal 1 2 pixels keys (unwritten 4) (unwritten 7)) 18
    ∷ gives (survey_refusal 1 2 pixels keys (unwritten 4) (unwritten 8)) 9
    ∷ gives (survey_refusal 1 2 pixels keys bits (unwritten 8)) 0
    -- block of: 1 (for m alone), 8; key at: 1 (for m alone), 6, 8
    ∷ gives (block_of_refusal 11 5) 1
    ∷ gives (block_of_refusal 1 5) 8
    ∷ gives (block_of_refusal 1 4) 0
    ∷ gives (key_at_refusal 11 2048 0 12) 1
    ∷ gives (key_at_refusal 1 0 2 2) 6
    ∷ gives (key_at_refusal 1 2 0 2) 6
    ∷ gives (key_at_refusal 1 1 1 2) 8
    ∷ gives (key_at_refusal 1 1 1 1) 0
    -- raster from list: 1, 4, 2
    ∷ gives (raster_refusal 1 0 keys bits 4 pixels) 1
    ∷ gives (raster_refusal 1 2 keys bits 4 []) 4
    ∷ gives (raster_refusal 1 1 keys bits 5 pixels) 4
    ∷ gives (raster_refusal 1 2 keys bits 6 pixels) 4
    ∷ gives (raster_refusal 1 2 keys bits 0 pixels) 4
    ∷ gives (raster_refusal 1 2 keys bits 5 []) 2
    ∷ row (raster_pixels 1 2 keys bits 5 (unwritten 4)) pixels
    -- standing: 1, 4, 8
    ∷ gives (standing_refusal 1 0 keys bits 4 1) 1
    ∷ gives (standing_refusal 1 2 keys bits 4 5) 4
    ∷ gives (standing_refusal 1 2 keys bits 5 5) 8
    -- exist: 1, 4, 6, 7
    ∷ gives (exist_refusal 1 0 keys bits 4 (window 0 0 1 1) 0) 1
    ∷ gives (exist_refusal 1 2 keys bits 4 (window 0 0 0 1) 0) 4
    ∷ gives (exist_refusal 1 2 keys bits 5 (window 0 0 0 1) 2) 6
    ∷ gives (exist_refusal 1 2 keys bits 5 (window 1 0 2 1) 0) 6
    ∷ gives (exist_refusal 1 2 keys bits 5 (window 0 0 1 1) 2) 7
    -- report: 1, 4, 6
    ∷ gives (report_refusal 1 0 keys bits 4 (window 0 0 1 1)) 1
    ∷ gives (report_refusal 1 2 keys bits 4 (window 0 0 1 0)) 4
    ∷ gives (report_refusal 1 2 keys bits 5 (window 0 1 1 2)) 6
    -- select: 1, 4, 6, 7, 12 with the places needed
    ∷ gives (select_refusal 1 0 keys bits 4 (window 0 0 1 1) 0 []) 1
    ∷ gives (select_refusal 1 2 keys bits 4 (window 0 0 0 1) 0 []) 4
    ∷ gives (select_refusal 1 2 keys bits 5 (window 0 0 0 1) 2 []) 6
    ∷ gives (select_refusal 1 2 keys bits 5 (window 0 0 1 1) 2 []) 7
    ∷ row (of_counted (select 1 2 keys bits 5 (window 0 0 2 2) 0 (unwritten 2))) (12 ∷ 3 ∷ [])
    -- batch: 1, 4, 12 with the places needed, on either side; and every kind of question on the whole map
    ∷ gives (batch_refusal 1 0 keys bits 4 questions [] []) 1
    ∷ gives (batch_refusal 1 2 keys bits 4 questions [] []) 4
    ∷ row (of_counted (batch 1 2 keys bits 5 questions (unwritten 5) (unwritten 7))) (12 ∷ 6 ∷ [])
    ∷ gives (batch_refusal 1 2 keys bits 5 questions (unwritten 6) (unwritten 5)) 12
    ∷ row (of_counted (batch 1 2 keys bits 5 questions (unwritten 6) (unwritten 7))) (0 ∷ 6 ∷ [])
    ∷ row (batch_refusals 1 2 keys bits 5 questions (unwritten 6) (unwritten 7)) (0 ∷ 7 ∷ 0 ∷ 6 ∷ 6 ∷ 0 ∷ [])
    ∷ row (batch_values 1 2 keys bits 5 questions (unwritten 6) (unwritten 7)) (1 ∷ 0 ∷ 3 ∷ 0 ∷ 0 ∷ 0 ∷ 77 ∷ [])
    -- paint: 1, 4, 18, 5, 8, 7, 10, 9
    ∷ gives (edit_refusal (paint 1 0 keys bits 4 summary log_keys log_values 0 0 1 0)) 1
    ∷ gives (edit_refusal (paint 1 2 keys bits 4 summary log_keys log_values 0 0 1 0)) 4
    ∷ gives (edit_refusal (paint 1 2 keys bits 4 [] log_keys log_values 4 4 1 0)) 4
    ∷ gives (edit_refusal (paint 1 2 keys bits 5 summary_of_one log_keys log_values 0 0 1 0)) 18
    ∷ gives (edit_refusal (paint 1 2 keys bits 5 [] log_keys log_values 4 4 1 0)) 18
    ∷ gives (edit_refusal (paint 1 2 keys bits 5 summary log_keys log_values 4 4 5 0)) 5
    ∷ gives (edit_refusal (paint 1 2 keys bits 5 summary log_keys log_values 5 5 1 0)) 5
    ∷ gives (edit_refusal (paint 1 2 keys bits 5 summary log_keys log_values 3 1 5 0)) 5
    ∷ gives (edit_refusal (paint 1 2 keys bits 5 summary log_keys log_values 3 3 5 2)) 8
    ∷ gives (edit_refusal (paint 1 2 keys bits 5 summary log_keys log_values 3 3 1 2)) 7
    ∷ gives (edit_refusal (paint 1 2 (0 ∷ []) (1 ∷ []) 1 summary_of_one log_keys log_values 3 3 1 1)) 10
    ∷ gives (edit_refusal (paint 1 2 (0 ∷ []) (1 ∷ []) 1 summary_of_one log_keys log_values 3 0 1 1)) 9
    -- take back: 1, 4, 18, 5, 11, 9 (a log from another map)
    ∷ gives (edit_refusal (take_back 1 0 keys bits 4 summary log_keys log_values 0 0)) 1
    ∷ gives (edit_refusal (take_back 1 2 keys bits 4 summary log_keys log_values 3 3)) 4
    ∷ gives (edit_refusal (take_back 1 2 keys bits 4 [] log_keys log_values 4 4)) 4
    ∷ gives (edit_refusal (take_back 1 2 keys bits 5 summary_of_one log_keys log_values 3 3)) 18
    ∷ gives (edit_refusal (take_back 1 2 keys bits 5 [] log_keys log_values 4 4)) 18
    ∷ gives (edit_refusal (take_back 1 2 keys bits 5 summary log_keys log_values 4 4)) 5
    ∷ gives (edit_refusal (take_back 1 2 keys bits 5 summary log_keys log_values 4 0)) 5
    ∷ gives (edit_refusal (take_back 1 2 keys bits 5 summary log_keys log_values 0 0)) 11
    ∷ gives (edit_refusal (take_back 1 2 keys bits 5 summary log_keys log_values 3 0)) 11
    ∷ gives (edit_refusal (take_back 1 2 (0 ∷ []) (1 ∷ []) 1 summary_of_one (4 ∷ 4 ∷ 4 ∷ []) (2 ∷ 1 ∷ 0 ∷ []) 3 3)) 9
    -- redo: 1, 4, 18, 5, 20, 9 (a log from another map)
    ∷ gives (edit_refusal (redo 1 0 keys bits 4 summary log_keys log_values 0 0)) 1
    ∷ gives (edit_refusal (redo 1 2 keys bits 4 summary log_keys log_values 3 0)) 4
    ∷ gives (edit_refusal (redo 1 2 keys bits 4 [] log_keys log_values 4 4)) 4
    ∷ gives (edit_refusal (redo 1 2 keys bits 5 summary_of_one log_keys log_values 3 0)) 18
    ∷ gives (edit_refusal (redo 1 2 keys bits 5 [] log_keys log_values 4 4)) 18
    ∷ gives (edit_refusal (redo 1 2 keys bits 5 summary log_keys log_values 4 4)) 5
    ∷ gives (edit_refusal (redo 1 2 keys bits 5 summary log_keys log_values 3 2)) 5
    ∷ gives (edit_refusal (redo 1 2 keys bits 5 summary log_keys log_values 0 0)) 20
    ∷ gives (edit_refusal (redo 1 2 keys bits 5 summary log_keys log_values 3 3)) 20
    ∷ gives (edit_refusal (redo 1 2 (0 ∷ []) (1 ∷ []) 1 summary_of_one (4 ∷ 4 ∷ 4 ∷ []) (2 ∷ 1 ∷ 1 ∷ []) 3 0)) 9
    -- findings: 21, 1, 4, 13, 14, 12
    ∷ gives (findings_refusal 1 0 keys bits 4 2 [] [] [] [] 0 [] []) 21
    ∷ gives (findings_refusal 1 0 keys bits 4 0 [] [] [] [] 0 [] []) 1
    ∷ gives (findings_refusal 1 2 keys bits 4 0 (rule 7 0 0 ∷ []) (table_with []) (table_with []) (table_with []) 0 [] []) 4
    ∷ gives (asked (rule 7 0 0 ∷ []) (8 ∷ []) (0 ∷ []) [] []) 13
    ∷ gives (asked (rule 7 1 2 ∷ []) [] [] [] []) 13
    ∷ gives (asked (rule 7 1 0 ∷ rule 7 1 1 ∷ []) [] [] [] []) 13
    ∷ gives (asked (rule 7 1 0 ∷ []) (8 ∷ []) (0 ∷ []) [] []) 14
    ∷ gives (asked (rule 7 1 0 ∷ []) (7 ∷ []) (5 ∷ []) [] []) 14
    ∷ gives (asked (rule 7 1 0 ∷ []) (7 ∷ 7 ∷ []) (1 ∷ 1 ∷ []) [] []) 14
    ∷ gives (asked (rule 7 1 0 ∷ []) (7 ∷ []) (1 ∷ []) [] (unwritten 9)) 12
    -- store: 1, 4, 12
    ∷ gives (store_refusal 1 0 keys bits 4 []) 1
    ∷ gives (store_refusal 1 2 keys bits 4 []) 4
    ∷ row (of_counted (store 1 2 keys bits 5 (unwritten 40))) (12 ∷ 41 ∷ [])
    -- load: 15 under 11 bytes, 16, 17, 1, 15 by length, 4, 9
    ∷ gives (load_refusal (0 ∷ []) keys bits) 15
    ∷ gives (load_refusal (file_with 0x52 2 2 (2 ∷ [])) keys bits) 16
    ∷ gives (load_refusal (file_with 0x51 2 0 (2 ∷ [])) keys bits) 17
    ∷ gives (load_refusal (file_with 0x51 1 0 []) keys bits) 1
    ∷ gives (load_refusal (file_with 0x51 1 1 (2 ∷ 2 ∷ [])) keys bits) 15
    ∷ gives (load_refusal (file_with 0x51 1 1 (2 ∷ [])) [] bits) 4
    ∷ gives (load_refusal (file_with 0x51 1 2 (2 ∷ [])) (unwritten 4) bits) 9
    -- the file of the list, byte for byte, and the list of the file
    ∷ row (store_file 1 2 keys bits 5 (unwritten 42)) (file_with 0x51 1 2 (2 ∷ 77 ∷ []))
    ∷ row (load_keys (file_with 0x51 1 2 (2 ∷ [])) (unwritten 6) (unwritten 7)) (0 ∷ 1 ∷ 2 ∷ 3 ∷ 4 ∷ 77 ∷ [])
    ∷ row (load_bits (file_with 0x51 1 2 (2 ∷ [])) (unwritten 6) (unwritten 7)) (3 ∷ 1 ∷ 1 ∷ 1 ∷ 2 ∷ 77 ∷ 77 ∷ [])
    -- on Map A: block 24 is listed at place 6 with its one record, block 20 at place 2 with five, the root with all nine; block 11 lies inside the leaf
    -- 10 at place 1, which is of level 1; and a refused call gives its number alone
    ∷ row (of_stands (standing 2 3 (keys_a 0) (bits_a 0) 9 (key (2 ∷ 4 ∷ [])))) (0 ∷ 1 ∷ 6 ∷ 1 ∷ 0 ∷ 0 ∷ [])
    ∷ row (of_stands (standing 2 3 (keys_a 0) (bits_a 0) 9 (key (2 ∷ 0 ∷ [])))) (0 ∷ 1 ∷ 2 ∷ 5 ∷ 0 ∷ 0 ∷ [])
    ∷ row (of_stands (standing 2 3 (keys_a 0) (bits_a 0) 9 0)) (0 ∷ 1 ∷ 0 ∷ 9 ∷ 0 ∷ 0 ∷ [])
    ∷ row (of_stands (standing 2 3 (keys_a 0) (bits_a 0) 9 (key (1 ∷ 1 ∷ [])))) (0 ∷ 2 ∷ 1 ∷ 0 ∷ key (1 ∷ 0 ∷ []) ∷ 1 ∷ [])
    ∷ row (of_stands (standing 2 3 (keys_a 0) (bits_a 0) 9 (key (5 ∷ 0 ∷ [])))) (8 ∷ 0 ∷ 0 ∷ 0 ∷ 0 ∷ 0 ∷ [])
    -- the part of block 20 is its record and its four children's, that of block 11 the record of the leaf around it
    ∷ row (part 2 3 (keys_a 1) (bits_a 1) 9 (key (2 ∷ 0 ∷ [])))
    (key (2 ∷ 0 ∷ []) ∷ key (2 ∷ 1 ∷ []) ∷ key (2 ∷ 2 ∷ []) ∷ key (2 ∷ 3 ∷ []) ∷ key (2 ∷ 4 ∷ []) ∷ [])
    ∷ row (part 2 3 (keys_a 1) (bits_a 1) 9 (key (1 ∷ 1 ∷ []))) (key (1 ∷ 0 ∷ []) ∷ [])
    ∷ row (part 2 3 (keys_a 1) (bits_a 1) 9 (key (1 ∷ 0 ∷ 0 ∷ []))) []
    -- two rules find 21, 22, 23 and 24, 30; the waivers hide 22 of the first and 24 of the second and nothing else
    ∷ row (of_found (findings 2 3 (keys_a 0) (bits_a 0) 9 0 rules (table_with []) (table_with waiver_ids) (table_with waiver_keys) 3 (unwritten 4) (unwritten 3))) (0 ∷ 3 ∷ 2 ∷ [])
    ∷ row (findings_ids 2 3 (keys_a 0) (bits_a 0) 9 0 rules (table_with []) (table_with waiver_ids) (table_with waiver_keys) 3 (unwritten 4) (unwritten 3)) (3 ∷ 3 ∷ 8 ∷ 77 ∷ [])
    ∷ row (findings_keys 2 3 (keys_a 0) (bits_a 0) 9 0 rules (table_with []) (table_with waiver_ids) (table_with waiver_keys) 3 (unwritten 4) (unwritten 3))
    (key (2 ∷ 1 ∷ []) ∷ key (2 ∷ 3 ∷ []) ∷ key (3 ∷ 0 ∷ []) ∷ [])
    ∷ []
  where
    -- the refusal of a call of office 0 with these waivers in the table
    asked : List Rule → List ℕ → List ℕ → List ℕ → List ℕ → ℕ
    asked rules ids waived found_ids found_keys =
        findings_refusal 1 2 keys bits 5 0 rules (table_with []) (table_with ids) (table_with waived) (length ids) found_ids found_keys

    of_stands : Stands → List ℕ
    of_stands r = r.refusal ∷ r.kind ∷ r.place ∷ r.records ∷ r.leaf ∷ r.level ∷ []

    of_found : Found → List ℕ
    of_found r = r.refusal ∷ r.live ∷ r.hidden ∷ []

    rules : List Rule
    rules =
        record { id = 3; row = 0; column = 1; height = 2; width = 3; feature = 1 }
        ∷ record { id = 8; row = 0; column = 0; height = 4; width = 4; feature = 2 }
        ∷ []

    waiver_ids : List ℕ
    waiver_ids = 3 ∷ 3 ∷ 8 ∷ []

    -- a waiver with no finding (24 of the first rule) hides nothing
    waiver_keys : List ℕ
    waiver_keys = key (2 ∷ 2 ∷ []) ∷ key (2 ∷ 4 ∷ []) ∷ key (2 ∷ 4 ∷ []) ∷ []

claim : RowHolds table
unfolding
    table
    valid_key digits_of digits_then_zeros only_zeros level_of digits_before_zero height_of row_of column_of side_of in_block in_interval pixel_key
    every_pixel one_feature features_below bits_of union_of_four twos_in feature_of list_of
    paired value_at picture_of same_records is_list_of_block is_list
    first bad_settings bad_length bad_pixel
    up_to place_of is_listed standing_of records_in part_length part_of
    is_window in_window features_of_row features_of_rows features_in occurs union_of exist_in report_in is_given blocks_from select_in
    count_of pixels_with counts_from summary_below summary_of same_numbers no_summary
    put paint_in content_of
    closed entry_of count_record last_record last_key last_feature last_count before_last last_content is_content closes last_is_entry ends_in_mark step_count step_entries before_entries before_step ends_in_entries last_is_group last_is_step divides_in is_sound put_back paint_again first_in first_step no_log
    findings_of all_findings waivers_of is_waived_at is_hidden live_of hidden_count is_rule all_rules ids_ascend bad_rules findings_ascend is_rule_id all_waivers bad_waivers
    bytes_of number_after number_of version_for bit_bytes bytes_of_records head_of file_of number_at read_records records_in_file same_bytes wrong_mark other_version bad_at_version
    build_refusal survey_refusal block_of_refusal key_at_refusal raster_refusal raster_pixels standing_refusal standing part part_span exist_refusal report_refusal selected select_refusal select
    exist report not_before overlap_end overlap_length overlap_window refusal_to value_to batch_refusal batch batch_refusals batch_values
    gained
    rows_in table_of rows_of rows_ascend offices_known is_sound_table is_table row_keys_valid
    live_in hidden_in refusal_with found_with ids_with found_keys_with table_with
    stored store_refusal store store_file load_refusal load load_keys load_bits
    edit_refusal
claim = refl
