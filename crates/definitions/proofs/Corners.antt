-- Limits and corner cases (specification S1 to S16): examples of keys, the ends of the ranges of m and s, each fault of a log, of a summary and of a file
-- alone, a paint that changes no pixel, and findings with nothing to find or no room. One table under one claim, proved by computation.
use Prim.Native.Nat.{ℕ}
use mathlib.Core.Path.{refl}
use mathlib.Core.Bool.{Bool, cond}
use mathlib.Core.List.{List, [], ◌∷◌, ◌++◌, map}
use lib.ListN.{set}
use Rattle.keys.specs.Key.{valid_key, digits_of, digits_then_zeros, only_zeros, level_of, digits_before_zero, height_of, root_key, child_key, parent_key}
use Rattle.keys.specs.Block.{row_of, column_of, side_of, in_block, pixel_key, contains, is_ancestor}
use Rattle.definitions.specs.Picture.{every_pixel, one_feature, features_below}
use Rattle.definitions.specs.Bits.{bits_of, union_of_four, twos_in, feature_of}
use Rattle.definitions.specs.List.{list_of}
use Rattle.definitions.specs.Read.{paired, value_at, picture_of, same_records, is_list_of_block, is_list}
use Rattle.definitions.specs.Refusal.{first, bad_settings, bad_length, bad_pixel}
use Rattle.definitions.specs.Window.{is_window, in_window, features_of_row, features_of_rows, is_given, blocks_from, select_in}
use Rattle.definitions.specs.Area.{count_of, pixels_with, counts_from, summary_below, summary_of, same_numbers, no_summary}
use Rattle.definitions.specs.Edit.{put, paint_in, content_of}
use Rattle.definitions.specs.Log.{closed, entry_of, count_record, last_record, last_key, last_feature, last_count, before_last, last_content, is_content, closes, last_is_entry, ends_in_mark, step_count, step_entries, before_entries, before_step, ends_in_entries, last_is_group, last_is_step, divides_in, is_sound, put_back, paint_again, no_log}
use Rattle.definitions.specs.Rules.{findings_of, all_findings, waivers_of, is_waived_at, is_hidden, live_of, hidden_count, is_rule, all_rules, ids_ascend, bad_rules, findings_ascend, is_rule_id, all_waivers, bad_waivers}
use Rattle.definitions.specs.File.{bytes_of, number_after, number_of, version_for, bit_bytes, bytes_of_records, head_of, file_of, number_at, read_records, records_in_file, same_bytes, wrong_mark, other_version, bad_at_version}
use Rattle.definitions.specs.Calls.Build.{build_refusal, build, build_keys, build_bits}
use Rattle.definitions.specs.Calls.Edit.{edit_refusal, edit_answer, keys_left, summary_left}
use Rattle.definitions.specs.Calls.Paint.{gained, paint}
use Rattle.definitions.specs.Calls.Findings.{live_in, hidden_in, refusal_with, found_with, findings}
use Rattle.definitions.specs.Offices.{rows_in, table_of, rows_of, rows_ascend, offices_known, is_sound_table, is_table, row_keys_valid}
use Rattle.definitions.specs.Calls.Load.{load_refusal}
use Rattle.definitions.specs.declared.Rule.{Rule}
use Rattle.definitions.specs.declared.Found.{Found}
use Rattle.definitions.proofs.Vectors.{table_with, VectorRow, row, RowHolds, key, of_counted, of_edited, map_a, keys_a, bits_a, unwritten}
use Rattle.definitions.proofs.AreaVectors.{areas_counted, summary_a}

-- a yes or no, as 1 or 0
abbrev truth : Bool → ℕ
truth b = cond b 1 0

abbrev says : Bool → ℕ → VectorRow
says computed said = row (truth computed ∷ []) (said ∷ [])

abbrev gives : ℕ → ℕ → VectorRow
gives computed said = row (computed ∷ []) (said ∷ [])

-- a file of eleven bytes: mark, version, m, s and n
abbrev head : ℕ → ℕ → ℕ → ℕ → List ℕ → List ℕ
head high low m s n = 0x48 ∷ 0x4C ∷ 0x51 ∷ high ∷ low ∷ m ∷ s ∷ n

abbrev rule : ℕ → Rule
rule id = record { id = id; row = 0; column = 0; height = 4; width = 4; feature = 2 }

table : List VectorRow
table =
    -- keys: pixel (row 1, column 2) at m = 2 is 13; the largest at m = 10 is 9,765,624; at m = 0 the only one is 0
    row (pixel_key 2 1 2 ∷ digits_of 2 13) (13 ∷ 2 ∷ 3 ∷ [])
    ∷ says (valid_key 2 13) 1
    ∷ says (valid_key 10 9765624) 1
    ∷ says (valid_key 10 9765625) 0
    ∷ says (valid_key 0 0) 1
    ∷ says (valid_key 0 1) 0
    -- a zero before another digit is no key: 03 at m = 2
    ∷ says (valid_key 2 (key (0 ∷ 3 ∷ []))) 0
    -- the block 20 at m = 2: level 1, two rows and columns from row 0, column 2 on; its parent is the root, its fourth quadrant 24
    ∷ row (level_of 2 10 ∷ row_of 2 10 ∷ column_of 2 10 ∷ side_of 2 10 ∷ parent_key 2 10 ∷ child_key 10 0 4 ∷ []) (1 ∷ 0 ∷ 2 ∷ 2 ∷ root_key ∷ 14 ∷ [])
    -- no block is its own ancestor; a block that contains another is
    ∷ says (is_ancestor 2 10 10) 0
    ∷ says (is_ancestor 2 10 14) 1
    ∷ says (is_ancestor 2 14 10) 0
    -- settings: m up to 10, s from 1 to 32
    ∷ says (bad_settings 10 32) 0
    ∷ says (bad_settings 0 1) 0
    ∷ says (bad_settings 11 32) 1
    ∷ says (bad_settings 10 33) 1
    ∷ says (bad_settings 10 0) 1
    -- build through its whole buffers: nothing is written past the ninth place, and nothing at all where one slice is too short
    ∷ row (of_counted (build 2 3 map_a (unwritten 11) (unwritten 10))) (0 ∷ 9 ∷ [])
    ∷ row (build_keys 2 3 map_a (unwritten 11) (unwritten 10)) (keys_a 0 ++ unwritten 2)
    ∷ row (build_bits 2 3 map_a (unwritten 11) (unwritten 10)) (bits_a 0 ++ unwritten 1)
    ∷ row (of_counted (build 2 3 map_a (unwritten 11) (unwritten 8))) (9 ∷ 0 ∷ [])
    ∷ row (build_keys 2 3 map_a (unwritten 11) (unwritten 8)) (unwritten 11)
    -- a log: no entry is sound; then one fault at a time
    ∷ says (no_log 1 2 [] [] 0 0) 0
    ∷ says (no_log 1 2 (4 ∷ 4 ∷ 4 ∷ []) (1 ∷ 1 ∷ 0 ∷ []) 3 3) 0
    -- used exceeds the shorter slice
    ∷ says (no_log 1 2 (4 ∷ 4 ∷ 4 ∷ []) (1 ∷ 1 ∷ []) 3 3) 1
    -- a count of 0, and one larger than the records before it
    ∷ says (no_log 1 2 (4 ∷ 4 ∷ 4 ∷ []) (1 ∷ 0 ∷ 0 ∷ []) 3 3) 1
    ∷ says (no_log 1 2 (4 ∷ 4 ∷ 4 ∷ []) (1 ∷ 2 ∷ 0 ∷ []) 3 3) 1
    -- a closing key that is not valid, and two closing keys
    ∷ says (no_log 1 2 (5 ∷ 5 ∷ 5 ∷ []) (1 ∷ 1 ∷ 0 ∷ []) 3 3) 1
    ∷ says (no_log 1 2 (4 ∷ 3 ∷ 4 ∷ []) (1 ∷ 1 ∷ 0 ∷ []) 3 3) 1
    -- the last feature below s, and the first that is not
    ∷ says (no_log 1 2 (4 ∷ 4 ∷ 4 ∷ []) (1 ∷ 1 ∷ 1 ∷ []) 3 3) 0
    ∷ says (no_log 1 2 (4 ∷ 4 ∷ 4 ∷ []) (1 ∷ 1 ∷ 2 ∷ []) 3 3) 1
    -- a content of another block, with a slot of s or more, with no slot, and a node without its children
    ∷ says (no_log 1 2 (3 ∷ 4 ∷ 4 ∷ []) (1 ∷ 1 ∷ 0 ∷ []) 3 3) 1
    ∷ says (no_log 1 2 (4 ∷ 4 ∷ 4 ∷ []) (4 ∷ 1 ∷ 0 ∷ []) 3 3) 1
    ∷ says (no_log 1 2 (4 ∷ 4 ∷ 4 ∷ []) (0 ∷ 1 ∷ 0 ∷ []) 3 3) 1
    ∷ says (no_log 1 2 (0 ∷ 0 ∷ 0 ∷ []) (3 ∷ 1 ∷ 0 ∷ []) 3 3) 1
    -- the entry is to be redone; the count in force lies inside it, or past the records used
    ∷ says (no_log 1 2 (4 ∷ 4 ∷ 4 ∷ []) (1 ∷ 1 ∷ 0 ∷ []) 3 0) 0
    ∷ says (no_log 1 2 (4 ∷ 4 ∷ 4 ∷ []) (1 ∷ 1 ∷ 0 ∷ []) 3 1) 1
    ∷ says (no_log 1 2 (4 ∷ 4 ∷ 4 ∷ []) (1 ∷ 1 ∷ 0 ∷ []) 3 2) 1
    ∷ says (no_log 1 2 (4 ∷ 4 ∷ 4 ∷ []) (1 ∷ 1 ∷ 0 ∷ []) 0 3) 1
    -- of two entries one, both or none are in force; a fault past the count in force is a fault
    ∷ row (map (λ in_force. truth (no_log 1 2 two_keys two_values 6 in_force)) (0 ∷ 1 ∷ 2 ∷ 3 ∷ 4 ∷ 5 ∷ 6 ∷ 7 ∷ [])) (0 ∷ 1 ∷ 1 ∷ 0 ∷ 1 ∷ 1 ∷ 0 ∷ 1 ∷ [])
    ∷ says (no_log 1 2 two_keys (set two_values 5 2) 6 3) 1
    ∷ says (no_log 1 2 two_keys (set two_values 3 0) 6 3) 1
    -- a paint that changes no pixel is logged, and the list stays in exact room, and so does the summary; with no room in the log it is refused like any other
    ∷ row (of_edited (edit_answer (paint 2 3 (keys_a 0) (bits_a 0) 9 summary_a (unwritten 3) (unwritten 3) 0 0 (key (1 ∷ 1 ∷ [])) 0))) (0 ∷ 9 ∷ 3 ∷ 3 ∷ [])
    ∷ row (keys_left (paint 2 3 (keys_a 0) (bits_a 0) 9 summary_a (unwritten 3) (unwritten 3) 0 0 (key (1 ∷ 1 ∷ [])) 0)) (keys_a 0)
    ∷ row (summary_left (paint 2 3 (keys_a 0) (bits_a 0) 9 summary_a (unwritten 3) (unwritten 3) 0 0 (key (1 ∷ 1 ∷ [])) 0)) summary_a
    ∷ row (of_edited (edit_answer (paint 2 3 (keys_a 0) (bits_a 0) 9 summary_a (unwritten 2) (unwritten 3) 0 0 (key (1 ∷ 1 ∷ [])) 0))) (10 ∷ 0 ∷ 0 ∷ 0 ∷ [])
    -- a summary too short, too long, of other counts, and of the counts in another block's places: a paint is refused and leaves it
    ∷ row
    (refused_by []
    ∷ refused_by (summary_a ++ (0 ∷ []))
    ∷ refused_by (set summary_a 47 1)
    ∷ refused_by (areas_counted (0 ∷ 0 ∷ 0 ∷ 0 ∷ 2 ∷ 1 ∷ 1 ∷ 1 ∷ 2 ∷ 2 ∷ 2 ∷ 2 ∷ 0 ∷ 0 ∷ 0 ∷ 0 ∷ []))
    ∷ refused_by summary_a
    ∷ [])
    (18 ∷ 18 ∷ 18 ∷ 18 ∷ 0 ∷ [])
    ∷ row (summary_left (paint 2 3 (keys_a 0) (bits_a 0) 9 (unwritten 48) (unwritten 3) (unwritten 3) 0 0 (key (1 ∷ 1 ∷ [])) 0)) (unwritten 48)
    -- findings: no rules and no waivers; rules without waivers; with 12 the places of the live ones and hidden 0
    ∷ row (of_found (findings 2 3 (keys_a 0) (bits_a 0) 9 0 [] (table_with []) (table_with []) (table_with []) 0 [] [])) (0 ∷ 0 ∷ 0 ∷ [])
    ∷ row (of_found (findings 2 3 (keys_a 0) (bits_a 0) 9 0 (rule 7 ∷ []) (table_with []) (table_with []) (table_with []) 0 (unwritten 2) (unwritten 2))) (0 ∷ 2 ∷ 0 ∷ [])
    ∷ row (of_found (findings 2 3 (keys_a 0) (bits_a 0) 9 0 (rule 7 ∷ rule 8 ∷ []) (table_with []) (table_with (7 ∷ [])) (table_with (key (2 ∷ 4 ∷ []) ∷ [])) 1 (unwritten 2) (unwritten 9))) (12 ∷ 3 ∷ 0 ∷ [])
    -- files of eleven bytes: n = 0 is no list, version 257 is not 1, and n = 2^32 - 1 does not wrap
    ∷ gives (load_refusal (head 0 1 0 1 (0 ∷ 0 ∷ 0 ∷ 0 ∷ [])) [] []) 4
    ∷ gives (load_refusal (head 1 1 0 1 (0 ∷ 0 ∷ 0 ∷ 0 ∷ [])) [] []) 17
    ∷ gives (load_refusal (head 0 1 0 1 (255 ∷ 255 ∷ 255 ∷ 255 ∷ [])) [] []) 15
    ∷ gives (load_refusal (head 0 1 11 1 (0 ∷ 0 ∷ 0 ∷ 0 ∷ [])) [] []) 1
    ∷ []
  where
    -- two entries of block 4: as often as a closing record is read as content the count in force decides by entries from the end
    two_keys : List ℕ
    two_keys = 4 ∷ 4 ∷ 4 ∷ 4 ∷ 4 ∷ 4 ∷ []

    two_values : List ℕ
    two_values = 1 ∷ 1 ∷ 1 ∷ 1 ∷ 1 ∷ 1 ∷ []

    -- the refusal of a paint of Map A with this summary
    refused_by : List ℕ → ℕ
    refused_by summary = edit_refusal (paint 2 3 (keys_a 0) (bits_a 0) 9 summary (unwritten 3) (unwritten 3) 0 0 (key (1 ∷ 1 ∷ [])) 0)

    of_found : Found → List ℕ
    of_found r = r.refusal ∷ r.live ∷ r.hidden ∷ []

claim : RowHolds table
unfolding
    table
    valid_key digits_of digits_then_zeros only_zeros level_of digits_before_zero height_of parent_key row_of column_of side_of in_block pixel_key contains is_ancestor
    every_pixel one_feature features_below bits_of union_of_four twos_in feature_of list_of
    paired value_at picture_of same_records is_list_of_block is_list
    first bad_settings bad_length bad_pixel
    is_window in_window features_of_row features_of_rows is_given blocks_from select_in
    count_of pixels_with counts_from summary_below summary_of same_numbers no_summary
    put paint_in content_of
    closed entry_of count_record last_record last_key last_feature last_count before_last last_content is_content closes last_is_entry ends_in_mark step_count step_entries before_entries before_step ends_in_entries last_is_group last_is_step divides_in is_sound put_back paint_again no_log
    findings_of all_findings waivers_of is_waived_at is_hidden live_of hidden_count is_rule all_rules ids_ascend bad_rules findings_ascend is_rule_id all_waivers bad_waivers
    bytes_of number_after number_of version_for bit_bytes bytes_of_records head_of file_of number_at read_records records_in_file same_bytes wrong_mark other_version bad_at_version
    build_refusal build build_keys build_bits
    gained
    rows_in table_of rows_of rows_ascend offices_known is_sound_table is_table row_keys_valid
    live_in hidden_in refusal_with found_with table_with load_refusal
    edit_refusal edit_answer keys_left summary_left
claim = refl
