-- Four waivers that cover one finding (specification S13.6), on Map A: the four blocks under 20 are waived while one of them holds no scrub (feature 1); a paint
-- fills the gap, the four are one block, and no finding comes up. With coverings of other kinds beside it; one table under one claim, proved by computation.
use Prim.Native.Nat.{ℕ}
use mathlib.Core.Path.{refl}
use mathlib.Core.List.{List, [], ◌∷◌}
use lib.ListN.{length}
use Rattle.keys.specs.Key.{valid_key, digits_of, digits_then_zeros, only_zeros, level_of, digits_before_zero, height_of}
use Rattle.keys.specs.Block.{row_of, column_of, side_of, in_block, pixel_key}
use Rattle.definitions.specs.Picture.{every_pixel, one_feature, features_below}
use Rattle.definitions.specs.Bits.{bits_of, union_of_four, twos_in, feature_of}
use Rattle.definitions.specs.List.{list_of}
use Rattle.definitions.specs.Read.{paired, value_at, picture_of, same_records, is_list_of_block, is_list}
use Rattle.definitions.specs.Refusal.{first, bad_settings, bad_length, bad_pixel}
use Rattle.definitions.specs.Window.{is_window, in_window, features_of_row, features_of_rows, is_given, blocks_from, select_in}
use Rattle.definitions.specs.Edit.{put, paint_in, content_of}
use Rattle.definitions.specs.Log.{closed, entry_of, count_record, last_record, last_key, last_feature, last_count, before_last, last_content, is_content, closes, last_is_entry, divides_in, is_sound, no_log}
use Rattle.definitions.specs.Rules.{findings_of, all_findings, waivers_of, is_waived_at, is_hidden, live_of, hidden_count, is_rule, all_rules, ids_ascend, bad_rules, findings_ascend, is_rule_id, all_waivers, bad_waivers}
use Rattle.definitions.specs.Calls.Edit.{edit_refusal, edit_answer, keys_left, bits_left}
use Rattle.definitions.specs.Calls.Paint.{gained, paint}
use Rattle.definitions.specs.Calls.Findings.{live_in, hidden_in, refusal_with, found_with, found_keys_with, findings, findings_keys}
use Rattle.definitions.specs.Offices.{rows_in, table_of, rows_of, rows_ascend, offices_known, is_sound_table, is_table, row_keys_valid}
use Rattle.definitions.specs.declared.Rule.{Rule}
use Rattle.definitions.specs.declared.Found.{Found}
use Rattle.definitions.specs.Area.{count_of, pixels_with, counts_from, summary_below, summary_of, same_numbers, no_summary}
use Rattle.definitions.proofs.AreaVectors.{summary_a}
use Rattle.definitions.proofs.Vectors.{table_with, VectorRow, row, RowHolds, key, of_edited, keys_a, bits_a, unwritten}

-- scrub anywhere, by two rules
abbrev rule : ℕ → Rule
rule id = record { id = id; row = 0; column = 0; height = 4; width = 4; feature = 1 }

abbrev rules : List Rule
rules = rule 7 ∷ rule 8 ∷ []

-- the list before, and after block 24 is painted with scrub
abbrev before : List ℕ → List ℕ → Found
before ids waived = findings 2 3 (keys_a 0) (bits_a 0) 9 0 rules (table_with []) (table_with ids) (table_with waived) (length ids) (unwritten 6) (unwritten 6)

abbrev gap : ℕ
gap = key (2 ∷ 4 ∷ [])

abbrev keys_after : List ℕ
keys_after = 0 ∷ 5 ∷ 10 ∷ 15 ∷ 20 ∷ 0 ∷ 0 ∷ 0 ∷ 0 ∷ []

abbrev bits_after : List ℕ
bits_after = 7 ∷ 1 ∷ 2 ∷ 4 ∷ 1 ∷ 0 ∷ 0 ∷ 0 ∷ 0 ∷ []

abbrev after : List ℕ → List ℕ → Found
after ids waived = findings 2 3 keys_after bits_after 5 0 rules (table_with []) (table_with ids) (table_with waived) (length ids) (unwritten 6) (unwritten 6)

-- the blocks 21, 22, 23, 24 and their parent 20
abbrev four : List ℕ
four = key (2 ∷ 1 ∷ []) ∷ key (2 ∷ 2 ∷ []) ∷ key (2 ∷ 3 ∷ []) ∷ gap ∷ []

abbrev parent : ℕ
parent = key (2 ∷ 0 ∷ [])

table : List VectorRow
table =
    -- rule 7's three findings are waived, and the gap with them; rule 8 has no waiver and three findings
    row (of_found (before (7 ∷ 7 ∷ 7 ∷ 7 ∷ []) four)) (0 ∷ 3 ∷ 3 ∷ [])
    -- the paint makes one block of the four
    ∷ row (of_edited (edit_answer (paint 2 3 (keys_a 0) (bits_a 0) 9 summary_a (unwritten 3) (unwritten 3) 0 0 gap 1))) (0 ∷ 5 ∷ 3 ∷ 3 ∷ [])
    ∷ row (keys_left (paint 2 3 (keys_a 0) (bits_a 0) 9 summary_a (unwritten 3) (unwritten 3) 0 0 gap 1)) keys_after
    ∷ row (bits_left (paint 2 3 (keys_a 0) (bits_a 0) 9 summary_a (unwritten 3) (unwritten 3) 0 0 gap 1)) bits_after
    -- rule 7's finding is hidden, though no waiver has its key; rule 8's is given
    ∷ row (of_found (after (7 ∷ 7 ∷ 7 ∷ 7 ∷ []) four)) (0 ∷ 1 ∷ 1 ∷ [])
    ∷ row (findings_keys 2 3 keys_after bits_after 5 0 rules (table_with []) (table_with (7 ∷ 7 ∷ 7 ∷ 7 ∷ [])) (table_with four) 4 (unwritten 2) (unwritten 2)) (parent ∷ unwritten 1)
    -- three of the four do not hide it, and neither do three and the fourth of another rule
    ∷ row (of_found (after (7 ∷ 7 ∷ 7 ∷ []) (key (2 ∷ 1 ∷ []) ∷ key (2 ∷ 2 ∷ []) ∷ gap ∷ []))) (0 ∷ 2 ∷ 0 ∷ [])
    ∷ row (of_found (after (7 ∷ 7 ∷ 7 ∷ 8 ∷ []) four)) (0 ∷ 2 ∷ 0 ∷ [])
    -- the same block does, a larger one does, and one inside another changes nothing
    ∷ row (of_found (after (7 ∷ []) (parent ∷ []))) (0 ∷ 1 ∷ 1 ∷ [])
    ∷ row (of_found (after (7 ∷ []) (0 ∷ []))) (0 ∷ 1 ∷ 1 ∷ [])
    ∷ row (of_found (after (7 ∷ 7 ∷ 7 ∷ []) (0 ∷ parent ∷ gap ∷ []))) (0 ∷ 1 ∷ 1 ∷ [])
    -- the same four of the other office hide nothing
    ∷ row (of_found (findings 2 3 keys_after bits_after 5 1 rules (table_with []) (table_with (7 ∷ 7 ∷ 7 ∷ 7 ∷ [])) (table_with four) 4 (unwritten 6) (unwritten 6))) (0 ∷ 2 ∷ 0 ∷ [])
    -- before the paint a larger one hides all three
    ∷ row (of_found (before (7 ∷ []) (parent ∷ []))) (0 ∷ 3 ∷ 3 ∷ [])
    ∷ []
  where
    of_found : Found → List ℕ
    of_found r = r.refusal ∷ r.live ∷ r.hidden ∷ []

claim : RowHolds table
unfolding
    table
    valid_key digits_of digits_then_zeros only_zeros level_of digits_before_zero height_of row_of column_of side_of in_block pixel_key
    every_pixel one_feature features_below bits_of union_of_four twos_in feature_of list_of
    paired value_at picture_of same_records is_list_of_block is_list
    first bad_settings bad_length bad_pixel
    is_window in_window features_of_row features_of_rows is_given blocks_from select_in
    count_of pixels_with counts_from summary_below summary_of same_numbers no_summary
    put paint_in content_of
    closed entry_of count_record last_record last_key last_feature last_count before_last last_content is_content closes last_is_entry divides_in is_sound no_log
    findings_of all_findings waivers_of is_waived_at is_hidden live_of hidden_count is_rule all_rules ids_ascend bad_rules findings_ascend is_rule_id all_waivers bad_waivers
    gained
    rows_in table_of rows_of rows_ascend offices_known is_sound_table is_table row_keys_valid
    live_in hidden_in refusal_with found_with found_keys_with table_with
    edit_refusal edit_answer keys_left bits_left
claim = refl
