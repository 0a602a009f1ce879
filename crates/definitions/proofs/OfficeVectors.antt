-- The table of two offices: each refusal of adding and removing alone and each two neighbours at once, tables damaged in one way, what the calls leave in
-- the slices (12, and an office above 256, are in FullOffice). One table under one claim, proved by computation.
use Prim.Native.Nat.{ℕ}
use mathlib.Core.Path.{refl}
use mathlib.Core.List.{List, [], ◌∷◌}
use lib.ListN.{take}
use Rattle.keys.specs.Key.{valid_key, digits_of, digits_then_zeros, only_zeros, level_of, digits_before_zero, height_of}
use Rattle.keys.specs.Block.{row_of, column_of, in_block, in_interval, pixel_key}
use Rattle.definitions.specs.Picture.{every_pixel, one_feature, features_below}
use Rattle.definitions.specs.Bits.{bits_of, union_of_four, twos_in, feature_of}
use Rattle.definitions.specs.List.{list_of}
use Rattle.definitions.specs.Read.{paired, value_at, picture_of, same_records, is_list_of_block, is_list}
use Rattle.definitions.specs.Refusal.{first, bad_settings}
use Rattle.definitions.specs.Window.{is_window, in_window, features_of_row, features_of_rows, is_given, blocks_from, select_in}
use Rattle.definitions.specs.Rules.{findings_of, all_findings, is_waived_at, is_hidden, live_of, hidden_count, is_rule, all_rules, ids_ascend, bad_rules, findings_ascend, is_rule_id, all_waivers, bad_waivers}
use Rattle.definitions.specs.Offices.{rows_in, table_of, rows_of, rows_ascend, offices_known, is_sound_table, is_table, row_keys_valid, is_row, added, removed}
use Rattle.definitions.specs.Calls.Findings.{live_in, hidden_in, refusal_with, findings_refusal}
use Rattle.definitions.specs.Calls.AddWaiver.{add_refusal, add_offices, add_ids, add_keys}
use Rattle.definitions.specs.Calls.RemoveWaiver.{remove_refusal, remove_offices, remove_ids, remove_keys}
use Rattle.definitions.specs.declared.Rule.{Rule}
use Rattle.definitions.proofs.Vectors.{VectorRow, row, RowHolds, unwritten, table_with}

-- a map of side 2 with two features
abbrev keys : List ℕ
keys = 0 ∷ 1 ∷ 2 ∷ 3 ∷ 4 ∷ []

abbrev bits : List ℕ
bits = 3 ∷ 1 ∷ 1 ∷ 1 ∷ 2 ∷ []

-- feature 0 is forbidden in the whole map
abbrev rule : ℕ → Rule
rule id = record { id = id; row = 0; column = 0; height = 2; width = 2; feature = 0 }

abbrev gives : ℕ → ℕ → VectorRow
gives refusal number = row (refusal ∷ []) (number ∷ [])

table : List VectorRow
table =
    -- the other office's ids are not asked for, its keys are
    gives (findings_refusal 1 2 keys bits 5 1 (rule 7 ∷ []) (table_with []) (table_with (8 ∷ [])) (table_with (0 ∷ [])) 1 (unwritten 9) (unwritten 9)) 0
    ∷ gives (findings_refusal 1 2 keys bits 5 1 (rule 7 ∷ []) (table_with []) (table_with (8 ∷ [])) (table_with (5 ∷ [])) 1 (unwritten 9) (unwritten 9)) 14
    -- a table with another office, out of order, with more rows than places, or with a slice that has not 512 places
    ∷ gives (findings_refusal 1 2 keys bits 5 1 [] (table_with (2 ∷ [])) (table_with []) (table_with []) 1 [] []) 14
    ∷ gives (findings_refusal 1 2 keys bits 5 1 [] (table_with (1 ∷ 0 ∷ [])) (table_with []) (table_with []) 2 [] []) 14
    ∷ gives (findings_refusal 1 2 keys bits 5 1 [] (table_with []) (table_with []) (table_with []) 513 [] []) 14
    ∷ gives (findings_refusal 1 2 keys bits 5 1 [] (0 ∷ table_with []) (table_with []) (table_with []) 0 [] []) 14
    -- add: 21, 1, 14, 8, 22, 12; the table has row (0, 7, 1)
    ∷ gives (add_refusal 11 2 [] [] [] 0 7 1) 21
    ∷ gives (add_refusal 11 1 [] [] [] 0 7 1) 1
    ∷ gives (add_refusal 1 0 [] [] [] 0 7 5) 14
    ∷ gives (add_refusal 1 0 (table_with []) (table_with (7 ∷ [])) (table_with (1 ∷ [])) 1 7 5) 8
    ∷ gives (add_refusal 1 0 (table_with []) (table_with (7 ∷ [])) (table_with (1 ∷ [])) 1 7 1) 22
    ∷ gives (add_refusal 1 1 (table_with []) (table_with (7 ∷ [])) (table_with (1 ∷ [])) 1 7 1) 0
    -- 8 before 22: the row is there, and its key is of no block
    ∷ gives (add_refusal 1 0 (table_with []) (table_with (7 ∷ [])) (table_with (5 ∷ [])) 1 7 5) 8
    -- remove: 21, 1, 14, 8, 22
    ∷ gives (remove_refusal 11 2 [] [] [] 0 7 1) 21
    ∷ gives (remove_refusal 11 1 [] [] [] 0 7 1) 1
    ∷ gives (remove_refusal 1 0 [] [] [] 0 7 5) 14
    ∷ gives (remove_refusal 1 0 (table_with []) (table_with []) (table_with []) 0 7 5) 8
    ∷ gives (remove_refusal 1 1 (table_with []) (table_with (7 ∷ [])) (table_with (1 ∷ [])) 1 7 1) 22
    -- a row is put between two, and taken out again: the place given up is zero, and what lies past both counts stays
    ∷ row (take 5 (add_ids 1 0 (table_with []) (table_with (7 ∷ 9 ∷ 5 ∷ 6 ∷ [])) (table_with (1 ∷ 1 ∷ 2 ∷ 2 ∷ [])) 2 8 3)) (7 ∷ 8 ∷ 9 ∷ 6 ∷ 0 ∷ [])
    ∷ row (take 5 (add_keys 1 0 (table_with []) (table_with (7 ∷ 9 ∷ 5 ∷ 6 ∷ [])) (table_with (1 ∷ 1 ∷ 2 ∷ 2 ∷ [])) 2 8 3)) (1 ∷ 3 ∷ 1 ∷ 2 ∷ 0 ∷ [])
    ∷ row (take 4 (add_offices 1 1 (table_with []) (table_with (7 ∷ 9 ∷ [])) (table_with (1 ∷ 1 ∷ [])) 2 8 3)) (0 ∷ 0 ∷ 1 ∷ 0 ∷ [])
    ∷ row (take 5 (remove_ids 1 0 (table_with []) (table_with (7 ∷ 8 ∷ 9 ∷ 6 ∷ [])) (table_with (1 ∷ 3 ∷ 1 ∷ 2 ∷ [])) 3 8 3)) (7 ∷ 9 ∷ 0 ∷ 6 ∷ 0 ∷ [])
    ∷ row (take 5 (remove_keys 1 0 (table_with []) (table_with (7 ∷ 8 ∷ 9 ∷ 6 ∷ [])) (table_with (1 ∷ 3 ∷ 1 ∷ 2 ∷ [])) 3 8 3)) (1 ∷ 1 ∷ 0 ∷ 2 ∷ 0 ∷ [])
    ∷ row (take 4 (remove_offices 1 1 (table_with (0 ∷ 0 ∷ 1 ∷ [])) (table_with (7 ∷ 9 ∷ 8 ∷ [])) (table_with (1 ∷ 1 ∷ 3 ∷ [])) 3 8 3)) (0 ∷ 0 ∷ 0 ∷ 0 ∷ [])
    ∷ []

claim : RowHolds table
unfolding
    table
    valid_key digits_of digits_then_zeros only_zeros level_of digits_before_zero height_of row_of column_of in_block in_interval pixel_key
    every_pixel one_feature features_below bits_of union_of_four twos_in feature_of list_of
    paired value_at picture_of same_records is_list_of_block is_list
    first bad_settings
    is_window in_window features_of_row features_of_rows is_given blocks_from select_in
    findings_of all_findings is_waived_at is_hidden live_of hidden_count is_rule all_rules ids_ascend bad_rules findings_ascend is_rule_id all_waivers bad_waivers
    rows_in table_of rows_of rows_ascend offices_known is_sound_table is_table row_keys_valid is_row added removed
    live_in hidden_in refusal_with table_with
    add_refusal add_offices add_ids add_keys remove_refusal remove_offices remove_ids remove_keys
claim = refl
