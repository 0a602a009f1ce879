-- The file of Map A's log after A9, byte for byte, and each refusal of storing and loading a log, alone and with the next one of the order at once. One table
-- under one claim, proved by computation.
use Prim.Native.Nat.{ℕ}
use mathlib.Core.Path.{refl}
use mathlib.Core.List.{List, [], ◌∷◌, ◌++◌}
use lib.ListN.{take}
use Rattle.keys.specs.Key.{valid_key, digits_of, digits_then_zeros, only_zeros, level_of, digits_before_zero, height_of}
use Rattle.keys.specs.Block.{row_of, column_of, side_of, in_block, pixel_key}
use Rattle.definitions.specs.Picture.{every_pixel, one_feature, features_below}
use Rattle.definitions.specs.Bits.{bits_of, union_of_four, twos_in, feature_of}
use Rattle.definitions.specs.List.{list_of}
use Rattle.definitions.specs.Read.{paired, value_at, picture_of, same_records, is_list_of_block, is_list}
use Rattle.definitions.specs.Refusal.{first, bad_settings}
use Rattle.definitions.specs.Log.{count_record, last_record, last_key, last_feature, last_count, before_last, last_content, is_content, closes, last_is_entry, ends_in_mark, step_count, step_entries, before_entries, before_step, ends_in_entries, last_is_group, last_is_step, divides_in, is_sound, no_log}
use Rattle.definitions.specs.File.{bytes_of, number_after, number_of, version_for, bit_bytes, bytes_of_records, head_of, file_of, number_at, read_records, records_in_file, same_bytes, wrong_mark, other_version, bad_at_version}
use Rattle.definitions.specs.LogFile.{log_head_of, log_file_of, log_records_in, wrong_log_mark, no_log_in}
use Rattle.definitions.specs.Calls.Store.{stored, store_refusal, store, store_file}
use Rattle.definitions.specs.Calls.Load.{load_refusal}
use Rattle.definitions.specs.Calls.StoreLog.{stored_log, store_log_refusal, store_log, store_log_file}
use Rattle.definitions.specs.Calls.LoadLog.{load_log_refusal, load_log, load_log_keys, load_log_values}
use Rattle.definitions.specs.declared.LoadedLog.{LoadedLog}
use Rattle.definitions.proofs.Vectors.{VectorRow, row, RowHolds, key, slots, of_counted, keys_a, bits_a, unwritten}

-- the log after A9's paint of 24 with 1: the pixel had feature 2
abbrev log_keys : List ℕ
log_keys = key (2 ∷ 4 ∷ []) ∷ key (2 ∷ 4 ∷ []) ∷ key (2 ∷ 4 ∷ []) ∷ []

abbrev log_values : List ℕ
log_values = slots (0 ∷ 0 ∷ 1 ∷ []) ∷ 1 ∷ 1 ∷ []

-- the same paint as a group of one entry
abbrev group_keys : List ℕ
group_keys = log_keys ++ (0 ∷ 0 ∷ [])

abbrev group_values : List ℕ
group_values = log_values ++ (1 ∷ 255 ∷ [])

-- its file of 47 bytes, with the mark's last byte, the version, m, s, the last byte of each count and the last byte of the last record as given
abbrev file_with : (mark_byte version m s used in_force feature : ℕ) → List ℕ
file_with mark_byte version m s used in_force feature =
    (0x48 ∷ 0x4C ∷ mark_byte ∷ 0 ∷ version ∷ m ∷ s ∷ [])
    ++ ((0 ∷ 0 ∷ 0 ∷ 0 ∷ 0 ∷ 0 ∷ 0 ∷ used ∷ 0 ∷ 0 ∷ 0 ∷ 0 ∷ 0 ∷ 0 ∷ 0 ∷ in_force ∷ [])
    ++ ((0 ∷ 0 ∷ 0 ∷ 14 ∷ 0 ∷ 0 ∷ 0 ∷ 4 ∷ []) ++ ((0 ∷ 0 ∷ 0 ∷ 14 ∷ 0 ∷ 0 ∷ 0 ∷ 1 ∷ []) ++ (0 ∷ 0 ∷ 0 ∷ 14 ∷ 0 ∷ 0 ∷ 0 ∷ feature ∷ []))))

abbrev file_a : List ℕ
file_a = file_with 0x47 1 2 3 3 3 1

-- a group's file has two records more
abbrev group_file : List ℕ
group_file = file_with 0x47 1 2 3 5 5 1 ++ (0 ∷ 0 ∷ 0 ∷ 0 ∷ 0 ∷ 0 ∷ 0 ∷ 1 ∷ 0 ∷ 0 ∷ 0 ∷ 0 ∷ 0 ∷ 0 ∷ 0 ∷ 255 ∷ [])

-- the file of no records at all
abbrev empty_file : List ℕ
empty_file = take 23 (file_with 0x47 1 2 3 0 0 1)

abbrev of_loaded : LoadedLog → List ℕ
of_loaded r = r.refusal ∷ r.m ∷ r.s ∷ r.used ∷ r.in_force ∷ []

abbrev gives : ℕ → ℕ → VectorRow
gives computed said = row (computed ∷ []) (said ∷ [])

table : List VectorRow
table =
    -- the log of A9 and its file; of a longer buffer the rest stays
    row (of_counted (store_log 2 3 log_keys log_values 3 3 (unwritten 47))) (0 ∷ 47 ∷ [])
    ∷ row (store_log_file 2 3 log_keys log_values 3 3 (unwritten 48)) (file_a ++ (77 ∷ []))
    -- taken back, and before it; a group; records past those used are not stored
    ∷ row (store_log_file 2 3 log_keys log_values 3 0 (unwritten 47)) (file_with 0x47 1 2 3 3 0 1)
    ∷ row (store_log_file 2 3 [] [] 0 0 (unwritten 23)) empty_file
    ∷ row (store_log_file 2 3 group_keys group_values 5 5 (unwritten 63)) group_file
    ∷ row (store_log_file 2 3 group_keys group_values 3 3 (unwritten 47)) file_a
    -- and back; the places past the records stay
    ∷ row (of_loaded (load_log file_a (unwritten 3) (unwritten 3))) (0 ∷ 2 ∷ 3 ∷ 3 ∷ 3 ∷ [])
    ∷ row (load_log_keys file_a (unwritten 4) (unwritten 5)) (log_keys ++ (77 ∷ []))
    ∷ row (load_log_values file_a (unwritten 4) (unwritten 5)) (log_values ++ (77 ∷ 77 ∷ []))
    ∷ row (of_loaded (load_log (file_with 0x47 1 2 3 3 0 1) (unwritten 3) (unwritten 3))) (0 ∷ 2 ∷ 3 ∷ 3 ∷ 0 ∷ [])
    ∷ row (of_loaded (load_log empty_file [] [])) (0 ∷ 2 ∷ 3 ∷ 0 ∷ 0 ∷ [])
    ∷ row (of_loaded (load_log group_file (unwritten 5) (unwritten 5))) (0 ∷ 2 ∷ 3 ∷ 5 ∷ 5 ∷ [])
    -- store: 1, 5, 12 with the bytes needed; a refusal leaves the buffer
    ∷ gives (store_log_refusal 11 3 log_keys log_values 2 2 (unwritten 9)) 1
    ∷ gives (store_log_refusal 11 3 log_keys log_values 3 3 (unwritten 47)) 1
    ∷ gives (store_log_refusal 2 3 log_keys log_values 2 2 (unwritten 9)) 5
    ∷ gives (store_log_refusal 2 3 log_keys log_values 2 2 (unwritten 47)) 5
    ∷ gives (store_log_refusal 2 3 log_keys log_values 3 1 (unwritten 47)) 5
    ∷ gives (store_log_refusal 2 3 log_keys log_values 3 4 (unwritten 47)) 5
    ∷ gives (store_log_refusal 2 3 log_keys log_values 4 3 (unwritten 47)) 5
    ∷ row (of_counted (store_log 2 3 log_keys log_values 3 3 (unwritten 46))) (12 ∷ 47 ∷ [])
    ∷ row (of_counted (store_log 2 3 log_keys log_values 3 4 (unwritten 46))) (5 ∷ 0 ∷ [])
    ∷ row (store_log_file 2 3 log_keys log_values 3 3 (unwritten 46)) (unwritten 46)
    -- load: 15 under 23 bytes
    ∷ gives (load_log_refusal (take 22 (file_with 0x51 1 2 3 3 3 1)) (unwritten 3) (unwritten 3)) 15
    ∷ gives (load_log_refusal (take 22 empty_file) [] []) 15
    -- 16
    ∷ gives (load_log_refusal (file_with 0x51 2 2 3 3 3 1) (unwritten 3) (unwritten 3)) 16
    ∷ gives (load_log_refusal (file_with 0x51 1 2 3 3 3 1) (unwritten 3) (unwritten 3)) 16
    -- 17
    ∷ gives (load_log_refusal (file_with 0x47 2 2 0 3 3 1) (unwritten 3) (unwritten 3)) 17
    ∷ gives (load_log_refusal (file_with 0x47 2 2 3 3 3 1) (unwritten 3) (unwritten 3)) 17
    -- 1
    ∷ gives (load_log_refusal (file_with 0x47 1 2 0 4 3 1) (unwritten 3) (unwritten 3)) 1
    ∷ gives (load_log_refusal (file_with 0x47 1 2 0 3 3 1) (unwritten 3) (unwritten 3)) 1
    -- 15 by length
    ∷ gives (load_log_refusal (file_with 0x47 1 2 3 4 5 1) (unwritten 3) (unwritten 3)) 15
    ∷ gives (load_log_refusal (file_with 0x47 1 2 3 2 2 1) (unwritten 3) (unwritten 3)) 15
    -- 5: more in force than used, a count inside a step, a feature past s
    ∷ gives (load_log_refusal (file_with 0x47 1 2 3 3 4 1) (unwritten 2) (unwritten 3)) 5
    ∷ gives (load_log_refusal (file_with 0x47 1 2 3 3 1 1) (unwritten 3) (unwritten 3)) 5
    ∷ gives (load_log_refusal (file_with 0x47 1 2 3 3 3 3) (unwritten 3) (unwritten 3)) 5
    -- 10, by either slice; a refusal leaves both
    ∷ row (of_loaded (load_log file_a (unwritten 2) (unwritten 3))) (10 ∷ 0 ∷ 0 ∷ 0 ∷ 0 ∷ [])
    ∷ gives (load_log_refusal file_a (unwritten 3) (unwritten 2)) 10
    ∷ row (load_log_keys file_a (unwritten 3) (unwritten 2)) (unwritten 3)
    ∷ row (load_log_values file_a (unwritten 3) (unwritten 2)) (unwritten 2)
    -- a list's file is no log's file, nor the other way round
    ∷ gives (load_log_refusal (store_file 2 3 (keys_a 0) (bits_a 0) 9 (unwritten 65)) (unwritten 9) (unwritten 9)) 16
    ∷ gives (load_refusal file_a (unwritten 9) (unwritten 9)) 16
    ∷ []

claim : RowHolds table
unfolding
    table valid_key digits_of digits_then_zeros only_zeros level_of digits_before_zero height_of row_of column_of side_of in_block pixel_key
    every_pixel one_feature features_below bits_of union_of_four twos_in feature_of list_of
    paired value_at picture_of same_records is_list_of_block is_list
    first bad_settings
    count_record last_record last_key last_feature last_count before_last last_content is_content closes last_is_entry ends_in_mark step_count step_entries before_entries before_step ends_in_entries last_is_group last_is_step divides_in is_sound no_log
    bytes_of number_after number_of version_for bit_bytes bytes_of_records head_of file_of number_at read_records records_in_file same_bytes wrong_mark other_version bad_at_version
    stored store_refusal store store_file load_refusal
    log_head_of log_file_of log_records_in wrong_log_mark no_log_in
    stored_log store_log_refusal store_log store_log_file load_log_refusal load_log load_log_keys load_log_values
claim = refl
