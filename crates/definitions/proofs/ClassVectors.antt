-- Thirty-two classes (specification S2.2): a map of classes 0 and 31 at s = 32 through build, check, raster, the queries, the summary, leaf lists, a paint
-- with its log, its taking back and its redo, and its file; and the file's versions with the slots around their limits. One table under one claim, proved by
-- computation.
use Prim.Native.Nat.{ℕ}
use mathlib.Core.Path.{refl}
use mathlib.Core.Bool.{Bool, cond}
use mathlib.Core.List.{List, [], ◌∷◌, ◌++◌}
use lib.ListN.{replicate}
use Rattle.keys.specs.Key.{valid_key, digits_of, digits_then_zeros, only_zeros, level_of, digits_before_zero, height_of}
use Rattle.keys.specs.Block.{row_of, column_of, side_of, in_block, pixel_key}
use Rattle.definitions.specs.Picture.{picture_of_raster, every_pixel, one_feature, features_below}
use Rattle.definitions.specs.Bits.{bits_of, union_of_four, twos_in, feature_of}
use Rattle.definitions.specs.List.{list_of}
use Rattle.definitions.specs.Read.{records_of, paired, value_at, picture_of, same_records, is_list_of_block, is_list}
use Rattle.definitions.specs.Refusal.{first, bad_settings, bad_length, bad_pixel}
use Rattle.definitions.specs.Window.{is_window, in_window, features_of_row, features_of_rows, features_in, occurs, union_of, exist_in, report_in, is_given, blocks_from, select_in}
use Rattle.definitions.specs.Area.{count_of, area_in, pixels_with, counts_from, summary_below, summary_of, same_numbers, no_summary}
use Rattle.definitions.specs.Edit.{put, paint_in, content_of}
use Rattle.definitions.specs.Leaves.{leaves_of, valid_keys, ascend_from, coverings, cover_once, are_leaves, is_delivery, picture_of_leaves}
use Rattle.definitions.specs.Log.{closed, entry_of, count_record, last_record, last_key, last_feature, last_count, before_last, last_content, is_content, closes, last_is_entry, ends_in_mark, step_count, step_entries, before_entries, before_step, ends_in_entries, last_is_group, last_is_step, divides_in, is_sound, put_back, paint_again, first_in, first_step, no_log}
use Rattle.definitions.specs.File.{bytes_of, number_after, number_of, version_for, bit_bytes, bytes_of_records, head_of, file_of, number_at, read_records, records_in_file, same_bytes, wrong_mark, other_version, bad_at_version}
use Rattle.definitions.specs.Calls.Build.{build_refusal, build, build_keys, build_bits}
use Rattle.definitions.specs.Calls.Raster.{raster_refusal, raster_pixels}
use Rattle.definitions.specs.Calls.ReadLeaves.{read_leaves_refusal, read_leaves, read_leaves_keys, read_leaves_bits}
use Rattle.definitions.specs.Calls.WriteLeaves.{write_leaves_refusal, write_leaves, written_leaf_keys, written_leaf_features}
use Rattle.definitions.specs.Calls.Edit.{edit_refusal, edit_answer, keys_left, bits_left, summary_left, log_keys_left, log_values_left}
use Rattle.definitions.specs.Calls.Paint.{painted, gained, paint}
use Rattle.definitions.specs.Calls.TakeBack.{take_back}
use Rattle.definitions.specs.Calls.Redo.{redo}
use Rattle.definitions.specs.Calls.Store.{stored, store_refusal, store, store_file}
use Rattle.definitions.specs.Calls.Load.{load_refusal, load, load_keys, load_bits}
use Rattle.definitions.proofs.Vectors.{VectorRow, row, RowHolds, shown, window, of_counted, of_edited, unwritten}

abbrev truth : Bool → ℕ
truth b = cond b 1 0

-- slot 31
abbrev last : ℕ
last = 0x80000000

-- the map 0 31 / 31 0, its list and its file
abbrev pixels : List ℕ
pixels = 0 ∷ 31 ∷ 31 ∷ 0 ∷ []

abbrev keys : List ℕ
keys = 0 ∷ 1 ∷ 2 ∷ 3 ∷ 4 ∷ []

abbrev bits : List ℕ
bits = 0x80000001 ∷ 1 ∷ last ∷ last ∷ 1 ∷ []

-- its leaves
abbrev leafKeys : List ℕ
leafKeys = 1 ∷ 2 ∷ 3 ∷ 4 ∷ []

-- the whole map painted with class 31: the one record in five places, and the log's entry, the former list before its closing records
abbrev keys_p : List ℕ
keys_p = 0 ∷ 0 ∷ 0 ∷ 0 ∷ 0 ∷ []

abbrev bits_p : List ℕ
bits_p = last ∷ 0 ∷ 0 ∷ 0 ∷ 0 ∷ []

abbrev log_keys_p : List ℕ
log_keys_p = keys ++ (0 ∷ 0 ∷ 77 ∷ [])

abbrev log_values_p : List ℕ
log_values_p = bits ++ (5 ∷ 31 ∷ 77 ∷ [])

-- the counts of a pixel of class 0, and of one of class 31
abbrev zeroth : List ℕ
zeroth = 1 ∷ replicate 31 0

abbrev thirty_first : List ℕ
thirty_first = replicate 31 0 ++ (1 ∷ [])

abbrev summary : List ℕ
summary = zeroth ++ (thirty_first ++ (thirty_first ++ zeroth))

abbrev summary_p : List ℕ
summary_p = thirty_first ++ (thirty_first ++ (thirty_first ++ thirty_first))

abbrev file_bytes : List ℕ
file_bytes =
    (0x48 ∷ 0x4C ∷ 0x51 ∷ 0 ∷ 2 ∷ 1 ∷ 32 ∷ 0 ∷ 0 ∷ 0 ∷ 5 ∷ [])
    ++ ((0 ∷ 0 ∷ 0 ∷ 0 ∷ 0x80 ∷ 0 ∷ 0 ∷ 1 ∷ [])
    ++ ((0 ∷ 0 ∷ 0 ∷ 1 ∷ 0 ∷ 0 ∷ 0 ∷ 1 ∷ [])
    ++ ((0 ∷ 0 ∷ 0 ∷ 2 ∷ 0x80 ∷ 0 ∷ 0 ∷ 0 ∷ [])
    ++ ((0 ∷ 0 ∷ 0 ∷ 3 ∷ 0x80 ∷ 0 ∷ 0 ∷ 0 ∷ [])
    ++ (0 ∷ 0 ∷ 0 ∷ 4 ∷ 0 ∷ 0 ∷ 0 ∷ 1 ∷ [])))))

-- load's refusal of a head alone at m = 0, by version and s, with n = 0
abbrev judged : ℕ → ℕ → ℕ
judged version s = load_refusal (0x48 ∷ 0x4C ∷ 0x51 ∷ 0 ∷ version ∷ 0 ∷ s ∷ 0 ∷ 0 ∷ 0 ∷ 0 ∷ []) [] []

table : List VectorRow
table =
    -- build: the list, and 33 slots are too many
    row (of_counted (build 1 32 pixels (unwritten 6) (unwritten 6))) (0 ∷ 5 ∷ [])
    ∷ row (build_keys 1 32 pixels (unwritten 6) (unwritten 6)) (keys ++ unwritten 1)
    ∷ row (build_bits 1 32 pixels (unwritten 6) (unwritten 6)) (bits ++ unwritten 1)
    ∷ row (of_counted (build 1 33 pixels (unwritten 6) (unwritten 6))) (1 ∷ 0 ∷ [])
    ∷ row (of_counted (build 1 31 pixels (unwritten 6) (unwritten 6))) (3 ∷ 0 ∷ [])
    -- the check: a list of 32 slots, and not of 31
    ∷ row (truth (is_list 1 32 keys bits 5) ∷ truth (is_list 1 31 keys bits 5) ∷ []) (1 ∷ 0 ∷ [])
    -- and the raster comes back
    ∷ row (raster_pixels 1 32 keys bits 5 (unwritten 4)) pixels
    -- the queries: class 31 is there, class 30 is not
    ∷ row (truth (exist_in picture (window 0 0 2 2) 31) ∷ truth (exist_in picture (window 0 0 2 2) 30) ∷ truth (exist_in picture (window 0 0 1 1) 31) ∷ []) (1 ∷ 0 ∷ 0 ∷ [])
    ∷ row (report_in picture (window 0 0 2 2) ∷ report_in picture (window 0 1 1 1) ∷ []) (0x80000001 ∷ last ∷ [])
    ∷ row (select_in 1 picture (window 0 0 2 2) 31) (2 ∷ 3 ∷ [])
    ∷ row (area_in picture (window 0 0 2 2) 31 ∷ area_in picture (window 0 0 2 1) 31 ∷ []) (2 ∷ 1 ∷ [])
    -- the summary: 32 counts a pixel
    ∷ row (summary_of 1 32 picture) summary
    -- a paint with class 31
    ∷ row (shown (painted 1 (records_of keys bits 5) 0 31)) (0 ∷ last ∷ [])
    ∷ row (shown (painted 1 (records_of keys bits 5) 1 31)) (0 ∷ 0x80000001 ∷ 1 ∷ last ∷ 2 ∷ last ∷ 3 ∷ last ∷ 4 ∷ 1 ∷ [])
    -- leaf lists: class 31 is delivered and written; 31 slots have no class 31
    ∷ row (of_counted (read_leaves 1 32 leafKeys pixels 4 (unwritten 5) (unwritten 6))) (0 ∷ 5 ∷ [])
    ∷ row (read_leaves_keys 1 32 leafKeys pixels 4 (unwritten 5) (unwritten 6)) keys
    ∷ row (read_leaves_bits 1 32 leafKeys pixels 4 (unwritten 5) (unwritten 6)) (bits ++ unwritten 1)
    ∷ row (of_counted (read_leaves 1 31 leafKeys pixels 4 (unwritten 5) (unwritten 6))) (19 ∷ 0 ∷ [])
    ∷ row (of_counted (write_leaves 1 32 keys bits 5 (unwritten 4) (unwritten 5))) (0 ∷ 4 ∷ [])
    ∷ row (written_leaf_keys 1 32 keys bits 5 (unwritten 4) (unwritten 5)) leafKeys
    ∷ row (written_leaf_features 1 32 keys bits 5 (unwritten 4) (unwritten 5)) (pixels ++ unwritten 1)
    -- the log: the former content with class 31 in it, and the painted feature 31
    ∷ row (of_edited (edit_answer (paint 1 32 keys bits 5 summary (unwritten 8) (unwritten 8) 0 0 0 31))) (0 ∷ 1 ∷ 7 ∷ 7 ∷ [])
    ∷ row (keys_left (paint 1 32 keys bits 5 summary (unwritten 8) (unwritten 8) 0 0 0 31)) keys_p
    ∷ row (bits_left (paint 1 32 keys bits 5 summary (unwritten 8) (unwritten 8) 0 0 0 31)) bits_p
    ∷ row (summary_left (paint 1 32 keys bits 5 summary (unwritten 8) (unwritten 8) 0 0 0 31)) summary_p
    ∷ row (log_keys_left (paint 1 32 keys bits 5 summary (unwritten 8) (unwritten 8) 0 0 0 31)) log_keys_p
    ∷ row (log_values_left (paint 1 32 keys bits 5 summary (unwritten 8) (unwritten 8) 0 0 0 31)) log_values_p
    -- it is a log of 32 slots, and not of 31; feature 32 is none
    ∷ row (truth (no_log 1 32 log_keys_p log_values_p 7 7) ∷ truth (no_log 1 31 log_keys_p log_values_p 7 7) ∷ []) (0 ∷ 1 ∷ [])
    ∷ row (of_edited (edit_answer (paint 1 32 keys bits 5 summary (unwritten 8) (unwritten 8) 0 0 0 32))) (7 ∷ 0 ∷ 0 ∷ 0 ∷ [])
    -- taken back, and redone
    ∷ row (of_edited (edit_answer (take_back 1 32 keys_p bits_p 1 summary_p log_keys_p log_values_p 7 7))) (0 ∷ 5 ∷ 7 ∷ 0 ∷ [])
    ∷ row (keys_left (take_back 1 32 keys_p bits_p 1 summary_p log_keys_p log_values_p 7 7)) keys
    ∷ row (bits_left (take_back 1 32 keys_p bits_p 1 summary_p log_keys_p log_values_p 7 7)) bits
    ∷ row (summary_left (take_back 1 32 keys_p bits_p 1 summary_p log_keys_p log_values_p 7 7)) summary
    ∷ row (of_edited (edit_answer (redo 1 32 keys bits 5 summary log_keys_p log_values_p 7 0))) (0 ∷ 1 ∷ 7 ∷ 7 ∷ [])
    ∷ row (keys_left (redo 1 32 keys bits 5 summary log_keys_p log_values_p 7 0)) keys_p
    ∷ row (bits_left (redo 1 32 keys bits 5 summary log_keys_p log_values_p 7 0)) bits_p
    ∷ row (summary_left (redo 1 32 keys bits 5 summary log_keys_p log_values_p 7 0)) summary_p
    -- the file, byte for byte, and the list of the file
    ∷ row (of_counted (store 1 32 keys bits 5 (unwritten 50))) (12 ∷ 51 ∷ [])
    ∷ row (store_file 1 32 keys bits 5 (unwritten 52)) (file_bytes ++ unwritten 1)
    ∷ row (load_keys file_bytes (unwritten 6) (unwritten 5)) (keys ++ unwritten 1)
    ∷ row (load_bits file_bytes (unwritten 6) (unwritten 5)) bits
    -- versions 1 and 2 by s: 0, 1, 16, 17, 32, 33
    ∷ row (judged 1 0 ∷ judged 1 1 ∷ judged 1 16 ∷ judged 1 17 ∷ judged 1 32 ∷ judged 1 33 ∷ []) (1 ∷ 4 ∷ 4 ∷ 1 ∷ 1 ∷ 1 ∷ [])
    ∷ row (judged 2 0 ∷ judged 2 1 ∷ judged 2 16 ∷ judged 2 17 ∷ judged 2 32 ∷ judged 2 33 ∷ []) (17 ∷ 17 ∷ 17 ∷ 4 ∷ 4 ∷ 1 ∷ [])
    ∷ row (judged 0 1 ∷ judged 3 1 ∷ judged 3 17 ∷ judged 3 33 ∷ []) (17 ∷ 17 ∷ 17 ∷ 17 ∷ [])
    ∷ []
  where
    picture : ℕ → ℕ → ℕ
    picture = picture_of_raster 1 pixels

claim : RowHolds table
unfolding
    table
    valid_key digits_of digits_then_zeros only_zeros level_of digits_before_zero height_of row_of column_of side_of in_block pixel_key
    every_pixel one_feature features_below bits_of union_of_four twos_in feature_of list_of
    paired value_at picture_of same_records is_list_of_block is_list
    first bad_settings bad_length bad_pixel
    is_window in_window features_of_row features_of_rows features_in occurs union_of exist_in report_in is_given blocks_from select_in
    count_of area_in pixels_with counts_from summary_below summary_of same_numbers no_summary
    put paint_in content_of
    leaves_of valid_keys ascend_from coverings cover_once are_leaves is_delivery picture_of_leaves
    closed entry_of count_record last_record last_key last_feature last_count before_last last_content is_content closes last_is_entry ends_in_mark step_count step_entries before_entries before_step ends_in_entries last_is_group last_is_step divides_in is_sound put_back paint_again first_in first_step no_log
    bytes_of number_after number_of version_for bit_bytes bytes_of_records head_of file_of number_at read_records records_in_file same_bytes wrong_mark other_version bad_at_version
    build_refusal build build_keys build_bits raster_refusal raster_pixels
    read_leaves_refusal read_leaves read_leaves_keys read_leaves_bits write_leaves_refusal write_leaves written_leaf_keys written_leaf_features
    painted gained
    stored store_refusal store store_file load_refusal load load_keys load_bits
    edit_refusal edit_answer keys_left bits_left summary_left log_keys_left log_values_left
claim = refl
