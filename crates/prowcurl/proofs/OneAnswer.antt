-- The promise above each C function leaves one result and one final content of each lent buffer, for refused calls as for accepted ones. Rests on
-- Uniqueness and on the contracts as they stand in src/, so a contract that leaves more open breaks its law.
use Rattle.prowcurl.specs.contracts.interface.hlq_interface as interface
use Rattle.prowcurl.proofs.interface.hlq_interface.Reads as interface-reads
use Rattle.prowcurl.specs.contracts.squares.hlq_key_at as key_at
use Rattle.prowcurl.proofs.squares.hlq_key_at.Reads as key-at-reads
use Rattle.prowcurl.specs.contracts.squares.hlq_block_of as Block-of
use Rattle.prowcurl.proofs.squares.hlq_block_of.Reads as block-of-reads
use Rattle.prowcurl.specs.contracts.lists.hlq_build as build
use Rattle.prowcurl.proofs.lists.hlq_build.Reads as build-reads
use Rattle.prowcurl.specs.contracts.lists.hlq_raster as raster
use Rattle.prowcurl.proofs.lists.hlq_raster.Reads as raster-reads
use Rattle.prowcurl.specs.contracts.lists.hlq_standing as standing
use Rattle.prowcurl.proofs.lists.hlq_standing.Reads as standing-reads
use Rattle.prowcurl.specs.contracts.lists.hlq_part as part
use Rattle.prowcurl.proofs.lists.hlq_part.Reads as part-reads
use Rattle.prowcurl.specs.contracts.combining.hlq_combine as combine
use Rattle.prowcurl.proofs.combining.hlq_combine.Reads as combine-reads
use Rattle.prowcurl.specs.contracts.areas.hlq_fill_summary as fill-summary
use Rattle.prowcurl.proofs.areas.hlq_fill_summary.Reads as fill-summary-reads
use Rattle.prowcurl.specs.contracts.areas.hlq_area as area
use Rattle.prowcurl.proofs.areas.hlq_area.Reads as area-reads
use Rattle.prowcurl.specs.contracts.windows.hlq_exist as exist
use Rattle.prowcurl.proofs.windows.hlq_exist.Reads as exist-reads
use Rattle.prowcurl.specs.contracts.windows.hlq_report as report
use Rattle.prowcurl.proofs.windows.hlq_report.Reads as report-reads
use Rattle.prowcurl.specs.contracts.windows.hlq_select as select
use Rattle.prowcurl.proofs.windows.hlq_select.Reads as select-reads
use Rattle.prowcurl.specs.contracts.dragged.hlq_exist_clipped as exist-clipped
use Rattle.prowcurl.proofs.dragged.hlq_exist_clipped.Reads as exist-clipped-reads
use Rattle.prowcurl.specs.contracts.dragged.hlq_report_clipped as report-clipped
use Rattle.prowcurl.proofs.dragged.hlq_report_clipped.Reads as report-clipped-reads
use Rattle.prowcurl.specs.contracts.dragged.hlq_select_clipped as select-clipped
use Rattle.prowcurl.proofs.dragged.hlq_select_clipped.Reads as select-clipped-reads
use Rattle.prowcurl.specs.contracts.dragged.hlq_area_clipped as area-clipped
use Rattle.prowcurl.proofs.dragged.hlq_area_clipped.Reads as area-clipped-reads
use Rattle.prowcurl.specs.contracts.edits.hlq_paint as paint
use Rattle.prowcurl.proofs.edits.hlq_paint.Reads as paint-reads
use Rattle.prowcurl.specs.contracts.edits.hlq_paint_window as paint-window
use Rattle.prowcurl.proofs.edits.hlq_paint_window.Reads as paint-window-reads
use Rattle.prowcurl.specs.contracts.edits.hlq_take_back as take_back
use Rattle.prowcurl.proofs.edits.hlq_take_back.Reads as take-back-reads
use Rattle.prowcurl.specs.contracts.edits.hlq_redo as redo
use Rattle.prowcurl.proofs.edits.hlq_redo.Reads as redo-reads
use Rattle.prowcurl.specs.contracts.edits.hlq_empty as empty
use Rattle.prowcurl.proofs.edits.hlq_empty.Reads as empty-reads
use Rattle.prowcurl.specs.contracts.files.hlq_store as store
use Rattle.prowcurl.proofs.files.hlq_store.Reads as store-reads
use Rattle.prowcurl.specs.contracts.files.hlq_load as load
use Rattle.prowcurl.proofs.files.hlq_load.Reads as load-reads
use Rattle.prowcurl.specs.contracts.files.hlq_store_log as store-log
use Rattle.prowcurl.proofs.files.hlq_store_log.Reads as store-log-reads
use Rattle.prowcurl.specs.contracts.files.hlq_load_log as load-log
use Rattle.prowcurl.proofs.files.hlq_load_log.Reads as load-log-reads
use Rattle.prowcurl.specs.contracts.deliveries.hlq_read_leaves as read_leaves
use Rattle.prowcurl.proofs.deliveries.hlq_read_leaves.Reads as read-leaves-reads
use Rattle.prowcurl.specs.contracts.deliveries.hlq_write_leaves as write-leaves
use Rattle.prowcurl.proofs.deliveries.hlq_write_leaves.Reads as write-leaves-reads
use Rattle.prowcurl.specs.contracts.strings.hlq_write_bit_strings as write-bit-strings
use Rattle.prowcurl.proofs.strings.hlq_write_bit_strings.Reads as write-bit-strings-reads
use Rattle.prowcurl.specs.contracts.strings.hlq_read_bit_strings as read-bit-strings
use Rattle.prowcurl.proofs.strings.hlq_read_bit_strings.Reads as read-bit-strings-reads
use Rattle.prowcurl.specs.contracts.waivers.hlq_add_waiver as add-waiver
use Rattle.prowcurl.proofs.waivers.hlq_add_waiver.Reads as add-waiver-reads
use Rattle.prowcurl.specs.contracts.waivers.hlq_remove_waiver as remove-waiver
use Rattle.prowcurl.proofs.waivers.hlq_remove_waiver.Reads as remove-waiver-reads
use Rattle.prowcurl.specs.contracts.findings.hlq_findings as findings
use Rattle.prowcurl.proofs.findings.hlq_findings.Reads as findings-reads
use Rattle.prowcurl.specs.contracts.questions.hlq_batch as batch
use Rattle.prowcurl.proofs.questions.hlq_batch.Reads as batch-reads
use Rattle.prowcurl.proofs.Uniqueness.{OneAnswer, by_equations, one, two, three_fields, four_fields, six}

-- the interface's number
pub interface_one : OneAnswer interface.ended interface-reads.Learnt
interface_one = by_equations (λ x. one x.kept x.kept')

-- blocks
pub key_at_one : OneAnswer key_at.ended key-at-reads.Learnt
key_at_one = by_equations (λ x. one x.kept x.kept')

pub block_of_one : OneAnswer Block-of.ended block-of-reads.Learnt
block_of_one = by_equations (λ x. one x.kept x.kept')

-- lists
pub build_one : OneAnswer build.ended build-reads.Learnt
build_one = by_equations (λ x. four_fields x.kept x.kept')

pub raster_one : OneAnswer raster.ended raster-reads.Learnt
raster_one = by_equations (λ x. two x.kept x.kept')

pub standing_one : OneAnswer standing.ended standing-reads.Learnt
standing_one = by_equations (λ x. one x.kept x.kept')

pub part_one : OneAnswer part.ended part-reads.Learnt
part_one = by_equations (λ x. one x.kept x.kept')

pub combine_one : OneAnswer combine.ended combine-reads.Learnt
combine_one = by_equations (λ x. three_fields x.kept x.kept')

-- areas
pub fill_summary_one : OneAnswer fill-summary.ended fill-summary-reads.Learnt
fill_summary_one = by_equations (λ x. two x.kept x.kept')

pub area_one : OneAnswer area.ended area-reads.Learnt
area_one = by_equations (λ x. one x.kept x.kept')

-- windows
pub exist_one : OneAnswer exist.ended exist-reads.Learnt
exist_one = by_equations (λ x. one x.kept x.kept')

pub report_one : OneAnswer report.ended report-reads.Learnt
report_one = by_equations (λ x. one x.kept x.kept')

pub select_one : OneAnswer select.ended select-reads.Learnt
select_one = by_equations (λ x. two x.kept x.kept')

-- windows over the edge
pub exist_clipped_one : OneAnswer exist-clipped.ended exist-clipped-reads.Learnt
exist_clipped_one = by_equations (λ x. one x.kept x.kept')

pub report_clipped_one : OneAnswer report-clipped.ended report-clipped-reads.Learnt
report_clipped_one = by_equations (λ x. one x.kept x.kept')

pub select_clipped_one : OneAnswer select-clipped.ended select-clipped-reads.Learnt
select_clipped_one = by_equations (λ x. two x.kept x.kept')

pub area_clipped_one : OneAnswer area-clipped.ended area-clipped-reads.Learnt
area_clipped_one = by_equations (λ x. one x.kept x.kept')

-- edits
pub paint_one : OneAnswer paint.ended paint-reads.Learnt
paint_one =
    by_equations (λ x.
    let k = x.kept in
    let l = x.kept' in
    six k.answer l.answer k.keys_are l.keys_are k.bits_are l.bits_are k.summary_is l.summary_is
    k.log_keys_are l.log_keys_are k.log_values_are l.log_values_are)

pub paint_window_one : OneAnswer paint-window.ended paint-window-reads.Learnt
paint_window_one =
    by_equations (λ x.
    let k = x.kept in
    let l = x.kept' in
    six k.answer l.answer k.keys_are l.keys_are k.bits_are l.bits_are k.summary_is l.summary_is
    k.log_keys_are l.log_keys_are k.log_values_are l.log_values_are)

pub take-back_one : OneAnswer take_back.ended take-back-reads.Learnt
take-back_one =
    by_equations (λ x.
    let k = x.kept in
    let l = x.kept' in
    six k.answer l.answer k.keys_are l.keys_are k.bits_are l.bits_are k.summary_is l.summary_is
    k.log_keys_are l.log_keys_are k.log_values_are l.log_values_are)

pub redo_one : OneAnswer redo.ended redo-reads.Learnt
redo_one =
    by_equations (λ x.
    let k = x.kept in
    let l = x.kept' in
    six k.answer l.answer k.keys_are l.keys_are k.bits_are l.bits_are k.summary_is l.summary_is
    k.log_keys_are l.log_keys_are k.log_values_are l.log_values_are)

pub empty_one : OneAnswer empty.ended empty-reads.Learnt
empty_one = by_equations (λ x. one x.kept x.kept')

-- files
pub store_one : OneAnswer store.ended store-reads.Learnt
store_one = by_equations (λ x. two x.kept x.kept')

pub load_one : OneAnswer load.ended load-reads.Learnt
load_one = by_equations (λ x. three_fields x.kept x.kept')

pub store_log_one : OneAnswer store-log.ended store-log-reads.Learnt
store_log_one = by_equations (λ x. two x.kept x.kept')

pub load_log_one : OneAnswer load-log.ended load-log-reads.Learnt
load_log_one = by_equations (λ x. three_fields x.kept x.kept')

-- leaf lists
pub read_leaves_one : OneAnswer read_leaves.ended read-leaves-reads.Learnt
read_leaves_one = by_equations (λ x. three_fields x.kept x.kept')

pub write_leaves_one : OneAnswer write-leaves.ended write-leaves-reads.Learnt
write_leaves_one = by_equations (λ x. three_fields x.kept x.kept')

-- bit strings
pub write_bit_strings_one : OneAnswer write-bit-strings.ended write-bit-strings-reads.Learnt
write_bit_strings_one = by_equations (λ x. three_fields x.kept x.kept')

pub read_bit_strings_one : OneAnswer read-bit-strings.ended read-bit-strings-reads.Learnt
read_bit_strings_one = by_equations (λ x. three_fields x.kept x.kept')

-- offices
pub add_waiver_one : OneAnswer add-waiver.ended add-waiver-reads.Learnt
add_waiver_one =
    by_equations (λ x. (one x.kept.0 x.kept'.0, (one x.kept.1 x.kept'.1, (one x.kept.2 x.kept'.2, one x.kept.3 x.kept'.3))))

pub remove_waiver_one : OneAnswer remove-waiver.ended remove-waiver-reads.Learnt
remove_waiver_one =
    by_equations (λ x. (one x.kept.0 x.kept'.0, (one x.kept.1 x.kept'.1, (one x.kept.2 x.kept'.2, one x.kept.3 x.kept'.3))))

-- findings
pub findings_one : OneAnswer findings.ended findings-reads.Learnt
findings_one = by_equations (λ x. (one x.kept.0 x.kept'.0, two (x.kept.1, x.kept.2) (x.kept'.1, x.kept'.2)))

-- batch
pub batch_one : OneAnswer batch.ended batch-reads.Learnt
batch_one = by_equations (λ x. (one x.kept.0 x.kept'.0, two (x.kept.1, x.kept.2) (x.kept'.1, x.kept'.2)))
