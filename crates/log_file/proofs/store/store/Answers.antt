-- `store::store`: each way out answers what the definition does there. Rests on StoreAnswers.
use Rattle.std.proofs.Common.{arith, sym, ap, ◌∙◌}
use Rattle.std.specs.Prelude.{not}
use lib.Seq.{length-take-le}
use Rattle.list.proofs.Tests.{good_settings}
use Rattle.log_file.proofs.StoreAnswers.{bad-settings, no-log, no_room, roomy, room_in, all_stored}
use Rattle.log_file.proofs.store.store.Goals as goal

pub returns-then-are_bad-clause-value : goal.returns-then-are_bad-clause-value
returns-then-are_bad-clause-value c = (bad-settings _ _ _ _ _ _ _ (sym c.are_bad.ensures ∙ c.if-are_bad.true)).0

pub returns-then-are_bad-clause-file_after : goal.returns-then-are_bad-clause-file_after
returns-then-are_bad-clause-file_after c = (bad-settings _ _ _ _ _ _ _ (sym c.are_bad.ensures ∙ c.if-are_bad.true)).1

pub is_log-requires : goal.is_log-requires
is_log-requires c = let settings = good_settings _ _ (sym c.are_bad.ensures ∙ c.if-are_bad.false) in (settings.deep, settings.few)

pub returns-then-not-is_log-clause-value : goal.returns-then-not-is_log-clause-value
returns-then-not-is_log-clause-value c = (no-log _ _ _ _ _ _ _ (sym c.are_bad.ensures ∙ c.if-are_bad.false) (sym c.is_log.ensures ∙ ap not c.if-not-is_log.true)).0

pub returns-then-not-is_log-clause-file_after : goal.returns-then-not-is_log-clause-file_after
returns-then-not-is_log-clause-file_after c = (no-log _ _ _ _ _ _ _ (sym c.are_bad.ensures ∙ c.if-are_bad.false) (sym c.is_log.ensures ∙ ap not c.if-not-is_log.true)).1

pub returns-then-file-needed-clause-value : goal.returns-then-file-needed-clause-value
returns-then-file-needed-clause-value c = (no_room _ _ _ _ _ _ _ (sym c.are_bad.ensures ∙ c.if-are_bad.false) (sym c.is_log.ensures ∙ ap not c.if-not-is_log.false) _ c.bytes_for-needed.ensures c.if-file-needed.true).0

pub returns-then-file-needed-clause-file_after : goal.returns-then-file-needed-clause-file_after
returns-then-file-needed-clause-file_after c = (no_room _ _ _ _ _ _ _ (sym c.are_bad.ensures ∙ c.if-are_bad.false) (sym c.is_log.ensures ∙ ap not c.if-not-is_log.false) _ c.bytes_for-needed.ensures c.if-file-needed.true).1

pub slice_bounds-write_records-end : goal.slice_bounds-write_records-end
slice_bounds-write_records-end c =
    let h = roomy _ _ c.args.keys.now c.args.values.now _ _ c.args.file.now (sym c.are_bad.ensures ∙ c.if-are_bad.false) (sym c.is_log.ensures ∙ ap not c.if-not-is_log.false) in
    sym (length-take-le c.args.used c.args.keys.now (omega arith))

pub slice_bounds-write_records-end-2 : goal.slice_bounds-write_records-end-2
slice_bounds-write_records-end-2 c =
    let h = roomy _ _ c.args.keys.now c.args.values.now _ _ c.args.file.now (sym c.are_bad.ensures ∙ c.if-are_bad.false) (sym c.is_log.ensures ∙ ap not c.if-not-is_log.false) in
    sym (length-take-le c.args.used c.args.values.now (omega arith))

pub write_records-requires : goal.write_records-requires
write_records-requires c =
    room_in _ _ _ _ _ _ c.args.file.now (sym c.are_bad.ensures ∙ c.if-are_bad.false) (sym c.is_log.ensures ∙ ap not c.if-not-is_log.false) _ c.bytes_for-needed.ensures c.if-file-needed.false (omega arith)
    c.write_head.new.file c.write_head.auto.file

pub returns-clause-value : goal.returns-clause-value
returns-clause-value c =
    (all_stored _ _ _ _ _ _ _ (sym c.are_bad.ensures ∙ c.if-are_bad.false) (sym c.is_log.ensures ∙ ap not c.if-not-is_log.false) _ c.bytes_for-needed.ensures c.if-file-needed.false (omega arith) _ _ c.write_head.ensures c.write_records.ensures).0

pub returns-clause-file_after : goal.returns-clause-file_after
returns-clause-file_after c =
    (all_stored _ _ _ _ _ _ _ (sym c.are_bad.ensures ∙ c.if-are_bad.false) (sym c.is_log.ensures ∙ ap not c.if-not-is_log.false) _ c.bytes_for-needed.ensures c.if-file-needed.false (omega arith) _ _ c.write_head.ensures c.write_records.ensures).1
