-- `store::store`: each way out answers what the definition does there. Rests on StoreAnswers.
use Rattle.std.proofs.Common.{arith, ap, ◌∙◌}
use Rattle.std.proofs.lemmas.Result.{err_from_is_err_and}
use Rattle.definitions.specs.File.{file_length, bytes_of_records}
use Rattle.std.proofs.lemmas.List.Edits.{sets}
use Rattle.laws.proofs.FileOf.{width_of}
use Rattle.list.proofs.FirstRefusal.{list_passed}
use Rattle.list.proofs.Taken.{taken_length, taken_records}
use Rattle.std.proofs.Common.{refl}
use Rattle.file.proofs.Laid.{short_fits}
use Rattle.file.proofs.StoreAnswers.{refused_early, few, no_room, all_stored}
use Rattle.file.proofs.store.store.Goals as goal

pub returns-in_err-list-clause-value : goal.returns-in_err-list-clause-value
returns-in_err-list-clause-value c =
    let p = err_from_is_err_and c.from_residual.result c.from_residual.ensures.1 in
    rw (p.1, p.2) (refused_early c.args.m c.args.s c.args.keys.now c.args.bits.now c.args.n c.args.file.now _ c.in_err-list.ensures.told).0

pub returns-in_err-list-clause-file_after : goal.returns-in_err-list-clause-file_after
returns-in_err-list-clause-file_after c =
    (refused_early c.args.m c.args.s c.args.keys.now c.args.bits.now c.args.n c.args.file.now _ c.in_err-list.ensures.told).1

pub length-needed-requires : goal.length-needed-requires
length-needed-requires c =
    let a = c.args in
    let h = list_passed _ _ _ _ _ 0 c.in_ok-list.ensures.told refl in
    rw c.width-width.ensures (width_of a.s, short_fits (width_of a.s) a.n (few a.m a.s a.keys.now a.bits.now a.n a.file.now h.sound h.list))

pub returns-then-file-needed-clause-value : goal.returns-then-file-needed-clause-value
returns-then-file-needed-clause-value c =
    let a = c.args in
    let h = list_passed _ _ _ _ _ 0 c.in_ok-list.ensures.told refl in
    (no_room a.m a.s a.keys.now a.bits.now a.n a.file.now h.sound h.list _ (c.length-needed.ensures ∙ ap (λ w. file_length w a.n) c.width-width.ensures)
    c.if-file-needed.true).0

pub returns-then-file-needed-clause-file_after : goal.returns-then-file-needed-clause-file_after
returns-then-file-needed-clause-file_after c =
    let a = c.args in
    let h = list_passed _ _ _ _ _ 0 c.in_ok-list.ensures.told refl in
    (no_room a.m a.s a.keys.now a.bits.now a.n a.file.now h.sound h.list _ (c.length-needed.ensures ∙ ap (λ w. file_length w a.n) c.width-width.ensures)
    c.if-file-needed.true).1

pub overflow_cast-n : goal.overflow_cast-n
overflow_cast-n c =
    let a = c.args in
    let h = list_passed _ _ _ _ _ 0 c.in_ok-list.ensures.told refl in
    omega (arith, few a.m a.s a.keys.now a.bits.now a.n a.file.now h.sound h.list)

pub write_records-requires : goal.write_records-requires
write_records-requires c =
    let many = taken_length c.in_ok-list.ensures.list in
    let pair = c.in_ok-list.list.paired in
    record {
      in_keys = omega arith;
      in-bits = omega arith;
      in_file = record {
        width_is = rw c.width-width.ensures (width_of c.args.s);
        there = rw many (omega (arith, c.if-file-needed.false, c.length-needed.ensures, c.write_head.auto));
      };
    }

pub returns-clause-value : goal.returns-clause-value
returns-clause-value c =
    let a = c.args in
    let h = list_passed _ _ _ _ _ 0 c.in_ok-list.ensures.told refl in
    (all_stored a.m a.s a.keys.now a.bits.now a.n a.file.now h.sound h.list _ _ _ _ c.width-width.ensures
    (c.length-needed.ensures ∙ ap (λ w. file_length w a.n) c.width-width.ensures) c.if-file-needed.false c.write_head.ensures
    (c.write_records.ensures ∙ ap (λ l. sets c.write_head.new.file 11 (bytes_of_records c.width-width.result l)) (taken_records c.in_ok-list.ensures.list))).0

pub returns-clause-file_after : goal.returns-clause-file_after
returns-clause-file_after c =
    let a = c.args in
    let h = list_passed _ _ _ _ _ 0 c.in_ok-list.ensures.told refl in
    (all_stored a.m a.s a.keys.now a.bits.now a.n a.file.now h.sound h.list _ _ _ _ c.width-width.ensures
    (c.length-needed.ensures ∙ ap (λ w. file_length w a.n) c.width-width.ensures) c.if-file-needed.false c.write_head.ensures
    (c.write_records.ensures ∙ ap (λ l. sets c.write_head.new.file 11 (bytes_of_records c.width-width.result l)) (taken_records c.in_ok-list.ensures.list))).1
