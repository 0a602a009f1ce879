-- Begin, run and answer are called one after the other, and come to what batch_law says.
use mathlib.Core.Path.{◌∙◌}
use Rattle.batch.proofs.Answered.{start_ready, batch_law, answer_of_batch}
use Rattle.batch.proofs.call.ask_all.Goals as goal

pub run-done-requires : goal.run-done-requires
run-done-requires c =
    let a = c.args in
    start_ready a.m a.s a.keys.now a.bits.now a.n a.questions.now a.refusals.now a.values.now c.begin-begun.result c.begin-begun.ensures

pub by_name-requires : goal.by_name-requires
by_name-requires c =
    let a = c.args in
    answer_of_batch a.m a.s a.keys.now a.bits.now a.n a.questions.now a.refusals.now a.values.now
    (record { begins_with = c.begin-begun.ensures; runs = c.run-done.ensures; ends_with = c.answer.ensures })

pub returns : goal.returns
returns c =
    let a = c.args in
    let law =
    batch_law a.m a.s a.keys.now a.bits.now a.n a.questions.now a.refusals.now a.values.now
    (record { begins_with = c.begin-begun.ensures; runs = c.run-done.ensures; ends_with = c.answer.ensures }) in
    (c.by_name.ensures ∙ law.0, law.1, law.2)
