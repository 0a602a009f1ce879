-- The batch is refused already, or the question's answer is written at its place.
use mathlib.Core.Path.{sym}
use native.Mathlib.Omega.{arith}
use Rattle.batch.specs.Run.{answering_of}
use Rattle.batch.proofs.Fold.{step_stays, step_put}
use Rattle.batch.proofs.step.step.Goals as goal

pub returns-then-state-ne0 : goal.returns-then-state-ne0
returns-then-state-ne0 c =
    let a = c.args in
    sym (step_stays a.keys.now a.bits.now a.question (answering_of a.state a.refusals.now a.values.now) c.if-state-ne0.true)

pub reply_to-reply-requires : goal.reply_to-reply-requires
reply_to-reply-requires c = (c.requires.fine c.if-state-ne0.false).list

pub give_reply-requires : goal.give_reply-requires
give_reply-requires c =
    let f = c.requires.fine c.if-state-ne0.false in
    let a = f.room_refusals in
    let b = f.room_values in
    (omega arith, omega arith)

pub returns : goal.returns
returns c =
    let a = c.args in
    step_put a.keys.now a.bits.now a.question (answering_of a.state a.refusals.now a.values.now) c.if-state-ne0.false _ c.reply_to-reply.ensures _ _
    c.give_reply.ensures.0 c.give_reply.ensures.1
