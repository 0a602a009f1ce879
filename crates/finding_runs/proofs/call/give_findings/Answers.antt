-- The state is made and passed from call to call, and the calls come to what findings_law says.
use mathlib.Core.Path.{◌∙◌}
use Rattle.finding_runs.proofs.Answer.{checking_ready, next_ready, findings_law, answer_of_findings}
use Rattle.finding_runs.proofs.call.give_findings.Goals as goal

pub run-checked-requires : goal.run-checked-requires
run-checked-requires c =
    let a = c.args in
    checking_ready a.m a.s a.keys.now a.bits.now a.n a.office a.rules.now a.offices.now a.ids.now a.waived.now a.rows a.found_ids.now a.found_keys.now
    c.begin-checking.result c.begin-checking.ensures

pub run-counted-requires : goal.run-counted-requires
run-counted-requires c =
    let a = c.args in
    let ready =
    checking_ready a.m a.s a.keys.now a.bits.now a.n a.office a.rules.now a.offices.now a.ids.now a.waived.now a.rows a.found_ids.now a.found_keys.now
    c.begin-checking.result c.begin-checking.ensures in
    next_ready a.keys.now a.bits.now a.ids.now a.waived.now a.rules.now _ c.run-checked.result _ _ _ ready c.run-checked.ensures c.begin_next-counting.ensures

pub run-written-requires : goal.run-written-requires
run-written-requires c =
    let a = c.args in
    let ready =
    checking_ready a.m a.s a.keys.now a.bits.now a.n a.office a.rules.now a.offices.now a.ids.now a.waived.now a.rows a.found_ids.now a.found_keys.now
    c.begin-checking.result c.begin-checking.ensures in
    let ready_too =
    next_ready a.keys.now a.bits.now a.ids.now a.waived.now a.rules.now _ c.run-checked.result c.begin_next-counting.result _ _ ready
    c.run-checked.ensures c.begin_next-counting.ensures in
    next_ready a.keys.now a.bits.now a.ids.now a.waived.now a.rules.now _ c.run-counted.result _ _ _ ready_too c.run-counted.ensures c.begin_next-writing.ensures

pub by_name-requires : goal.by_name-requires
by_name-requires c =
    let a = c.args in
    answer_of_findings a.m a.s a.keys.now a.bits.now a.n a.office a.rules.now a.offices.now a.ids.now a.waived.now a.rows a.found_ids.now a.found_keys.now
    (record {
      begins = c.begin-checking.ensures;
      checks = c.run-checked.ensures;
      next = c.begin_next-counting.ensures;
      counts = c.run-counted.ensures;
      last = c.begin_next-writing.ensures;
      writes = c.run-written.ensures;
      answers = c.answer.ensures;
    })

pub returns : goal.returns
returns c =
    let a = c.args in
    let law =
    findings_law a.m a.s a.keys.now a.bits.now a.n a.office a.rules.now a.offices.now a.ids.now a.waived.now a.rows a.found_ids.now a.found_keys.now
    (record {
      begins = c.begin-checking.ensures;
      checks = c.run-checked.ensures;
      next = c.begin_next-counting.ensures;
      counts = c.run-counted.ensures;
      last = c.begin_next-writing.ensures;
      writes = c.run-written.ensures;
      answers = c.answer.ensures;
    }) in
    (c.by_name.ensures ∙ law.0, law.1, law.2)
