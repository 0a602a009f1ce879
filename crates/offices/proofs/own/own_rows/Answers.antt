-- The table is checked, its keys included, and the office's rows are counted.
use mathlib.Core.Path.{sym, ap, ◌∙◌}
use Rattle.offices.specs.Own.{keys_in}
use Rattle.offices.specs.Place.{office_times}
use Rattle.offices.proofs.Counted.{times_share}
use Rattle.offices.proofs.Checked.{table_holds}
use Rattle.offices.proofs.OwnRows.{keys_table, own_no_table, own_bad_key, own_first, own_second}
use Rattle.offices.proofs.own.own_rows.Goals as goal

pub returns-in_err-table : goal.returns-in_err-table
returns-in_err-table c = c.from_residual.ensures ∙ own_no_table _ _ _ _ _ _ (sym c.in_err-table.ensures.exact)

pub returns-then-not-keys_are_valid : goal.returns-then-not-keys_are_valid
returns-then-not-keys_are_valid c =
    let t = c.in_ok-table.ensures in
    let is = sym t.exact in
    own_bad_key _ _ _ _ _ _ is
    (sym (keys_table _ _ _ _ _ (table_holds _ _ _ _ is)) ∙ ap (keys_in c.args.m) (sym t.narrowed.narrow_waived) ∙ sym c.keys_are_valid.ensures ∙ c.if-not-keys_are_valid.true)

pub returns-then-office-eq0 : goal.returns-then-office-eq0
returns-then-office-eq0 c =
    let t = c.in_ok-table.ensures in
    let is = sym t.exact in
    let holds = table_holds _ _ _ _ is in
    own_first _ _ _ _ _ _ is
    (sym (keys_table _ _ _ _ _ holds) ∙ ap (keys_in c.args.m) (sym t.narrowed.narrow_waived) ∙ sym c.keys_are_valid.ensures ∙ c.if-not-keys_are_valid.false) _
    (c.count_of-count.ensures ∙ ap (office_times c.args.office) t.narrowed.narrow_offices ∙ times_share _ _ _ _ _ holds) c.if-office-eq0.true

pub returns : goal.returns
returns c =
    let t = c.in_ok-table.ensures in
    let is = sym t.exact in
    let holds = table_holds _ _ _ _ is in
    own_second _ _ _ _ _ _ is
    (sym (keys_table _ _ _ _ _ holds) ∙ ap (keys_in c.args.m) (sym t.narrowed.narrow_waived) ∙ sym c.keys_are_valid.ensures ∙ c.if-not-keys_are_valid.false) _
    (c.count_of-count.ensures ∙ ap (office_times c.args.office) t.narrowed.narrow_offices ∙ times_share _ _ _ _ _ holds) _
    (c.count_of.ensures ∙ ap (office_times 0) t.narrowed.narrow_offices ∙ times_share _ _ _ _ _ holds) c.if-office-eq0.false
