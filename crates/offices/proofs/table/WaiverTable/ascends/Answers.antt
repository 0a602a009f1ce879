-- Two rows that follow one another decide, or the rows from the later one on.
use mathlib.Core.Path.{sym, ap₂, ◌∙◌}
use native.Mathlib.Omega.{arith}
use Rattle.definitions.specs.Offices.{row_before}
use Rattle.offices.proofs.Counted.{order_fails, order_goes_on, order_ends}
use Rattle.offices.proofs.table.WaiverTable.ascends.Goals as goal

pub returns-then-not-comes_before : goal.returns-then-not-comes_before
returns-then-not-comes_before c =
    let s = c.args.self in
    order_fails _ _ _ (record { as_many_ids = s.as_many_ids; as_many_keys = s.as_many_keys }) _ (omega arith) c.loop-next.invariant
    (ap₂ row_before (sym c.row.ensures) (sym c.row-in-loop-next.ensures) ∙ sym c.comes_before.ensures.defined ∙ c.if-not-comes_before.true)

pub loop-next-preserved : goal.loop-next-preserved
loop-next-preserved c =
    let s = c.args.self in
    order_goes_on _ _ _ (record { as_many_ids = s.as_many_ids; as_many_keys = s.as_many_keys }) _ (omega arith) c.loop-next.invariant
    (ap₂ row_before (sym c.row.ensures) (sym c.row-in-loop-next.ensures) ∙ sym c.comes_before.ensures.defined ∙ c.if-not-comes_before.false)

pub returns : goal.returns
returns c =
    let s = c.args.self in
    order_ends _ _ _ (record { as_many_ids = s.as_many_ids; as_many_keys = s.as_many_keys }) _ (omega arith) c.loop-next.invariant
