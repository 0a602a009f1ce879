-- Each test gives its number in the order of the table.
use mathlib.Core.Path.{sym, ◌∙◌}
use native.Mathlib.Omega.{arith}
use Rattle.offices.proofs.Decided.{gives_1, gives_14, gives_8, gives_0}
use Rattle.offices.proofs.calls.table_for.Goals as goal

pub returns-then-m-gt-DEEPEST_LEVEL-clause-told : goal.returns-then-m-gt-DEEPEST_LEVEL-clause-told
returns-then-m-gt-DEEPEST_LEVEL-clause-told c = gives_1 _ _ _ _ _ _ 0 _ (omega arith) c.if-m-gt-DEEPEST_LEVEL.true

pub returns-in_default-clause-told : goal.returns-in_default-clause-told
returns-in_default-clause-told c =
    gives_14 _ _ _ _ _ _ 0 _ (omega arith) c.if-m-gt-DEEPEST_LEVEL.false (sym c.in_default.ensures.exact)

pub returns-then-not-is_valid-clause-told : goal.returns-then-not-is_valid-clause-told
returns-then-not-is_valid-clause-told c =
    gives_8 _ _ _ _ _ _ 0 _ (omega arith) c.if-m-gt-DEEPEST_LEVEL.false (sym c.in-Some.ensures.exact) (sym c.is_valid.ensures ∙ c.if-not-is_valid.true)

pub returns-clause-told : goal.returns-clause-told
returns-clause-told c =
    gives_0 _ _ _ _ _ _ 0 _ (omega arith) c.if-m-gt-DEEPEST_LEVEL.false (sym c.in-Some.ensures.exact) (sym c.is_valid.ensures ∙ c.if-not-is_valid.false)
