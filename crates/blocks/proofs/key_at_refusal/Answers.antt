-- `key_at_refusal` meets its contract: its tests are those of the table, in the same order.
use Rattle.blocks.proofs.Answers.{too_deep, no_row, no_column, no_level, all_passed}
use Rattle.blocks.proofs.key_at_refusal.Goals as goal

pub returns-then-m-gt-DEEPEST_LEVEL : goal.returns-then-m-gt-DEEPEST_LEVEL
returns-then-m-gt-DEEPEST_LEVEL c = too_deep _ _ _ _ c.if-m-gt-DEEPEST_LEVEL.true

pub returns-then-side-row : goal.returns-then-side-row
returns-then-side-row c = no_row _ _ _ _ _ c.power_of_two-side.ensures c.if-m-gt-DEEPEST_LEVEL.false c.if-side-row.true

pub returns-then-side-column : goal.returns-then-side-column
returns-then-side-column c = no_column _ _ _ _ _ c.power_of_two-side.ensures c.if-m-gt-DEEPEST_LEVEL.false c.if-side-column.true

pub returns-then-m-level : goal.returns-then-m-level
returns-then-m-level c = no_level _ _ _ _ _ c.power_of_two-side.ensures c.if-m-gt-DEEPEST_LEVEL.false c.if-side-row.false c.if-side-column.false c.if-m-level.true

pub returns : goal.returns
returns c = all_passed _ _ _ _ _ c.power_of_two-side.ensures c.if-m-gt-DEEPEST_LEVEL.false c.if-side-row.false c.if-side-column.false c.if-m-level.false
