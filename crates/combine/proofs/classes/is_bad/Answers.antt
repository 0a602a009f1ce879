-- `classes::is_bad`: its two tests are those of refusal 25.
use mathlib.Core.Path.{◌∙◌}
use Rattle.combine.proofs.Table.{table_short, table_long}
use Rattle.combine.proofs.classes.is_bad.Goals as goal

pub returns-then-table-pairs : goal.returns-then-table-pairs
returns-then-table-pairs c = table_short _ _ _ _ c.if-table-pairs.true

pub returns : goal.returns
returns c = c.has_bad_pixel.ensures ∙ table_long _ _ _ _ c.if-table-pairs.false
