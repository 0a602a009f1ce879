-- The table is looked at only where none of 21, 1 and 4 is given.
use mathlib.Core.Path.{◌≡◌, sym, ap, ◌∙◌}
use Rattle.finding_runs.specs.Run.{rows_told, own_at}
use Rattle.finding_runs.proofs.Settings.{good_level}
use Rattle.finding_runs.proofs.Beginning.{zero_settings, own_looked, own_passed, begun}
use Rattle.finding_runs.proofs.runs.begin.Goals as goal
use Rattle.finding_runs.proofs.runs.begin.Goals.{then-refusal-eq0, else-refusal-eq0}

pub own_rows-own-requires : goal.own_rows-own-requires
own_rows-own-requires c = good_level _ _ (zero_settings _ _ _ _ _ _ (sym c.begin_refusal-refusal.ensures ∙ c.if-refusal-eq0.true))

pub returns : goal.returns
returns c =
    let a = c.args in
    let refusal = c.begin_refusal-refusal.ensures in
    let own : rows_told c.if-refusal-eq0.own ≡ own_at a.m a.s a.keys.now a.bits.now a.n a.office a.offices.now a.ids.now a.waived.now a.rows = elim c.if-refusal-eq0.branch [
      | then-refusal-eq0 w ↦ ap rows_told (w.own-is ∙ w.own_rows-own.ensures) ∙ own_looked _ _ _ _ _ _ _ _ _ _ (sym refusal ∙ w.if-refusal-eq0.true)
      | else-refusal-eq0 w ↦ ap rows_told w.own-is ∙ own_passed _ _ _ _ _ _ _ _ _ _ (λ e. w.if-refusal-eq0.false (refusal ∙ e))
    ] in
    begun _ _ _ _ _ _ _ _ _ _ _ c.if-refusal-eq0.own _ _ refusal own c.unwrap_or-rows.ensures c.is_none.ensures c.min.ensures
