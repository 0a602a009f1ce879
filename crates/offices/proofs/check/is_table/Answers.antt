-- What each test decides of the whole: the places, the order, the two offices' shares, and that the shares together are all rows.
use mathlib.Core.Path.{sym, ap, ◌∙◌}
use Rattle.definitions.specs.Offices.{rows_ascend}
use Rattle.offices.specs.Place.{office_times}
use Rattle.offices.proofs.Narrow.{narrowed_rows}
use Rattle.offices.proofs.Checked.{no_places, out_of_order, zero_past, one_past, offices_decide}
use Rattle.offices.proofs.check.is_table.Goals as goal

pub returns-then-not-has_places : goal.returns-then-not-has_places
returns-then-not-has_places c = no_places _ _ _ _ (sym c.has_places.ensures ∙ c.if-not-has_places.true)

pub returns-then-not-ascends : goal.returns-then-not-ascends
returns-then-not-ascends c =
    out_of_order _ _ _ _ (sym c.has_places.ensures ∙ c.if-not-has_places.false)
    (ap rows_ascend (sym (narrowed_rows _ _ _ _ _ _ _ c.first_rows-table.ensures)) ∙ sym c.ascends.ensures ∙ c.if-not-ascends.true)

pub returns-then-zero-gt-LIMIT : goal.returns-then-zero-gt-LIMIT
returns-then-zero-gt-LIMIT c =
    zero_past _ _ _ _ (sym c.has_places.ensures ∙ c.if-not-has_places.false) _
    (c.count_of-zero.ensures ∙ ap (office_times 0) c.first_rows-table.ensures.narrow_offices) c.if-zero-gt-LIMIT.true

pub returns-then-one-gt-LIMIT : goal.returns-then-one-gt-LIMIT
returns-then-one-gt-LIMIT c =
    one_past _ _ _ _ (sym c.has_places.ensures ∙ c.if-not-has_places.false) _
    (c.count_of-one.ensures ∙ ap (office_times 1) c.first_rows-table.ensures.narrow_offices) c.if-one-gt-LIMIT.true

pub returns : goal.returns
returns c =
    offices_decide _ _ _ _ (sym c.has_places.ensures ∙ c.if-not-has_places.false) _ _
    (c.count_of-zero.ensures ∙ ap (office_times 0) c.first_rows-table.ensures.narrow_offices)
    (c.count_of-one.ensures ∙ ap (office_times 1) c.first_rows-table.ensures.narrow_offices)
    (ap rows_ascend (sym (narrowed_rows _ _ _ _ _ _ _ c.first_rows-table.ensures)) ∙ sym c.ascends.ensures ∙ c.if-not-ascends.false)
    c.if-zero-gt-LIMIT.false c.if-one-gt-LIMIT.false
