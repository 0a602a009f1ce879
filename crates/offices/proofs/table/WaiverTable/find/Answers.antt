-- The first row that does not come before the row is the row itself, or stands past its place.
use mathlib.Core.Bool.{cond}
use mathlib.Core.Path.{◌≡◌, sym, ap, ◌∙◌}
use Rattle.std.specs.Prelude.{Ok, Err}
use native.Mathlib.Omega.{arith}
use Rattle.definitions.specs.Offices.{waiver_of, row_before, same_row}
use Rattle.offices.proofs.Place.{search_stops, search_goes_on, search_ends}
use Rattle.offices.proofs.table.WaiverTable.find.Goals as goal

pub returns-then-eq : goal.returns-then-eq
returns-then-eq c =
    let s = c.args.self in
    let w = waiver_of c.args.row.office c.args.row.id c.args.row.key in
    sym
    (search_stops w _ _ _ (record { as_many_ids = s.as_many_ids; as_many_keys = s.as_many_keys }) _ (omega arith) c.loop-place.invariant
    (ap (λ x. row_before x w) (sym c.row-other.ensures) ∙ sym c.comes_before.ensures.defined ∙ c.if-not-comes_before.true)
    ∙ ap (λ b. cond b (Ok c.loop-place.place) (Err c.loop-place.place)) (ap (λ x. same_row x w) (sym c.row-other.ensures) ∙ sym c.eq.ensures ∙ c.if-eq.true))

pub returns-else-eq : goal.returns-else-eq
returns-else-eq c =
    let s = c.args.self in
    let w = waiver_of c.args.row.office c.args.row.id c.args.row.key in
    sym
    (search_stops w _ _ _ (record { as_many_ids = s.as_many_ids; as_many_keys = s.as_many_keys }) _ (omega arith) c.loop-place.invariant
    (ap (λ x. row_before x w) (sym c.row-other.ensures) ∙ sym c.comes_before.ensures.defined ∙ c.if-not-comes_before.true)
    ∙ ap (λ b. cond b (Ok c.loop-place.place) (Err c.loop-place.place)) (ap (λ x. same_row x w) (sym c.row-other.ensures) ∙ sym c.eq.ensures ∙ c.if-eq.false))

pub loop-place-preserved : goal.loop-place-preserved
loop-place-preserved c =
    let s = c.args.self in
    let w = waiver_of c.args.row.office c.args.row.id c.args.row.key in
    search_goes_on w _ _ _ (record { as_many_ids = s.as_many_ids; as_many_keys = s.as_many_keys }) _ (omega arith) c.loop-place.invariant
    (ap (λ x. row_before x w) (sym c.row-other.ensures) ∙ sym c.comes_before.ensures.defined ∙ c.if-not-comes_before.false)

pub returns : goal.returns
returns c =
    let s = c.args.self in
    let e : c.loop-place.place ≡ c.len.result = omega arith in
    ap Err (sym e) ∙ search_ends _ _ _ _ (record { as_many_ids = s.as_many_ids; as_many_keys = s.as_many_keys }) _ (omega arith) c.loop-place.invariant
