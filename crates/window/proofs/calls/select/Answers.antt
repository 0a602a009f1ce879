-- `calls::select` meets its contract: where there is room for every pixel of the window one walk counts and writes; else the keys are counted first,
-- which writes nothing, and are written where the room suffices.
use Prim.Native.Nat.{ℕ, ◌<◌}
use mathlib.Core.Path.{◌≡◌, sym, ap}
use mathlib.Core.Bool.{true}
use mathlib.Core.List.{List}
use native.Mathlib.Omega.{arith}
use lib.ListN.{length}
use Rattle.std.proofs.lemmas.Result.{err_from_is_err_and}
use Rattle.keys.specs.Key.{slot_limit}
use Rattle.keys.proofs.Powers.{two_le}
use Rattle.definitions.specs.Calls.Exist.{exist_refusal}
use Rattle.definitions.specs.Window.{is_window}
use Rattle.definitions.specs.declared.Window.{Window}
use Rattle.definitions.proofs.Needed.{none_needed}
use Rattle.definitions.proofs.Refused.{refusal_some}
use Rattle.list.specs.Taken.{Taken}
use Rattle.list.specs.declared.accepted_list.Accepted.{Accepted}
use Rattle.walk.proofs.Lies.{accepted_window}
use Rattle.window.proofs.Tables.{exist_passed, exist_below, select_other}
use Rattle.window.proofs.Answers.{select_refused, select_at_once, select_twelve, select_written, counting_leaves}
use Rattle.window.proofs.ListTaken.{taken_gave}
use Rattle.window.proofs.calls.select.Goals as goal

-- what the walk asks for
asks : {m n : ℕ} {keys bits : List ℕ} {list : Accepted} (s : ℕ) (w : Window) (f : ℕ) → Taken m keys bits n list → 0 ≡ exist_refusal m s keys bits n w f
    → (is_window list.m w ≡ true) × (f < slot_limit)
asks s w f t told =
    let none = sym told in
    let passed = exist_passed _ _ _ _ _ _ _ none in
    let low = exist_below _ _ _ _ _ _ _ none in
    (rw t.map passed.window, omega (arith, low, passed.settings.few))

pub returns-in_err-list-clause-value : goal.returns-in_err-list-clause-value
returns-in_err-list-clause-value c =
    let p = err_from_is_err_and c.from_residual.result c.from_residual.ensures.1 in
    let told = c.in_err-list.ensures.told in
    let none = none_needed c.in_err-list.field-0.0 (select_other _ _ _ _ _ _ _ c.args.answer.now _ told (refusal_some _)) in
    rw (p.1, p.2, none) (select_refused _ _ _ _ _ _ _ _ _ told (refusal_some _)).result

pub returns-in_err-list-clause-answer_after : goal.returns-in_err-list-clause-answer_after
returns-in_err-list-clause-answer_after c = (select_refused _ _ _ _ _ _ _ _ _ c.in_err-list.ensures.told (refusal_some _)).left

pub pixels_of-requires : goal.pixels_of-requires
pixels_of-requires c =
    let passed = exist_passed _ _ _ _ _ _ _ (sym c.in_ok-list.ensures.told) in
    let w = accepted_window _ _ passed.window in
    let two = two_le 10 passed.settings.deep in
    omega arith

pub gather-requires : goal.gather-requires
gather-requires c = let a = asks _ _ _ c.in_ok-list.ensures.list c.in_ok-list.ensures.told in (a.0, a.1, omega arith)

pub returns-then-pixels_of-room-clause-value : goal.returns-then-pixels_of-room-clause-value
returns-then-pixels_of-room-clause-value c =
    (select_at_once _ _ _ _ _ _ _ _ (sym c.in_ok-list.ensures.told) (omega arith) _ _ (taken_gave _ _ c.in_ok-list.ensures.list c.gather.ensures)).result

pub returns-then-pixels_of-room-clause-answer_after : goal.returns-then-pixels_of-room-clause-answer_after
returns-then-pixels_of-room-clause-answer_after c =
    (select_at_once _ _ _ _ _ _ _ _ (sym c.in_ok-list.ensures.told) (omega arith) _ _ (taken_gave _ _ c.in_ok-list.ensures.list c.gather.ensures)).left

pub gather-needed-requires : goal.gather-needed-requires
gather-needed-requires c = let a = asks _ _ _ c.in_ok-list.ensures.list c.in_ok-list.ensures.told in (a.0, a.1, omega arith)

pub returns-then-room-needed-clause-value : goal.returns-then-room-needed-clause-value
returns-then-room-needed-clause-value c =
    (select_twelve _ _ _ _ _ _ _ _ (sym c.in_ok-list.ensures.told) _ _ (taken_gave _ _ c.in_ok-list.ensures.list c.gather-needed.ensures) c.if-room-needed.true).result

pub returns-then-room-needed-clause-answer_after : goal.returns-then-room-needed-clause-answer_after
returns-then-room-needed-clause-answer_after c =
    (select_twelve _ _ _ _ _ _ _ _ (sym c.in_ok-list.ensures.told) _ _ (taken_gave _ _ c.in_ok-list.ensures.list c.gather-needed.ensures) c.if-room-needed.true).left

pub gather-requires-2 : goal.gather-requires-2
gather-requires-2 c =
    let a = asks _ _ _ c.in_ok-list.ensures.list c.in_ok-list.ensures.told in
    let gave = taken_gave _ _ c.in_ok-list.ensures.list c.gather-needed.ensures in
    let same = counting_leaves _ _ _ _ _ _ _ _ (sym c.in_ok-list.ensures.told) _ _ gave in
    (a.0, a.1, omega (arith, ap length same))

pub returns-clause-value : goal.returns-clause-value
returns-clause-value c =
    let list = c.in_ok-list.ensures.list in
    (select_written _ _ _ _ _ _ _ _ (sym c.in_ok-list.ensures.told) _ _ (taken_gave _ _ list c.gather-needed.ensures) c.if-room-needed.false _ _
    (taken_gave _ _ list c.gather-2.ensures)).result

pub returns-clause-answer_after : goal.returns-clause-answer_after
returns-clause-answer_after c =
    let list = c.in_ok-list.ensures.list in
    (select_written _ _ _ _ _ _ _ _ (sym c.in_ok-list.ensures.told) _ _ (taken_gave _ _ list c.gather-needed.ensures) c.if-room-needed.false _ _
    (taken_gave _ _ list c.gather-2.ensures)).left
