-- The table of painting a window: the rows about room, one law for each way out of the code that tests them, and what a call that is not refused may rely on
-- and gives. Rests on EditCallTables and the laws of edits.
use Prim.Native.Nat.{ℕ, ◌+◌, ◌≤◌, ◌<◌}
use mathlib.Core.Path.{◌≡◌, refl, sym, ap, ap₂, subst, ◌∙◌}
use mathlib.Core.Bool.{true, false, not}
use mathlib.Core.List.{List, [], ◌∷◌}
use native.Mathlib.Omega.{arith}
use lib.ListN.{length}
use lib.Dec.{ltb, leb}
use borrow.Author.Tests.{lt-ltb, le-ltb, ltb-false, lt-leb, leb-true, leb-false, not-false}
use Rattle.keys.proofs.Powers.{two_le}
use Rattle.definitions.specs.List.{Record}
use Rattle.definitions.specs.Read.{room, records_of}
use Rattle.definitions.specs.Area.{summary_of}
use Rattle.definitions.specs.Window.{is_window, bad_window, largest_blocks}
use Rattle.definitions.specs.declared.Window.{Window}
use Rattle.definitions.specs.Refusal.{◌gives◌, bad_feature}
use Rattle.definitions.specs.Calls.Edit.{as_lent, edit_refusal}
use Rattle.definitions.specs.Calls.PaintWindow.{filled_picture, filled, group_gained, paint_window, WindowPainted}
use Rattle.laws.proofs.First.{this, later, holds_first, none_first}
use Rattle.laws.proofs.Edits.{SheetPassed, EditPassed, rest_decides, edit_passed, edit_done}
use Rattle.walk.proofs.Lies.{accepted_window}
use Rattle.replace.specs.Putting.{Replaced}
use Rattle.edit.specs.PaintCall.{Relogged}
use Rattle.window_paint.specs.WindowLogging.{Coverable, FreshGroup}
use Rattle.window_paint.specs.PaintWindowCall.{Fillable, PaintingOf, window_room_refusal}
use Rattle.window_paint.specs.Searching.{FreshGroupOf}
use Rattle.list.specs.declared.accepted_list.Accepted.{Accepted}
use Rattle.list.specs.Taken.{Taken}
use Rattle.list.proofs.Taken.{taken_records}
use Rattle.edit.proofs.EditCallTables.{passed_settings, passed_own, passed_used}

-- the rows about room: the first that holds
module _ (m : ℕ) (l : List Record) (list_room log_room in_force : ℕ) (w : Window) (f : ℕ) where
  -- the number of places used with the group
  module _ (logged : ℕ) (logged-is : logged ≡ in_force + length (group_gained m l w f)) where
    -- 10
    pub log_full : log_room < logged → 10 ≡ window_room_refusal m l list_room log_room in_force w f
    unfolding window_room_refusal
    log_full h = sym (holds_first (this (lt-ltb log_room (in_force + length (group_gained m l w f)) (omega arith)) refl))

    module _ (log-fits : logged ≤ log_room) where
      log_passes : ltb log_room (in_force + length (group_gained m l w f)) ≡ false
      log_passes = le-ltb log_room (in_force + length (group_gained m l w f)) (omega arith)

      -- 9
      pub list_full : leb (length (filled m l w f)) list_room ≡ false → 9 ≡ window_room_refusal m l list_room log_room in_force w f
      unfolding window_room_refusal
      list_full h = sym (holds_first (later log_passes (this (lt-ltb list_room (length (filled m l w f)) (leb-false _ _ h)) refl)))

      -- neither
      pub room_enough : leb (length (filled m l w f)) list_room ≡ true → 0 ≡ window_room_refusal m l list_room log_room in_force w f
      unfolding window_room_refusal
      room_enough h = sym (none_first _ (log_passes, (le-ltb list_room (length (filled m l w f)) (leb-true _ _ h), tt)))

module _ {m s : ℕ} {keys bits : List ℕ} {n : ℕ} {summary log_keys log_values : List ℕ} {used in_force : ℕ} (w : Window) (f : ℕ)
    (p : SheetPassed (as_lent m s keys bits n summary log_keys log_values used in_force)) (good : is_window m w ≡ true) (small : f < s) where
  -- past 7 the rows about room decide
  pub window_room : window_room_refusal m (records_of keys bits n) (room keys bits) (room log_keys log_values) in_force w f
      ≡ edit_refusal (paint_window m s keys bits n summary log_keys log_values used in_force w f)
  unfolding window_room_refusal filled
  window_room =
      rest_decides (paint_window m s keys bits n summary log_keys log_values used in_force w f) p (bad_window m w gives 6 ∷ bad_feature s f gives 7 ∷ []) _ refl
      (ap not good, (lt-leb s f small, tt))

  -- they ask for this
  pub passed_fillable : Fillable m keys bits n w f
  passed_fillable =
      let settings = passed_settings p in
      let a = accepted_window m w good in
      let two = two_le 10 settings.deep in
      record {
        list = record { deep = settings.deep; own = passed_own p; low = omega (arith, a.rows); narrow = omega (arith, a.columns) };
        slot = omega (arith, settings.few);
      }

-- a call that is not refused
pub record WindowPassed (m s : ℕ) (keys bits : List ℕ) (n : ℕ) (summary log_keys log_values : List ℕ) (used in_force : ℕ) (w : Window) (f : ℕ) : Type 0 where
  pub none : edit_refusal (paint_window m s keys bits n summary log_keys log_values used in_force w f) ≡ 0

pub window_passed : (m s : ℕ) (keys bits : List ℕ) (n : ℕ) (summary log_keys log_values : List ℕ) (used in_force : ℕ) (w : Window) (f : ℕ)
    → 0 ≡ edit_refusal (paint_window m s keys bits n summary log_keys log_values used in_force w f)
    → WindowPassed m s keys bits n summary log_keys log_values used in_force w f
window_passed m s keys bits n summary log_keys log_values used in_force w f told = record { none = sym told }

-- what is asked of two slices, of the list that is taken from them
module _ {m : ℕ} {keys bits : List ℕ} {n : ℕ} {list : Accepted} (t : Taken m keys bits n list) where
  covers_taken : {w : Window} → Coverable m keys bits n w → Coverable list.m list.keys.now list.bits.now (length list.keys.now) w
  covers_taken a = record { deep = list.deepest; own = list.own; low = a.low; narrow = a.narrow }

  pub painting_taken : {w : Window} {f : ℕ} → Fillable m keys bits n w f → PaintingOf list w f
  painting_taken a = record { list = covers_taken a.list; slot = a.slot }

  pub group_taken : {w : Window} {f number start used : ℕ} {log_keys log_values : List ℕ} → FreshGroup m keys bits n w f number start used log_keys log_values
      → FreshGroupOf list w f number start used log_keys log_values
  group_taken {w} {f} {number} {start} {used} {log_keys} {log_values} a = record {
    list = covers_taken a.list;
    number_is = a.number_is ∙ ap (λ k. length (largest_blocks k w)) (sym t.map);
    fits = subst (λ l. start + length l ≤ room log_keys log_values) (ap₂ (λ k l. group_gained k l w f) (sym t.map) (sym (taken_records t))) a.fits;
    there = a.there;
  }

module _ {m s : ℕ} {keys bits : List ℕ} {n : ℕ} {summary log_keys log_values : List ℕ} {used in_force : ℕ} {w : Window} {f : ℕ}
    (passed : WindowPassed m s keys bits n summary log_keys log_values used in_force w f) where
  window_all : EditPassed (paint_window m s keys bits n summary log_keys log_values used in_force w f)
  window_all = edit_passed (paint_window m s keys bits n summary log_keys log_values used in_force w f) refl passed.none

  pub window_sheet : SheetPassed (as_lent m s keys bits n summary log_keys log_values used in_force)
  window_sheet = window_all.sheet

  pub window_fits : length (filled m (records_of keys bits n) w f) ≤ room keys bits
  unfolding filled
  window_fits = window_all.fits

  -- what filling the window asks for
  pub window_fillable : Fillable m keys bits n w f
  window_fillable = passed_fillable w f window_sheet (not-false (is_window m w) window_all.own.0) (leb-false s f window_all.own.1.0)

  -- and what logging asks for
  pub window_fresh : {number : ℕ} → number ≡ length (largest_blocks m w) → FreshGroup m keys bits n w f number in_force used log_keys log_values
  window_fresh e = record { list = window_fillable.list; number_is = e; fits = ltb-false _ _ window_all.own.1.1.0; there = passed_used window_sheet }

  -- an accepted call gives what was logged, filled and counted
  pub window_done : {keys' bits' summary' log_keys' log_values' : List ℕ} {after next : ℕ}
      → Relogged (group_gained m (records_of keys bits n) w f) in_force used log_keys log_values log_keys' log_values' next
      → Replaced n (filled m (records_of keys bits n) w f) keys bits keys' bits' after
      → summary' ≡ summary_of m s (filled_picture m (records_of keys bits n) w f)
      → WindowPainted m s keys bits n summary log_keys log_values used in_force w f (record { refusal = 0; n = after; used = next; in_force = next }) keys' bits' summary' log_keys' log_values'
  unfolding filled
  window_done log put counted =
      edit_done (paint_window m s keys bits n summary log_keys log_values used in_force w f) passed.none
      put.length-is put.keys_are put.values_are counted log.used_are log.used_are log.keys_are log.values_are
