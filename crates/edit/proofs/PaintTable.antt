-- The table of paint: the rows about room, one law for each way out of the code that tests them, and what a paint that is not refused may rely on and gives.
-- Rests on EditCallTables and the laws of edits.
use Prim.Native.Nat.{ℕ, ◌+◌, ◌≤◌, ◌<◌}
use mathlib.Core.Path.{◌≡◌, refl, sym, ap, subst}
use mathlib.Core.Bool.{true, false, not}
use mathlib.Core.List.{List, [], ◌∷◌}
use native.Mathlib.Omega.{arith}
use lib.ListN.{length}
use lib.Dec.{ltb}
use borrow.Author.Tests.{lt-ltb, le-ltb, ltb-false, lt-leb, leb-false, not-false}
use Rattle.keys.specs.Key.{slot_limit, valid_key}
use Rattle.list.specs.declared.accepted_list.Accepted.{Accepted}
use Rattle.definitions.specs.List.{Record}
use Rattle.definitions.specs.Read.{room, records_of}
use Rattle.definitions.specs.Area.{summary_of}
use Rattle.definitions.specs.Refusal.{◌gives◌, bad_key, bad_feature}
use Rattle.definitions.specs.Calls.Edit.{as_lent, edit_refusal}
use Rattle.definitions.specs.Calls.Paint.{painted_picture, painted, gained, paint, Painted}
use Rattle.laws.proofs.First.{this, later, holds_first, none_first}
use Rattle.laws.proofs.Edits.{SheetPassed, EditPassed, rest_decides, edit_passed, edit_done}
use Rattle.edit_log.specs.declared.entry.Entry.{Entry}
use Rattle.replace.specs.Putting.{Replaced}
use Rattle.edit.specs.PaintCall.{room_refusal, Paintable, new_entry, Fresh, Relogged}
use Rattle.edit.proofs.EditCallTables.{passed_settings, passed_own}

-- the rows about room: the first that holds
module _ (m : ℕ) (l : List Record) (list_room log_room in_force κ f : ℕ) where
  -- the number of places used with the entry
  module _ (logged : ℕ) (logged-is : logged ≡ in_force + length (gained m l κ f)) where
    -- 10
    pub log_full : log_room < logged → 10 ≡ room_refusal m l list_room log_room in_force κ f
    unfolding room_refusal
    log_full h = sym (holds_first (this (lt-ltb log_room (in_force + length (gained m l κ f)) (omega arith)) refl))

    module _ (after : ℕ) (after_is : after ≡ length (painted m l κ f)) (log-fits : logged ≤ log_room) where
      log_passes : ltb log_room (in_force + length (gained m l κ f)) ≡ false
      log_passes = le-ltb log_room (in_force + length (gained m l κ f)) (omega arith)

      -- 9
      pub list_full : list_room < after → 9 ≡ room_refusal m l list_room log_room in_force κ f
      unfolding room_refusal
      list_full h = sym (holds_first (later log_passes (this (lt-ltb list_room (length (painted m l κ f)) (omega arith)) refl)))

      -- neither
      pub room_enough : after ≤ list_room → 0 ≡ room_refusal m l list_room log_room in_force κ f
      unfolding room_refusal
      room_enough h = sym (none_first _ (log_passes, (le-ltb list_room (length (painted m l κ f)) (omega arith), tt)))

module _ {m s : ℕ} {keys bits : List ℕ} {n : ℕ} {summary log_keys log_values : List ℕ} {used in_force : ℕ} (κ f : ℕ)
    (p : SheetPassed (as_lent m s keys bits n summary log_keys log_values used in_force)) (valid : valid_key m κ ≡ true) (small : f < s) where
  -- past 7 the rows about room decide
  pub room_decides : room_refusal m (records_of keys bits n) (room keys bits) (room log_keys log_values) in_force κ f
      ≡ edit_refusal (paint m s keys bits n summary log_keys log_values used in_force κ f)
  unfolding room_refusal painted
  room_decides =
      rest_decides (paint m s keys bits n summary log_keys log_values used in_force κ f) p (bad_key m κ gives 8 ∷ bad_feature s f gives 7 ∷ []) _ refl
      (ap not valid, (lt-leb s f small, tt))

  -- they ask for this
  pub passed_paintable : Paintable m keys bits n κ f
  passed_paintable =
      let good = passed_settings p in
      record { deepest = good.deep; valid = valid; own = passed_own p; feature = omega (arith, good.few) }

-- what they ask for, of an accepted list
pub list_paintable : (list : Accepted) (κ f : ℕ) → valid_key list.m κ ≡ true → f < slot_limit → Paintable list.m list.keys.now list.bits.now (length list.keys.now) κ f
list_paintable list κ f valid small = record { deepest = list.deepest; valid = valid; own = list.own; feature = small }

-- a paint that is not refused
pub record PaintPassed (m s : ℕ) (keys bits : List ℕ) (n : ℕ) (summary log_keys log_values : List ℕ) (used in_force κ f : ℕ) : Type 0 where
  pub none : edit_refusal (paint m s keys bits n summary log_keys log_values used in_force κ f) ≡ 0

pub paint_passed : (m s : ℕ) (keys bits : List ℕ) (n : ℕ) (summary log_keys log_values : List ℕ) (used in_force κ f : ℕ)
    → 0 ≡ edit_refusal (paint m s keys bits n summary log_keys log_values used in_force κ f)
    → PaintPassed m s keys bits n summary log_keys log_values used in_force κ f
paint_passed m s keys bits n summary log_keys log_values used in_force κ f told = record { none = sym told }

module _ {m s : ℕ} {keys bits : List ℕ} {n : ℕ} {summary log_keys log_values : List ℕ} {used in_force κ f : ℕ}
    (passed : PaintPassed m s keys bits n summary log_keys log_values used in_force κ f) where
  paint_all : EditPassed (paint m s keys bits n summary log_keys log_values used in_force κ f)
  paint_all = edit_passed (paint m s keys bits n summary log_keys log_values used in_force κ f) refl passed.none

  pub paint_sheet : SheetPassed (as_lent m s keys bits n summary log_keys log_values used in_force)
  paint_sheet = paint_all.sheet

  pub paint_fits : length (painted m (records_of keys bits n) κ f) ≤ room keys bits
  unfolding painted
  paint_fits = paint_all.fits

  -- what following a paint asks for
  pub paint_paintable : Paintable m keys bits n κ f
  paint_paintable = passed_paintable κ f paint_sheet (not-false (valid_key m κ) paint_all.own.0) (leb-false s f paint_all.own.1.0)

  -- and what logging asks for
  pub paint_fresh : (new : Entry) → new ≡ new_entry m (records_of keys bits n) in_force κ f → Fresh m keys bits n new log_keys log_values
  paint_fresh new e =
      let a = paint_paintable in
      subst (λ x. Fresh m keys bits n x log_keys log_values) (sym e)
      (record { deepest = a.deepest; own = a.own; valid = a.valid; whole = refl; fits = ltb-false _ _ paint_all.own.1.1.0 })

  -- an accepted paint gives what was logged, put and counted
  pub paint_done : {keys' bits' summary' log_keys' log_values' : List ℕ} {after next : ℕ} (entered : Entry)
      → entered ≡ new_entry m (records_of keys bits n) in_force κ f
      → Relogged (gained m (records_of keys bits n) entered.key entered.feature) entered.start used log_keys log_values log_keys' log_values' next
      → Replaced n (painted m (records_of keys bits n) κ f) keys bits keys' bits' after
      → summary' ≡ summary_of m s (painted_picture m (records_of keys bits n) κ f)
      → Painted m s keys bits n summary log_keys log_values used in_force κ f (record { refusal = 0; n = after; used = next; in_force = next }) keys' bits' summary' log_keys' log_values'
  unfolding painted
  paint_done {log_keys' = log_keys'} {log_values' = log_values'} {next = next} entered is entry-logged put counted =
      let log : Relogged (gained m (records_of keys bits n) κ f) in_force used log_keys log_values log_keys' log_values' next =
      subst (λ x. Relogged (gained m (records_of keys bits n) x.key x.feature) x.start used log_keys log_values log_keys' log_values' next) is entry-logged in
      edit_done (paint m s keys bits n summary log_keys log_values used in_force κ f) passed.none
      put.length-is put.keys_are put.values_are counted log.used_are log.used_are log.keys_are log.values_are
