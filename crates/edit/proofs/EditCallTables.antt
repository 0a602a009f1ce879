-- The tables of the edits begin with the same four rows, about what is lent: what they give, and what a call may rely on once they are passed; and the
-- row about the list's room, which takings back and redos of a single entry test by themselves. Rests on the laws of edits.
use Prim.Native.Nat.{ℕ, ◌≤◌, ◌<◌}
use mathlib.Core.Path.{◌≡◌, refl, sym, ◌∙◌}
use mathlib.Core.List.{List, [], ◌∷◌}
use native.Mathlib.Omega.{arith}
use lib.ListN.{length}
use lib.Dec.{ltb}
use borrow.Author.Tests.{lt-ltb, le-ltb, ltb-false, not-false}
use Rattle.definitions.specs.List.{Record}
use Rattle.definitions.specs.Read.{room, is_list}
use Rattle.definitions.specs.Area.{summary_of}
use Rattle.definitions.specs.Refusal.{◌gives◌}
use Rattle.definitions.specs.Calls.Edit.{LentSheet, Edit, sheet_rows, edit_refusal}
use Rattle.laws.proofs.First.{FirstHolds, this, holds_first, none_first, first_none}
use Rattle.laws.proofs.SameNumbers.{summary_is}
use Rattle.laws.proofs.Edits.{SheetPassed, sheet_passed, sheet_refuses}
use Rattle.list.specs.Own.{OwnList, shown_by}
use Rattle.list.proofs.Own.{own_list}
use Rattle.list.proofs.Tests.{GoodSettings, good_settings}
use Rattle.edit_log.proofs.Parts.{whole_log}
use Rattle.edit_log.specs.Entries.{WholeLog}
use Rattle.edit.specs.EditCallChecks.{sheet_refusal, list_room_refusal}

-- the first of them that holds
pub sheet_told : (l : LentSheet) {k : ℕ} → FirstHolds k (sheet_rows l) → k ≡ sheet_refusal l
unfolding sheet_refusal
sheet_told l h = sym (holds_first h)

-- none of them
pub sheet_clear : (l : LentSheet) → SheetPassed l → 0 ≡ sheet_refusal l
unfolding sheet_refusal
sheet_clear l p = sym (none_first (sheet_rows l) (p.settings, (p.listed, (p.summed, (p.logged, tt)))))

-- what they refuse every edit refuses
pub edit_early : (e : Edit) (k : ℕ) → k ≡ sheet_refusal e.lent → (k ≡ 0 → ⊥) → k ≡ edit_refusal e
unfolding sheet_refusal
edit_early e k is not-zero = sheet_refuses e k is not-zero

pub first_passed : {l : LentSheet} (k : ℕ) → k ≡ sheet_refusal l → k ≡ 0 → SheetPassed l
unfolding sheet_refusal
first_passed {l} k e zero = sheet_passed l (sym e ∙ zero)

-- the row about the list's room alone
module _ (l : List Record) (keys bits : List ℕ) where
  -- 9
  pub room_told : (after : ℕ) → after ≡ length l → room keys bits < after → 9 ≡ list_room_refusal l keys bits
  unfolding list_room_refusal
  room_told after after_is h = sym (holds_first (this (lt-ltb (room keys bits) (length l) (omega arith)) refl))

  -- none
  pub room_clear : (after : ℕ) → after ≡ length l → after ≤ room keys bits → 0 ≡ list_room_refusal l keys bits
  unfolding list_room_refusal
  room_clear after after_is h = sym (none_first (ltb (room keys bits) (length l) gives 9 ∷ []) (le-ltb (room keys bits) (length l) (omega arith), tt))

  pub room_fits : list_room_refusal l keys bits ≡ 0 → length l ≤ room keys bits
  unfolding list_room_refusal
  room_fits e = ltb-false _ _ (first_none (ltb (room keys bits) (length l) gives 9 ∷ []) refl e).0

-- what the calls may rely on once the four rows are passed
module _ {l : LentSheet} (p : SheetPassed l) where
  pub passed_settings : GoodSettings l.m l.s
  passed_settings = good_settings l.m l.s p.settings

  pub passed_own : OwnList l.m l.keys l.bits l.n
  passed_own = own_list l.m l.s l.keys l.bits l.n (not-false (is_list l.m l.s l.keys l.bits l.n) p.listed)

  -- the summary is that of the list's picture
  pub passed_summary : l.summary ≡ summary_of l.m l.s (shown_by l.m l.keys l.bits l.n)
  passed_summary = summary_is l.m l.s (shown_by l.m l.keys l.bits l.n) l.summary p.summed

  pub passed_log : WholeLog l.m l.s l.log_keys l.log_values l.used l.in_force
  passed_log = whole_log l.m l.s l.log_keys l.log_values l.used l.in_force p.logged

  -- the records used are there
  pub passed_used : l.used ≤ room l.log_keys l.log_values
  passed_used = let log = passed_log in omega (arith, log.in_keys, log.in_values)

  -- and so those in force
  pub passed_force : l.in_force ≤ room l.log_keys l.log_values
  passed_force = let log = passed_log in omega (arith, log.in_keys, log.in_values, log.within)
