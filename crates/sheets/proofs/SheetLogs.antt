-- The slices of a sheet: what refusal 5 asks of its log, part by part, its records in their slices, and the room of the list's. Rests on the laws of records.
use Prim.Native.Nat.{ℕ, ◌≤◌}
use mathlib.Core.Path.{◌≡◌, sym, ap}
use mathlib.Core.Bool.{Bool, true, false, not, ◌&&◌, ◌||◌}
use mathlib.Core.List.{List}
use native.Mathlib.Omega.{arith}
use lib.ListN.{length, length-map}
use lib.Dec.{leb, ltb, eqb}
use borrow.Author.Tests.{le-leb, leb-true, ltb-false, not-false}
use Rattle.keys.specs.Key.{deepest_level, slot_limit}
use Rattle.keys.proofs.Cases.{and_left, and_right, and_both, neither_right}
use Rattle.definitions.specs.Picture.{Picture}
use Rattle.definitions.specs.List.{Record, list_of_picture, keys_of, values_of}
use Rattle.definitions.specs.Read.{room, records_of}
use Rattle.definitions.specs.Buffer.{replaced}
use Rattle.definitions.specs.Log.{group_mark, is_sound, to_redo, no_log}
use Rattle.definitions.specs.Refusal.{bad_settings}
use Rattle.laws.proofs.Records.{records-length, records_keys, records_values}
use Rattle.history.specs.History.{Buffers}
use Rattle.history.proofs.Buffers.{length-replaced}
use Rattle.history.proofs.Shown.{ShownInSlices}
use Rattle.sheets.specs.Calls.{SheetHolds}
use Rattle.sheets.specs.Paints.{HasLog}

-- the mark of a group is no feature
pub few_on_sheet : (m s : ℕ) → bad_settings m s ≡ false → s ≤ group_mark
unfolding bad_settings
few_on_sheet m s settings =
    let small = ltb-false slot_limit s (neither_right (eqb s 0) (ltb slot_limit s) (neither_right (ltb deepest_level m) (eqb s 0 || ltb slot_limit s) settings)) in
    omega arith

-- what a sound log is
pub record SheetLogSound (m s : ℕ) (b : Buffers) : Type 0 where
  pub there : b.used ≤ room b.log_keys b.log_values
  pub within : b.in_force ≤ b.used
  pub force : is_sound m s (records_of b.log_keys b.log_values b.in_force) ≡ true
  pub redo : is_sound m s (to_redo b.log_keys b.log_values b.used b.in_force) ≡ true

module _ (m s : ℕ) (b : Buffers) where
  abbrev there_test : Bool
  there_test = leb b.used (room b.log_keys b.log_values)

  abbrev within_test : Bool
  within_test = leb b.in_force b.used

  abbrev force_test : Bool
  force_test = is_sound m s (records_of b.log_keys b.log_values b.in_force)

  abbrev redo_test : Bool
  redo_test = is_sound m s (to_redo b.log_keys b.log_values b.used b.in_force)

  pub log_to : HasLog m s b → SheetLogSound m s b
  unfolding no_log
  log_to e =
      let all = not-false (there_test && within_test && force_test && redo_test) e in
      let three = and_left (there_test && within_test && force_test) redo_test all in
      let two = and_left (there_test && within_test) force_test three in
      record {
        there = leb-true _ _ (and_left there_test within_test two);
        within = leb-true _ _ (and_right there_test within_test two);
        force = and_right (there_test && within_test) force_test three;
        redo = and_right (there_test && within_test && force_test) redo_test all;
      }

  pub log_from : SheetLogSound m s b → HasLog m s b
  unfolding no_log
  log_from x =
      ap not
      (and_both (there_test && within_test && force_test) redo_test
      (and_both (there_test && within_test) force_test (and_both there_test within_test (le-leb _ _ x.there) (le-leb _ _ x.within)) x.force)
      x.redo)

-- the records that the slices have
pub in_slices : (keys values : List ℕ) (n : ℕ) → n ≤ room keys values → ShownInSlices (records_of keys values n) n keys values
in_slices keys values n h = record {
  count = sym (records-length keys values n (omega arith) (omega arith));
  in_keys = sym (records_keys keys values n (omega arith) (omega arith));
  in_values = sym (records_values keys values n (omega arith) (omega arith));
}

-- slices keep their room where a list that has room replaces another
pub room_kept : (n : ℕ) (l : List Record) (keys bits : List ℕ) → n ≤ room keys bits → length l ≤ room keys bits
    → room (replaced n (keys_of l) keys) (replaced n (values_of l) bits) ≡ room keys bits
room_kept n l keys bits h j =
    let a = length-map l (λ x. x.key) in
    let b = length-map l (λ x. x.value) in
    let c = length-replaced n (keys_of l) keys (omega arith) (omega arith) in
    let d = length-replaced n (values_of l) bits (omega arith) (omega arith) in
    omega arith

-- a list that is held has room, in as many places as it is counted
pub held_fits : {m s : ℕ} {p : Picture} {b : Buffers} → SheetHolds m s p b → length (list_of_picture m p) ≤ room b.keys b.bits
held_fits {m} {p = p} {b = b} holds =
    let fits = holds.fits in
    let count = records-length b.keys b.bits b.n (omega arith) (omega arith) in
    let same = ap length holds.list in
    omega arith
