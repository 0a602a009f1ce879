-- The answers of the check of a whole log: the records in force and those to redo, each by itself. Rests on the laws of the records of two slices.
use Prim.Native.Nat.{ℕ, ◌-◌, ◌≤◌, ◌<◌}
use mathlib.Core.Path.{◌≡◌, refl, sym, ap, ap₂, ◌∙◌}
use mathlib.Core.Bool.{Bool, true, false, not, ◌&&◌}
use mathlib.Core.List.{List}
use native.Mathlib.Omega.{arith}
use lib.ListN.{length, take, drop, length-take, length-drop}
use lib.Seq.{take_all}
use lib.Dec.{leb}
use borrow.Author.Tests.{le-leb, lt-leb, leb-true, not-false}
use Rattle.keys.proofs.Cases.{and_left, and_right}
use Rattle.definitions.specs.Read.{room, paired, records_of}
use Rattle.definitions.specs.Log.{is_sound, to_redo, no_log}
use Rattle.laws.proofs.Records.{records-length, records_run}
use Rattle.edit_log.specs.Entries.{WholeLog}
use Rattle.edit_log.proofs.Last.{SoundLog}

module _ (m s : ℕ) (keys values : List ℕ) (used in_force : ℕ) where
  -- the tests of the two parts
  abbrev front : Bool
  front = is_sound m s (records_of keys values in_force)

  abbrev back : Bool
  back = is_sound m s (to_redo keys values used in_force)

  by_tests : (there within : Bool) → leb used (room keys values) ≡ there → leb in_force used ≡ within
      → not (there && within && front && back) ≡ no_log m s keys values used in_force
  unfolding no_log
  by_tests there within e f = sym (ap₂ (λ a b. not (a && b && front && back)) e f)

  -- where the slices are too short
  pub short_keys : length keys < used → true ≡ no_log m s keys values used in_force
  short_keys h = by_tests false _ (lt-leb used (room keys values) (omega arith)) refl

  pub short_values : length values < used → true ≡ no_log m s keys values used in_force
  short_values h = by_tests false _ (lt-leb used (room keys values) (omega arith)) refl

  module _ (in_keys : used ≤ length keys) (in_values : used ≤ length values) where
    there : leb used (room keys values) ≡ true
    there = le-leb used (room keys values) (omega arith)

    -- where more are in force than are used
    pub past_used : used < in_force → true ≡ no_log m s keys values used in_force
    past_used h = by_tests true false there (lt-leb in_force used h)

    module _ (within : in_force ≤ used) where
      passes : not (front && back) ≡ no_log m s keys values used in_force
      passes = by_tests true true there (le-leb in_force used within)

      -- those in force are not sound
      pub front_fails : front ≡ false → true ≡ no_log m s keys values used in_force
      front_fails bad = ap (λ b. not (b && back)) (sym bad) ∙ passes

      -- the part of a slice from those in force to those used
      abbrev part : List ℕ → List ℕ
      part l = take (used - in_force) (drop in_force l)

      part_again : (l : List ℕ) → take (used - in_force) (part l) ≡ part l
      part_again l = take_all (used - in_force) (part l) (let e = length-take (used - in_force) (drop in_force l) in omega arith)

      pub part_length : (l : List ℕ) → used ≤ length l → length (part l) ≡ used - in_force
      part_length l h = simp (length-take, length-drop) (omega arith)

      -- it holds the records to redo
      pub part_redo : records_of (part keys) (part values) (used - in_force) ≡ to_redo keys values used in_force
      part_redo =
          let size = records-length keys values used in_keys in_values in
          let rest = length-drop in_force (records_of keys values used) in
          ap₂ paired (part_again keys) (part_again values)
          ∙ sym (records_run keys values used in_force (used - in_force) (omega arith))
          ∙ take_all (used - in_force) (to_redo keys values used in_force) (omega arith)

      -- they decide
      pub back_decides : (r : Bool) → front ≡ true → r ≡ is_sound m s (records_of (part keys) (part values) (used - in_force))
          → not r ≡ no_log m s keys values used in_force
      back_decides r good told = ap not (told ∙ ap (is_sound m s) part_redo) ∙ ap (λ b. not (b && back)) (sym good) ∙ passes

-- what the promise of the check says where it answers yes
pub whole_log : (m s : ℕ) (keys values : List ℕ) (used in_force : ℕ) → no_log m s keys values used in_force ≡ false → WholeLog m s keys values used in_force
unfolding no_log
whole_log m s keys values used in_force e =
    let there : Bool = leb used (room keys values) in
    let within : Bool = leb in_force used in
    let first : Bool = is_sound m s (records_of keys values in_force) in
    let last : Bool = is_sound m s (to_redo keys values used in_force) in
    let all : (there && within && first && last) ≡ true = not-false _ e in
    let three = and_left (there && within && first) last all in
    let two = and_left (there && within) first three in
    let inside = leb-true used (room keys values) (and_left there within two) in
    record {
      in_keys = omega arith;
      in_values = omega arith;
      within = leb-true in_force used (and_right there within two);
      in-force = and_right (there && within) first three;
      redoable = and_right (there && within && first) last all;
    }

-- the records in force
pub force_sound : {m s : ℕ} {keys values : List ℕ} {used in_force : ℕ} → WholeLog m s keys values used in_force → SoundLog m s keys values in_force
force_sound w =
    let within = w.within in
    record { in_keys = omega (arith, w.in_keys); in_values = omega (arith, w.in_values); sound = w.in-force }
