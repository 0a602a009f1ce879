-- The records to redo in a log's bytes: those from the place of the count in force on. Rests on InBytes and on the laws of a log in two slices.
use Prim.Native.Nat.{ℕ, ◌-◌, ◌*◌, ◌≤◌}
use mathlib.Core.Path.{◌≡◌, sym, ap, ap₂, ◌∙◌}
use mathlib.Core.Bool.{Bool, true, not}
use mathlib.Core.List.{List}
use native.Mathlib.Omega.{arith}
use lib.ListN.{length, take, drop, length-take}
use lib.Seq.{take_all}
use Rattle.definitions.specs.Read.{paired, records_of}
use Rattle.definitions.specs.Log.{is_sound, no_log}
use Rattle.edit_log.proofs.Parts.{back_decides}
use Rattle.log_file.specs.Records.{places_in, keys_in_bytes, values_in_bytes, log_in}
use Rattle.log_file.proofs.Lent.{rest_lent}
use Rattle.log_file.proofs.InBytes.{in_keys, in_values, places_after, keys_after, values_after}

module _ (m s : ℕ) (bytes : List ℕ) (used in_force : ℕ) (there : used ≤ places_in bytes) (within : in_force ≤ used) where
  -- they are there
  pub rest_there : used - in_force ≤ places_in (take (length bytes - 8 * in_force) (drop (8 * in_force) bytes))
  rest_there = let p = places_after bytes in_force (omega arith) in rw (rest_lent bytes (8 * in_force)) (omega arith)

  pub rest_begins : 8 * in_force ≤ length bytes
  unfolding places_in
  rest_begins = omega arith

  -- the part of a slice from those in force to those used
  part_again : (l : List ℕ) → take (used - in_force) (drop in_force l) ≡ take (used - in_force) (take (used - in_force) (drop in_force l))
  part_again l = sym (take_all (used - in_force) (take (used - in_force) (drop in_force l)) (let e = length-take (used - in_force) (drop in_force l) in omega arith))

  rest_is : log_in (drop (8 * in_force) bytes) (used - in_force)
      ≡ records_of (take (used - in_force) (drop in_force (keys_in_bytes bytes))) (take (used - in_force) (drop in_force (values_in_bytes bytes))) (used - in_force)
  rest_is =
      ap₂ paired
      (ap (take (used - in_force)) (keys_after bytes in_force (omega arith)) ∙ part_again (keys_in_bytes bytes))
      (ap (take (used - in_force)) (values_after bytes in_force (omega arith)) ∙ part_again (values_in_bytes bytes))

  -- they decide
  pub rest_decides : (r : Bool) → is_sound m s (log_in bytes in_force) ≡ true
      → r ≡ is_sound m s (log_in (take (length bytes - 8 * in_force) (drop (8 * in_force) bytes)) (used - in_force))
      → not r ≡ no_log m s (keys_in_bytes bytes) (values_in_bytes bytes) used in_force
  rest_decides r good told =
      back_decides m s (keys_in_bytes bytes) (values_in_bytes bytes) used in_force (in_keys bytes there) (in_values bytes there) within r good
      (told ∙ ap (λ l. is_sound m s (log_in l (used - in_force))) (rest_lent bytes (8 * in_force)) ∙ ap (is_sound m s) rest_is)
