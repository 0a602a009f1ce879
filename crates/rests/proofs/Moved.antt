-- Records that stand first in slices: slices into which a list or a log was brought hold it, whatever stands past it. Rests on history's Slices and
-- LogSlices.
use Prim.Native.Nat.{ℕ, ◌≤◌}
use mathlib.Core.Path.{◌≡◌, refl, sym, ap, ◌∙◌}
use mathlib.Core.List.{List, ◌++◌}
use native.Mathlib.Nat.{le_refl}
use native.Mathlib.Omega.{arith}
use lib.ListN.{length, take, drop, length-map, take-append-drop}
use Rattle.definitions.specs.List.{Record, keys_of, values_of}
use Rattle.definitions.specs.Read.{room, records_of}
use Rattle.definitions.specs.Buffer.{replaced}
use Rattle.laws.proofs.Records.{records-length, records_keys, records_values}
use Rattle.history.proofs.Buffers.{over_replaced}
use Rattle.history.proofs.Shown.{ShownInSlices, shown_room}
use Rattle.history.proofs.Slices.{HoldsList}
use Rattle.history.proofs.LogSlices.{HoldsLog}

-- the first n records are shown where they are all there
pub shown_there : {l : List Record} (n : ℕ) (keys values : List ℕ) → n ≤ room keys values → records_of keys values n ≡ l → ShownInSlices l n keys values
shown_there n keys values h e =
    record {
      count = sym (records-length keys values n (omega arith) (omega arith)) ∙ ap length e;
      in_keys = sym (records_keys keys values n (omega arith) (omega arith)) ∙ ap keys_of e;
      in_values = sym (records_values keys values n (omega arith) (omega arith)) ∙ ap values_of e;
    }

-- a slice is what stands first in it, and then what is past that
first_and_past : (n : ℕ) (new slice : List ℕ) → take n slice ≡ new → length new ≡ n → slice ≡ replaced n new slice
first_and_past n new slice e size =
    sym (take-append-drop n slice)
    ∙ ap (λ l. l ++ drop n slice) e
    ∙ ap (λ x. new ++ drop x slice) (sym size)
    ∙ over_replaced n new slice size

-- slices that show a list hold it, and past it what they held
pub list_there : {l : List Record} {n : ℕ} {keys bits : List ℕ} → ShownInSlices l n keys bits → HoldsList l n keys bits keys bits n
list_there {l} {n} {keys} {bits} h =
    record {
      count = h.count;
      all_keys = first_and_past n (keys_of l) keys h.in_keys (length-map l (λ x. x.key) ∙ sym h.count);
      all_bits = first_and_past n (values_of l) bits h.in_values (length-map l (λ x. x.value) ∙ sym h.count);
      short = le_refl n;
      fits = shown_room h;
    }

-- slices that show the records in force and those to redo hold both
pub log_there : {front back : List Record} {used in_force : ℕ} {log_keys log_values : List ℕ} → ShownInSlices (front ++ back) used log_keys log_values → in_force ≡ length front
    → HoldsLog front back used log_keys log_values log_keys log_values used in_force
log_there {used = used} h e =
    record { shown = h; force = e; short = le_refl used; keys_length = refl; values_length = refl; past_keys = refl; past_values = refl }
