-- The slices of the log in a history: what they hold after a paint, a taking back, a redo and an emptying, and which places stay as
-- lent.
-- Rests on Buffers and Shown.
use Prim.Native.Nat.{ℕ, ◌+◌, ◌-◌, ◌≤◌, max}
use mathlib.Core.Path.{◌≡◌, refl, sym, ap, ◌∙◌, subst}
use mathlib.Core.List.{List, [], ◌++◌, append_assoc, append-nil}
use native.Mathlib.Omega.{arith}
use lib.ListN.{length, drop, replicate, length-append, length-map, length-replicate}
use lib.Seq.{drop-drop, drop_at}
use Rattle.definitions.specs.List.{Record, keys_of, values_of}
use Rattle.definitions.specs.Read.{room, records_of}
use Rattle.definitions.specs.Buffer.{over_at}
use Rattle.definitions.specs.Log.{to_redo}
use Rattle.definitions.specs.Calls.Paint.{logged}
use Rattle.history.proofs.Buffers.{drop-over, length-over_at}
use Rattle.history.proofs.Shown.{ShownInSlices, shown_records, shown_first, shown_logged, shown_none, shown_room}

-- lent log_keys and log_values, the slices hold the records in force and then those to redo, and past the longest log so far what was lent
pub record HoldsLog (front back : List Record) (longest : ℕ) (log_keys log_values log_keys' log_values' : List ℕ) (used in_force : ℕ) : Type 0 where
  pub shown : ShownInSlices (front ++ back) used log_keys' log_values'
  pub force : in_force ≡ length front
  pub short : used ≤ longest
  pub keys_length : length log_keys' ≡ length log_keys
  pub values_length : length log_values' ≡ length log_values
  pub past_keys : drop longest log_keys' ≡ drop longest log_keys
  pub past_values : drop longest log_values' ≡ drop longest log_values

-- slices that are equal from a place on are equal from any later place on
drop_more : (i j : ℕ) (slice slice' : List ℕ) → i ≤ j → drop i slice ≡ drop i slice' → drop j slice ≡ drop j slice'
drop_more i j slice slice' h e =
    let sum : i + (j - i) ≡ j = omega arith in
    ap (λ x. drop x slice) (sym sum)
    ∙ sym (drop-drop (j - i) i slice)
    ∙ ap (λ l. drop (j - i) l) e
    ∙ drop-drop (j - i) i slice'
    ∙ ap (λ x. drop x slice') sum

-- writing over places before the longest log's end leaves what is past it
stays : (longest place end : ℕ) (new slice slice' : List ℕ) → place ≤ length slice' → place + length new ≤ end → longest ≤ end
    → drop longest slice' ≡ drop longest slice
    → drop end (over_at place new slice') ≡ drop end slice
stays longest place end new slice slice' h j long e = drop-over place end new slice' h j ∙ drop_more longest end slice' slice long e

-- how far a step and the zeroes behind it go
over_size : (place used count : ℕ) (new : List ℕ) → length new ≡ count
    → place + length (new ++ replicate (used - (place + length new)) 0) ≡ max used (place + count)
over_size place used count new e =
    let all = length-append new (replicate (used - (place + length new)) 0) in
    let zeroes = length-replicate {A = ℕ} (used - (place + length new)) 0 in
    over_sum place used count (length new) (length (replicate (used - (place + length new)) 0)) _ e zeroes all
  where
    over_sum : (place used count a z n : ℕ) → a ≡ count → z ≡ used - (place + a) → n ≡ a + z → place + n ≡ max used (place + count)
    over_sum place used count a z n e f g = omega arith

-- the records in force, those to redo, and how many both are
module _ {front back : List Record} {longest : ℕ} {log_keys log_values log_keys' log_values' : List ℕ} {used in_force : ℕ}
    (h : HoldsLog front back longest log_keys log_values log_keys' log_values' used in_force) where
  pub log_counts : used ≡ in_force + length back
  log_counts = let both = length-append front back in let e = h.force in h.shown.count ∙ omega arith

  pub log_force : records_of log_keys' log_values' in_force ≡ front
  log_force = shown_records (shown_first front back in_force h.force h.shown)

  pub log_redo : to_redo log_keys' log_values' used in_force ≡ back
  log_redo = ap (drop in_force) (shown_records h.shown) ∙ drop_at front back in_force (sym h.force)

  -- no log was longer than the longest
  pub log_longest : longest ≡ max longest used
  log_longest = let e = h.short in omega arith

  -- the log is emptied, and nothing else is touched
  pub log_emptied : HoldsLog [] [] (max longest 0) log_keys log_values log_keys' log_values' 0 0
  log_emptied = record {
    shown = shown_none log_keys' log_values';
    force = refl;
    short = omega arith;
    keys_length = h.keys_length;
    values_length = h.values_length;
    past_keys = drop_more longest (max longest 0) log_keys' log_keys (omega arith) h.past_keys;
    past_values = drop_more longest (max longest 0) log_values' log_values (omega arith) h.past_values;
  }

  -- a step is put behind the records in force where there is room for it, and those to redo are dropped
  pub log_gains : (step : List Record) → in_force + length step ≤ room log_keys' log_values'
      → HoldsLog (front ++ step) [] (max longest (in_force + length step)) log_keys log_values
      (logged used in_force (keys_of step) log_keys') (logged used in_force (values_of step) log_values') (in_force + length step) (in_force + length step)
  log_gains step enough =
      let a = length-map step (λ x. x.key) in
      let b = length-map step (λ x. x.value) in
      let inside = shown_room h.shown in
      let short = h.short in
      let end : ℕ = max longest (in_force + length step) in
      let new_keys : List ℕ = keys_of step ++ replicate (used - (in_force + length (keys_of step))) 0 in
      let new_values : List ℕ = values_of step ++ replicate (used - (in_force + length (values_of step))) 0 in
      let k = over_size in_force used (length step) (keys_of step) a in
      let v = over_size in_force used (length step) (values_of step) b in
      let both = shown_logged used step (shown_first front back in_force h.force h.shown) in
      record {
        shown = rw append-nil both;
        force = both.count;
        short = omega arith;
        keys_length = length-over_at in_force new_keys log_keys' (omega arith) ∙ h.keys_length;
        values_length = length-over_at in_force new_values log_values' (omega arith) ∙ h.values_length;
        past_keys = stays longest in_force end new_keys log_keys log_keys' (omega arith) (omega arith) (omega arith) h.past_keys;
        past_values = stays longest in_force end new_values log_values log_values' (omega arith) (omega arith) (omega arith) h.past_values;
      }

-- the last step in force is no longer in force, and nothing else is touched
pub log_back : (front step back : List Record) {longest : ℕ} {log_keys log_values log_keys' log_values' : List ℕ} {used in_force : ℕ}
    → HoldsLog (front ++ step) back longest log_keys log_values log_keys' log_values' used in_force
    → HoldsLog front (step ++ back) (max longest used) log_keys log_values log_keys' log_values' used (length front)
log_back front step back {longest} {log_keys} {log_values} {log_keys'} {log_values'} {used} h =
    subst (λ n. HoldsLog front (step ++ back) n log_keys log_values log_keys' log_values' used (length front)) (log_longest h)
    (record {
      shown = rw append_assoc at h.shown;
      force = refl;
      short = h.short;
      keys_length = h.keys_length;
      values_length = h.values_length;
      past_keys = h.past_keys;
      past_values = h.past_values;
    })

-- the next step is in force again, and nothing else is touched
pub log_again : (front step back : List Record) {longest : ℕ} {log_keys log_values log_keys' log_values' : List ℕ} {used in_force : ℕ}
    → HoldsLog front (step ++ back) longest log_keys log_values log_keys' log_values' used in_force
    → HoldsLog (front ++ step) back (max longest used) log_keys log_values log_keys' log_values' used (in_force + length step)
log_again front step back {longest} {log_keys} {log_values} {log_keys'} {log_values'} {used} {in_force} h =
    let both = length-append front step in
    subst (λ n. HoldsLog (front ++ step) back n log_keys log_values log_keys' log_values' used (in_force + length step)) (log_longest h)
    (record {
      shown = rw append_assoc h.shown;
      force = let e = h.force in omega arith;
      short = h.short;
      keys_length = h.keys_length;
      values_length = h.values_length;
      past_keys = h.past_keys;
      past_values = h.past_values;
    })

-- an empty log in any slices
pub log_empty : (log_keys log_values : List ℕ) → HoldsLog [] [] 0 log_keys log_values log_keys log_values 0 0
log_empty log_keys log_values = record {
  shown = shown_none log_keys log_values;
  force = refl;
  short = omega arith;
  keys_length = refl;
  values_length = refl;
  past_keys = refl;
  past_values = refl;
}
