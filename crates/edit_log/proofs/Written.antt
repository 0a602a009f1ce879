-- An entry in the log's two slices: its content, stored one slice after the other, and the closing records behind it; and places that were cleared.
-- Rests on the laws of stored runs.
use Prim.Native.Nat.{ℕ, ◌+◌, ◌-◌, ◌≤◌}
use mathlib.Core.Path.{◌≡◌, sym, ◌∙◌, ap}
use mathlib.Core.List.{List, [], ◌∷◌, ◌++◌, map-append, append_assoc}
use native.Mathlib.Omega.{arith}
use lib.ListN.{length, set, take, drop, replicate, length-append, length-map, length-replicate}
use lib.Seq.{sets}
use Rattle.slices.proofs.Sets.{sets_snoc, sets_parts}
use Rattle.definitions.specs.List.{Record, record_of, keys_of, values_of}
use Rattle.definitions.specs.Read.{room}
use Rattle.definitions.specs.Buffer.{over_at}
use Rattle.definitions.specs.Log.{closed}
use Rattle.laws.proofs.LastEntry.{length-closed}
use Rattle.edit_log.specs.declared.entry.Entry.{Entry}
use Rattle.edit_log.specs.Entries.{records_from_place, Loggable, Logged, Cleared}
use Rattle.edit_log.proofs.Places.{run_keys, run_values, run_length}

-- a run of so many numbers and two more, stored behind it
stored : (old : List ℕ) (start : ℕ) (new : List ℕ) (count x y : ℕ) → length new ≡ count → start + count + 2 ≤ length old
    → set (set (sets old start new) (start + count) x) (start + count + 1) y ≡ over_at start (new ++ (x ∷ y ∷ [])) old
stored old start new count x y e h =
    let f = length-append new (x ∷ []) in
    let g = length-append new (x ∷ y ∷ []) in
    let next : start + count + 1 ≡ start + length (new ++ (x ∷ [])) = omega arith in
    ap (λ n. set (set (sets old start new) (start + n) x) (start + count + 1) y) (sym e)
    ∙ ap (λ l. set l (start + count + 1) y) (sets_snoc old start new x)
    ∙ ap (λ n. set (sets old start (new ++ (x ∷ []))) n y) next
    ∙ sets_snoc old start (new ++ (x ∷ [])) y
    ∙ ap (sets old start) (append_assoc new (x ∷ []) (y ∷ []))
    ∙ sets_parts old start (new ++ (x ∷ y ∷ [])) (omega arith)

-- the keys of an entry
closed_keys : (κ : ℕ) (content : List Record) (f : ℕ) → keys_of (closed κ content f) ≡ keys_of content ++ (κ ∷ κ ∷ [])
unfolding closed
closed_keys κ content f = map-append (λ x. x.key) content (record_of κ (length content) ∷ record_of κ f ∷ [])

-- the values
closed_values : (κ : ℕ) (content : List Record) (f : ℕ) → values_of (closed κ content f) ≡ values_of content ++ (length content ∷ f ∷ [])
unfolding closed
closed_values κ content f = map-append (λ x. x.value) content (record_of κ (length content) ∷ record_of κ f ∷ [])

-- the content and the closing records, stored in both slices
pub entry_written : {new : Entry} {keys bits : List ℕ} {place : ℕ} {old values old₁ values₁ old' values' : List ℕ} → Loggable new keys bits place old values
    → old₁ ≡ sets old new.start (take new.count (drop place keys))
    → values₁ ≡ sets values new.start (take new.count (drop place bits))
    → old' ≡ set (set old₁ (new.start + new.count) new.key) (new.start + new.count + 1) new.key
    → values' ≡ set (set values₁ (new.start + new.count) new.count) (new.start + new.count + 1) new.feature
    → Logged (closed new.key (records_from_place keys bits place new.count) new.feature) new.start old values old' values' (new.start + new.count + 2)
entry_written {new} {keys} {bits} {place} {old} {values} {old₁} {values₁} {old'} {values'} can first second third fourth =
    let there = can.content_there in
    let fits = can.fits in
    let start : ℕ = new.start in
    let count : ℕ = new.count in
    let content : List Record = records_from_place keys bits place count in
    let size : length content ≡ count = run_length keys bits place count there in
    let a = length-map content (λ x. x.key) in
    let b = length-map content (λ x. x.value) in
    record {
      keys_are =
          third
          ∙ ap (λ l. set (set l (start + count) new.key) (start + count + 1) new.key) (first ∙ ap (sets old start) (sym (run_keys keys bits place count there)))
          ∙ stored old start (keys_of content) count new.key new.key (omega arith) (omega arith)
          ∙ ap (λ x. over_at start x old) (sym (closed_keys new.key content new.feature));
      values_are =
          fourth
          ∙ ap (λ l. set (set l (start + count) count) (start + count + 1) new.feature) (second ∙ ap (sets values start) (sym (run_values keys bits place count there)))
          ∙ stored values start (values_of content) count count new.feature (omega arith) (omega arith)
          ∙ ap (λ c. over_at start (values_of content ++ (c ∷ new.feature ∷ [])) values) (sym size)
          ∙ ap (λ x. over_at start x values) (sym (closed_values new.key content new.feature));
      used_are = let l = length-closed new.key content new.feature in omega arith;
    }

-- places that were cleared are overwritten with zeroes
cleared_at : (l : List ℕ) (from end : ℕ) → from ≤ end → end ≤ length l → sets l from (replicate (end - from) 0) ≡ over_at from (replicate (end - from) 0) l
cleared_at l from end order there =
    let size = length-replicate {A = ℕ} (end - from) 0 in
    sets_parts l from (replicate (end - from) 0) (omega arith)

-- in both slices
pub both_cleared : {start used : ℕ} {keys values keys' values' : List ℕ} → start ≤ used → used ≤ room keys values
    → keys' ≡ sets keys start (replicate (used - start) 0)
    → values' ≡ sets values start (replicate (used - start) 0)
    → Cleared start used keys values keys' values'
both_cleared {start} {used} {keys} {values} order there e f =
    record { keys_are = e ∙ cleared_at keys start used order (omega arith); values_are = f ∙ cleared_at values start used order (omega arith) }
