-- An entry that is written over entries which could be redone: the entry, and then zeroes as far as the log was used. Rests on the laws of stored runs.
use Prim.Native.Nat.{ℕ, ◌+◌, ◌-◌, ◌≤◌}
use mathlib.Core.Path.{◌≡◌, sym, ◌∙◌, ap}
use mathlib.Core.List.{List, ◌++◌}
use native.Mathlib.Omega.{arith}
use lib.ListN.{length, replicate, length-append, length-map, length-replicate}
use lib.Seq.{sets, length-sets}
use Rattle.slices.proofs.Sets.{sets_join, sets_parts}
use Rattle.definitions.specs.List.{Record, keys_of, values_of}
use Rattle.definitions.specs.Read.{room}
use Rattle.definitions.specs.Buffer.{over_at}
use Rattle.definitions.specs.Calls.Paint.{logged}
use Rattle.edit_log.specs.Entries.{Logged, Cleared}
use Rattle.edit.specs.PaintCall.{Relogged}

-- what follows a run is written behind it
pub over_join : (old : List ℕ) (start : ℕ) (xs ys : List ℕ) (next : ℕ) → next ≡ start + length xs → start + length xs ≤ length old → next + length ys ≤ length old
    → over_at next ys (over_at start xs old) ≡ over_at start (xs ++ ys) old
over_join old start xs ys next e h j =
    let first : sets old start xs ≡ over_at start xs old = sets_parts old start xs h in
    let size = length-sets old start xs in
    let both = length-append xs ys in
    ap (over_at next ys) (sym first)
    ∙ sym (sets_parts (sets old start xs) next ys (omega arith))
    ∙ ap (λ n. sets (sets old start xs) n ys) e
    ∙ sets_join old start xs ys
    ∙ sets_parts old start (xs ++ ys) (omega arith)

-- no zeroes where the run goes past what was used
zeroes_fit : (next used size : ℕ) → next ≤ size → used ≤ size → next + (used - next) ≤ size
zeroes_fit next used size h j = omega arith

-- a slice of the log
relogged_slice : (old : List ℕ) (start used : ℕ) (xs : List ℕ) (next : ℕ) → next ≡ start + length xs → start + length xs ≤ length old → used ≤ length old
    → over_at next (replicate (used - next) 0) (over_at start xs old) ≡ logged used start xs old
relogged_slice old start used xs next e h j =
    let size = length-replicate {A = ℕ} (used - next) 0 in
    let fits = zeroes_fit next used (length old) (omega arith) j in
    over_join old start xs (replicate (used - next) 0) next e h (omega arith)
    ∙ ap (λ n. over_at start (xs ++ replicate (used - n) 0) old) e

-- both slices
pub relogged : {entry : List Record} {start used : ℕ} {keys values keys₁ values₁ keys' values' : List ℕ} {next : ℕ}
    → start + length entry ≤ room keys values
    → used ≤ room keys values
    → Logged entry start keys values keys₁ values₁ next
    → Cleared next used keys₁ values₁ keys' values'
    → Relogged entry start used keys values keys' values' next
relogged {entry} {start} {used} {keys} {values} {next = next} fits there w z =
    let a = length-map entry (λ x. x.key) in
    let b = length-map entry (λ x. x.value) in
    let e = w.used_are in
    record {
      keys_are = z.keys_are ∙ ap (over_at next (replicate (used - next) 0)) w.keys_are ∙ relogged_slice keys start used (keys_of entry) next (omega arith) (omega arith) (omega arith);
      values_are = z.values_are ∙ ap (over_at next (replicate (used - next) 0)) w.values_are ∙ relogged_slice values start used (values_of entry) next (omega arith) (omega arith) (omega arith);
      used_are = e;
    }

-- the slices keep their lengths while the entry is written
pub logged_room : {entry : List Record} {start used : ℕ} {keys values keys₁ values₁ : List ℕ} {next : ℕ}
    → start + length entry ≤ room keys values
    → used ≤ room keys values
    → Logged entry start keys values keys₁ values₁ next
    → used ≤ room keys₁ values₁
logged_room {entry} {start} {used} {keys} {values} {keys₁} {values₁} fits there w =
    let a = length-map entry (λ x. x.key) in
    let b = length-map entry (λ x. x.value) in
    let k : length keys₁ ≡ length keys
    = ap length (w.keys_are ∙ sym (sets_parts keys start (keys_of entry) (omega arith))) ∙ length-sets keys start (keys_of entry) in
    let v : length values₁ ≡ length values
    = ap length (w.values_are ∙ sym (sets_parts values start (values_of entry) (omega arith))) ∙ length-sets values start (values_of entry) in
    omega arith
