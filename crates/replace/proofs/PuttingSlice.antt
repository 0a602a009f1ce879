-- One slice that begins with a list: written over once more, and with zeroes in the places that the list has given up. Rests on the laws of slices.
use Prim.Native.Nat.{ℕ, ◌+◌, ◌-◌, ◌≤◌, max}
use mathlib.Core.Path.{◌≡◌, sym, ◌∙◌, ap, ap₂}
use mathlib.Core.List.{List, ◌++◌}
use native.Mathlib.Omega.{arith}
use lib.ListN.{length, drop, replicate, length-append, length-drop, length-replicate}
use lib.Seq.{sets, take_at, drop_at, drop-drop, drop-append-add}
use Rattle.definitions.specs.Buffer.{over, replaced}
use Rattle.slices.proofs.Sets.{sets_parts}

-- a slice keeps its length
pub length_over : (new old : List ℕ) → length new ≤ length old → length (over new old) ≡ length old
length_over new old h =
    let e = length-append new (drop (length new) old) in
    let f = length-drop (length new) old in
    omega arith

-- what is written over last counts
pub over_again : (new new' old : List ℕ) → length new ≡ length new' → over new (over new' old) ≡ over new old
over_again new new' old e =
    ap (λ t. new ++ t) (drop_at new' (drop (length new') old) (length new) (sym e) ∙ ap (λ n. drop n old) (sym e))

module _ (new old : List ℕ) (n after : ℕ) (size : length new ≡ after) where
  -- a list that is not shorter than the one before gives up no place
  pub over_kept : n ≤ after → over new old ≡ replaced n new old
  over_kept h =
      let none : 0 ≡ n - length new = omega arith in
      let most : length new ≡ max n (length new) = omega arith in
      ap₂ (λ i j. new ++ (replicate i 0 ++ drop j old)) none most

  -- a shorter one has zeroes behind it
  pub over_cleared : after ≤ n → n ≤ length old → sets (over new old) after (replicate (n - after) 0) ≡ replaced n new old
  over_cleared h room =
      let zeroes : List ℕ = replicate (n - after) 0 in
      let count : length zeroes ≡ n - after = length-replicate (n - after) 0 in
      let whole = length_over new old (omega arith) in
      let behind : after + length zeroes ≡ length new + (n - after) = omega arith in
      let most : length new + (n - after) ≡ max n (length new) = omega arith in
      let same : n - after ≡ n - length new = omega arith in
      sets_parts (over new old) after zeroes (omega arith)
      ∙ ap₂ (λ a i. a ++ (zeroes ++ drop i (over new old))) (take_at new (drop (length new) old) after size) behind
      ∙ ap (λ t. new ++ (zeroes ++ t)) (drop-append-add new (drop (length new) old) (n - after) ∙ drop-drop (n - after) (length new) old)
      ∙ ap₂ (λ k i. new ++ (replicate k 0 ++ drop i old)) same most
