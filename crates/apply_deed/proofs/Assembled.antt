-- The passes put together, on the slices: what is left is the list of the step over p, zeroes as far as the old list went, and then what was there.
use Prim.Native.Nat.{ℕ, ◌+◌, ◌-◌, ◌≤◌, max}
use mathlib.Core.Path.{◌≡◌, refl, sym, ◌∙◌, ap, ap₂}
use mathlib.Core.List.{List, ◌++◌}
use native.Mathlib.Omega.{arith}
use lib.ListN.{length, drop, replicate, length-append, length-drop, length-replicate}
use lib.Seq.{sets, drop_at, take_at, drop-drop}
use Rattle.slices.proofs.Sets.{sets_parts}
use Rattle.definitions.specs.Buffer.{over, replaced}
use Rattle.apply_deed.proofs.Runs.{drop-later}

-- a list that did not shrink
pub replaced_longer : (n : ℕ) (new between before : List ℕ) → n ≤ length new → drop n between ≡ drop n before → over new between ≡ replaced n new before
replaced_longer n new between before h e =
    let z : n - length new ≡ 0 = omega arith in
    let x : max n (length new) ≡ length new = omega arith in
    ap (λ l. new ++ l) (drop-later between before n (length new) h e)
    ∙ sym (ap₂ (λ a i. new ++ (replicate a 0 ++ drop i before)) z x)

-- a list that shrank, once the places given up are zero
pub replaced_shorter : (n : ℕ) (new between before : List ℕ) → length new ≤ n → n ≤ length between → drop n between ≡ drop n before
    → sets (over new between) (length new) (replicate (n - length new) 0) ≡ replaced n new before
replaced_shorter n new between before h room e =
    let x : max n (length new) ≡ n = omega arith in
    let l = length-append new (drop (length new) between) in
    let d = length-drop (length new) between in
    let z = length-replicate {A = ℕ} (n - length new) 0 in
    let zeros : List ℕ = replicate (n - length new) 0 in
    let s : length new + length zeros ≡ n = omega arith in
    sets_parts (over new between) (length new) (replicate (n - length new) 0) (omega arith)
    ∙ ap₂ (λ a i. a ++ (replicate (n - length new) 0 ++ drop i (over new between))) (take_at new (drop (length new) between) (length new) refl) s
    ∙ ap (λ r. new ++ (replicate (n - length new) 0 ++ r)) (tail ∙ e ∙ ap (λ i. drop i before) (sym x))
  where
    tail : drop n (over new between) ≡ drop n between
    tail =
        let s : length new + (n - length new) ≡ n = omega arith in
        ap (λ i. drop i (over new between)) (sym s)
        ∙ sym (drop-drop (n - length new) (length new) (over new between))
        ∙ ap (drop (n - length new)) (drop_at new (drop (length new) between) (length new) refl)
        ∙ drop-drop (n - length new) (length new) between
        ∙ ap (λ i. drop i between) s
