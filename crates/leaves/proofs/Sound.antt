-- Where the leaves of a block end within the slice, they tile the block. Rests on EndOf and Tiles.
use Prim.Native.Nat.{ℕ, zero, suc, ◌+◌, ◌^◌, ◌≤◌, ◌<◌}
use mathlib.Core.Path.{◌≡◌, sym, ◌∙◌, ap, ap₂}
use mathlib.Core.List.{List, [], ◌∷◌, ◌++◌, append_assoc}
use native.Mathlib.Omega.{arith}
use native.Mathlib.Numerals.{add-one}
use lib.ListN.{length, get_or, drop}
use lib.Seq.{drop-cons}
use Rattle.keys.specs.Key.{child_key}
use Rattle.keys.proofs.Cases.{equal}
use Rattle.leaves.specs.Delivered.{leaves_end}
use Rattle.leaves.proofs.EndOf.{end_of_four, end_leaf, end_other, end_four, end_there}
use Rattle.leaves.proofs.Tiles.{Tiles, alone, parts}

-- what stands from a place on: keys that tile the block, and the others
pub record Begins (keys : List ℕ) (k r c κ at : ℕ) : Type 0 where
  pub run : List ℕ
  pub tiles : Tiles k r c κ run
  pub splits : drop at keys ≡ run ++ drop (leaves_end keys k κ at) keys

begins_leaf : (keys : List ℕ) (k r c κ at : ℕ) → at < length keys → get_or keys at 0 ≡ κ → Begins keys k r c κ at
begins_leaf keys k r c κ at h e = record {
  run = κ ∷ [];
  tiles = alone;
  splits = drop-cons keys at 0 h ∙ ap₂ (λ x i. x ∷ drop i keys) e (sym (add-one at) ∙ sym (end_leaf keys k κ at h e));
}

regroup : (a b c d e : List ℕ) → a ++ (b ++ (c ++ (d ++ e))) ≡ (a ++ (b ++ (c ++ d))) ++ e
regroup a b c d e = simp append_assoc

begins_four : (keys : List ℕ) (k r c κ at : ℕ) → at < length keys → (get_or keys at 0 ≡ κ → ⊥)
    → Begins keys k r c (child_key κ k 1) at
    → Begins keys k r (c + 2 ^ k) (child_key κ k 2) (leaves_end keys k (child_key κ k 1) at)
    → Begins keys k (r + 2 ^ k) c (child_key κ k 3) (leaves_end keys k (child_key κ k 2) (leaves_end keys k (child_key κ k 1) at))
    → Begins keys k (r + 2 ^ k) (c + 2 ^ k) (child_key κ k 4) (leaves_end keys k (child_key κ k 3) (leaves_end keys k (child_key κ k 2) (leaves_end keys k (child_key κ k 1) at)))
    → Begins keys (suc k) r c κ at
begins_four keys k r c κ at h n x y z w = record {
  run = x.run ++ (y.run ++ (z.run ++ w.run));
  tiles = parts x.tiles y.tiles z.tiles w.tiles;
  splits = x.splits
      ∙ ap (λ l. x.run ++ l) (y.splits ∙ ap (λ l. y.run ++ l) (z.splits ∙ ap (λ l. z.run ++ l) w.splits))
      ∙ regroup x.run y.run z.run w.run (drop (end_of_four keys k κ at) keys)
      ∙ ap (λ i. (x.run ++ (y.run ++ (z.run ++ w.run))) ++ drop i keys) (sym (end_four keys k κ at h n));
}

pub leaves_sound : (keys : List ℕ) (k r c κ at : ℕ) → leaves_end keys k κ at ≤ length keys → Begins keys k r c κ at
leaves_sound keys zero r c κ at fits =
    let h = end_there keys zero κ at fits in
    equal (get_or keys at 0) κ (begins_leaf keys zero r c κ at h) (λ n. let e = end_other keys κ at h n in absurd (omega arith))
leaves_sound keys (suc k) r c κ at fits =
    let h = end_there keys (suc k) κ at fits in
    equal (get_or keys at 0) κ (begins_leaf keys (suc k) r c κ at h)
    (λ n.
    let e = end_four keys k κ at h n in
    let i₁ = leaves_end keys k (child_key κ k 1) at in
    let i₂ = leaves_end keys k (child_key κ k 2) i₁ in
    let i₃ = leaves_end keys k (child_key κ k 3) i₂ in
    let h₄ : leaves_end keys k (child_key κ k 4) i₃ ≤ length keys = omega arith in
    let h₃ : i₃ < length keys = end_there keys k (child_key κ k 4) i₃ h₄ in
    let h₂ : i₂ < length keys = end_there keys k (child_key κ k 3) i₂ (omega arith) in
    let h₁ : i₁ < length keys = end_there keys k (child_key κ k 2) i₁ (omega arith) in
    begins_four keys k r c κ at h n
    (leaves_sound keys k r c (child_key κ k 1) at (omega arith))
    (leaves_sound keys k r (c + 2 ^ k) (child_key κ k 2) i₁ (omega arith))
    (leaves_sound keys k (r + 2 ^ k) c (child_key κ k 3) i₂ (omega arith))
    (leaves_sound keys k (r + 2 ^ k) (c + 2 ^ k) (child_key κ k 4) i₃ h₄))
