-- What stands before and behind a run that is stored in a list. Rests on the laws of lists.
use Prim.Native.Nat.{ℕ, suc, ◌+◌, ◌-◌, ◌≤◌}
use mathlib.Core.Path.{◌≡◌, refl, sym, ◌∙◌, ap}
use mathlib.Core.List.{List, [], ◌∷◌}
use native.Mathlib.Omega.{arith}
use lib.ListN.{length, set, take, drop}
use lib.Seq.{sets, take-set-le, drop-set-lt, drop-drop}

module _ {ℓ} {A : Type ℓ} where
  -- up to a place at or before a run
  pub take-sets_before : (n : ℕ) (l : List A) (i : ℕ) (xs : List A) → n ≤ i → take n (sets l i xs) ≡ take n l
  take-sets_before n l i [] h = refl
  take-sets_before n l i (x ∷ xs) h = take-sets_before n (set l i x) (suc i) xs (omega arith) ∙ take-set-le n l i x h

  -- from a place at or behind its end
  pub drop-sets_after : (n : ℕ) (l : List A) (i : ℕ) (xs : List A) → i + length xs ≤ n → drop n (sets l i xs) ≡ drop n l
  drop-sets_after n l i [] h = refl
  drop-sets_after n l i (x ∷ xs) h = drop-sets_after n (set l i x) (suc i) xs (omega arith) ∙ drop-set-lt n l i x (omega arith)

  -- what is the same from a place on is the same from a later one on
  pub drop-later : (a b : List A) (n i : ℕ) → n ≤ i → drop n a ≡ drop n b → drop i a ≡ drop i b
  drop-later a b n i h e =
      let s : n + (i - n) ≡ i = omega arith in
      ap (λ k. drop k a) (sym s) ∙ sym (drop-drop (i - n) n a) ∙ ap (drop (i - n)) e ∙ drop-drop (i - n) n b ∙ ap (λ k. drop k b) s
