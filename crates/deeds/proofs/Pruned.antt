-- A step over a leaf needs the leaf's feature alone, and the laws of what shrinking leaves of a list: it is the old list where the step touches nothing, it
-- is no longer than either list, its keys ascend, and where it is as long as the new one it is the new one. Rests on ListOf, BitsOf and Ascending.
use Prim.Native.Nat.{ℕ, zero, suc, ◌+◌, ◌^◌, ◌≤◌}
use mathlib.Core.Path.{◌≡◌, refl, sym, ◌∙◌, ap}
use mathlib.Core.Bool.{true, false}
use mathlib.Core.List.{List, [], ◌∷◌, ◌++◌}
use native.Mathlib.Nat.{le_refl, pow-suc, one-le-pow}
use native.Mathlib.Omega.{arith}
use lib.ListN.{length, length-append}
use Rattle.keys.specs.Key.{child_key}
use Rattle.keys.proofs.Cases.{decide}
use Rattle.definitions.specs.Picture.{Picture, one_feature}
use Rattle.definitions.specs.Bits.{bits_of}
use Rattle.definitions.specs.List.{Record, record_of, list_of, Ascending, next}
use Rattle.laws.proofs.Pixels.{Agree, agree_nw, agree_ne, agree_sw, agree_se}
use Rattle.laws.proofs.Features.{one_to, one_pixel, one_agree}
use Rattle.laws.proofs.BitsOf.{bits_one, bits_agree}
use Rattle.laws.proofs.Ascending.{ascending_one, ascending_four}
use Rattle.laws.proofs.ListOf.{list_one, list_node, list_agree, list_some, length-node, length-several}
use Rattle.deeds.specs.Step.{Step, step_over, plain, pruned}

-- over at a pixel
pub over_in : (t : Step) (p : Picture) (a b : ℕ) → t.touches a b ≡ true → step_over t p a b ≡ t.gives a b
unfolding step_over
over_in t p a b e = rw e

pub over_out : (t : Step) (p : Picture) (a b : ℕ) → t.touches a b ≡ false → step_over t p a b ≡ p a b
unfolding step_over
over_out t p a b e = rw e

-- a leaf's feature is enough to know the step over it: of a leaf before the step
pub leaf_before : (t : Step) (p : Picture) (k r c : ℕ) → one_feature p k r c ≡ true → Agree (step_over t (plain (p r c))) (step_over t p) k r c
leaf_before t p k r c e a b w =
    decide (t.touches a b)
    (λ h. over_in t (plain (p r c)) a b h ∙ sym (over_in t p a b h))
    (λ h. over_out t (plain (p r c)) a b h ∙ sym (one_to p k r c e a b w) ∙ sym (over_out t p a b h))

-- and of a leaf after it
pub leaf_after : (t : Step) (p : Picture) (k r c : ℕ) → one_feature (step_over t p) k r c ≡ true → Agree (step_over t (plain (step_over t p r c))) (step_over t p) k r c
leaf_after t p k r c e a b w =
    decide (t.touches a b)
    (λ h. over_in t (plain (step_over t p r c)) a b h ∙ sym (over_in t p a b h))
    (λ h. over_out t (plain (step_over t p r c)) a b h ∙ sym (one_to (step_over t p) k r c e a b w))

-- a block of one feature is one record, with its bits
one_record : (q : Picture) (k r c κ : ℕ) → one_feature q k r c ≡ true → record_of κ (bits_of q k r c) ∷ [] ≡ list_of q k r c κ
one_record q k r c κ e = ap (λ b. record_of κ b ∷ []) (bits_one q k r c e) ∙ sym (list_one q k r c κ e)

same_node : {x x' : Record} {a b c d a' b' c' d' : List Record} → x ≡ x' → a ≡ a' → b ≡ b' → c ≡ c' → d ≡ d'
    → x ∷ (a ++ (b ++ (c ++ d))) ≡ x' ∷ (a' ++ (b' ++ (c' ++ d')))
same_node e f g h i = cc

module _ (p q : Picture) where
  -- its three equations
  pub pruned_one : (k r c κ : ℕ) → one_feature q k r c ≡ true → pruned p q k r c κ ≡ record_of κ (bits_of q k r c) ∷ []
  unfolding pruned
  pruned_one zero r c κ e = refl
  pruned_one (suc k) r c κ e = rw e

  pub pruned_leaf : (k r c κ : ℕ) → one_feature q (suc k) r c ≡ false → one_feature p (suc k) r c ≡ true
      → pruned p q (suc k) r c κ ≡ record_of κ (bits_of p (suc k) r c) ∷ []
  unfolding pruned
  pruned_leaf k r c κ e f = rw (e, f)

  pub pruned_node : (k r c κ : ℕ) → one_feature q (suc k) r c ≡ false → one_feature p (suc k) r c ≡ false
      → pruned p q (suc k) r c κ ≡ record_of κ (bits_of q (suc k) r c)
      ∷ (pruned p q k r c (child_key κ k 1)
      ++ (pruned p q k r (c + 2 ^ k) (child_key κ k 2)
      ++ (pruned p q k (r + 2 ^ k) c (child_key κ k 3) ++ pruned p q k (r + 2 ^ k) (c + 2 ^ k) (child_key κ k 4))))
  unfolding pruned
  pruned_node k r c κ e f = rw (e, f)

  length-left : (k r c κ : ℕ) → one_feature q (suc k) r c ≡ false → one_feature p (suc k) r c ≡ false → length (pruned p q (suc k) r c κ)
      ≡ suc (length (pruned p q k r c (child_key κ k 1))
      + (length (pruned p q k r (c + 2 ^ k) (child_key κ k 2))
      + (length (pruned p q k (r + 2 ^ k) c (child_key κ k 3)) + length (pruned p q k (r + 2 ^ k) (c + 2 ^ k) (child_key κ k 4)))))
  length-left k r c κ e f = ap length (pruned_node k r c κ e f) ∙ simp length-append

  -- where the two agree it is the list that was there
  pub pruned_apart : (k r c κ : ℕ) → Agree p q k r c → pruned p q k r c κ ≡ list_of p k r c κ
  pruned_apart k r c κ h = go k r c κ h ∙ sym (list_agree p q k r c κ h)
    where
      go : (k r c κ : ℕ) → Agree p q k r c → pruned p q k r c κ ≡ list_of q k r c κ
      go zero r c κ h = pruned_one zero r c κ (one_pixel q r c) ∙ one_record q zero r c κ (one_pixel q r c)
      go (suc k) r c κ h =
          decide (one_feature q (suc k) r c)
          (λ e. pruned_one (suc k) r c κ e ∙ one_record q (suc k) r c κ e)
          (λ e. pruned_node k r c κ e (one_agree p q (suc k) r c h ∙ e)
          ∙ same_node refl
          (go k r c (child_key κ k 1) (agree_nw h))
          (go k r (c + 2 ^ k) (child_key κ k 2) (agree_ne h))
          (go k (r + 2 ^ k) c (child_key κ k 3) (agree_sw h))
          (go k (r + 2 ^ k) (c + 2 ^ k) (child_key κ k 4) (agree_se h))
          ∙ sym (list_node q k r c κ e))

  -- its keys ascend in the block's interval, as those of a list do
  pub pruned_ascends : (k r c κ : ℕ) → Ascending κ (κ + 5 ^ k) (pruned p q k r c κ)
  pruned_ascends zero r c κ = rw (pruned_one zero r c κ (one_pixel q r c)) (ascending_one (le_refl κ) (omega arith))
  pruned_ascends (suc k) r c κ =
      let some = one-le-pow (suc k) 5 (omega arith) in
      decide (one_feature q (suc k) r c)
      (λ e. rw (pruned_one (suc k) r c κ e) (ascending_one (le_refl κ) (omega arith)))
      (λ e. decide (one_feature p (suc k) r c)
      (λ f. rw (pruned_leaf k r c κ e f) (ascending_one (le_refl κ) (omega arith)))
      (λ f. rw (pruned_node k r c κ e f, pow-suc 5 k)
      (next (le_refl κ)
      (ascending_four κ (5 ^ k)
      (one-le-pow k 5 (omega arith))
      (pruned_ascends k r c (child_key κ k 1))
      (pruned_ascends k r (c + 2 ^ k) (child_key κ k 2))
      (pruned_ascends k (r + 2 ^ k) c (child_key κ k 3))
      (pruned_ascends k (r + 2 ^ k) (c + 2 ^ k) (child_key κ k 4))))))

  -- it is no longer than the list before, and no longer than the list after
  pub pruned_before : (k r c κ : ℕ) → length (pruned p q k r c κ) ≤ length (list_of p k r c κ)
  pruned_before zero r c κ = let s = list_some p zero r c κ in let e = ap length (pruned_one zero r c κ (one_pixel q r c)) in omega arith
  pruned_before (suc k) r c κ =
      let s = list_some p (suc k) r c κ in
      decide (one_feature q (suc k) r c)
      (λ e. let n = ap length (pruned_one (suc k) r c κ e) in omega arith)
      (λ e. decide (one_feature p (suc k) r c)
      (λ f. let n = ap length (pruned_leaf k r c κ e f) in omega arith)
      (λ f.
      let n = length-left k r c κ e f in
      let o = length-node p k r c κ f in
      let n₁ = pruned_before k r c (child_key κ k 1) in
      let n₂ = pruned_before k r (c + 2 ^ k) (child_key κ k 2) in
      let n₃ = pruned_before k (r + 2 ^ k) c (child_key κ k 3) in
      let n₄ = pruned_before k (r + 2 ^ k) (c + 2 ^ k) (child_key κ k 4) in
      omega arith))

  pub pruned_after : (k r c κ : ℕ) → length (pruned p q k r c κ) ≤ length (list_of q k r c κ)
  pruned_after zero r c κ = let s = list_some q zero r c κ in let e = ap length (pruned_one zero r c κ (one_pixel q r c)) in omega arith
  pruned_after (suc k) r c κ =
      let s = list_some q (suc k) r c κ in
      decide (one_feature q (suc k) r c)
      (λ e. let n = ap length (pruned_one (suc k) r c κ e) in omega arith)
      (λ e. decide (one_feature p (suc k) r c)
      (λ f. let n = ap length (pruned_leaf k r c κ e f) in omega arith)
      (λ f.
      let n = length-left k r c κ e f in
      let o = length-node q k r c κ e in
      let n₁ = pruned_after k r c (child_key κ k 1) in
      let n₂ = pruned_after k r (c + 2 ^ k) (child_key κ k 2) in
      let n₃ = pruned_after k (r + 2 ^ k) c (child_key κ k 3) in
      let n₄ = pruned_after k (r + 2 ^ k) (c + 2 ^ k) (child_key κ k 4) in
      omega arith))

  -- where it is as long as the list after it is that list: nothing has to grow
  pub pruned_all : (k r c κ : ℕ) → length (pruned p q k r c κ) ≡ length (list_of q k r c κ) → pruned p q k r c κ ≡ list_of q k r c κ
  pruned_all zero r c κ h = pruned_one zero r c κ (one_pixel q r c) ∙ one_record q zero r c κ (one_pixel q r c)
  pruned_all (suc k) r c κ h =
      decide (one_feature q (suc k) r c)
      (λ e. pruned_one (suc k) r c κ e ∙ one_record q (suc k) r c κ e)
      (λ e. decide (one_feature p (suc k) r c)
      (λ f. let n = ap length (pruned_leaf k r c κ e f) in let s = length-several q k r c κ e in absurd (omega arith))
      (λ f.
      let n = length-left k r c κ e f in
      let o = length-node q k r c κ e in
      let n₁ = pruned_after k r c (child_key κ k 1) in
      let n₂ = pruned_after k r (c + 2 ^ k) (child_key κ k 2) in
      let n₃ = pruned_after k (r + 2 ^ k) c (child_key κ k 3) in
      let n₄ = pruned_after k (r + 2 ^ k) (c + 2 ^ k) (child_key κ k 4) in
      pruned_node k r c κ e f
      ∙ same_node refl
      (pruned_all k r c (child_key κ k 1) (omega arith))
      (pruned_all k r (c + 2 ^ k) (child_key κ k 2) (omega arith))
      (pruned_all k (r + 2 ^ k) c (child_key κ k 3) (omega arith))
      (pruned_all k (r + 2 ^ k) (c + 2 ^ k) (child_key κ k 4) (omega arith))
      ∙ sym (list_node q k r c κ e)))

-- it comes from the pixels of the two pictures alone
pub pruned_same : (p p' q q' : Picture) (k r c κ : ℕ) → Agree p p' k r c → Agree q q' k r c → pruned p q k r c κ ≡ pruned p' q' k r c κ
pruned_same p p' q q' zero r c κ g h =
    pruned_one p q zero r c κ (one_pixel q r c)
    ∙ ap (λ b. record_of κ b ∷ []) (bits_agree q q' zero r c h)
    ∙ sym (pruned_one p' q' zero r c κ (one_pixel q' r c))
pruned_same p p' q q' (suc k) r c κ g h =
    let same = one_agree q q' (suc k) r c h in
    let leaf = one_agree p p' (suc k) r c g in
    let own : record_of κ (bits_of q (suc k) r c) ≡ record_of κ (bits_of q' (suc k) r c) = ap (record_of κ) (bits_agree q q' (suc k) r c h) in
    decide (one_feature q (suc k) r c)
    (λ e. pruned_one p q (suc k) r c κ e ∙ ap (λ x. x ∷ []) own ∙ sym (pruned_one p' q' (suc k) r c κ (sym same ∙ e)))
    (λ e. decide (one_feature p (suc k) r c)
    (λ f. pruned_leaf p q k r c κ e f
    ∙ ap (λ b. record_of κ b ∷ []) (bits_agree p p' (suc k) r c g)
    ∙ sym (pruned_leaf p' q' k r c κ (sym same ∙ e) (sym leaf ∙ f)))
    (λ f. pruned_node p q k r c κ e f
    ∙ same_node own
    (pruned_same p p' q q' k r c (child_key κ k 1) (agree_nw g) (agree_nw h))
    (pruned_same p p' q q' k r (c + 2 ^ k) (child_key κ k 2) (agree_ne g) (agree_ne h))
    (pruned_same p p' q q' k (r + 2 ^ k) c (child_key κ k 3) (agree_sw g) (agree_sw h))
    (pruned_same p p' q q' k (r + 2 ^ k) (c + 2 ^ k) (child_key κ k 4) (agree_se g) (agree_se h))
    ∙ sym (pruned_node p' q' k r c κ (sym same ∙ e) (sym leaf ∙ f))))

pub pruned_agree : (p q q' : Picture) (k r c κ : ℕ) → Agree q q' k r c → pruned p q k r c κ ≡ pruned p q' k r c κ
pruned_agree p q q' k r c κ h = pruned_same p p q q' k r c κ (λ a b w. refl) h
