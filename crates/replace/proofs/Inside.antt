-- A block inside a leaf of the old picture that was filled by climbing is the painted block itself: had climbing gone up a level there, it would
-- have gone on. So what is planted in a leaf is the content as it is. Rests on Standing.
use Prim.Native.Nat.{ℕ, ◌+◌, ◌-◌, ◌^◌, ◌<◌}
use mathlib.Core.Path.{◌≡◌, sym, ◌∙◌, ap, ap₂}
use mathlib.Core.Bool.{true, true≢false}
use native.Mathlib.Omega.{arith}
use lib.Pow.{pow-lt}
use Rattle.keys.proofs.Cases.{split}
use Rattle.keys.proofs.Powers.{two_pos}
use Rattle.keys.specs.Under.{Under, InSquare, Every}
use Rattle.keys.proofs.Interval.{within, one_block}
use Rattle.definitions.specs.Picture.{Picture, one_feature}
use Rattle.definitions.specs.List.{list_of}
use Rattle.laws.proofs.Within.{Somewhere, under_within}
use Rattle.laws.proofs.Features.{one_to, one_from_leaf}
use Rattle.replace.proofs.Way.{Way, under_of}
use Rattle.replace.proofs.Outside.{Outside}
use Rattle.replace.proofs.Context.{Open}
use Rattle.replace.proofs.Standing.{LeafAround, leaf_several}

-- a block has a pixel outside every smaller block under it
elsewhere : {k r c κ k' r' c' κ' : ℕ} → Under k r c κ k' r' c' κ' → k' < k → Somewhere (λ a b. InSquare k' r' c' a b → ⊥) k r c
elsewhere {k} {r} {c} {k' = k'} {r'} u low =
    let w = within u in
    let e = pow-lt low in
    let pos = two_pos k' in
    split r r'
    (λ h. record { row = r; column = c; within = omega arith; holds = λ v. omega arith })
    (λ h. record { row = r + 2 ^ k - 1; column = c; within = omega arith; holds = λ v. omega arith })

-- a pixel lies in a square or not
within-or {ℓ} : {C : Type ℓ} (k r c a b : ℕ) → (InSquare k r c a b → C) → ((InSquare k r c a b → ⊥) → C) → C
within-or k r c a b inn out =
    split a r (λ h. out (λ w. omega arith))
    (λ top.
    split a (r + 2 ^ k)
    (λ bottom.
    split b c (λ h. out (λ w. omega arith))
    (λ left. split b (c + 2 ^ k) (λ right. inn (omega arith)) (λ h. out (λ w. omega arith))))
    (λ h. out (λ w. omega arith)))

-- a leaf of the old picture in which a block has one new feature, but a smaller one under it holds all that changed: the feature is the old one
module _ (p p' : Picture) {K R C Κ h r₁ c₁ κ₁ k r c κ : ℕ}
    (one : one_feature p K R C ≡ true)
    (around : Under K R C Κ h r₁ c₁ κ₁)
    (under : Under h r₁ c₁ κ₁ k r c κ)
    (out : Outside p p' k r c)
    (new : one_feature p' h r₁ c₁ ≡ true)
    (low : k < h) where
  old_feature : p' r₁ c₁ ≡ p R C
  old_feature =
      let x = elsewhere under low in
      sym (one_to p' h r₁ c₁ new x.row x.column x.within)
      ∙ sym (out x.row x.column x.holds)
      ∙ one_to p K R C one x.row x.column (under_within around x.within)

  -- so the leaf has one feature in the new picture too
  leaf_still : Every (λ a b. p' a b ≡ p R C) K R C
  leaf_still a b w =
      within-or h r₁ c₁ a b (λ v. one_to p' h r₁ c₁ new a b v ∙ old_feature)
      (λ v. sym (out a b (λ u. v (under_within under u))) ∙ one_to p K R C one a b w)

-- the filled block has the height of the block with key κ
pub inside_own : (p p' : Picture) {K R C Κ h r₁ c₁ κ₁ k r c κ : ℕ} {w : Way K R C Κ h r₁ c₁ κ₁} (x : LeafAround p w)
    → Open p' w
    → Under h r₁ c₁ κ₁ k r c κ
    → Outside p p' k r c
    → one_feature p' h r₁ c₁ ≡ true
    → κ₁ ≡ κ
inside_own p p' {h = h} {k = k} x o under out new =
    let u = within under in
    split k h
    (λ low.
    absurd
    (true≢false
    (sym (one_from_leaf p' (p x.row x.column) x.height x.row x.column (leaf_still p p' x.one (under_of x.under) under out new low))
    ∙ leaf_several p p' x o)))
    (λ same. let e : k ≡ h = omega arith in let f = ap (λ n. 5 ^ n) e in omega arith)

-- two blocks of the map with one key have one list
pub same_list : (p : Picture) {K R C Κ k₁ r₁ c₁ κ₁ k₂ r₂ c₂ κ₂ : ℕ} → Under K R C Κ k₁ r₁ c₁ κ₁ → Under K R C Κ k₂ r₂ c₂ κ₂ → κ₁ ≡ κ₂
    → list_of p k₁ r₁ c₁ κ₁ ≡ list_of p k₂ r₂ c₂ κ₂
same_list p {k₁ = k₁} {r₁} {c₁} {κ₁} {k₂} {r₂} {c₂} {κ₂} u v e =
    let s = one_block u v e in
    ap₂ (λ k r. list_of p k r c₁ κ₁) s.heights s.rows ∙ ap₂ (λ c κ. list_of p k₂ r₂ c κ) s.columns s.keys
