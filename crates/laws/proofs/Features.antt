-- What "one feature" and "features below s" say of a block's pixels (specification S4.6, S2.6). Rests on Pixels.
use Prim.Native.Nat.{ℕ, zero, ◌<◌}
use mathlib.Core.Path.{◌≡◌, sym, ◌∙◌, ap, ap₂}
use mathlib.Core.Bool.{true, false, true≢false}
use mathlib.Core.Logic.{◌↔◌}
use lib.Dec.{ltb, eqb}
use borrow.Author.Tests.{ltb-true, lt-ltb, eqb-true, eq-eqb, eqb-false}
use Rattle.keys.proofs.Cases.{decide}
use Rattle.keys.specs.Under.{Under, Every}
use Rattle.definitions.specs.Picture.{Picture, one_feature, features_below}
use Rattle.laws.proofs.Within.{Somewhere, first_within, pixel_row, pixel_column, under_within}
use Rattle.laws.proofs.Pixels.{Agree, every_to, every_from, every_fails, every_same}

-- a block of one feature has its first pixel's everywhere
pub one_to : (p : Picture) (k r c : ℕ) → one_feature p k r c ≡ true → Every (λ r' c'. p r' c' ≡ p r c) k r c
unfolding one_feature
one_to p k r c e r' c' w = eqb-true _ _ (every_to (λ a b. eqb (p a b) (p r c)) k r c e r' c' w)

-- a block whose pixels all have feature f has one feature
pub one_from_leaf : (p : Picture) (f k r c : ℕ) → Every (λ r' c'. p r' c' ≡ f) k r c → one_feature p k r c ≡ true
unfolding one_feature
one_from_leaf p f k r c h =
    every_from (λ a b. eqb (p a b) (p r c)) k r c (λ r' c' w. eq-eqb _ _ (h r' c' w ∙ sym (h r c (first_within k r c))))

-- a block has one feature exactly when all its pixels have the first pixel's
pub one_means : (p : Picture) (k r c : ℕ) → (one_feature p k r c ≡ true) ↔ Every (λ r' c'. p r' c' ≡ p r c) k r c
one_means p k r c = (one_to p k r c, one_from_leaf p (p r c) k r c)

-- in a block of several features some pixel has another than the first
pub several_to : (p : Picture) (k r c : ℕ) → one_feature p k r c ≡ false → Somewhere (λ r' c'. p r' c' ≡ p r c → ⊥) k r c
unfolding one_feature
several_to p k r c e =
    let x = every_fails (λ a b. eqb (p a b) (p r c)) k r c e in
    record { row = x.row; column = x.column; within = x.within; holds = eqb-false _ _ x.holds }

-- a pixel has one feature
pub one_pixel : (p : Picture) (r c : ℕ) → one_feature p zero r c ≡ true
one_pixel p r c = one_from_leaf p (p r c) zero r c (λ r' c' w. ap₂ p (pixel_row w) (pixel_column w))

-- a block under one of one feature has one feature
pub one_under : (p : Picture) {k r c κ k' r' c' κ' : ℕ} → Under k r c κ k' r' c' κ' → one_feature p k r c ≡ true
    → one_feature p k' r' c' ≡ true
one_under p {k} {r} {c} {k' = k'} {r' = r'} {c' = c'} u e = one_from_leaf p (p r c) k' r' c' (λ a b w. one_to p k r c e a b (under_within u w))

-- what contains a block of several features has several
pub several_above : (p : Picture) {k r c κ k' r' c' κ' : ℕ} → Under k r c κ k' r' c' κ' → one_feature p k' r' c' ≡ false
    → one_feature p k r c ≡ false
several_above p {k} {r} {c} u e = decide (one_feature p k r c) (λ h. absurd (true≢false (sym (one_under p u h) ∙ e))) (λ h. h)

-- pictures that agree on a block have one feature there together
pub one_agree : (p q : Picture) (k r c : ℕ) → Agree p q k r c → one_feature p k r c ≡ one_feature q k r c
unfolding one_feature
one_agree p q k r c h = every_same _ _ k r c (λ r' c' w. ap₂ eqb (h r' c' w) (h r c (first_within k r c)))

-- where the features are below s, every pixel's is
pub below_to : (s : ℕ) (p : Picture) (k r c : ℕ) → features_below s p k r c ≡ true → Every (λ r' c'. p r' c' < s) k r c
unfolding features_below
below_to s p k r c e r' c' w = ltb-true _ _ (every_to (λ a b. ltb (p a b) s) k r c e r' c' w)

-- where every pixel's feature is below s, the features are
pub below_from : (s : ℕ) (p : Picture) (k r c : ℕ) → Every (λ r' c'. p r' c' < s) k r c → features_below s p k r c ≡ true
unfolding features_below
below_from s p k r c h = every_from (λ a b. ltb (p a b) s) k r c (λ r' c' w. lt-ltb _ _ (h r' c' w))

-- the features of a block are below s exactly when every pixel's is
pub below_means : (s : ℕ) (p : Picture) (k r c : ℕ) → (features_below s p k r c ≡ true) ↔ Every (λ r' c'. p r' c' < s) k r c
below_means s p k r c = (below_to s p k r c, below_from s p k r c)

-- the features of a block under another are below s when the other's are
pub below_under : (s : ℕ) (p : Picture) {k r c κ k' r' c' κ' : ℕ} → Under k r c κ k' r' c' κ' → features_below s p k r c ≡ true
    → features_below s p k' r' c' ≡ true
below_under s p {k} {r} {c} {k' = k'} {r' = r'} {c' = c'} u e = below_from s p k' r' c' (λ a b w. below_to s p k r c e a b (under_within u w))

-- pictures that agree on a block have features below s there together
pub below_agree : (s : ℕ) (p q : Picture) (k r c : ℕ) → Agree p q k r c → features_below s p k r c ≡ features_below s q k r c
unfolding features_below
below_agree s p q k r c h = every_same _ _ k r c (λ r' c' w. ap (λ f. ltb f s) (h r' c' w))
