-- The lists of a block's four quadrants: those before a quadrant and those after it, with the bounds of their keys. Rests on ListOf.
use Prim.Native.Nat.{ℕ, suc, ◌+◌, ◌^◌}
use mathlib.Core.Path.{◌≡◌, refl, sym, ◌∙◌, ap₂}
use mathlib.Core.Bool.{false}
use mathlib.Core.List.{List, [], ◌∷◌, ◌++◌, append_assoc, append-nil}
use native.Mathlib.Nat.{pow-suc}
use native.Mathlib.Omega.{arith}
use Rattle.keys.specs.Key.{child_key}
use Rattle.keys.proofs.Powers.{five_pos}
use Rattle.keys.specs.Under.{MapBlock, Quadrant, is_nw, is_ne, is_sw, is_se}
use Rattle.definitions.specs.Picture.{Picture, one_feature}
use Rattle.definitions.specs.Bits.{bits_of}
use Rattle.definitions.specs.List.{Record, record_of, list_of, Ascending, none}
use Rattle.laws.proofs.Ascending.{widen, ascending-append}
use Rattle.laws.proofs.ListOf.{list_node, list_ascends, list_agree}
use Rattle.replace.proofs.Outside.{Outside, agree_sibling}

-- the lists of the four quadrants, one after the other
unfoldable pub four_lists : Picture → ℕ → ℕ → ℕ → ℕ → List Record
four_lists p k r c κ =
    list_of p k r c (child_key κ k 1)
    ++ (list_of p k r (c + 2 ^ k) (child_key κ k 2)
    ++ (list_of p k (r + 2 ^ k) c (child_key κ k 3) ++ list_of p k (r + 2 ^ k) (c + 2 ^ k) (child_key κ k 4)))

-- the lists of the quadrants before one
unfoldable pub preceding : Picture → {k r c κ r' c' κ' : ℕ} → Quadrant k r c κ r' c' κ' → List Record
preceding p is_nw = []
preceding p (is_ne {k} {r} {c} {κ}) = list_of p k r c (child_key κ k 1)
preceding p (is_sw {k} {r} {c} {κ}) = list_of p k r c (child_key κ k 1) ++ list_of p k r (c + 2 ^ k) (child_key κ k 2)
preceding p (is_se {k} {r} {c} {κ}) =
    list_of p k r c (child_key κ k 1) ++ (list_of p k r (c + 2 ^ k) (child_key κ k 2) ++ list_of p k (r + 2 ^ k) c (child_key κ k 3))

-- the lists of the quadrants after it
unfoldable pub following : Picture → {k r c κ r' c' κ' : ℕ} → Quadrant k r c κ r' c' κ' → List Record
following p (is_nw {k} {r} {c} {κ}) =
    list_of p k r (c + 2 ^ k) (child_key κ k 2)
    ++ (list_of p k (r + 2 ^ k) c (child_key κ k 3) ++ list_of p k (r + 2 ^ k) (c + 2 ^ k) (child_key κ k 4))
following p (is_ne {k} {r} {c} {κ}) = list_of p k (r + 2 ^ k) c (child_key κ k 3) ++ list_of p k (r + 2 ^ k) (c + 2 ^ k) (child_key κ k 4)
following p (is_sw {k} {r} {c} {κ}) = list_of p k (r + 2 ^ k) (c + 2 ^ k) (child_key κ k 4)
following p is_se = []

-- the four lists are those before a quadrant, its own, and those after it
pub four_split : (p : Picture) {k r c κ r' c' κ' : ℕ} (q : Quadrant k r c κ r' c' κ')
    → four_lists p k r c κ ≡ preceding p q ++ (list_of p k r' c' κ' ++ following p q)
unfolding four_lists preceding following
four_split p is_nw = refl
four_split p is_ne = refl
four_split p is_sw = simp append_assoc
four_split p is_se = simp (append_assoc, append-nil)

-- a block of several features: its own record, and then the four lists
pub node_four : (p : Picture) (k r c κ : ℕ) → one_feature p (suc k) r c ≡ false → list_of p (suc k) r c κ ≡ record_of κ (bits_of p (suc k) r c) ∷ four_lists p k r c κ
unfolding four_lists
node_four p k r c κ e = list_node p k r c κ e

-- the keys before a quadrant lie after its block's key and below its own
pub preceding_ascends : (p : Picture) {k r c κ r' c' κ' : ℕ} (q : Quadrant k r c κ r' c' κ') → Ascending (suc κ) κ' (preceding p q)
unfolding preceding
preceding_ascends p (is_nw {k} {κ = κ}) = let h = five_pos k in none {lo = suc κ} {hi = child_key κ k 1} (omega arith)
preceding_ascends p (is_ne {k} {r} {c} {κ}) =
    let h = five_pos k in
    widen {lo' = suc κ} {hi' = child_key κ k 2} (omega arith) (omega arith) (list_ascends p k r c (child_key κ k 1))
preceding_ascends p (is_sw {k} {r} {c} {κ}) =
    let h = five_pos k in
    ascending-append {mid = child_key κ k 2}
    (widen {lo' = suc κ} {hi' = child_key κ k 2} (omega arith) (omega arith) (list_ascends p k r c (child_key κ k 1)))
    (widen {lo' = child_key κ k 2} {hi' = child_key κ k 3} (omega arith) (omega arith) (list_ascends p k r (c + 2 ^ k) (child_key κ k 2)))
preceding_ascends p (is_se {k} {r} {c} {κ}) =
    let h = five_pos k in
    ascending-append {mid = child_key κ k 2}
    (widen {lo' = suc κ} {hi' = child_key κ k 2} (omega arith) (omega arith) (list_ascends p k r c (child_key κ k 1)))
    (ascending-append {mid = child_key κ k 3}
    (widen {lo' = child_key κ k 2} {hi' = child_key κ k 3} (omega arith) (omega arith) (list_ascends p k r (c + 2 ^ k) (child_key κ k 2)))
    (widen {lo' = child_key κ k 3} {hi' = child_key κ k 4} (omega arith) (omega arith) (list_ascends p k (r + 2 ^ k) c (child_key κ k 3))))

-- the keys after it lie at or above its end, and below the block's end
pub following_ascends : (p : Picture) {k r c κ r' c' κ' : ℕ} (q : Quadrant k r c κ r' c' κ') → Ascending (κ' + 5 ^ k) (κ + 5 ^ suc k) (following p q)
unfolding following
following_ascends p (is_nw {k} {r} {c} {κ}) =
    let e = pow-suc 5 k in
    ascending-append {mid = child_key κ k 3}
    (widen {lo' = child_key κ k 1 + 5 ^ k} {hi' = child_key κ k 3} (omega arith) (omega arith) (list_ascends p k r (c + 2 ^ k) (child_key κ k 2)))
    (ascending-append {mid = child_key κ k 4}
    (widen {lo' = child_key κ k 3} {hi' = child_key κ k 4} (omega arith) (omega arith) (list_ascends p k (r + 2 ^ k) c (child_key κ k 3)))
    (widen {lo' = child_key κ k 4} {hi' = κ + 5 ^ suc k} (omega arith) (omega arith) (list_ascends p k (r + 2 ^ k) (c + 2 ^ k) (child_key κ k 4))))
following_ascends p (is_ne {k} {r} {c} {κ}) =
    let e = pow-suc 5 k in
    ascending-append {mid = child_key κ k 4}
    (widen {lo' = child_key κ k 2 + 5 ^ k} {hi' = child_key κ k 4} (omega arith) (omega arith) (list_ascends p k (r + 2 ^ k) c (child_key κ k 3)))
    (widen {lo' = child_key κ k 4} {hi' = κ + 5 ^ suc k} (omega arith) (omega arith) (list_ascends p k (r + 2 ^ k) (c + 2 ^ k) (child_key κ k 4)))
following_ascends p (is_sw {k} {r} {c} {κ}) =
    let e = pow-suc 5 k in
    widen {lo' = child_key κ k 3 + 5 ^ k} {hi' = κ + 5 ^ suc k} (omega arith) (omega arith) (list_ascends p k (r + 2 ^ k) (c + 2 ^ k) (child_key κ k 4))
following_ascends p (is_se {k} {r} {c} {κ}) = let e = pow-suc 5 k in none {lo = child_key κ k 4 + 5 ^ k} {hi = κ + 5 ^ suc k} (omega arith)

-- two pictures that are equal outside a quadrant, on the others
module _ (p p' : Picture) {m k r c κ r₁ c₁ κ₁ : ℕ} (b : MapBlock m (suc k) r c κ) (q : Quadrant k r c κ r₁ c₁ κ₁) (h : Outside p p' k r₁ c₁) where
  -- the list of another quadrant is the same
  pub list_sibling : {r₂ c₂ κ₂ : ℕ} → Quadrant k r c κ r₂ c₂ κ₂ → (κ₂ ≡ κ₁ → ⊥) → list_of p k r₂ c₂ κ₂ ≡ list_of p' k r₂ c₂ κ₂
  list_sibling {r₂} {c₂} {κ₂} q' other = list_agree p p' k r₂ c₂ κ₂ (agree_sibling b q q' other h)

-- the lists before the quadrant are the same
pub preceding_same : (p p' : Picture) {m k r c κ r' c' κ' : ℕ} → MapBlock m (suc k) r c κ → (q : Quadrant k r c κ r' c' κ') → Outside p p' k r' c' → preceding p q ≡ preceding p' q
unfolding preceding
preceding_same p p' b is_nw h = refl
preceding_same p p' b (is_ne {k}) h = let e = five_pos k in list_sibling p p' b is_ne h is_nw (omega arith)
preceding_same p p' b (is_sw {k}) h =
    let e = five_pos k in ap₂ ◌++◌ (list_sibling p p' b is_sw h is_nw (omega arith)) (list_sibling p p' b is_sw h is_ne (omega arith))
preceding_same p p' b (is_se {k}) h =
    let e = five_pos k in
    ap₂ ◌++◌ (list_sibling p p' b is_se h is_nw (omega arith))
    (ap₂ ◌++◌ (list_sibling p p' b is_se h is_ne (omega arith)) (list_sibling p p' b is_se h is_sw (omega arith)))

-- and those after it
pub following_same : (p p' : Picture) {m k r c κ r' c' κ' : ℕ} → MapBlock m (suc k) r c κ → (q : Quadrant k r c κ r' c' κ') → Outside p p' k r' c' → following p q ≡ following p' q
unfolding following
following_same p p' b (is_nw {k}) h =
    let e = five_pos k in
    ap₂ ◌++◌ (list_sibling p p' b is_nw h is_ne (omega arith))
    (ap₂ ◌++◌ (list_sibling p p' b is_nw h is_sw (omega arith)) (list_sibling p p' b is_nw h is_se (omega arith)))
following_same p p' b (is_ne {k}) h =
    let e = five_pos k in ap₂ ◌++◌ (list_sibling p p' b is_ne h is_sw (omega arith)) (list_sibling p p' b is_ne h is_se (omega arith))
following_same p p' b (is_sw {k}) h = let e = five_pos k in list_sibling p p' b is_sw h is_se (omega arith)
following_same p p' b is_se h = refl

-- the four lists of the second picture, by those of the first beside the one quadrant where they differ
pub four_mixed : (p p' : Picture) {m k r c κ r' c' κ' : ℕ} → MapBlock m (suc k) r c κ → (q : Quadrant k r c κ r' c' κ') → Outside p p' k r' c'
    → preceding p q ++ (list_of p' k r' c' κ' ++ following p q) ≡ four_lists p' k r c κ
four_mixed p p' {k = k} {r' = r'} {c'} {κ'} b q h =
    ap₂ (λ x y. x ++ (list_of p' k r' c' κ' ++ y)) (preceding_same p p' b q h) (following_same p p' b q h) ∙ sym (four_split p' q)
