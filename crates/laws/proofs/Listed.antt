-- Which blocks a list has: the block itself, and every block under it whose parent has more than one feature (specification S4.5).
-- Rests on ListOf and Features.
use Prim.Native.Nat.{ℕ, zero, suc, ◌+◌, ◌^◌}
use mathlib.Core.Path.{◌≡◌, refl, sym, ◌∙◌, ap}
use mathlib.Core.Bool.{false}
use mathlib.Core.Logic.{◌⊎◌, inl, inr, ◌↔◌}
use mathlib.Core.List.Memᴰ
use mathlib.Core.List.{List, ◌∷◌, ◌++◌, Memᴰ}
use Rattle.keys.specs.Key.{child_key}
use Rattle.keys.proofs.Cases.{decide}
use Rattle.keys.specs.Under.{Under, here, nw, ne, sw, se, Quadrant, is_nw, is_ne, is_sw, is_se}
use Rattle.keys.proofs.Under.{under_trans, quadrant_under}
use Rattle.definitions.specs.Picture.{Picture, one_feature}
use Rattle.definitions.specs.Bits.{bits_of}
use Rattle.definitions.specs.List.{Record, record_of, list_of}
use Rattle.laws.proofs.Features.{several_above}
use Rattle.laws.proofs.BitsOf.{bits_zero}
use Rattle.laws.proofs.ListOf.{list_zero, list_leaf, list_node, list_head_first}

-- of the blocks at or under (k r c κ), those that are it or whose parent has more than one feature
pub data Listed (p : Picture) : ℕ → ℕ → ℕ → ℕ → ℕ → ℕ → ℕ → ℕ → Type 0 where
  itself : {k r c κ : ℕ} → Listed p k r c κ k r c κ
  child : {k r c κ k' r₁ c₁ κ₁ r' c' κ' : ℕ}
      → Under k r c κ (suc k') r₁ c₁ κ₁
      → Quadrant k' r₁ c₁ κ₁ r' c' κ'
      → one_feature p (suc k') r₁ c₁ ≡ false
      → Listed p k r c κ k' r' c' κ'

-- such a block lies at or under the first
pub listed_under : {p : Picture} {k r c κ k' r' c' κ' : ℕ} → Listed p k r c κ k' r' c' κ' → Under k r c κ k' r' c' κ'
listed_under itself = here
listed_under (child u q e) = under_trans u (quadrant_under q)

-- the record is that of such a block
pub record ListedRecord (p : Picture) (k r c κ : ℕ) (x : Record) : Type 0 where
  pub height : ℕ
  pub row : ℕ
  pub column : ℕ
  pub key : ℕ
  pub listed : Listed p k r c κ height row column key
  pub is : x ≡ record_of key (bits_of p height row column)

-- what is listed under a quadrant is listed under the block, if that has several features
listed_up : {p : Picture} {k r c κ r₁ c₁ κ₁ k' r' c' κ' : ℕ} → one_feature p (suc k) r c ≡ false → Quadrant k r c κ r₁ c₁ κ₁
    → Listed p k r₁ c₁ κ₁ k' r' c' κ' → Listed p (suc k) r c κ k' r' c' κ'
listed_up e q itself = child here q e
listed_up e q (child u q' e') = child (under_trans (quadrant_under q) u) q' e'

record_up : {p : Picture} {k r c κ r₁ c₁ κ₁ : ℕ} {x : Record} → one_feature p (suc k) r c ≡ false → Quadrant k r c κ r₁ c₁ κ₁
    → ListedRecord p k r₁ c₁ κ₁ x → ListedRecord p (suc k) r c κ x
record_up e q x = record { height = x.height; row = x.row; column = x.column; key = x.key; listed = listed_up e q x.listed; is = x.is }

-- a record of a node's list is its first or in one of the four lists after it
pub node-cases {ℓ} : {C : Type ℓ} {x e : Record} (a b c d : List Record) → Memᴰ x (e ∷ (a ++ (b ++ (c ++ d))))
    → (x ≡ e → C)
    → (Memᴰ x a → C)
    → (Memᴰ x b → C)
    → (Memᴰ x c → C)
    → (Memᴰ x d → C)
    → C
node-cases {C = C} {x} {e} a b c d m first in-a in_b in_c in-d = go (Memᴰ.cases_cons m)
  where
    go_c : Memᴰ x c ⊎ Memᴰ x d → C
    go_c (inl h) = in_c h
    go_c (inr h) = in-d h

    go_b : Memᴰ x b ⊎ Memᴰ x (c ++ d) → C
    go_b (inl h) = in_b h
    go_b (inr h) = go_c (Memᴰ.append_cases c h)

    go_a : Memᴰ x a ⊎ Memᴰ x (b ++ (c ++ d)) → C
    go_a (inl h) = in-a h
    go_a (inr h) = go_b (Memᴰ.append_cases b h)

    go : (x ≡ e) ⊎ Memᴰ x (a ++ (b ++ (c ++ d))) → C
    go (inl h) = first h
    go (inr h) = go_a (Memᴰ.append_cases a h)

own : {p : Picture} {k r c κ : ℕ} {x : Record} → x ≡ record_of κ (bits_of p k r c) → ListedRecord p k r c κ x
own {k = k} {r} {c} {κ} e = record { height = k; row = r; column = c; key = κ; listed = itself; is = e }

-- every record of the list is that of a listed block
pub listed_to : (p : Picture) (k r c κ : ℕ) (x : Record) → Memᴰ x (list_of p k r c κ) → ListedRecord p k r c κ x
listed_to p zero r c κ x m =
    own (Memᴰ.eq_of_singleton (rw (list_zero p r c κ) at m) ∙ ap (record_of κ) (sym (bits_zero p r c)))
listed_to p (suc k) r c κ x m =
    decide (one_feature p (suc k) r c)
    (λ e. own (Memᴰ.eq_of_singleton (rw (list_leaf p k r c κ e) at m)))
    (λ e. node-cases _ _ _ _ (rw (list_node p k r c κ e) at m) own
    (λ h. record_up e is_nw (listed_to p k r c (child_key κ k 1) x h))
    (λ h. record_up e is_ne (listed_to p k r (c + 2 ^ k) (child_key κ k 2) x h))
    (λ h. record_up e is_sw (listed_to p k (r + 2 ^ k) c (child_key κ k 3) x h))
    (λ h. record_up e is_se (listed_to p k (r + 2 ^ k) (c + 2 ^ k) (child_key κ k 4) x h)))

-- the list of a quadrant of a block with several features is a part of the block's list
pub quadrant_part : (p : Picture) {k r c κ r' c' κ' : ℕ} {x : Record} → one_feature p (suc k) r c ≡ false → Quadrant k r c κ r' c' κ'
    → Memᴰ x (list_of p k r' c' κ') → Memᴰ x (list_of p (suc k) r c κ)
quadrant_part p e (is_nw {k} {r} {c} {κ}) m = rw (list_node p k r c κ e) (Memᴰ.tail (Memᴰ.append_left _ m))
quadrant_part p e (is_ne {k} {r} {c} {κ}) m =
    rw (list_node p k r c κ e)
    (Memᴰ.tail (Memᴰ.append_right (list_of p k r c (child_key κ k 1)) (Memᴰ.append_left _ m)))
quadrant_part p e (is_sw {k} {r} {c} {κ}) m =
    rw (list_node p k r c κ e)
    (Memᴰ.tail
    (Memᴰ.append_right (list_of p k r c (child_key κ k 1))
    (Memᴰ.append_right (list_of p k r (c + 2 ^ k) (child_key κ k 2)) (Memᴰ.append_left _ m))))
quadrant_part p e (is_se {k} {r} {c} {κ}) m =
    rw (list_node p k r c κ e)
    (Memᴰ.tail
    (Memᴰ.append_right (list_of p k r c (child_key κ k 1))
    (Memᴰ.append_right (list_of p k r (c + 2 ^ k) (child_key κ k 2)) (Memᴰ.append_right (list_of p k (r + 2 ^ k) c (child_key κ k 3)) m))))

-- the list of a block with several features is a part of the list of every block around it
pub several_part : (p : Picture) {k r c κ k' r' c' κ' : ℕ} {x : Record} → Under k r c κ k' r' c' κ' → one_feature p k' r' c' ≡ false
    → Memᴰ x (list_of p k' r' c' κ') → Memᴰ x (list_of p k r c κ)
several_part p here e m = m
several_part p (nw u) e m = quadrant_part p (several_above p (nw u) e) is_nw (several_part p u e m)
several_part p (ne u) e m = quadrant_part p (several_above p (ne u) e) is_ne (several_part p u e m)
several_part p (sw u) e m = quadrant_part p (several_above p (sw u) e) is_sw (several_part p u e m)
several_part p (se u) e m = quadrant_part p (several_above p (se u) e) is_se (several_part p u e m)

-- the list of a listed block is a part of the list
pub listed_part : (p : Picture) {k r c κ k' r' c' κ' : ℕ} {x : Record} → Listed p k r c κ k' r' c' κ'
    → Memᴰ x (list_of p k' r' c' κ') → Memᴰ x (list_of p k r c κ)
listed_part p itself m = m
listed_part p (child u q e) m = several_part p u e (quadrant_part p e q m)

-- a block's own record is in its list
pub own_record : (p : Picture) (k r c κ : ℕ) → Memᴰ (record_of κ (bits_of p k r c)) (list_of p k r c κ)
own_record p k r c κ = rw (list_head_first p k r c κ).1 (Memᴰ.head refl)

-- the record of every listed block is in the list
pub listed_from : (p : Picture) (k r c κ : ℕ) (x : Record) → ListedRecord p k r c κ x → Memᴰ x (list_of p k r c κ)
listed_from p k r c κ x y = listed_part p y.listed (rw y.is (own_record p y.height y.row y.column y.key))

-- the list has exactly the records of the block itself and of the blocks whose parent has more than one feature
pub listed_exactly : (p : Picture) (k r c κ : ℕ) (x : Record) → Memᴰ x (list_of p k r c κ) ↔ ListedRecord p k r c κ x
listed_exactly p k r c κ x = (listed_to p k r c κ x, listed_from p k r c κ x)
