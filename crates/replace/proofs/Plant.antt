-- A content in a field of one feature: a block of several features whose quadrants but one are leaves of one feature has that feature's leaves
-- before and after the one, and so on up to the leaf that the field was. Rests on Siblings and Family.
use Prim.Native.Nat.{ℕ, suc, ◌+◌, ◌-◌, ◌*◌, ◌/◌, ◌^◌}
use mathlib.Core.Path.{◌≡◌, refl, sym, ◌∙◌, ap, ap₂}
use mathlib.Core.Bool.{false}
use mathlib.Core.List.{[], ◌∷◌, ◌++◌}
use native.Mathlib.Nat.{mul-div_cancel}
use native.Mathlib.Omega.{arith}
use lib.Bits.{bit_or, or_comm, or_self}
use Rattle.keys.proofs.Powers.{five_pos}
use Rattle.keys.specs.Under.{MapBlock, Quadrant, is_nw, is_ne, is_sw, is_se}
use Rattle.keys.proofs.Under.{quadrant_under}
use Rattle.keys.proofs.Parent.{quadrant_of}
use Rattle.keys.proofs.Pixel.{InKeys}
use Rattle.definitions.specs.Picture.{Picture, one_feature}
use Rattle.definitions.specs.Bits.{union_of_four, bits_of}
use Rattle.definitions.specs.List.{record_of, list_of}
use Rattle.laws.proofs.Slots.{or_assoc, same_four}
use Rattle.laws.proofs.BitsOf.{bits_suc}
use Rattle.replace.specs.Plant.{digit_at, leaves, front_at, back_at}
use Rattle.replace.proofs.Siblings.{preceding, following, four_split, node_four}
use Rattle.replace.proofs.Family.{around_is, keys_up}

-- the digit of a quadrant
abbrev pub digit_in : {k r c κ r' c' κ' : ℕ} → Quadrant k r c κ r' c' κ' → ℕ
digit_in is_nw = 1
digit_in is_ne = 2
digit_in is_sw = 3
digit_in is_se = 4

digit_key : {k r c κ r' c' κ' : ℕ} (q : Quadrant k r c κ r' c' κ') → κ' - κ ≡ digit_in q * 5 ^ k
digit_key is_nw = omega arith
digit_key is_ne = omega arith
digit_key is_sw = omega arith
digit_key is_se = omega arith

-- it is found from any key of the quadrant
pub digit_at_block : {m k r c κ r' c' κ' x : ℕ} → MapBlock m (suc k) r c κ → (q : Quadrant k r c κ r' c' κ') → InKeys k κ' x → digit_at k x ≡ digit_in q
unfolding digit_at
digit_at_block {k = k} b q i =
    ap₂ (λ u v. (u - v) / 5 ^ k) (around_is (quadrant_of b q) i) (around_is b (keys_up (quadrant_under q) i))
    ∙ ap (λ y. y / 5 ^ k) (digit_key q)
    ∙ mul-div_cancel (digit_in q) (five_pos k)

-- every quadrant but the one with key own is a leaf with bits g
abbrev pub OthersAre : Picture → ℕ → ℕ → ℕ → ℕ → ℕ → ℕ → Type 0
OthersAre p g own k r c κ = (r₂ c₂ κ₂ : ℕ) → Quadrant k r c κ r₂ c₂ κ₂ → (κ₂ ≡ own → ⊥) → (list_of p k r₂ c₂ κ₂ ≡ record_of κ₂ g ∷ []) × (bits_of p k r₂ c₂ ≡ g)

-- then the lists before and after it are leaves
preceding_leaves : (p : Picture) (g : ℕ) {k r c κ r' c' κ' : ℕ} (q : Quadrant k r c κ r' c' κ') → OthersAre p g κ' k r c κ
    → preceding p q ≡ leaves g κ k (digit_in q - 1) 1
unfolding preceding leaves
preceding_leaves p g is_nw h = refl
preceding_leaves p g (is_ne {k}) h = let e = five_pos k in (h _ _ _ is_nw (omega arith)).0
preceding_leaves p g (is_sw {k}) h = let e = five_pos k in ap₂ ◌++◌ (h _ _ _ is_nw (omega arith)).0 (h _ _ _ is_ne (omega arith)).0
preceding_leaves p g (is_se {k}) h =
    let e = five_pos k in
    ap₂ ◌++◌ (h _ _ _ is_nw (omega arith)).0 (ap₂ ◌++◌ (h _ _ _ is_ne (omega arith)).0 (h _ _ _ is_sw (omega arith)).0)

following_leaves : (p : Picture) (g : ℕ) {k r c κ r' c' κ' : ℕ} (q : Quadrant k r c κ r' c' κ') → OthersAre p g κ' k r c κ
    → following p q ≡ leaves g κ k (4 - digit_in q) (suc (digit_in q))
unfolding following leaves
following_leaves p g (is_nw {k}) h =
    let e = five_pos k in
    ap₂ ◌++◌ (h _ _ _ is_ne (omega arith)).0 (ap₂ ◌++◌ (h _ _ _ is_sw (omega arith)).0 (h _ _ _ is_se (omega arith)).0)
following_leaves p g (is_ne {k}) h = let e = five_pos k in ap₂ ◌++◌ (h _ _ _ is_sw (omega arith)).0 (h _ _ _ is_se (omega arith)).0
following_leaves p g (is_sw {k}) h = let e = five_pos k in (h _ _ _ is_se (omega arith)).0
following_leaves p g is_se h = refl

-- the union of one number and three times another
one_nw : (g b : ℕ) → union_of_four b g g g ≡ bit_or g b
unfolding union_of_four
one_nw g b = ap (bit_or (bit_or b g)) (or_self g) ∙ or_assoc b g g ∙ ap (bit_or b) (or_self g) ∙ or_comm b g

one_ne : (g b : ℕ) → union_of_four g b g g ≡ bit_or g b
unfolding union_of_four
one_ne g b = ap (bit_or (bit_or g b)) (or_self g) ∙ or_comm (bit_or g b) g ∙ sym (or_assoc g g b) ∙ ap (λ x. bit_or x b) (or_self g)

one_sw : (g b : ℕ) → union_of_four g g b g ≡ bit_or g b
unfolding union_of_four
one_sw g b = ap₂ bit_or (or_self g) (or_comm b g) ∙ sym (or_assoc g g b) ∙ ap (λ x. bit_or x b) (or_self g)

one_se : (g b : ℕ) → union_of_four g g g b ≡ bit_or g b
unfolding union_of_four
one_se g b = ap (λ x. bit_or x (bit_or g b)) (or_self g) ∙ sym (or_assoc g g b) ∙ ap (λ x. bit_or x b) (or_self g)

-- and the block's bits are the feature's and those of the one quadrant
pub planted_bits : (p : Picture) (g : ℕ) {k r c κ r' c' κ' : ℕ} (q : Quadrant k r c κ r' c' κ') → OthersAre p g κ' k r c κ
    → bits_of p (suc k) r c ≡ bit_or g (bits_of p k r' c')
planted_bits p g (is_nw {k} {r} {c}) h =
    let e = five_pos k in
    bits_suc p k r c
    ∙ same_four refl (h _ _ _ is_ne (omega arith)).1 (h _ _ _ is_sw (omega arith)).1 (h _ _ _ is_se (omega arith)).1
    ∙ one_nw g (bits_of p k r c)
planted_bits p g (is_ne {k} {r} {c}) h =
    let e = five_pos k in
    bits_suc p k r c
    ∙ same_four (h _ _ _ is_nw (omega arith)).1 refl (h _ _ _ is_sw (omega arith)).1 (h _ _ _ is_se (omega arith)).1
    ∙ one_ne g (bits_of p k r (c + 2 ^ k))
planted_bits p g (is_sw {k} {r} {c}) h =
    let e = five_pos k in
    bits_suc p k r c
    ∙ same_four (h _ _ _ is_nw (omega arith)).1 (h _ _ _ is_ne (omega arith)).1 refl (h _ _ _ is_se (omega arith)).1
    ∙ one_sw g (bits_of p k (r + 2 ^ k) c)
planted_bits p g (is_se {k} {r} {c}) h =
    let e = five_pos k in
    bits_suc p k r c
    ∙ same_four (h _ _ _ is_nw (omega arith)).1 (h _ _ _ is_ne (omega arith)).1 (h _ _ _ is_sw (omega arith)).1 refl
    ∙ one_se g (bits_of p k (r + 2 ^ k) (c + 2 ^ k))

-- one level: the block's record, leaves, the one quadrant's list, leaves
pub planted_level : (p : Picture) (g : ℕ) {m k r c κ r' c' κ' x : ℕ} → MapBlock m (suc k) r c κ → (q : Quadrant k r c κ r' c' κ') → InKeys k κ' x
    → OthersAre p g κ' k r c κ
    → one_feature p (suc k) r c ≡ false
    → list_of p (suc k) r c κ ≡ front_at x g (bits_of p (suc k) r c) k ++ (list_of p k r' c' κ' ++ back_at x g k)
unfolding front_at back_at
planted_level p g {k = k} {r} {c} {κ} {r'} {c'} {κ'} {x} b q i others several =
    node_four p k r c κ several
    ∙ ap (λ l. record_of κ (bits_of p (suc k) r c) ∷ l)
    (four_split p q ∙ ap₂ (λ s t. s ++ (list_of p k r' c' κ' ++ t)) (preceding_leaves p g q others) (following_leaves p g q others))
    ∙ ap₂
    (λ y d.
    record_of y (bits_of p (suc k) r c) ∷ (leaves g y k (d - 1) 1 ++ (list_of p k r' c' κ' ++ leaves g y k (4 - d) (suc d))))
    (sym (around_is b (keys_up (quadrant_under q) i)))
    (sym (digit_at_block b q i))
