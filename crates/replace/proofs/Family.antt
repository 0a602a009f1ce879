-- The block of a height around a key, and the bits of a parent: by the bits of one child and what the list has at the others. Rests on the
-- keys' multiples and on Standing.
use Prim.Native.Nat.{ℕ, suc, ◌^◌}
use mathlib.Core.Path.{◌≡◌, sym, ◌∙◌, ap, ap₂}
use mathlib.Core.Bool.{cond}
use mathlib.Core.List.{List}
use native.Mathlib.Omega.{arith}
use borrow.Author.Tests.{eq-eqb, ne_eqb}
use Rattle.keys.specs.Key.{child_key}
use Rattle.keys.proofs.Cases.{equal}
use Rattle.keys.specs.Under.{Under, MapBlock, Quadrant, is_nw, is_ne, is_sw, is_se}
use Rattle.keys.proofs.Under.{quadrant_under}
use Rattle.keys.proofs.Interval.{within, one_block}
use Rattle.keys.proofs.Parent.{quadrant_of}
use Rattle.keys.proofs.ParentKey.{multiple, cleared}
use Rattle.keys.proofs.Pixel.{InKeys}
use Rattle.definitions.specs.Picture.{Picture}
use Rattle.definitions.specs.Bits.{union_of_four, bits_of}
use Rattle.definitions.specs.List.{Record, list_of}
use Rattle.laws.proofs.Slots.{same_four}
use Rattle.laws.proofs.BitsOf.{bits_suc, bits_agree}
use Rattle.replace.specs.Family.{around, block_bits, child_bits, parent_bits}
use Rattle.replace.proofs.Way.{Way, up, under_of}
use Rattle.replace.proofs.Outside.{Outside, agree_sibling}
use Rattle.replace.proofs.Standing.{standing_bits}

-- the block of its height around a key of its interval is that block
pub around_is : {m k r c κ x : ℕ} → MapBlock m k r c κ → InKeys k κ x → around k x ≡ κ
unfolding around
around_is {k = k} {x = x} b i =
    let n = multiple b in
    let e = n.key in
    let f = i.from in
    let g = i.until in
    cleared (5 ^ k) n.times x (omega arith) (omega arith) ∙ omega arith

-- what is a key of a block is one of every block around it
pub keys_up : {k r c κ k' r' c' κ' x : ℕ} → Under k r c κ k' r' c' κ' → InKeys k' κ' x → InKeys k κ x
keys_up u i = let w = within u in omega arith

-- in the list l every quadrant but the one with key own has the picture's bits at its key
abbrev pub OthersRead : Picture → List Record → ℕ → ℕ → ℕ → ℕ → ℕ → Type 0
OthersRead p l own k r c κ = (r₂ c₂ κ₂ : ℕ) → Quadrant k r c κ r₂ c₂ κ₂ → (κ₂ ≡ own → ⊥) → block_bits κ₂ l ≡ bits_of p k r₂ c₂

-- so a child's bits are found: in hand for the quadrant itself, in the list for the others
child-bits : (p : Picture) (l : List Record) {k r c κ r₁ c₁ κ₁ r₂ c₂ κ₂ : ℕ}
    → Quadrant k r c κ r₁ c₁ κ₁
    → OthersRead p l κ₁ k r c κ
    → Quadrant k r c κ r₂ c₂ κ₂
    → child_bits l κ₁ (bits_of p k r₁ c₁) κ₂ ≡ bits_of p k r₂ c₂
unfolding child_bits
child-bits p l {k} {r₁ = r₁} {c₁} {κ₁} {r₂} {c₂} {κ₂} q others q' =
    equal κ₂ κ₁
    (λ e.
    let s = one_block (quadrant_under q) (quadrant_under q') (sym e) in
    ap (λ t. cond t (bits_of p k r₁ c₁) (block_bits κ₂ l)) (eq-eqb κ₂ κ₁ e) ∙ ap₂ (bits_of p k) s.rows s.columns)
    (λ n. ap (λ t. cond t (bits_of p k r₁ c₁) (block_bits κ₂ l)) (ne_eqb κ₂ κ₁ n) ∙ others r₂ c₂ κ₂ q' n)

-- the bits of a parent, found from a key of the quadrant
pub parent-bits : (p : Picture) (l : List Record) {m k r c κ r' c' κ' x : ℕ}
    → MapBlock m (suc k) r c κ
    → (q : Quadrant k r c κ r' c' κ')
    → InKeys k κ' x
    → OthersRead p l κ' k r c κ
    → parent_bits l x (bits_of p k r' c') k ≡ bits_of p (suc k) r c
unfolding parent_bits
parent-bits p l {k = k} {r} {c} {κ} {r'} {c'} {κ'} {x} b q i others =
    let own = around_is (quadrant_of b q) i in
    let parent = around_is b (keys_up (quadrant_under q) i) in
    ap₂
    (λ u v.
    union_of_four (child_bits l u (bits_of p k r' c') (child_key v k 1))
    (child_bits l u (bits_of p k r' c') (child_key v k 2))
    (child_bits l u (bits_of p k r' c') (child_key v k 3))
    (child_bits l u (bits_of p k r' c') (child_key v k 4)))
    own
    parent
    ∙ same_four (child-bits p l q others is_nw) (child-bits p l q others is_ne) (child-bits p l q others is_sw) (child-bits p l q others is_se)
    ∙ sym (bits_suc p k r c)

-- in the list of a picture the others are as in every picture that is equal outside the quadrant
pub others_read : (p p' : Picture) {m k r c κ r' c' κ' : ℕ}
    → Way m 0 0 0 (suc k) r c κ
    → Quadrant k r c κ r' c' κ'
    → Outside p p' k r' c'
    → OthersRead p' (list_of p m 0 0 0) κ' k r c κ
others_read p p' {k = k} w q h r₂ c₂ κ₂ q' other = standing_bits p (up q' w) ∙ bits_agree p p' k r₂ c₂ (agree_sibling (under_of w) q q' other h)
