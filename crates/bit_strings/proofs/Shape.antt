-- The list of a block of two features as a tree: one leaf, or an inner node and its four quadrants that are not alike. Every list of two features has
-- such a shape, so a quarter of its nodes, rounded down, are inner. Rests on BitsOf and ListOf of the definitions.
use Prim.Native.Nat.{ℕ, zero, suc, ◌+◌, ◌*◌, ◌^◌, ◌<◌}
use mathlib.Core.Path.{◌≡◌, refl, sym, ap, ◌∙◌}
use mathlib.Core.Bool.{Bool, true, false, cond, not, false≢true}
use mathlib.Core.List.{List, [], ◌∷◌, ◌++◌}
use native.Mathlib.Omega.{arith}
use lib.ListN.{length, length-append}
use lib.Pow.{pow_mono}
use Rattle.keys.specs.Key.{child_key}
use Rattle.keys.proofs.Cases.{decide, split}
use Rattle.definitions.specs.Picture.{Picture, one_feature, features_below}
use Rattle.definitions.specs.Bits.{has_slot, union_of_four, bits_of}
use Rattle.definitions.specs.List.{Record, record_of, list_of}
use Rattle.definitions.specs.BitStrings.{is_inner, node_bits, leaf_bits}
use Rattle.laws.proofs.Within.{first_within, every_nw, every_ne, every_sw, every_se}
use Rattle.laws.proofs.Features.{below_to, below_from, one_pixel}
use Rattle.laws.proofs.Slots.{slot_le}
use Rattle.laws.proofs.BitsOf.{bits_suc, bits_one, bits_several, bits_below}
use Rattle.laws.proofs.ListOf.{list_one, list_node}

-- height, key, own bits and records
pub data Shape : ℕ → ℕ → ℕ → List Record → Type 0 where
  leaf : {k κ : ℕ} (b : Bool) → Shape k κ (cond b 2 1) (record_of κ (cond b 2 1) ∷ [])
  node : {k κ a b c d : ℕ} {nw ne sw se : List Record}
      → Shape k (child_key κ k 1) a nw
      → Shape k (child_key κ k 2) b ne
      → Shape k (child_key κ k 3) c sw
      → Shape k (child_key κ k 4) d se
      → union_of_four a b c d ≡ 3
      → Shape (suc k) κ 3 (record_of κ 3 ∷ (nw ++ (ne ++ (sw ++ se))))

-- ---- every list has a shape

-- below 4 both slots are set in 3 alone
pub three : (v : ℕ) → v < 4 → has_slot v 0 ≡ true → has_slot v 1 ≡ true → v ≡ 3
three zero h e f = absurd (false≢true e)
three (suc zero) h e f = absurd (false≢true f)
three (suc (suc zero)) h e f = absurd (false≢true e)
three (suc (suc (suc zero))) h e f = refl
three (suc (suc (suc (suc v)))) h e f = absurd (omega arith)

slot_small : (v i : ℕ) → v < 4 → has_slot v i ≡ true → i < 2
slot_small v i h e = split i 2 (λ l. l) (λ l. let a = slot_le v i e in let b = pow_mono {i = 2} {j = i} l in absurd (omega arith))

-- two different slots below 2 are both
both_slots : (v i j : ℕ) → v < 4 → (i ≡ j → ⊥) → has_slot v i ≡ true → has_slot v j ≡ true → v ≡ 3
both_slots v zero zero h d e f = absurd (d refl)
both_slots v zero (suc zero) h d e f = three v h e f
both_slots v (suc zero) zero h d e f = three v h f e
both_slots v (suc zero) (suc zero) h d e f = absurd (d refl)
both_slots v (suc (suc i)) j h d e f = let b = slot_small v (suc (suc i)) h e in absurd (omega arith)
both_slots v zero (suc (suc j)) h d e f = let b = slot_small v (suc (suc j)) h f in absurd (omega arith)
both_slots v (suc zero) (suc (suc j)) h d e f = let b = slot_small v (suc (suc j)) h f in absurd (omega arith)

several_three : (p : Picture) (k r c : ℕ) → features_below 2 p k r c ≡ true → one_feature p k r c ≡ false → bits_of p k r c ≡ 3
several_three p k r c below several =
    let t = bits_several p k r c several in
    both_slots (bits_of p k r c) t.first t.second (bits_below 2 p k r c below) t.differ t.has_first t.has_second

leaf_shape : (k κ f : ℕ) → f < 2 → Shape k κ (2 ^ f) (record_of κ (2 ^ f) ∷ [])
leaf_shape k κ zero h = leaf false
leaf_shape k κ (suc zero) h = leaf true
leaf_shape k κ (suc (suc f)) h = absurd (omega arith)

one_shape : (p : Picture) (k r c κ : ℕ) → features_below 2 p k r c ≡ true → one_feature p k r c ≡ true → Shape k κ (bits_of p k r c) (list_of p k r c κ)
one_shape p k r c κ below one =
    rw (list_one p k r c κ one, bits_one p k r c one) (leaf_shape k κ (p r c) (below_to 2 p k r c below r c (first_within k r c)))

pub list_shape : (p : Picture) (k r c κ : ℕ) → features_below 2 p k r c ≡ true → Shape k κ (bits_of p k r c) (list_of p k r c κ)
list_shape p zero r c κ below = one_shape p zero r c κ below (one_pixel p r c)
list_shape p (suc k) r c κ below =
    let every = below_to 2 p (suc k) r c below in
    decide (one_feature p (suc k) r c)
    (one_shape p (suc k) r c κ below)
    (λ several.
    let three-is = several_three p (suc k) r c below several in
    rw (list_node p k r c κ several, three-is)
    (node
    (list_shape p k r c (child_key κ k 1) (below_from 2 p k r c (every_nw every)))
    (list_shape p k r (c + 2 ^ k) (child_key κ k 2) (below_from 2 p k r (c + 2 ^ k) (every_ne every)))
    (list_shape p k (r + 2 ^ k) c (child_key κ k 3) (below_from 2 p k (r + 2 ^ k) c (every_sw every)))
    (list_shape p k (r + 2 ^ k) (c + 2 ^ k) (child_key κ k 4) (below_from 2 p k (r + 2 ^ k) (c + 2 ^ k) (every_se every)))
    (sym (bits_suc p k r c) ∙ three-is)))

-- ---- bits of lists, one after the other

pub inner_three : is_inner 3 ≡ true
unfolding is_inner
inner_three = refl

pub inner_leaf : (b : Bool) → is_inner (cond b 2 1) ≡ false
unfolding is_inner
inner_leaf true = refl
inner_leaf false = refl

pub nodes-append : (a b : List Record) → node_bits (a ++ b) ≡ node_bits a ++ node_bits b
unfolding node_bits
nodes-append [] b = refl
nodes-append (e ∷ a) b = ap (λ l. not (is_inner e.value) ∷ l) (nodes-append a b)

pub leaf_bits-append : (a b : List Record) → leaf_bits (a ++ b) ≡ leaf_bits a ++ leaf_bits b
unfolding leaf_bits
leaf_bits-append [] b = refl
leaf_bits-append (e ∷ a) b =
    decide (is_inner e.value)
    (λ i. rw i (leaf_bits-append a b))
    (λ i. rw i (ap (λ l. has_slot e.value 1 ∷ l) (leaf_bits-append a b)))

pub nodes_leaf : (κ : ℕ) (b : Bool) (l : List Record) → node_bits (record_of κ (cond b 2 1) ∷ l) ≡ true ∷ node_bits l
unfolding node_bits
nodes_leaf κ b l = rw (inner_leaf b) refl

pub nodes_inner : (κ : ℕ) (l : List Record) → node_bits (record_of κ 3 ∷ l) ≡ false ∷ node_bits l
unfolding node_bits
nodes_inner κ l = rw inner_three refl

slot_leaf : (b : Bool) → has_slot (cond b 2 1) 1 ≡ b
slot_leaf true = refl
slot_leaf false = refl

pub leaves_leaf : (κ : ℕ) (b : Bool) (l : List Record) → leaf_bits (record_of κ (cond b 2 1) ∷ l) ≡ b ∷ leaf_bits l
unfolding leaf_bits
leaves_leaf κ b l = rw (inner_leaf b) (ap (λ x. x ∷ leaf_bits l) (slot_leaf b))

pub leaves_inner : (κ : ℕ) (l : List Record) → leaf_bits (record_of κ 3 ∷ l) ≡ leaf_bits l
unfolding leaf_bits
leaves_inner κ l = rw inner_three refl

pub nodes_none : node_bits [] ≡ []
unfolding node_bits
nodes_none = refl

pub leaves_none : leaf_bits [] ≡ []
unfolding leaf_bits
leaves_none = refl

-- ---- how many

pub nodes_many : (l : List Record) → length (node_bits l) ≡ length l
unfolding node_bits
nodes_many [] = refl
nodes_many (e ∷ l) = ap suc (nodes_many l)

four_leaves : (a b c d : List Record) → length (leaf_bits (a ++ (b ++ (c ++ d)))) ≡ length (leaf_bits a) + (length (leaf_bits b) + (length (leaf_bits c) + length (leaf_bits d)))
four_leaves a b c d = simp (leaf_bits-append, length-append) refl

four_records : (a b c d : List Record) → length (a ++ (b ++ (c ++ d))) ≡ length a + (length b + (length c + length d))
four_records a b c d = simp length-append refl

-- of n nodes n - n / 4 are leaves
pub leaves_many : {k κ v : ℕ} {l : List Record} → Shape k κ v l → 4 * length (leaf_bits l) ≡ 3 * length l + 1
leaves_many {κ = κ} (leaf b) = let e = ap length (leaves_leaf κ b [] ∙ ap (λ l. b ∷ l) leaves_none) in omega arith
leaves_many {κ = κ} (node {nw = nw} {ne = ne} {sw = sw} {se = se} a b c d u) =
    let inner = ap length (leaves_inner κ (nw ++ (ne ++ (sw ++ se)))) in
    let parts = four_leaves nw ne sw se in
    let many = four_records nw ne sw se in
    let n₁ = leaves_many a in
    let n₂ = leaves_many b in
    let n₃ = leaves_many c in
    let n₄ = leaves_many d in
    omega arith
