-- Four children one after the other: they are no four equal leaves exactly where both features occur in them. Rests on Shape.
use Prim.Native.Nat.{ℕ, zero, suc, ◌<◌}
use mathlib.Core.Path.{◌≡◌, refl, sym, ap, ◌∙◌}
use mathlib.Core.Bool.{Bool, true, false, cond, true≢false}
use mathlib.Core.Logic.{◌⊎◌, inl, inr, ⊎_elim}
use mathlib.Core.List.{List, [], ◌∷◌, ◌++◌, append_assoc}
use native.Mathlib.Omega.{arith}
use Rattle.definitions.specs.Bits.{has_slot, union_of_four}
use Rattle.definitions.specs.List.{Record}
use Rattle.definitions.specs.BitStrings.{node_bits, leaf_bits, begins_with, four_equal}
use Rattle.laws.proofs.Slots.{slot_nw, slot_ne, slot_sw, slot_se, four_lt}
use Rattle.bit_strings.proofs.Shape.{Shape, leaf, node, three, nodes-append, leaf_bits-append, nodes_leaf, nodes_inner, leaves_leaf, nodes_none, leaves_none}

-- a leaf's two bits, or an inner node's one
pub record LeafSeen (v : ℕ) (l : List Record) : Type 0 where
  pub feature : Bool
  pub own : v ≡ cond feature 2 1
  pub nodes : node_bits l ≡ true ∷ []
  pub leaves : leaf_bits l ≡ feature ∷ []

pub record NodeSeen (v : ℕ) (l : List Record) : Type 0 where
  pub below : List Bool
  pub own : v ≡ 3
  pub nodes : node_bits l ≡ false ∷ below

pub seen : {k κ v : ℕ} {l : List Record} → Shape k κ v l → LeafSeen v l ⊎ NodeSeen v l
seen {κ = κ} (leaf b) = inl (record {
  feature = b;
  own = refl;
  nodes = nodes_leaf κ b [] ∙ ap (λ l. true ∷ l) nodes_none;
  leaves = leaves_leaf κ b [] ∙ ap (λ l. b ∷ l) leaves_none;
})
seen {κ = κ} (node {nw = nw} {ne = ne} {sw = sw} {se = se} a b c d u) =
    inr (record { below = node_bits (nw ++ (ne ++ (sw ++ se))); own = refl; nodes = nodes_inner κ (nw ++ (ne ++ (sw ++ se))) })

small : {k κ v : ℕ} {l : List Record} → Shape k κ v l → v < 4
small (leaf true) = omega arith
small (leaf false) = omega arith
small (node a b c d u) = omega arith

-- the bits of four lists, one after the other
abbrev pub four_siblings : {A : Type 0} → List A → List A → List A → List A → List A → List A
four_siblings a b c d rest = a ++ (b ++ (c ++ (d ++ rest)))

pub four_nodes : (a b c d : List Record) (rest : List Bool)
    → node_bits (a ++ (b ++ (c ++ d))) ++ rest ≡ four_siblings (node_bits a) (node_bits b) (node_bits c) (node_bits d) rest
four_nodes a b c d rest = simp (nodes-append, append_assoc) refl

pub four_leaf_bits : (a b c d : List Record) (rest : List Bool)
    → leaf_bits (a ++ (b ++ (c ++ d))) ++ rest ≡ four_siblings (leaf_bits a) (leaf_bits b) (leaf_bits c) (leaf_bits d) rest
four_leaf_bits a b c d rest = simp (leaf_bits-append, append_assoc) refl

-- where the four are leaves, they are not equal exactly where both features occur
leaves_differ : (a b c d : Bool) (nodes leaves : List Bool) → union_of_four (cond a 2 1) (cond b 2 1) (cond c 2 1) (cond d 2 1) ≡ 3
    → four_equal (true ∷ true ∷ true ∷ true ∷ nodes) (a ∷ b ∷ c ∷ d ∷ leaves) ≡ false
unfolding union_of_four four_equal begins_with
leaves_differ true true true true nodes leaves e = absurd (omega arith)
leaves_differ false false false false nodes leaves e = absurd (omega arith)
leaves_differ true true true false nodes leaves e = refl
leaves_differ true true false d nodes leaves e = refl
leaves_differ true false c d nodes leaves e = refl
leaves_differ false true c d nodes leaves e = refl
leaves_differ false false true d nodes leaves e = refl
leaves_differ false false false true nodes leaves e = refl

differ_leaves : (a b c d : Bool) (nodes leaves : List Bool) → four_equal (true ∷ true ∷ true ∷ true ∷ nodes) (a ∷ b ∷ c ∷ d ∷ leaves) ≡ false
    → union_of_four (cond a 2 1) (cond b 2 1) (cond c 2 1) (cond d 2 1) ≡ 3
unfolding union_of_four four_equal begins_with
differ_leaves true true true true nodes leaves e = absurd (true≢false e)
differ_leaves false false false false nodes leaves e = absurd (true≢false e)
differ_leaves true true true false nodes leaves e = refl
differ_leaves true true false true nodes leaves e = refl
differ_leaves true true false false nodes leaves e = refl
differ_leaves true false true true nodes leaves e = refl
differ_leaves true false true false nodes leaves e = refl
differ_leaves true false false true nodes leaves e = refl
differ_leaves true false false false nodes leaves e = refl
differ_leaves false true true true nodes leaves e = refl
differ_leaves false true true false nodes leaves e = refl
differ_leaves false true false true nodes leaves e = refl
differ_leaves false true false false nodes leaves e = refl
differ_leaves false false true true nodes leaves e = refl
differ_leaves false false true false nodes leaves e = refl
differ_leaves false false false true nodes leaves e = refl

-- an inner node among the first four ends it
inner_first : (nodes leaves : List Bool) → four_equal (false ∷ nodes) leaves ≡ false
unfolding four_equal begins_with
inner_first nodes leaves = refl

inner_second : (nodes leaves : List Bool) → four_equal (true ∷ false ∷ nodes) leaves ≡ false
unfolding four_equal begins_with
inner_second nodes leaves = refl

inner_third : (nodes leaves : List Bool) → four_equal (true ∷ true ∷ false ∷ nodes) leaves ≡ false
unfolding four_equal begins_with
inner_third nodes leaves = refl

inner_fourth : (nodes leaves : List Bool) → four_equal (true ∷ true ∷ true ∷ false ∷ nodes) leaves ≡ false
unfolding four_equal begins_with
inner_fourth nodes leaves = refl

module _ {k κ₁ κ₂ κ₃ κ₄ v₁ v₂ v₃ v₄ : ℕ} {nw ne sw se : List Record} (a : Shape k κ₁ v₁ nw) (b : Shape k κ₂ v₂ ne) (c : Shape k κ₃ v₃ sw) (d : Shape k κ₄ v₄ se)
    (ns ls : List Bool) where
  abbrev ls₄ : List Bool
  ls₄ = four_siblings (leaf_bits nw) (leaf_bits ne) (leaf_bits sw) (leaf_bits se) ls

  -- 3 is the union where one of the four is 3
  union_small : union_of_four v₁ v₂ v₃ v₄ < 4
  union_small = four_lt 2 v₁ v₂ v₃ v₄ (small a) (small b) (small c) (small d)

  slot : (v i : ℕ) → v ≡ 3 → i < 2 → has_slot v i ≡ true
  slot v zero e h = ap (λ x. has_slot x 0) e
  slot v (suc zero) e h = ap (λ x. has_slot x 1) e
  slot v (suc (suc i)) e h = absurd (omega arith)

  -- the four are no four equal leaves exactly where both features occur in them
  pub four_differ : union_of_four v₁ v₂ v₃ v₄ ≡ 3
      → four_equal (four_siblings (node_bits nw) (node_bits ne) (node_bits sw) (node_bits se) ns) (four_siblings (leaf_bits nw) (leaf_bits ne) (leaf_bits sw) (leaf_bits se) ls) ≡ false
  four_differ u =
      ⊎_elim
      (λ x. ⊎_elim
      (λ y. ⊎_elim
      (λ z. ⊎_elim
      (λ w. rw (x.nodes, y.nodes, z.nodes, w.nodes, x.leaves, y.leaves, z.leaves, w.leaves)
      (leaves_differ x.feature y.feature z.feature w.feature ns ls
      (sym (λ i. union_of_four (x.own i) (y.own i) (z.own i) (w.own i)) ∙ u)))
      (λ w. rw (x.nodes, y.nodes, z.nodes, w.nodes) (inner_fourth (w.below ++ ns) ls₄))
      (seen d))
      (λ z. rw (x.nodes, y.nodes, z.nodes) (inner_third (z.below ++ (node_bits se ++ ns)) ls₄))
      (seen c))
      (λ y. rw (x.nodes, y.nodes) (inner_second (y.below ++ (node_bits sw ++ (node_bits se ++ ns))) ls₄))
      (seen b))
      (λ x. rw x.nodes (inner_first (x.below ++ (node_bits ne ++ (node_bits sw ++ (node_bits se ++ ns)))) ls₄))
      (seen a)

  pub differ_four : four_equal (four_siblings (node_bits nw) (node_bits ne) (node_bits sw) (node_bits se) ns) (four_siblings (leaf_bits nw) (leaf_bits ne) (leaf_bits sw) (leaf_bits se) ls) ≡ false
      → union_of_four v₁ v₂ v₃ v₄ ≡ 3
  differ_four e =
      ⊎_elim
      (λ x. ⊎_elim
      (λ y. ⊎_elim
      (λ z. ⊎_elim
      (λ w. (λ i. union_of_four (x.own i) (y.own i) (z.own i) (w.own i))
      ∙ differ_leaves x.feature y.feature z.feature w.feature ns ls
      (rw (x.nodes, y.nodes, z.nodes, w.nodes, x.leaves, y.leaves, z.leaves, w.leaves) at e))
      (λ w. three (union_of_four v₁ v₂ v₃ v₄) union_small (slot_se v₁ v₂ v₃ v₄ 0 (slot v₄ 0 w.own (omega arith))) (slot_se v₁ v₂ v₃ v₄ 1 (slot v₄ 1 w.own (omega arith))))
      (seen d))
      (λ z. three (union_of_four v₁ v₂ v₃ v₄) union_small (slot_sw v₁ v₂ v₃ v₄ 0 (slot v₃ 0 z.own (omega arith))) (slot_sw v₁ v₂ v₃ v₄ 1 (slot v₃ 1 z.own (omega arith))))
      (seen c))
      (λ y. three (union_of_four v₁ v₂ v₃ v₄) union_small (slot_ne v₁ v₂ v₃ v₄ 0 (slot v₂ 0 y.own (omega arith))) (slot_ne v₁ v₂ v₃ v₄ 1 (slot v₂ 1 y.own (omega arith))))
      (seen b))
      (λ x. three (union_of_four v₁ v₂ v₃ v₄) union_small (slot_nw v₁ v₂ v₃ v₄ 0 (slot v₁ 0 x.own (omega arith))) (slot_nw v₁ v₂ v₃ v₄ 1 (slot v₁ 1 x.own (omega arith))))
      (seen a)
