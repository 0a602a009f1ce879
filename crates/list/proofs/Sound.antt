-- What the check accepts is a list: where it passes the records of a block, they are the list of some picture at the block. Rests on Children,
-- Joined and OneSlot.
use Prim.Native.Nat.{ℕ, zero, suc, ◌+◌, ◌^◌}
use mathlib.Core.Path.{◌≡◌, refl, sym, ◌∙◌, ap}
use mathlib.Core.Bool.{true, false}
use mathlib.Core.List.{List, ◌∷◌, ◌++◌}
use Rattle.keys.specs.Key.{child_key}
use Rattle.keys.proofs.Cases.{decide}
use Rattle.definitions.specs.Picture.{Picture, one_feature}
use Rattle.definitions.specs.Bits.{feature_of, bits_of}
use Rattle.definitions.specs.List.{Record, record_of, list_of}
use Rattle.laws.proofs.Features.{one_from_leaf}
use Rattle.laws.proofs.Slots.{same_four}
use Rattle.laws.proofs.BitsOf.{bits_one}
use Rattle.laws.proofs.ListOf.{list_one}
use Rattle.list.specs.Check.{one_slot, left, after_own, after_node}
use Rattle.list.proofs.OneSlot.{one_slot_power, slot_feature}
use Rattle.list.proofs.Joined.{joined, joined_bits, joined_list}
use Rattle.list.proofs.Children.{wrong-not-left, left_inj, own_leaf, own_node, node_zero, node_suc, FourChildren, children_four, four_lists_joined}

-- a record with the key κ and the bits, and the records below it, are the list of some picture at the block, and then rest
pub record ShownRecord (k r c κ bits : ℕ) (below rest : List Record) : Type 0 where
  pub picture : Picture
  pub bits_are : bits_of picture k r c ≡ bits
  pub is : record_of κ bits ∷ below ≡ list_of picture k r c κ ++ rest

-- a leaf
leaf_shown : (k r c κ bits : ℕ) (rest : List Record) → one_slot bits ≡ true → ShownRecord k r c κ bits rest rest
leaf_shown k r c κ bits rest one =
    let f = feature_of bits in
    let p : Picture = λ row column. f in
    let e : one_feature p k r c ≡ true = one_from_leaf p f k r c (λ row column w. refl) in
    let power = one_slot_power bits one in
    record {
      picture = p;
      bits_are = bits_one p k r c e ∙ sym power;
      is = ap (λ b. record_of κ b ∷ rest) power ∙ ap (λ l. l ++ rest) (sym (list_one p k r c κ e));
    }

-- four lists, each followed by the next
in_turn : (a b c d l₄ : List Record) {l₀ l₁ l₂ l₃ : List Record} → l₀ ≡ a ++ l₁ → l₁ ≡ b ++ l₂ → l₂ ≡ c ++ l₃ → l₃ ≡ d ++ l₄ → l₀ ≡ (a ++ (b ++ (c ++ d))) ++ l₄
in_turn a b c d l₄ e f g h =
    e ∙ ap (λ l. a ++ l) (f ∙ ap (λ l. b ++ l) (g ∙ ap (λ l. c ++ l) h)) ∙ sym (four_lists_joined a b c d l₄)

-- a node of four blocks that are shown
node_shown : (k r c κ bits : ℕ) (below rest : List Record)
    → one_slot bits ≡ false
    → (f : FourChildren (after_node k) κ (5 ^ k) bits below rest)
    → ShownRecord k r c (child_key κ k 1) f.bits_nw f.below_nw f.after_nw
    → ShownRecord k r (c + 2 ^ k) (child_key κ k 2) f.bits_ne f.below_ne f.after_ne
    → ShownRecord k (r + 2 ^ k) c (child_key κ k 3) f.bits_sw f.below_sw f.after_sw
    → ShownRecord k (r + 2 ^ k) (c + 2 ^ k) (child_key κ k 4) f.bits_se f.below_se rest
    → ShownRecord (suc k) r c κ bits below rest
node_shown k r c κ bits below rest other f nw ne sw se =
    let p = joined k r c nw.picture ne.picture sw.picture se.picture in
    let b : bits_of p (suc k) r c ≡ bits =
    joined_bits k r c nw.picture ne.picture sw.picture se.picture
    ∙ same_four nw.bits_are ne.bits_are sw.bits_are se.bits_are
    ∙ f.union in
    let list-nw = list_of nw.picture k r c (child_key κ k 1) in
    let list-ne = list_of ne.picture k r (c + 2 ^ k) (child_key κ k 2) in
    let list-sw = list_of sw.picture k (r + 2 ^ k) c (child_key κ k 3) in
    let list-se = list_of se.picture k (r + 2 ^ k) (c + 2 ^ k) (child_key κ k 4) in
    let parts =
    in_turn list-nw list-ne list-sw list-se rest (f.is_nw ∙ nw.is) (f.is_ne ∙ ne.is) (f.is_sw ∙ sw.is) (f.is_se ∙ se.is) in
    let whole =
    joined_list k r c nw.picture ne.picture sw.picture se.picture κ (sym (slot_feature p (suc k) r c) ∙ ap one_slot b ∙ other) in
    record {
      picture = p;
      bits_are = b;
      is = ap (λ t. record_of κ bits ∷ t) parts
          ∙ ap (λ x. record_of κ x ∷ ((list-nw ++ (list-ne ++ (list-sw ++ list-se))) ++ rest)) (sym b)
          ∙ ap (λ t. t ++ rest) (sym whole);
    }

-- where the model's node passes, its four children do
node_children : (k κ bits : ℕ) (below rest : List Record) → one_slot bits ≡ false → after_own (after_node (suc k)) κ bits below ≡ left rest
    → FourChildren (after_node k) κ (5 ^ k) bits below rest
node_children k κ bits below rest other e =
    children_four (after_node k) κ (5 ^ k) bits below rest (sym (own_node (after_node (suc k)) κ bits below other ∙ node_suc k κ bits below) ∙ e)

-- records that pass are the list of some picture, at any row and column
pub sound : (k r c κ bits : ℕ) (below rest : List Record) → after_own (after_node k) κ bits below ≡ left rest → ShownRecord k r c κ bits below rest
sound zero r c κ bits below rest e =
    decide (one_slot bits)
    (λ one. rw (left_inj (sym (own_leaf (after_node zero) κ bits below one) ∙ e)) (leaf_shown zero r c κ bits rest one))
    (λ other. wrong-not-left (sym (own_node (after_node zero) κ bits below other ∙ node_zero κ bits below) ∙ e))
sound (suc k) r c κ bits below rest e =
    decide (one_slot bits)
    (λ one. rw (left_inj (sym (own_leaf (after_node (suc k)) κ bits below one) ∙ e)) (leaf_shown (suc k) r c κ bits rest one))
    (λ other.
    let f = node_children k κ bits below rest other e in
    node_shown k r c κ bits below rest other f
    (sound k r c (child_key κ k 1) f.bits_nw f.below_nw f.after_nw f.passes_nw)
    (sound k r (c + 2 ^ k) (child_key κ k 2) f.bits_ne f.below_ne f.after_ne f.passes_ne)
    (sound k (r + 2 ^ k) c (child_key κ k 3) f.bits_sw f.below_sw f.after_sw f.passes_sw)
    (sound k (r + 2 ^ k) (c + 2 ^ k) (child_key κ k 4) f.bits_se f.below_se rest f.passes_se))
