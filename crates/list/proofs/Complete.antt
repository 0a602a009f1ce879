-- The check accepts every list: it passes the list of a picture at a block, and leaves what follows it. Rests on Children and OneSlot.
use Prim.Native.Nat.{ℕ, zero, suc, ◌+◌, ◌-◌, ◌*◌, ◌^◌}
use mathlib.Core.Path.{◌≡◌, refl, sym, ◌∙◌, ap}
use mathlib.Core.Bool.{true, false, cond}
use mathlib.Core.List.{List, ◌∷◌, ◌++◌}
use lib.Bits.{bit_or}
use borrow.Author.Tests.{eq-eqb}
use Rattle.keys.specs.Key.{child_key}
use Rattle.keys.proofs.Cases.{decide}
use Rattle.definitions.specs.Picture.{Picture, one_feature}
use Rattle.definitions.specs.Bits.{bits_of}
use Rattle.definitions.specs.List.{Record, record_of, list_of}
use Rattle.laws.proofs.Features.{one_pixel}
use Rattle.laws.proofs.BitsOf.{bits_suc}
use Rattle.laws.proofs.ListOf.{list_one, list_node, list_head_first}
use Rattle.list.specs.Check.{wrong, left, after_own, after_children, after_node}
use Rattle.list.proofs.OneSlot.{slot_feature}
use Rattle.list.proofs.Children.{own_leaf, own_node, node_suc, children_none, children_from, union_in_turn, four_lists_joined}

-- a list of the block passes, whatever follows it
abbrev Passes : Picture → ℕ → ℕ → ℕ → ℕ → Type 0
Passes p k r c κ = (below rest : List Record) → list_of p k r c κ ≡ record_of κ (bits_of p k r c) ∷ below → after_own (after_node k) κ (bits_of p k r c) (below ++ rest) ≡ left rest

tails : {x y : Record} {l l' : List Record} → x ∷ l ≡ y ∷ l' → l ≡ l'
tails e = cc

leaf_passes : (p : Picture) (k r c κ : ℕ) → one_feature p k r c ≡ true → Passes p k r c κ
leaf_passes p k r c κ one below rest e =
    own_leaf (after_node k) κ (bits_of p k r c) (below ++ rest) (slot_feature p k r c ∙ one)
    ∙ ap (λ l. left (l ++ rest)) (tails (sym e ∙ list_one p k r c κ one))

-- a quadrant's list is passed, and the other children decide
quadrant_passes : (p : Picture) (k r c κ own j union : ℕ) (κ₁ : ℕ) (rest : List Record) → κ₁ ≡ κ + (5 - suc j) * 5 ^ k → Passes p k r c κ₁
    → after_children (after_node k) κ (5 ^ k) own (suc j) union (list_of p k r c κ₁ ++ rest) ≡ after_children (after_node k) κ (5 ^ k) own j (bit_or union (bits_of p k r c)) rest
quadrant_passes p k r c κ own j union κ₁ rest key passes =
    let first = list_head_first p k r c κ₁ in
    ap (λ l. after_children (after_node k) κ (5 ^ k) own (suc j) union (l ++ rest)) first.1
    ∙ children_from (after_node k) κ (5 ^ k) own j union (bits_of p k r c) (first.0 ++ rest) rest κ₁ key (passes first.0 rest first.1)

node_passes : (p : Picture) (k r c κ : ℕ) → one_feature p (suc k) r c ≡ false
    → Passes p k r c (child_key κ k 1)
    → Passes p k r (c + 2 ^ k) (child_key κ k 2)
    → Passes p k (r + 2 ^ k) c (child_key κ k 3)
    → Passes p k (r + 2 ^ k) (c + 2 ^ k) (child_key κ k 4)
    → Passes p (suc k) r c κ
node_passes p k r c κ several nw ne sw se below rest e =
    let own = bits_of p (suc k) r c in
    let list-nw = list_of p k r c (child_key κ k 1) in
    let list-ne = list_of p k r (c + 2 ^ k) (child_key κ k 2) in
    let list-sw = list_of p k (r + 2 ^ k) c (child_key κ k 3) in
    let list-se = list_of p k (r + 2 ^ k) (c + 2 ^ k) (child_key κ k 4) in
    own_node (after_node (suc k)) κ own (below ++ rest) (slot_feature p (suc k) r c ∙ several)
    ∙ node_suc k κ own (below ++ rest)
    ∙ ap (after_children (after_node k) κ (5 ^ k) own 4 0) (ap (λ l. l ++ rest) (tails (sym e ∙ list_node p k r c κ several)) ∙ four_lists_joined list-nw list-ne list-sw list-se rest)
    ∙ quadrant_passes p k r c κ own 3 0 (child_key κ k 1) _ refl nw
    ∙ quadrant_passes p k r (c + 2 ^ k) κ own 2 _ (child_key κ k 2) _ refl ne
    ∙ quadrant_passes p k (r + 2 ^ k) c κ own 1 _ (child_key κ k 3) _ refl sw
    ∙ quadrant_passes p k (r + 2 ^ k) (c + 2 ^ k) κ own 0 _ (child_key κ k 4) rest refl se
    ∙ children_none (after_node k) κ (5 ^ k) own _ rest
    ∙ ap (λ b. cond b (left rest) wrong) (eq-eqb _ own (union_in_turn _ _ _ _ ∙ sym (bits_suc p k r c)))

pub complete : (p : Picture) (k r c κ : ℕ) → Passes p k r c κ
complete p zero r c κ = leaf_passes p zero r c κ (one_pixel p r c)
complete p (suc k) r c κ =
    decide (one_feature p (suc k) r c)
    (leaf_passes p (suc k) r c κ)
    (λ several. node_passes p k r c κ several (complete p k r c (child_key κ k 1)) (complete p k r (c + 2 ^ k) (child_key κ k 2)) (complete p k (r + 2 ^ k) c (child_key κ k 3)) (complete p k (r + 2 ^ k) (c + 2 ^ k) (child_key κ k 4)))
