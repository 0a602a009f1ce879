-- What shrinking leaves of a block: one record, which is a leaf, or a node's own and those of its quadrants, of which the last lies past the block's
-- key. Rests on Pruned.
use Prim.Native.Nat.{ℕ, zero, suc, ◌+◌, ◌^◌, ◌≤◌, ◌<◌}
use mathlib.Core.Path.{◌≡◌, refl, sym, ◌∙◌, ap}
use mathlib.Core.Bool.{true, false}
use mathlib.Core.List.{List, [], ◌∷◌, ◌++◌, append_assoc}
use native.Mathlib.Nat.{le_refl, one-le-pow}
use native.Mathlib.Omega.{arith}
use Rattle.keys.specs.Key.{child_key}
use Rattle.keys.proofs.Cases.{decide}
use Rattle.definitions.specs.Picture.{Picture, one_feature}
use Rattle.definitions.specs.Bits.{bits_of, feature_of}
use Rattle.definitions.specs.List.{Record, record_of}
use Rattle.laws.proofs.Pixels.{Agree}
use Rattle.laws.proofs.Features.{one_pixel}
use Rattle.laws.proofs.FeatureOf.{feature_of_power}
use Rattle.laws.proofs.BitsOf.{bits_one}
use Rattle.list.specs.Check.{one_slot}
use Rattle.list.proofs.OneSlot.{power_slot}
use Rattle.deeds.specs.Step.{Step, step_over, plain, pruned}
use Rattle.deeds.proofs.Pruned.{pruned_one, pruned_leaf, pruned_node, leaf_before, leaf_after}

-- one record, whose feature is enough to know the step over the block
pub record LeafLeft (t : Step) (p : Picture) (k r c κ : ℕ) : Type 0 where
  pub value : ℕ
  pub is : pruned p (step_over t p) k r c κ ≡ record_of κ value ∷ []
  pub one : one_slot value ≡ true
  pub same : Agree (step_over t (plain (feature_of value))) (step_over t p) k r c

-- several features, before the step and after it
pub record NodeLeft (t : Step) (p : Picture) (k r c : ℕ) : Type 0 where
  pub positive : 0 < k
  pub before : one_feature p k r c ≡ false
  pub after : one_feature (step_over t p) k r c ≡ false

leaf_of : (t : Step) (p : Picture) (k r c κ g value : ℕ) → value ≡ 2 ^ g → Agree (step_over t (plain g)) (step_over t p) k r c
    → pruned p (step_over t p) k r c κ ≡ record_of κ value ∷ [] → LeafLeft t p k r c κ
leaf_of t p k r c κ g value e h is =
    let f : feature_of value ≡ g = ap feature_of e ∙ feature_of_power g in
    record { value = value; is = is; one = ap one_slot e ∙ power_slot g; same = rw f h }

-- one or the other
pub either_left {ℓ} : {C : Type ℓ} (t : Step) (p : Picture) (k r c κ : ℕ) → (LeafLeft t p k r c κ → C) → (NodeLeft t p k r c → C) → C
either_left t p zero r c κ leaf node =
    let e = one_pixel (step_over t p) r c in
    leaf (leaf_of t p zero r c κ (step_over t p r c) (bits_of (step_over t p) zero r c) (bits_one (step_over t p) zero r c e) (leaf_after t p zero r c e) (pruned_one p (step_over t p) zero r c κ e))
either_left t p (suc k) r c κ leaf node =
    decide (one_feature (step_over t p) (suc k) r c)
    (λ e. leaf (leaf_of t p (suc k) r c κ (step_over t p r c) (bits_of (step_over t p) (suc k) r c) (bits_one (step_over t p) (suc k) r c e) (leaf_after t p (suc k) r c e) (pruned_one p (step_over t p) (suc k) r c κ e)))
    (λ e. decide (one_feature p (suc k) r c)
    (λ f. leaf (leaf_of t p (suc k) r c κ (p r c) (bits_of p (suc k) r c) (bits_one p (suc k) r c f) (leaf_before t p (suc k) r c f) (pruned_leaf p (step_over t p) k r c κ e f)))
    (λ f. node (record { positive = omega arith; before = f; after = e })))

-- the last record of some, with a key that is not small
pub record Last (lo : ℕ) (l : List Record) : Type 0 where
  pub before : List Record
  pub last : Record
  pub is : l ≡ before ++ (last ∷ [])
  pub from : lo ≤ last.key

last_one : (κ v : ℕ) → Last κ (record_of κ v ∷ [])
last_one κ v = record { before = []; last = record_of κ v; is = refl; from = le_refl κ }

last_after : (a : List Record) {lo lo' : ℕ} (l : List Record) → lo' ≤ lo → Last lo l → Last lo' (a ++ l)
last_after a l h s = record {
  before = a ++ s.before;
  last = s.last;
  is = ap (λ z. a ++ z) s.is ∙ sym (append_assoc a s.before (s.last ∷ []));
  from = omega (arith, s.from);
}

last_four : (x : Record) (a b c d : List Record) {lo lo' : ℕ} → lo' ≤ lo → Last lo d → Last lo' (x ∷ (a ++ (b ++ (c ++ d))))
last_four x a b c d h s =
    last_after (x ∷ []) (a ++ (b ++ (c ++ d))) (le_refl _)
    (last_after a (b ++ (c ++ d)) (le_refl _) (last_after b (c ++ d) (le_refl _) (last_after c d h s)))

pub pruned_last : (p q : Picture) (k r c κ : ℕ) → Last κ (pruned p q k r c κ)
pruned_last p q zero r c κ = rw (pruned_one p q zero r c κ (one_pixel q r c)) (last_one κ (bits_of q zero r c))
pruned_last p q (suc k) r c κ =
    decide (one_feature q (suc k) r c)
    (λ e. rw (pruned_one p q (suc k) r c κ e) (last_one κ (bits_of q (suc k) r c)))
    (λ e. decide (one_feature p (suc k) r c)
    (λ f. rw (pruned_leaf p q k r c κ e f) (last_one κ (bits_of p (suc k) r c)))
    (λ f. rw (pruned_node p q k r c κ e f)
    (last_four (record_of κ (bits_of q (suc k) r c)) (pruned p q k r c (child_key κ k 1)) (pruned p q k r (c + 2 ^ k) (child_key κ k 2)) (pruned p q k (r + 2 ^ k) c (child_key κ k 3))
    (pruned p q k (r + 2 ^ k) (c + 2 ^ k) (child_key κ k 4)) (omega arith) (pruned_last p q k (r + 2 ^ k) (c + 2 ^ k) (child_key κ k 4)))))

-- of a node it is past the block's own key
pub node_last : (t : Step) (p : Picture) (k r c κ : ℕ) → NodeLeft t p k r c → Last (suc κ) (pruned p (step_over t p) k r c κ)
node_last t p zero r c κ n = absurd (omega (arith, n.positive))
node_last t p (suc k) r c κ n =
    let z = one-le-pow k 5 (omega arith) in
    rw (pruned_node p (step_over t p) k r c κ n.after n.before)
    (last_four (record_of κ (bits_of (step_over t p) (suc k) r c)) (pruned p (step_over t p) k r c (child_key κ k 1)) (pruned p (step_over t p) k r (c + 2 ^ k) (child_key κ k 2)) (pruned p (step_over t p) k (r + 2 ^ k) c (child_key κ k 3))
    (pruned p (step_over t p) k (r + 2 ^ k) (c + 2 ^ k) (child_key κ k 4)) (omega arith) (pruned_last p (step_over t p) k (r + 2 ^ k) (c + 2 ^ k) (child_key κ k 4)))
