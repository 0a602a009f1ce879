-- Both lists at a block where both have a leaf: the combined block is one class, that of its first pixel. A pixel is such a block. Rests on OneList,
-- Table and build's laws of a block of one feature.
use Prim.Native.Nat.{ℕ, zero, suc, ◌+◌, ◌*◌, ◌^◌, ◌<◌}
use mathlib.Core.Path.{◌≡◌, refl, sym, ap, ap₂, ◌∙◌}
use Rattle.std.specs.Prelude.{Option, Some, None}
use mathlib.Core.Bool.{true, true≢false}
use mathlib.Core.List.{List}
use native.Mathlib.Omega.{arith}
use lib.ListN.{length}
use Rattle.keys.specs.Key.{slot_limit}
use Rattle.definitions.specs.Picture.{Picture, one_feature}
use Rattle.definitions.specs.Bits.{feature_of}
use Rattle.definitions.specs.Combine.{class_of, combined}
use Rattle.laws.proofs.Features.{one_pixel}
use Rattle.laws.proofs.Combined.{combined_is, combined_one}
use Rattle.list.specs.Check.{one_slot}
use Rattle.build.proofs.CountBlock.{tallied_pixel, tallied_one}
use Rattle.build.proofs.WrittenBlock.{written_one}
use Rattle.combine.specs.Combining.{Seen, BothEntered, Passes, both_of, passed_to, Named, CombinedCounted, Made}
use Rattle.keys.specs.declared.span.KeySpan.{KeySpan}
use Rattle.combine.specs.declared.cursor.Pair.{Pair}
use Rattle.combine.proofs.OneList.{leaf_or_none, entered_leaf, entered_several, leaf_uniform, leaf_feature, leaf_passed}
use Rattle.combine.proofs.Table.{named_place, named_class}

-- both are leaves of these bits
abbrev pub both_leaves : Pair → ℕ × ℕ → Type 0
both_leaves y b = Some b ≡ both_of y.first.leaf y.second.leaf

abbrev pub not_both : Pair → Type 0
not_both y = None ≡ both_of y.first.leaf y.second.leaf

both_are : (o q : Option ℕ) (b : ℕ × ℕ) → Some b ≡ both_of o q → (o ≡ Some b.0) × (q ≡ Some b.1)
both_are None q b e = absurd (let f = e in cc)
both_are (Some a) None b e = absurd (let f = e in cc)
both_are (Some a) (Some c) b e =
    let f : b ≡ (a, c) = cc in
    (ap (λ x. Some x.0) (sym f), ap (λ x. Some x.1) (sym f))

-- two leaves
module _ {p q : Picture} {k r c κ : ℕ} {bits₁ bits₂ : List ℕ} {step : ℕ} {x y : Pair} (b : ℕ × ℕ) (s : Seen p q k r c κ bits₁ bits₂ step x) (e : BothEntered bits₁ bits₂ x y) (t : both_leaves y b) where
  first_leaf : y.first.leaf ≡ Some b.0
  first_leaf = (both_are y.first.leaf y.second.leaf b t).0

  second_leaf : y.second.leaf ≡ Some b.1
  second_leaf = (both_are y.first.leaf y.second.leaf b t).1

  leaves_pass : Passes p q k r c κ x (passed_to x y)
  leaves_pass = record {
    first_next = record { same_leaf = refl; at_is = leaf_passed s.first_at e.first_in b.0 first_leaf };
    second_next = record { same_leaf = refl; at_is = leaf_passed s.second_at e.second_in b.1 second_leaf };
  }

  leaves_one : (table : List ℕ) (s₂ : ℕ) → one_feature (combined p q table s₂) k r c ≡ true
  leaves_one table s₂ =
      combined_one p q table s₂ k r c (leaf_uniform s.first_at e.first_in b.0 first_leaf) (leaf_uniform s.second_at e.second_in b.1 second_leaf)

  first_feature : feature_of b.0 ≡ p r c
  first_feature = leaf_feature s.first_at e.first_in b.0 first_leaf

  second_feature : feature_of b.1 ≡ q r c
  second_feature = leaf_feature s.second_at e.second_in b.1 second_leaf

  -- the class of the leaves is that of the block's first pixel
  leaves_class : (table : List ℕ) (s₂ : ℕ) → class_of table s₂ (feature_of b.0) (feature_of b.1) ≡ class_of table s₂ (p r c) (q r c)
  leaves_class table s₂ = ap₂ (class_of table s₂) first_feature second_feature

  leaves_bits : (table : List ℕ) (s₂ u : ℕ) → u ≡ 2 ^ class_of table s₂ (feature_of b.0) (feature_of b.1) → u ≡ 2 ^ combined p q table s₂ r c
  leaves_bits table s₂ u g = g ∙ ap (λ f. 2 ^ f) (leaves_class table s₂ ∙ sym (combined_is p q table s₂ r c))

  pub leaves_slots : (one_slot b.0 ≡ true) × (one_slot b.1 ≡ true)
  leaves_slots = ((entered_leaf s.first_at e.first_in b.0 first_leaf).1, (entered_leaf s.second_at e.second_in b.1 second_leaf).1)

  pub leaves_named : {table : List ℕ} {s₂ : ℕ} → Named p q k r c table s₂
      → (feature_of b.0 * s₂ + feature_of b.1 < length table) × (class_of table s₂ (feature_of b.0) (feature_of b.1) < slot_limit)
  leaves_named {table} {s₂} n =
      let h = named_place n in
      let g = ap₂ (λ a b. a * s₂ + b) first_feature second_feature in
      (rw g h, rw (leaves_class table s₂) (named_class n))

-- what is counted, and what is written, of two leaves
module _ {bits₁ bits₂ : List ℕ} {x y z : Pair} {u : ℕ} {table : List ℕ} {s₂ : ℕ} (b : ℕ × ℕ)
    (e : BothEntered bits₁ bits₂ x y) (t : both_leaves y b) (g : u ≡ 2 ^ class_of table s₂ (feature_of b.0) (feature_of b.1)) (f : z ≡ passed_to x y) where
  pub leaves_counted : {step : ℕ} → CombinedCounted bits₁ bits₂ table s₂ step x u 1 z
  leaves_counted = record {
    passes = λ p q k r c κ s. rw f (leaves_pass b s e t);
    tallied = λ p q k r c κ s. tallied_one k (leaves_one b s e t table s₂) (tallied_pixel (combined p q table s₂) r c u (leaves_bits b s e t table s₂ u g));
  }

  pub leaves_made : {span : KeySpan} (place : ℕ) (keys bits : List ℕ) → Made bits₁ bits₂ table s₂ span x place keys bits keys bits u (place + 1) z
  leaves_made {span} place keys bits = record {
    passes = λ p q k r c κ s. rw f (leaves_pass b s e t);
    written = λ p q k r c κ s.
        written_one (combined p q table s₂) k r c span.key place u (place + 1) keys bits (leaves_one b s e t table s₂) (leaves_bits b s e t table s₂ u g) refl;
  }

-- a pixel is a leaf in both
pub pair_not_pixel : {p q : Picture} {r c κ : ℕ} {bits₁ bits₂ : List ℕ} {step : ℕ} {x y : Pair} → Seen p q zero r c κ bits₁ bits₂ step x → BothEntered bits₁ bits₂ x y → not_both y → ⊥
pair_not_pixel {p} {q} {r} {c} {y = y} s e n =
    leaf_or_none y.first.leaf
    (λ z. true≢false (sym (one_pixel p r c) ∙ entered_several s.first_at e.first_in z))
    (λ u h. leaf_or_none y.second.leaf
    (λ z. true≢false (sym (one_pixel q r c) ∙ entered_several s.second_at e.second_in z))
    (λ v i. let f : None ≡ Some (u, v) = n ∙ ap₂ both_of h i in cc))

pub positive_height : {p q : Picture} {r c κ : ℕ} {bits₁ bits₂ : List ℕ} {step : ℕ} {x y : Pair} (k : ℕ)
    → Seen p q k r c κ bits₁ bits₂ step x → BothEntered bits₁ bits₂ x y → not_both y → 0 < k
positive_height zero s e n = absurd (pair_not_pixel s e n)
positive_height (suc k) s e n = omega arith
