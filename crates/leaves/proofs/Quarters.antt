-- The leaves of a block whose next leaf is not the block itself: those of its quadrants, by the keys, the step and the places that the code has.
-- Rests on EndOf.
use Prim.Native.Nat.{ℕ, zero, suc, ◌+◌, ◌-◌, ◌*◌, ◌/◌, ◌^◌, ◌≤◌, ◌<◌}
use mathlib.Core.Path.{◌≡◌, refl, sym, ◌∙◌, ap}
use mathlib.Core.List.{List}
use native.Mathlib.Omega.{arith}
use native.Mathlib.Nat.{mul-le-mul_right}
use lib.ListN.{length, get_or}
use Rattle.keys.specs.Key.{child_key}
use Rattle.keys.specs.Span.{child_span}
use Rattle.keys.specs.declared.span.KeySpan.{KeySpan}
use Rattle.keys.proofs.SpanChild.{fifth_of}
use Rattle.definitions.specs.Picture.{Picture}
use Rattle.leaves.specs.Delivered.{leaves_end, Parted, leaf, four, quad_span, LeavesAsked}
use Rattle.leaves.proofs.EndOf.{end_four}

-- a leaf is there
pub parted_there : {p : Picture} {keys features : List ℕ} {k r c κ at : ℕ} → Parted p keys features k r c κ at → at < length keys
parted_there (leaf h e o f) = h
parted_there (four h n x y z w) = h

-- a block that has not its own leaf has quadrants
pub parted_high : {p : Picture} {keys features : List ℕ} {k r c κ at : ℕ} → Parted p keys features k r c κ at → (get_or keys at 0 ≡ κ → ⊥) → 0 < k
parted_high (leaf h e o f) n = absurd (n e)
parted_high (four h n x y z w) m = omega arith

pub parted_at : {p : Picture} {keys features : List ℕ} {k r c κ at k' κ' at' : ℕ} → k ≡ k' → κ ≡ κ' → at ≡ at'
    → Parted p keys features k r c κ at
    → Parted p keys features k' r c κ' at'
parted_at e f g t = rw (← e, ← f, ← g) t

pub record PartedQuarters (p : Picture) (keys features : List ℕ) (k r c key step at second third fourth : ℕ) : Type 0 where
  pub nw : Parted p keys features k r c (key + step) at
  pub ne : Parted p keys features k r (c + 2 ^ k) (key + 2 * step) second
  pub sw : Parted p keys features k (r + 2 ^ k) c (key + 3 * step) third
  pub se : Parted p keys features k (r + 2 ^ k) (c + 2 ^ k) (key + 4 * step) fourth

-- the places where the quadrants' leaves begin
module _ (keys : List ℕ) (k key step at second third fourth : ℕ) (g : step ≡ 5 ^ k)
    (e₂ : second ≡ leaves_end keys k (key + step) at)
    (e₃ : third ≡ leaves_end keys k (key + 2 * step) second)
    (e₄ : fourth ≡ leaves_end keys k (key + 3 * step) third) where
  key₁ : child_key key k 1 ≡ key + step
  key₁ = omega arith

  key₂ : child_key key k 2 ≡ key + 2 * step
  key₂ = omega arith

  key₃ : child_key key k 3 ≡ key + 3 * step
  key₃ = omega arith

  key₄ : child_key key k 4 ≡ key + 4 * step
  key₄ = omega arith

  second_is : leaves_end keys k (child_key key k 1) at ≡ second
  second_is = ap (λ x. leaves_end keys k x at) key₁ ∙ sym e₂

  third_is : leaves_end keys k (child_key key k 2) (leaves_end keys k (child_key key k 1) at) ≡ third
  third_is = ap (λ x. leaves_end keys k x (leaves_end keys k (child_key key k 1) at)) key₂ ∙ ap (leaves_end keys k (key + 2 * step)) second_is ∙ sym e₃

  fourth_is : leaves_end keys k (child_key key k 3) (leaves_end keys k (child_key key k 2) (leaves_end keys k (child_key key k 1) at)) ≡ fourth
  fourth_is =
      ap (λ x. leaves_end keys k x (leaves_end keys k (child_key key k 2) (leaves_end keys k (child_key key k 1) at))) key₃
      ∙ ap (leaves_end keys k (key + 3 * step)) third_is
      ∙ sym e₄

  pub last_is : (last : ℕ) → at < length keys → (get_or keys at 0 ≡ key → ⊥) → last ≡ leaves_end keys k (key + 4 * step) fourth → last ≡ leaves_end keys (suc k) key at
  last_is last h n e =
      e
      ∙ ap (leaves_end keys k (key + 4 * step)) (sym fourth_is)
      ∙ ap (λ x. leaves_end keys k x (leaves_end keys k (child_key key k 3) (leaves_end keys k (child_key key k 2) (leaves_end keys k (child_key key k 1) at)))) (sym key₄)
      ∙ sym (end_four keys k key at h n)

  pub quarters : {p : Picture} {features : List ℕ} {r c : ℕ} → Parted p keys features (suc k) r c key at → (get_or keys at 0 ≡ key → ⊥)
      → PartedQuarters p keys features k r c key step at second third fourth
  quarters (leaf h e o f) n = absurd (n e)
  quarters (four h m x y z w) n = record {
    nw = parted_at refl key₁ refl x;
    ne = parted_at refl key₂ second_is y;
    sw = parted_at refl key₃ third_is z;
    se = parted_at refl key₄ fourth_is w;
  }

-- a block of more than one key has quadrants
pub height_some_below : (k : ℕ) {step : ℕ} → step ≡ 5 ^ k → (step ≡ 1 → ⊥) → k ≡ suc (k - 1)
height_some_below zero e n = absurd (n e)
height_some_below (suc k) e n = omega arith

-- the keys of a block of 2 by 2 pixels
pub quad_keys : (span : KeySpan) → span.step ≡ 5 → span ≡ quad_span span.key
quad_keys span e = ap (λ x. record { key = span.key; step = x }) e

module _ {keys features : List ℕ} {span : KeySpan} (a : LeavesAsked keys features span) (high : span.step ≡ 1 → ⊥) where
  pub one_higher : a.height ≡ suc (a.height - 1)
  one_higher = height_some_below a.height a.step_is high

  pub step_below : span.step / 5 ≡ 5 ^ (a.height - 1)
  step_below = fifth_of (a.height - 1) (a.step_is ∙ ap (λ x. 5 ^ x) one_higher)

  -- what is asked of a block is given for the quadrant of a digit
  unfoldable pub child_asked : (d : ℕ) → d ≤ 4 → LeavesAsked keys features (child_span span d)
  child_asked d low =
      let f = one_higher in
      let g = mul-le-mul_right (span.step / 5) low in
      record { height = a.height - 1; deep = omega (arith, a.deep); step_is = step_below; key_fits = omega (arith, a.key_fits); same = a.same; few = a.few }

  pub asked_child : (d : ℕ) → d ≤ 4 → {child : KeySpan} → child ≡ child_span span d → LeavesAsked keys features child
  asked_child d low e = rw e (child_asked d low)

-- the same keys
pub asked_at : {keys features : List ℕ} {span span' : KeySpan} → span ≡ span' → LeavesAsked keys features span → LeavesAsked keys features span'
asked_at e a = rw e at a

-- a pixel has its own leaf
pub parted_pixel : {p : Picture} {keys features : List ℕ} {r c κ at : ℕ} → Parted p keys features zero r c κ at → get_or keys at 0 ≡ κ
parted_pixel (leaf h e o f) = e
