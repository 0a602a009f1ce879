-- Ancestors by squares, as specification S3.16 and S3.17 have them, and by intervals of keys. Rests on Interval (nest, apart), Valid and Pixel (inside).
use Prim.Native.Nat.{ℕ, ◌+◌, ◌^◌, ◌≤◌, ◌<◌}
use native.Mathlib.Omega.{arith}
use mathlib.Core.Path.{◌≡◌, sym, ap, ◌∙◌}
use mathlib.Core.Bool.{Bool, true, false, not, ◌&&◌}
use mathlib.Core.Logic.{◌↔◌, ◌≢◌}
use lib.Dec.{leb, ltb, eqb}
use lib.Pow.{pow-lt}
use borrow.Author.Tests.{leb-true, ltb-true, eqb-false, le-leb, lt-ltb, le-ltb, ne_eqb, not-true}
use Rattle.keys.specs.Key.{height_of, valid_key}
use Rattle.keys.specs.Block.{side_of, contains, is_ancestor, in_interval}
use Rattle.keys.proofs.Cases.{split, equal, and_left, and_right, and_both, same_test}
use Rattle.keys.specs.Under.{Under, MapBlock, InSquare}
use Rattle.keys.proofs.Interval.{within, key_within, nest, intervals-apart}
use Rattle.keys.proofs.Powers.{two_pos}
use Rattle.keys.proofs.Valid.{Is, valid_block, block_valid}
use Rattle.keys.proofs.Pixel.{inside}
use Rattle.keys.proofs.InBlock.{in_interval-iff}

-- the second square lies in the first
pub record HoldsSquare (k₁ r₁ c₁ k₂ r₂ c₂ : ℕ) : Type 0 where
  pub top : r₁ ≤ r₂
  pub bottom : r₂ + 2 ^ k₂ ≤ r₁ + 2 ^ k₁
  pub left : c₁ ≤ c₂
  pub right : c₂ + 2 ^ k₂ ≤ c₁ + 2 ^ k₁

-- a larger side is a larger height
pub height_of_side : (k₁ k₂ : ℕ) → 2 ^ k₁ ≤ 2 ^ k₂ → k₁ ≤ k₂
height_of_side k₁ k₂ le = split k₂ k₁ (λ lt. absurd (let p = pow-lt lt in omega arith)) (λ ge. ge)

-- a block whose square lies in another's lies under it
pub holds_under : {m k₁ r₁ c₁ κ₁ k₂ r₂ c₂ κ₂ : ℕ}
    → MapBlock m k₁ r₁ c₁ κ₁
    → MapBlock m k₂ r₂ c₂ κ₂
    → HoldsSquare k₁ r₁ c₁ k₂ r₂ c₂
    → Under k₁ r₁ c₁ κ₁ k₂ r₂ c₂ κ₂
holds_under {k₁} {r₁} {c₁} {k₂} {r₂} {c₂} a b h =
    let p = two_pos k₂ in
    let s : InSquare k₁ r₁ c₁ r₂ c₂ = omega arith in
    let t : InSquare k₂ r₂ c₂ r₂ c₂ = omega arith in
    let i = inside a s in
    let j = inside b t in
    intervals-apart a b (λ u. u)
    (λ v.
    let w = within v in
    let e : k₁ ≡ k₂ = omega (arith, height_of_side k₂ k₁ (omega arith)) in
    let f = ap (λ k. 5 ^ k) e in
    nest a b (omega arith) (omega arith))
    (λ before. absurd (omega arith))
    (λ after. absurd (omega arith))

-- the square of a block lies in that of any block that it lies under
pub under_holds : {k₁ r₁ c₁ κ₁ k₂ r₂ c₂ κ₂ : ℕ} → Under k₁ r₁ c₁ κ₁ k₂ r₂ c₂ κ₂ → HoldsSquare k₁ r₁ c₁ k₂ r₂ c₂
under_holds u = let w = within u in omega arith

abbrev holds_test : ℕ → ℕ → ℕ → ℕ → ℕ → ℕ → Bool
holds_test k₁ r₁ c₁ k₂ r₂ c₂ = leb r₁ r₂ && leb (r₂ + 2 ^ k₂) (r₁ + 2 ^ k₁) && (leb c₁ c₂ && leb (c₂ + 2 ^ k₂) (c₁ + 2 ^ k₁))

holds_true : (k₁ r₁ c₁ k₂ r₂ c₂ : ℕ) → holds_test k₁ r₁ c₁ k₂ r₂ c₂ ≡ true → HoldsSquare k₁ r₁ c₁ k₂ r₂ c₂
holds_true k₁ r₁ c₁ k₂ r₂ c₂ e =
    let rows = and_left (leb r₁ r₂ && leb (r₂ + 2 ^ k₂) (r₁ + 2 ^ k₁)) _ e in
    let columns = and_right (leb r₁ r₂ && leb (r₂ + 2 ^ k₂) (r₁ + 2 ^ k₁)) _ e in
    record {
      top = leb-true _ _ (and_left _ _ rows);
      bottom = leb-true _ _ (and_right (leb r₁ r₂) _ rows);
      left = leb-true _ _ (and_left _ _ columns);
      right = leb-true _ _ (and_right (leb c₁ c₂) _ columns);
    }

true_holds : (k₁ r₁ c₁ k₂ r₂ c₂ : ℕ) → HoldsSquare k₁ r₁ c₁ k₂ r₂ c₂ → holds_test k₁ r₁ c₁ k₂ r₂ c₂ ≡ true
true_holds k₁ r₁ c₁ k₂ r₂ c₂ h =
    and_both _ _ (and_both _ _ (le-leb _ _ h.top) (le-leb _ _ h.bottom)) (and_both _ _ (le-leb _ _ h.left) (le-leb _ _ h.right))

holds_test_of : {m k₁ r₁ c₁ κ₁ k₂ r₂ c₂ κ₂ : ℕ} → Is m k₁ r₁ c₁ κ₁ → Is m k₂ r₂ c₂ κ₂ → contains m κ₁ κ₂ ≡ holds_test k₁ r₁ c₁ k₂ r₂ c₂
unfolding contains side_of
holds_test_of i j = rw (i.row, i.column, i.height, j.row, j.column, j.height)

-- block a contains block b exactly when b lies under a
pub contains_iff : {m k₁ r₁ c₁ a k₂ r₂ c₂ b : ℕ} → MapBlock m k₁ r₁ c₁ a → MapBlock m k₂ r₂ c₂ b → (contains m a b ≡ true) ↔ Under k₁ r₁ c₁ a k₂ r₂ c₂ b
contains_iff {k₁} {r₁} {c₁} {k₂} {r₂} {c₂} u v =
    let e = holds_test_of (block_valid u) (block_valid v) in (
      (λ t. holds_under u v (holds_true k₁ r₁ c₁ k₂ r₂ c₂ (sym e ∙ t))),
      (λ w. e ∙ true_holds k₁ r₁ c₁ k₂ r₂ c₂ (under_holds w)),
    )

-- b's key is in a's interval exactly when b lies under a
pub interval_iff : {m k₁ r₁ c₁ a k₂ r₂ c₂ b : ℕ} → MapBlock m k₁ r₁ c₁ a → MapBlock m k₂ r₂ c₂ b → (in_interval m a b ≡ true) ↔ Under k₁ r₁ c₁ a k₂ r₂ c₂ b
interval_iff {b} u v = (
  (λ t. let i = (in_interval-iff b u).0 t in nest u v i.from i.until),
  (λ w. let i = key_within w in (in_interval-iff b u).1 (omega arith)),
)

-- no block is its own ancestor
pub not_own_ancestor : (m a : ℕ) → is_ancestor m a a ≡ false
unfolding is_ancestor
not_own_ancestor m a = rw (le-ltb (side_of m a) (side_of m a) (omega arith))

-- a block under another with a key of its own is lower
pub under_lower : {k₁ r₁ c₁ a k₂ r₂ c₂ b : ℕ} → Under k₁ r₁ c₁ a k₂ r₂ c₂ b → a ≢ b → k₂ < k₁
under_lower {k₁} {k₂} u other =
    let w = within u in
    equal k₂ k₁ (λ e. let f = ap (λ k. 5 ^ k) e in absurd (other (omega arith))) (λ less. omega arith)

-- block a is an ancestor of block b exactly when b lies under a and is another
pub ancestor_iff : {m k₁ r₁ c₁ a k₂ r₂ c₂ b : ℕ}
    → MapBlock m k₁ r₁ c₁ a
    → MapBlock m k₂ r₂ c₂ b
    → (is_ancestor m a b ≡ true) ↔ (Under k₁ r₁ c₁ a k₂ r₂ c₂ b × (a ≢ b))
unfolding is_ancestor side_of
ancestor_iff {m} {k₁} {a} {k₂} {b} u v =
    let c = contains_iff u v in
    let i = (block_valid u).height in
    let j = (block_valid v).height in (
      (λ t.
          let l = ltb-true (2 ^ height_of m b) (2 ^ height_of m a) (and_left _ _ t) in (
            c.0 (and_right (ltb (2 ^ height_of m b) (2 ^ height_of m a)) _ t),
            (λ e. let f = ap (λ x. 2 ^ height_of m x) e in omega arith),
          )),
      (λ w.
          let l = pow-lt (under_lower w.0 w.1) in
          let e : ltb (2 ^ height_of m b) (2 ^ height_of m a) ≡ true = rw (i, j) (lt-ltb _ _ l) in
          and_both _ _ e (c.1 w.0)),
    )

module _ (m a b : ℕ) (valid-a : valid_key m a ≡ true) (valid-b : valid_key m b ≡ true) where
  -- a is an ancestor of b exactly when b's key is another in a's interval
  pub ancestor_interval_iff : (is_ancestor m a b ≡ true) ↔ ((in_interval m a b ≡ true) × (a ≢ b))
  ancestor_interval_iff =
      let c = ancestor_iff (valid_block m a valid-a) (valid_block m b valid-b) in
      let i = interval_iff (valid_block m a valid-a) (valid_block m b valid-b) in
      ((λ t. (i.1 (c.0 t).0, (c.0 t).1)), (λ w. c.1 (i.0 w.0, w.1)))

  -- the same as one equation of tests
  pub ancestor_interval : is_ancestor m a b ≡ in_interval m a b && not (eqb a b)
  ancestor_interval =
      same_test _ _ (λ t. let w = ancestor_interval_iff.0 t in and_both _ _ w.0 (rw (ne_eqb a b w.1)))
      (λ t.
      ancestor_interval_iff.1
      (and_left (in_interval m a b) _ t, eqb-false a b (not-true (eqb a b) (and_right (in_interval m a b) _ t))))
