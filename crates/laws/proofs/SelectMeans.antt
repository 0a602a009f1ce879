-- Select gives a block exactly when all its pixels lie in the window and have feature f, and it is the outer block (the root) or its parent does
-- not satisfy this (specification S6.7). Rests on BlocksFrom and FourLists.
use Prim.Native.Nat.{ℕ, zero, suc, ◌+◌, ◌^◌}
use mathlib.Core.Path.{◌≡◌, refl, sym, subst, ◌∙◌}
use mathlib.Core.Logic.{◌↔◌}
use mathlib.Core.Bool.{true, false}
use mathlib.Core.List.Memᴰ
use mathlib.Core.List.{List, [], ◌∷◌, ◌++◌, Memᴰ}
use borrow.Author.Tests.{eqb-true, eq-eqb}
use Rattle.keys.specs.Key.{child_key}
use Rattle.keys.proofs.Cases.{decide, and_left, and_right, and_both}
use Rattle.keys.specs.Under.{Under, here, nw, ne, sw, se, Quadrant, is_nw, is_ne, is_sw, is_se, InSquare}
use Rattle.keys.proofs.Under.{under_trans, quadrant_under}
use Rattle.definitions.specs.Picture.{Picture}
use Rattle.definitions.specs.Window.{in_window, has_in, is_given, select_from, select_in}
use Rattle.definitions.specs.declared.Window.{Window}
use Rattle.laws.proofs.FourLists.{one-of-four, IntoFour, into_four}
use Rattle.laws.proofs.Pixels.{every_under, every_to, every_from}
use Rattle.laws.proofs.BlocksFrom.{blocks_one, blocks_none, blocks_part}

module _ (p : Picture) (w : Window) (f : ℕ) where
  -- each pixel of a given block lies in the window
  pub given_inside : (k r c : ℕ) {row column : ℕ} → is_given p w f k r c ≡ true → InSquare k r c row column → in_window w row column ≡ true
  unfolding is_given
  given_inside k r c e h = and_left _ _ (every_to _ k r c e _ _ h)

  -- each pixel of a given block has feature f
  pub given_feature : (k r c : ℕ) {row column : ℕ} → is_given p w f k r c ≡ true → InSquare k r c row column → p row column ≡ f
  unfolding is_given
  given_feature k r c {row} {column} e h = eqb-true _ _ (and_right (in_window w row column) _ (every_to _ k r c e row column h))

  -- a block whose pixels all lie in the window and have feature f is given
  pub given_of : (k r c : ℕ) → ((row column : ℕ) → InSquare k r c row column → (in_window w row column ≡ true) × (p row column ≡ f)) → is_given p w f k r c ≡ true
  unfolding is_given
  given_of k r c each = every_from _ k r c (λ row column h. let both = each row column h in and_both _ _ both.0 (eq-eqb _ _ both.1))

  -- what lies under a given block is given
  pub given_under : {k r c κ k' r' c' κ' : ℕ} → Under k r c κ k' r' c' κ' → is_given p w f k r c ≡ true → is_given p w f k' r' c' ≡ true
  unfolding is_given
  given_under u e = every_under _ u e

  -- what has a block under it that is not given is not given
  pub not_given_over : {k r c κ k' r' c' κ' : ℕ} → Under k r c κ k' r' c' κ' → is_given p w f k' r' c' ≡ false → is_given p w f k r c ≡ false
  not_given_over {k} {r} {c} u e = decide (is_given p w f k r c) (λ given. given ∙ sym (given_under u given) ∙ e) (λ other. other)

  -- the block (k' r' c' κ') is the outer block, or has a parent in it that is not given
  pub data Largest : ℕ → ℕ → ℕ → ℕ → ℕ → ℕ → ℕ → ℕ → Type 0 where
    is_outer : {k r c κ : ℕ} → Largest k r c κ k r c κ
    has_parent : {k r c κ k' r₁ c₁ κ₁ r' c' κ' : ℕ}
        → Under k r c κ (suc k') r₁ c₁ κ₁ → Quadrant k' r₁ c₁ κ₁ r' c' κ' → is_given p w f (suc k') r₁ c₁ ≡ false
        → Largest k r c κ k' r' c' κ'

  -- x is the key of a block at or under the outer block that is given and largest
  pub record Selected (k r c κ x : ℕ) : Type 0 where
    pub height : ℕ
    pub row : ℕ
    pub column : ℕ
    pub under : Under k r c κ height row column x
    pub given : is_given p w f height row column ≡ true
    pub largest : Largest k r c κ height row column x

  -- the keys that the four quadrants give, one after the other
  abbrev pub from_quadrants : ℕ → ℕ → ℕ → ℕ → List ℕ
  from_quadrants k r c κ =
      select_from p w f k r c (child_key κ k 1)
      ++ (select_from p w f k r (c + 2 ^ k) (child_key κ k 2)
      ++ (select_from p w f k (r + 2 ^ k) c (child_key κ k 3) ++ select_from p w f k (r + 2 ^ k) (c + 2 ^ k) (child_key κ k 4)))

  -- a given block gives itself
  pub select_given : (k r c κ : ℕ) → is_given p w f k r c ≡ true → select_from p w f k r c κ ≡ κ ∷ []
  unfolding is_given
  select_given k r c κ e = blocks_one (has_in p w f) k r c κ e

  -- a pixel that is not given gives nothing
  pub select_pixel : (r c κ : ℕ) → is_given p w f 0 r c ≡ false → select_from p w f 0 r c κ ≡ []
  unfolding is_given
  select_pixel r c κ e = blocks_none (has_in p w f) r c κ e

  -- a larger block that is not given gives what its quadrants give
  pub select_quadrants : (k r c κ : ℕ) → is_given p w f (suc k) r c ≡ false → select_from p w f (suc k) r c κ ≡ from_quadrants k r c κ
  unfolding is_given
  select_quadrants k r c κ e = blocks_part (has_in p w f) k r c κ e

  largest_over : {k r c κ r' c' κ' k₂ r₂ c₂ κ₂ : ℕ} → is_given p w f (suc k) r c ≡ false → Quadrant k r c κ r' c' κ'
      → Largest k r' c' κ' k₂ r₂ c₂ κ₂ → Largest (suc k) r c κ k₂ r₂ c₂ κ₂
  largest_over e q is_outer = has_parent here q e
  largest_over e q (has_parent u q₁ e₁) = has_parent (under_trans (quadrant_under q) u) q₁ e₁

  -- what is selected in a quadrant of a block that is not given is selected in the block
  selected_over : {k r c κ r' c' κ' x : ℕ} → is_given p w f (suc k) r c ≡ false → Quadrant k r c κ r' c' κ' → Selected k r' c' κ' x → Selected (suc k) r c κ x
  selected_over e q s =
      record {
        height = s.height;
        row = s.row;
        column = s.column;
        under = under_trans (quadrant_under q) s.under;
        given = s.given;
        largest = largest_over e q s.largest;
      }

  -- a given block selects itself
  selected_self : {k r c κ x : ℕ} → is_given p w f k r c ≡ true → x ≡ κ → Selected k r c κ x
  selected_self {k} {r} {c} {κ} e same =
      subst (λ y. Selected k r c κ y) (sym same) (record { height = k; row = r; column = c; under = here; given = e; largest = is_outer })

  -- only such blocks are given
  pub select_only : (k r c κ : ℕ) {x : ℕ} → Memᴰ x (select_from p w f k r c κ) → Selected k r c κ x
  select_only zero r c κ {x} h =
      decide (is_given p w f 0 r c)
      (λ e. selected_self e (Memᴰ.eq_of_singleton (rw (select_given 0 r c κ e) at h)))
      (λ e. absurd (Memᴰ.not-nil (rw (select_pixel r c κ e) at h)))
  select_only (suc k) r c κ {x} h =
      decide (is_given p w f (suc k) r c)
      (λ e. selected_self e (Memᴰ.eq_of_singleton (rw (select_given (suc k) r c κ e) at h)))
      (λ e. one-of-four _ _ _ _
      (λ h₁. selected_over e is_nw (select_only k r c (child_key κ k 1) h₁))
      (λ h₂. selected_over e is_ne (select_only k r (c + 2 ^ k) (child_key κ k 2) h₂))
      (λ h₃. selected_over e is_sw (select_only k (r + 2 ^ k) c (child_key κ k 3) h₃))
      (λ h₄. selected_over e is_se (select_only k (r + 2 ^ k) (c + 2 ^ k) (child_key κ k 4) h₄))
      (rw (select_quadrants k r c κ e) at h))

  into_quadrants : (k r c κ : ℕ)
      → IntoFour
      (select_from p w f k r c (child_key κ k 1))
      (select_from p w f k r (c + 2 ^ k) (child_key κ k 2))
      (select_from p w f k (r + 2 ^ k) c (child_key κ k 3))
      (select_from p w f k (r + 2 ^ k) (c + 2 ^ k) (child_key κ k 4))
  into_quadrants k r c κ = into_four _ _ _ _

  -- what a quadrant gives, its parent gives where it is not given itself
  pub select_over : {k r c κ r' c' κ' x : ℕ} → is_given p w f (suc k) r c ≡ false → Quadrant k r c κ r' c' κ' → Memᴰ x (select_from p w f k r' c' κ')
      → Memᴰ x (select_from p w f (suc k) r c κ)
  select_over e (is_nw {k} {r} {c} {κ}) h = rw (select_quadrants k r c κ e) ((into_quadrants k r c κ).first h)
  select_over e (is_ne {k} {r} {c} {κ}) h = rw (select_quadrants k r c κ e) ((into_quadrants k r c κ).second h)
  select_over e (is_sw {k} {r} {c} {κ}) h = rw (select_quadrants k r c κ e) ((into_quadrants k r c κ).third h)
  select_over e (is_se {k} {r} {c} {κ}) h = rw (select_quadrants k r c κ e) ((into_quadrants k r c κ).fourth h)

  select_self : (k r c κ : ℕ) → is_given p w f k r c ≡ true → Memᴰ κ (select_from p w f k r c κ)
  select_self k r c κ e = rw (select_given k r c κ e) (Memᴰ.head refl)

  -- a given block whose parent is not given is given by every block around the parent
  select_parent : {k r c κ k' r₁ c₁ κ₁ r' c' κ' : ℕ} → Under k r c κ (suc k') r₁ c₁ κ₁ → Quadrant k' r₁ c₁ κ₁ r' c' κ'
      → is_given p w f (suc k') r₁ c₁ ≡ false → is_given p w f k' r' c' ≡ true
      → Memᴰ κ' (select_from p w f k r c κ)
  select_parent here q e g = select_over e q (select_self _ _ _ _ g)
  select_parent (nw u) q e g = select_over (not_given_over (nw u) e) is_nw (select_parent u q e g)
  select_parent (ne u) q e g = select_over (not_given_over (ne u) e) is_ne (select_parent u q e g)
  select_parent (sw u) q e g = select_over (not_given_over (sw u) e) is_sw (select_parent u q e g)
  select_parent (se u) q e g = select_over (not_given_over (se u) e) is_se (select_parent u q e g)

  select_largest : {k r c κ k' r' c' κ' : ℕ} → Largest k r c κ k' r' c' κ' → is_given p w f k' r' c' ≡ true → Memᴰ κ' (select_from p w f k r c κ)
  select_largest is_outer g = select_self _ _ _ _ g
  select_largest (has_parent u q e) g = select_parent u q e g

  -- every such block is given
  pub select_every : {k r c κ x : ℕ} → Selected k r c κ x → Memᴰ x (select_from p w f k r c κ)
  select_every s = select_largest s.largest s.given

  -- a key is given exactly when it is that of a block at or under the outer block whose pixels all lie in the window and have feature f, and which
  -- is the outer block or has a parent that does not satisfy this
  pub select_exactly : (k r c κ : ℕ) {x : ℕ} → Memᴰ x (select_from p w f k r c κ) ↔ Selected k r c κ x
  select_exactly k r c κ = (select_only k r c κ, select_every)

  -- the same of the whole map
  pub select_in_exactly : (m : ℕ) {x : ℕ} → Memᴰ x (select_in m p w f) ↔ Selected m 0 0 0 x
  unfolding select_in
  select_in_exactly m = select_exactly m 0 0 0
