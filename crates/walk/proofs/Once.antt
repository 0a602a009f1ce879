-- The blocks that select gives are disjoint, and together they have exactly the window's pixels of feature f, each once (specification S6).
-- Rests on the meaning of select and on the laws of blocks.
use Prim.Native.Nat.{ℕ, zero, suc, ◌+◌, ◌^◌, ◌≤◌}
use mathlib.Core.Path.{◌≡◌, sym, ◌∙◌, ap₂}
use mathlib.Core.Logic.{◌↔◌}
use mathlib.Core.Bool.{true, false, true≢false}
use native.Mathlib.Nat.{pow-suc}
use native.Mathlib.Omega.{arith}
use Rattle.keys.specs.Key.{child_key}
use Rattle.keys.proofs.Cases.{decide, split}
use Rattle.keys.proofs.Powers.{five_pos, five_le}
use Rattle.keys.specs.Under.{Under, here, Quadrant, is_nw, is_ne, is_sw, is_se, InSquare}
use Rattle.keys.proofs.Under.{under_trans, quadrant_under}
use Rattle.keys.proofs.Interval.{within, intervals-apart, nest, one_block}
use Rattle.keys.proofs.Pixel.{inside}
use Rattle.definitions.specs.Picture.{Picture}
use Rattle.definitions.specs.Window.{in_window, is_given}
use Rattle.definitions.specs.declared.Window.{Window}
use Rattle.laws.proofs.SelectMeans.{given_inside, given_feature, given_of, given_under, Largest, is_outer, has_parent, Selected}

-- a block under another that has the same height has the same key
same_height : {k r c κ k' r' c' κ' : ℕ} → Under k r c κ k' r' c' κ' → k ≤ k' → κ ≡ κ'
same_height {k} {k' = k'} u high = let w = within u in let p = five_le k' high in omega arith

module _ (p : Picture) (w : Window) (f : ℕ) where
  -- between a block and its parent there is no other
  next_to : {k r c κ k₁ r₁ c₁ κ₁ r' c' κ' k₂ r₂ c₂ κ₂ : ℕ}
      → Under k r c κ (suc k₁) r₁ c₁ κ₁
      → Quadrant k₁ r₁ c₁ κ₁ r' c' κ'
      → is_given p w f (suc k₁) r₁ c₁ ≡ false
      → Under k r c κ k₂ r₂ c₂ κ₂
      → is_given p w f k₂ r₂ c₂ ≡ true
      → Under k₂ r₂ c₂ κ₂ k₁ r' c' κ'
      → κ₂ ≡ κ'
  next_to {k₁ = k₁} {r₁} {c₁} {κ₁} {r'} {c'} {κ'} {k₂} {r₂} {c₂} {κ₂} u q e v g h =
      let lower = within h in
      let own = within (quadrant_under q) in
      let z = five_pos k₁ in
      intervals-apart u v
      (λ inner. let i = within inner in
      split k₂ (suc k₁)
      (λ low. same_height h (omega arith))
      (λ high.
      let same = one_block u v (same_height inner high) in
      absurd (true≢false (sym (given_under p w f (nest v u (omega arith) (omega arith)) g) ∙ e))))
      (λ outer. absurd (true≢false (sym (given_under p w f outer g) ∙ e)))
      (λ past. absurd (omega arith))
      (λ past. absurd (omega arith))

  -- a largest given block lies under no other given block
  pub largest_alone : {k r c κ k₁ r₁ c₁ κ₁ k₂ r₂ c₂ κ₂ : ℕ}
      → Largest p w f k r c κ k₁ r₁ c₁ κ₁
      → Under k r c κ k₂ r₂ c₂ κ₂
      → is_given p w f k₂ r₂ c₂ ≡ true
      → Under k₂ r₂ c₂ κ₂ k₁ r₁ c₁ κ₁
      → κ₂ ≡ κ₁
  largest_alone is_outer v g h = let a = within v in let b = within h in omega arith
  largest_alone (has_parent u q e) v g h = next_to u q e v g h

  -- two selected blocks are one, or the keys of one come before those of the other
  pub selected-apart {ℓ} : {C : Type ℓ} {k r c κ x y : ℕ}
      → (s : Selected p w f k r c κ x)
      → (t : Selected p w f k r c κ y)
      → (x ≡ y → C)
      → (x + 5 ^ s.height ≤ y → C)
      → (y + 5 ^ t.height ≤ x → C)
      → C
  selected-apart s t same before after =
      intervals-apart s.under t.under
      (λ u. same (largest_alone t.largest s.under s.given u))
      (λ u. same (sym (largest_alone s.largest t.under t.given u)))
      before
      after

  -- a pixel of a selected block
  pub record Covered (k r c κ row column : ℕ) : Type 0 where
    pub key : ℕ
    pub selected : Selected p w f k r c κ key
    pub holds : InSquare selected.height selected.row selected.column row column

  -- two selected blocks that have a pixel in common are one
  pub covered_once : {m row column x y : ℕ}
      → (s : Selected p w f m 0 0 0 x)
      → (t : Selected p w f m 0 0 0 y)
      → InSquare s.height s.row s.column row column
      → InSquare t.height t.row t.column row column
      → x ≡ y
  covered_once {m} {row} {column} {x} {y} s t i j =
      let a = inside {row = row} {column = column} s.under (omega arith) in
      let b = inside {row = row} {column = column} t.under (omega arith) in
      selected-apart s t (λ e. e) (λ past. absurd (omega arith)) (λ past. absurd (omega arith))

  largest_over : {k r c κ r' c' κ' k₂ r₂ c₂ κ₂ : ℕ}
      → is_given p w f (suc k) r c ≡ false
      → Quadrant k r c κ r' c' κ'
      → Largest p w f k r' c' κ' k₂ r₂ c₂ κ₂
      → Largest p w f (suc k) r c κ k₂ r₂ c₂ κ₂
  largest_over e q is_outer = has_parent here q e
  largest_over e q (has_parent u q₁ e₁) = has_parent (under_trans (quadrant_under q) u) q₁ e₁

  -- what covers a pixel of a quadrant covers it in the block, if that is not given
  covered_over : {k r c κ r' c' κ' row column : ℕ}
      → is_given p w f (suc k) r c ≡ false
      → Quadrant k r c κ r' c' κ'
      → Covered k r' c' κ' row column
      → Covered (suc k) r c κ row column
  covered_over e q x =
      record {
        key = x.key;
        selected = record {
          height = x.selected.height;
          row = x.selected.row;
          column = x.selected.column;
          under = under_trans (quadrant_under q) x.selected.under;
          given = x.selected.given;
          largest = largest_over e q x.selected.largest;
        };
        holds = x.holds;
      }

  covered_self : {k r c κ row column : ℕ} → is_given p w f k r c ≡ true → InSquare k r c row column → Covered k r c κ row column
  covered_self {k} {r} {c} {κ} e i =
      record { key = κ; selected = record { height = k; row = r; column = c; under = here; given = e; largest = is_outer }; holds = i }

  -- each pixel of the window that has feature f lies in a selected block
  pub covers : (k r c κ row column : ℕ) → InSquare k r c row column → in_window w row column ≡ true → p row column ≡ f → Covered k r c κ row column
  covers zero r c κ row column i window_has has =
      covered_self
      (given_of p w f zero r c
      (λ row' column' j.
      let same_row : row' ≡ row = omega arith in
      let same-column : column' ≡ column = omega arith in
      (ap₂ (in_window w) same_row same-column ∙ window_has, ap₂ p same_row same-column ∙ has)))
      i
  covers (suc k) r c κ row column i window_has has =
      decide (is_given p w f (suc k) r c) (λ e. covered_self e i)
      (λ e.
      let two = pow-suc 2 k in
      split row (r + 2 ^ k)
      (λ north. split column (c + 2 ^ k)
      (λ west. covered_over e is_nw (covers k r c (child_key κ k 1) row column (omega arith) window_has has))
      (λ east. covered_over e is_ne (covers k r (c + 2 ^ k) (child_key κ k 2) row column (omega arith) window_has has)))
      (λ south. split column (c + 2 ^ k)
      (λ west. covered_over e is_sw (covers k (r + 2 ^ k) c (child_key κ k 3) row column (omega arith) window_has has))
      (λ east. covered_over e is_se (covers k (r + 2 ^ k) (c + 2 ^ k) (child_key κ k 4) row column (omega arith) window_has has))))

  -- the selected blocks have exactly the window's pixels of feature f
  pub covered_exactly : {k r c κ row column : ℕ} → InSquare k r c row column → Covered k r c κ row column ↔ ((in_window w row column ≡ true) × (p row column ≡ f))
  covered_exactly {k} {r} {c} {κ} {row} {column} i = (
    λ x. (
      given_inside p w f x.selected.height x.selected.row x.selected.column x.selected.given x.holds,
      given_feature p w f x.selected.height x.selected.row x.selected.column x.selected.given x.holds,
    ),
    λ h. covers k r c κ row column i h.0 h.1,
  )
