-- The block that is filled: the one with key κ, or for a content of one record the largest block around it that has one feature in the new
-- picture. Every block around the filled one has several features there. Rests on Climb.
use Prim.Native.Nat.{ℕ, zero, suc, ◌+◌, ◌-◌}
use mathlib.Core.Path.{◌≡◌, refl, sym, ◌∙◌, ap, ap₂}
use mathlib.Core.Bool.{true, false, cond}
use mathlib.Core.List.{List, [], ◌∷◌}
use mathlib.Core.Logic.{◌⊎◌, inl, inr}
use native.Mathlib.Omega.{arith}
use lib.ListN.{length}
use borrow.Author.Tests.{eqb-true}
use Rattle.keys.specs.Key.{height_of}
use Rattle.keys.proofs.Cases.{decide}
use Rattle.keys.proofs.Powers.{five_pos}
use Rattle.keys.proofs.Valid.{block_valid}
use Rattle.keys.proofs.Pixel.{InKeys}
use Rattle.definitions.specs.Picture.{Picture, one_feature}
use Rattle.definitions.specs.Bits.{bits_of}
use Rattle.definitions.specs.List.{Record, record_of, list_of}
use Rattle.laws.proofs.Features.{one_pixel}
use Rattle.laws.proofs.BitsOf.{bits_one}
use Rattle.laws.proofs.ListOf.{list_head_first, list_one, length-several}
use Rattle.replace.specs.Family.{around}
use Rattle.replace.specs.Climb.{climb}
use Rattle.replace.specs.Put.{is_one_record, first_bits, top_for, top_of, filling}
use Rattle.replace.proofs.Way.{Way, under_of, steps, steps_height}
use Rattle.replace.proofs.Outside.{Outside}
use Rattle.replace.proofs.Context.{Open, open_up}
use Rattle.replace.proofs.Family.{around_is, keys_up}
use Rattle.replace.proofs.Climb.{Climbed, climbed}

-- a block's own key is one of its keys
pub own_key : (k κ : ℕ) → InKeys k κ κ
own_key k κ = let h = five_pos k in omega arith

-- the first bits of a block's list are the block's
pub first-bits : (p : Picture) (k r c κ : ℕ) → first_bits (list_of p k r c κ) ≡ bits_of p k r c
first-bits p k r c κ = ap first_bits (list_head_first p k r c κ).1

-- a list is one record exactly when the block has one feature
pub leaf_one : (p : Picture) (k r c κ : ℕ) → is_one_record (list_of p k r c κ) ≡ one_feature p k r c
leaf_one p zero r c κ = ap is_one_record (list_one p zero r c κ (one_pixel p r c)) ∙ sym (one_pixel p r c)
leaf_one p (suc k) r c κ =
    decide (one_feature p (suc k) r c) (λ e. ap is_one_record (list_one p (suc k) r c κ e) ∙ sym e)
    (λ e.
    let h = length-several p k r c κ e in
    decide (is_one_record (list_of p (suc k) r c κ)) (λ t. absurd (let i = eqb-true (length (list_of p (suc k) r c κ)) 1 t in omega arith)) (λ t. t ∙ sym e))

-- the list of a block of one feature, by its bits
pub list_bits : (p : Picture) (k r c κ : ℕ) → one_feature p k r c ≡ true → list_of p k r c κ ≡ record_of κ (bits_of p k r c) ∷ []
list_bits p k r c κ e = list_one p k r c κ e ∙ ap (λ b. record_of κ b ∷ []) (sym (bits_one p k r c e))

-- the block that is filled with a content, for a list l
pub record Chosen (p' : Picture) (m κ : ℕ) (l content : List Record) : Type 0 where
  pub height : ℕ
  pub row : ℕ
  pub column : ℕ
  pub key : ℕ
  pub way : Way m 0 0 0 height row column key
  pub holds : InKeys height key κ
  pub opens : Open p' way
  pub top_is : top_of m l κ content ≡ height
  pub fills : filling κ content height ≡ list_of p' height row column key
  pub bits_are : first_bits content ≡ bits_of p' height row column
  pub as_long : length (list_of p' height row column key) ≡ length content
  pub kind : (key ≡ κ) ⊎ (one_feature p' height row column ≡ true)

-- climbing goes from the block's height, with the levels above it
top_leaf : (m κ : ℕ) (l content : List Record) (k n b : ℕ) → is_one_record content ≡ true → height_of m κ ≡ k → n + k ≡ m → first_bits content ≡ b
    → top_of m l κ content ≡ climb l κ b n k
unfolding top_of top_for
top_leaf m κ l content k n b leaf height levels first =
    ap (λ t. cond t (climb l κ (first_bits content) (m - height_of m κ) (height_of m κ)) (height_of m κ)) leaf
    ∙ ap₂ (λ u h. climb l κ u (m - h) h) first height
    ∙ ap (λ u. climb l κ b u k) (omega arith)

-- a content of several records fills its own block
pub top_node : (m κ : ℕ) (l content : List Record) → is_one_record content ≡ false → top_of m l κ content ≡ height_of m κ
unfolding top_of top_for
top_node m κ l content e = rw e

-- one record fills a block with the block's own key
pub filling_leaf : (κ h x : ℕ) (content : List Record) → is_one_record content ≡ true → around h κ ≡ x → filling κ content h ≡ record_of x (first_bits content) ∷ []
unfolding filling
filling_leaf κ h x content leaf e =
    ap (λ t. cond t (record_of (around h κ) (first_bits content) ∷ []) content) leaf ∙ ap (λ y. record_of y (first_bits content) ∷ []) e

-- several records fill it as they are
pub filling_node : (κ h : ℕ) (content : List Record) → is_one_record content ≡ false → filling κ content h ≡ content
unfolding filling
filling_node κ h content e = rw e

module _ (p p' : Picture) {m k r c κ : ℕ} (w : Way m 0 0 0 k r c κ) where
  -- a content of one record
  chosen_leaf : one_feature p' k r c ≡ true → Climbed p p' m k r c κ κ (steps w) → Chosen p' m κ (list_of p m 0 0 0) (list_of p' k r c κ)
  chosen_leaf one y =
      let leaf = leaf_one p' k r c κ ∙ one in
      let first = first-bits p' k r c κ in
      let i = keys_up y.under (own_key k κ) in
      let list = list_bits p' y.height y.row y.column y.key y.one in
      record {
        height = y.height;
        row = y.row;
        column = y.column;
        key = y.key;
        way = y.way;
        holds = i;
        opens = y.opens;
        top_is = top_leaf m κ _ _ k (steps w) (bits_of p' k r c) leaf (block_valid (under_of w)).height (steps_height w) first ∙ y.is;
        fills =
            filling_leaf κ y.height y.key (list_of p' k r c κ) leaf (around_is (under_of y.way) i)
            ∙ ap (λ b. record_of y.key b ∷ []) (first ∙ sym y.bits)
            ∙ sym list;
        bits_are = first ∙ sym y.bits;
        as_long = ap length list ∙ sym (eqb-true _ _ leaf);
        kind = inr y.one;
      }

  -- a content of several
  chosen_node : one_feature p' k r c ≡ false → Chosen p' m κ (list_of p m 0 0 0) (list_of p' k r c κ)
  chosen_node several =
      let node = leaf_one p' k r c κ ∙ several in
      record {
        height = k;
        row = r;
        column = c;
        key = κ;
        way = w;
        holds = own_key k κ;
        opens = open_up p' w several;
        top_is = top_node m κ (list_of p m 0 0 0) (list_of p' k r c κ) node ∙ (block_valid (under_of w)).height;
        fills = filling_node κ k (list_of p' k r c κ) node;
        bits_are = first-bits p' k r c κ;
        as_long = refl;
        kind = inl refl;
      }

  -- the block that is filled, for two pictures that are equal outside the block with key κ
  pub chosen : Outside p p' k r c → Chosen p' m κ (list_of p m 0 0 0) (list_of p' k r c κ)
  chosen out = decide (one_feature p' k r c) (λ one. chosen_leaf one (climbed p p' w out one (own_key k κ))) chosen_node
