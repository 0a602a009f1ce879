-- A node of height 1 in a file: its children can only be leaves, so each of the next four records must be one. The turns are those of the check
-- over a node's children, at the step 1. Rests on FileTurn.
use Prim.Native.Nat.{ℕ, ◌+◌, ◌-◌, ◌*◌, ◌/◌, ◌^◌, ◌≤◌, ◌<◌}
use mathlib.Core.Path.{◌≡◌, refl, sym, ◌∙◌}
use mathlib.Core.Bool.{Bool, true, false, cond}
use mathlib.Core.List.{List}
use native.Mathlib.Omega.{arith}
use lib.Dec.{eqb}
use lib.Bits.{bit_or}
use lib.ListN.{drop}
use borrow.Author.Tests.{eqb-true, eqb-false}
use Rattle.keys.proofs.Cases.{decide}
use Rattle.list.specs.Check.{one_slot, rest_place, after_node}
use Rattle.list.proofs.Pixels.{too_few}
use Rattle.list.proofs.Turn.{step_one}
use Rattle.file.specs.Layout.{RecordsFit, file_key_at, file_bits_at, records_at, keys_at, values_at}
use Rattle.file.proofs.FileTurn.{many, size, in_place, TurnAnswered, PassedIn, begins_in, ends_in, differs_in, other_key_in, wrong_child_in, leaf_in, pixel_in}

-- what the function answers, of the file's records
abbrev pub RightIn : ℕ → ℕ → List ℕ → ℕ → ℕ → ℕ → Bool → Type 0
RightIn w n file first key own r =
    (r ≡ true → first + 4 ≤ n) × (cond r (first + 4) 0 ≡ rest_place n (after_node 1 key own (drop first (records_at w n file))))

-- fewer than four records are left
pub too_few_in : (w n : ℕ) (file : List ℕ) (first key own : ℕ) → n - first < 4 → RightIn w n file first key own false
too_few_in w n file first key own h =
    let e = many w n file in
    let r = too_few (keys_at w n file) (values_at w n file) first key own (size w n file) (omega arith) in
    (λ f. let k = r.0 f in omega arith, r.1 ∙ in_place w n file first key own 1)

-- four are left, and so many of them have passed
pub record PixelsIn (w n : ℕ) (file : List ℕ) (first key own next union digit : ℕ) : Type 0 where
  pub four : first + 4 ≤ n
  pub place : next + 1 ≡ first + digit
  pub passed : PassedIn w n file first key own 1 next union digit

-- none at first
pub pixels_begin : (w n : ℕ) (file : List ℕ) (first key own : ℕ) → RecordsFit w n file × (first ≤ n) × (key + 5 < 2 ^ 32) → 4 ≤ n - first
    → PixelsIn w n file first key own first 0 1
pixels_begin w n file first key own pre h = record {
  four = omega (arith, pre.1);
  place = refl;
  passed = begins_in w n file first key own 1 (pre.0, pre.1, omega (arith, pre.2)) (λ z. omega arith);
}

module _ {w n : ℕ} {file : List ℕ} {first key own next union digit : ℕ} (p : PixelsIn w n file first key own next union digit) where
  -- one that is wrong decides
  wrong_pixel : TurnAnswered w n file first key own 1 0 → RightIn w n file first key own false
  wrong_pixel h = (λ f. p.four, h.1 1 step_one)

  -- after the last their union does
  pub pixels_end : 5 ≤ digit → RightIn w n file first key own (eqb union own)
  pixels_end end =
      let at : next ≡ first + 4 = let e = p.place in let most = p.passed.passed.until in omega arith in
      decide (eqb union own)
      (λ same. rw same (λ f. p.four, sym at ∙ (ends_in p.passed end (eqb-true _ _ same)).1 1 step_one))
      (λ other. rw other (wrong_pixel (differs_in p.passed end (eqb-false _ _ other))))

  module _ (turn : digit < 5) where
    pub there : next < n
    there = let e = p.place in let f = p.four in omega arith

    module _ (κ : ℕ) (κ-is : κ ≡ file_key_at w next file) where
      -- another key
      pub other_pixel : (κ ≡ key + digit → ⊥) → RightIn w n file first key own false
      other_pixel h = wrong_pixel (other_key_in p.passed turn there κ κ-is refl (λ e. h (omega arith)))

      module _ (child : κ ≡ key + digit) (found : ℕ) (found-is : found ≡ file_bits_at w next file) where
        child_is : κ ≡ key + digit * 1
        child_is = omega arith

        -- no leaf
        pub node_pixel : one_slot found ≡ false → RightIn w n file first key own false
        node_pixel node =
            wrong_pixel
            (wrong_child_in p.passed turn there κ κ-is refl child_is found found-is node 0 refl
            (pixel_in w n file (next + 1) (key + digit * 1) found (1 / 5) (omega arith) (λ z. omega arith) (λ z. omega arith)))

        -- a leaf: one more has passed
        pub leaf_pixel : one_slot found ≡ true → PixelsIn w n file first key own (next + 1) (bit_or union found) (digit + 1)
        leaf_pixel leaf = record {
          four = p.four;
          place = let e = p.place in omega arith;
          passed = leaf_in p.passed turn there κ κ-is refl child_is found found-is leaf;
        }
