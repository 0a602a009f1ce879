-- The largest blocks of a window at or below a block: none where it lies apart from the window, itself where it lies within, and else those of
-- its quadrants; and how long their entries are. Rests on the pixels of a block and on the length of a content.
use Prim.Native.Nat.{ℕ, zero, suc, ◌+◌, ◌-◌, ◌*◌, ◌^◌, ◌≤◌, ◌<◌}
use mathlib.Core.Path.{◌≡◌, refl, sym, ◌∙◌, ap, ap₂}
use mathlib.Core.Bool.{false, true≢false}
use mathlib.Core.List.{List, [], ◌∷◌, ◌++◌, append-nil, append_assoc}
use native.Mathlib.Omega.{arith}
use native.Mathlib.Nat.{pow-suc, one-le-pow}
use lib.ListN.{length, length-append}
use Rattle.keys.specs.Key.{child_key, height_of}
use Rattle.keys.specs.Block.{row_of, column_of}
use Rattle.keys.proofs.Cases.{decide}
use Rattle.keys.specs.Under.{MapBlock, here, nw, ne, sw, se, Every}
use Rattle.keys.specs.Child.{child_of}
use Rattle.keys.specs.declared.block.TreeBlock.{TreeBlock}
use Rattle.keys.proofs.BlockChild.{one_higher}
use Rattle.keys.proofs.Under.{under_trans}
use Rattle.keys.proofs.Valid.{block_valid}
use Rattle.definitions.specs.Picture.{Picture}
use Rattle.definitions.specs.Window.{in_window, is_inside, largest_from}
use Rattle.definitions.specs.declared.Window.{Window}
use Rattle.definitions.specs.Edit.{content_of}
use Rattle.definitions.specs.Log.{closing_places, entry_of, entries_of}
use Rattle.laws.proofs.Within.{first_within, every_nw, every_ne, every_sw, every_se}
use Rattle.laws.proofs.Pixels.{every_to}
use Rattle.laws.proofs.LargestBlocks.{covered_one, covered_none, covered_part}
use Rattle.laws.proofs.LastEntry.{length-closed}
use Rattle.build.proofs.CountBlock.{list_five}
use Rattle.window_paint.specs.WindowLogging.{largest_in}

-- a block with a pixel outside the window is not covered
pub not_covered : (w : Window) (k r c : ℕ) → in_window w r c ≡ false → is_inside w k r c ≡ false
unfolding is_inside
not_covered w k r c h = decide (is_inside w k r c) (λ e. absurd (true≢false (sym (every_to (in_window w) k r c e r c (first_within k r c)) ∙ h))) (λ e. e)

-- a block that lies apart from the window has none
pub largest_none : (w : Window) (k r c κ : ℕ) → Every (λ a b. in_window w a b ≡ false) k r c → largest_from w k r c κ ≡ []
largest_none w zero r c κ h = covered_none w r c κ (not_covered w zero r c (h r c (first_within zero r c)))
largest_none w (suc k) r c κ h =
    covered_part w k r c κ (not_covered w (suc k) r c (h r c (first_within (suc k) r c)))
    ∙ ap₂ ◌++◌ (largest_none w k r c (child_key κ k 1) (every_nw h))
    (ap₂ ◌++◌ (largest_none w k r (c + 2 ^ k) (child_key κ k 2) (every_ne h))
    (ap₂ ◌++◌ (largest_none w k (r + 2 ^ k) c (child_key κ k 3) (every_sw h)) (largest_none w k (r + 2 ^ k) (c + 2 ^ k) (child_key κ k 4) (every_se h))))

-- a block that is cut has those of its quadrants
pub largest_cut : (w : Window) (b : TreeBlock) → 0 < b.height → is_inside w b.height b.row b.column ≡ false
    → largest_in w b ≡ largest_in w (child_of b 1) ++ (largest_in w (child_of b 2) ++ (largest_in w (child_of b 3) ++ largest_in w (child_of b 4)))
largest_cut w b positive cut =
    let up = one_higher b positive in
    ap (λ j. largest_from w j b.row b.column b.key) up
    ∙ covered_part w (b.height - 1) b.row b.column b.key (ap (λ j. is_inside w j b.row b.column) (sym up) ∙ cut)

module _ (m : ℕ) (p : Picture) (f : ℕ) where
  -- the entries of two runs of blocks
  pub entries-append : (xs ys : List ℕ) → entries_of m p (xs ++ ys) f ≡ entries_of m p xs f ++ entries_of m p ys f
  unfolding entries_of
  entries-append [] ys = refl
  entries-append (κ ∷ xs) ys =
      ap (λ l. entry_of m p κ f ++ l) (entries-append xs ys) ∙ sym (append_assoc (entry_of m p κ f) (entries_of m p xs f) (entries_of m p ys f))

  -- of four
  pub entries_four : (a b c d : List ℕ)
      → entries_of m p (a ++ (b ++ (c ++ d))) f ≡ entries_of m p a f ++ (entries_of m p b f ++ (entries_of m p c f ++ entries_of m p d f))
  entries_four a b c d =
      entries-append a (b ++ (c ++ d))
      ∙ ap (λ l. entries_of m p a f ++ l) (entries-append b (c ++ d) ∙ ap (λ l. entries_of m p b f ++ l) (entries-append c d))

  -- of one block
  pub entries_one : (κ : ℕ) → entries_of m p (κ ∷ []) f ≡ entry_of m p κ f
  unfolding entries_of
  entries_one κ = append-nil (entry_of m p κ f)

  -- of none
  pub entries_none : entries_of m p [] f ≡ []
  unfolding entries_of
  entries_none = refl

  entry_length : (κ : ℕ) → length (entry_of m p κ f) ≡ length (content_of m p κ) + closing_places
  unfolding entry_of
  entry_length κ = length-closed κ (content_of m p κ) f

  -- each entry has places
  pub entries_more : (blocks : List ℕ) → length blocks ≤ length (entries_of m p blocks f)
  unfolding entries_of
  entries_more [] = omega arith
  entries_more (κ ∷ blocks) =
      let h = entries_more blocks in
      let e = length-append (entry_of m p κ f) (entries_of m p blocks f) in
      let g = entry_length κ in
      omega arith

  -- a block's entry has at most three times as many places as the block has keys
  entry_few : {k r c κ : ℕ} → MapBlock m k r c κ → length (entry_of m p κ f) ≤ 3 * 5 ^ k
  unfolding content_of
  entry_few {k} {r} {c} {κ} b =
      let g = entry_length κ in
      let h = list_five p (height_of m κ) (row_of m κ) (column_of m κ) κ in
      let e = ap (λ j. 5 ^ j) (block_valid b).height in
      let o = one-le-pow k 5 (omega arith) in
      omega arith

  -- and so have the entries of the largest blocks in it
  pub entries_few : (w : Window) (k : ℕ) {r c κ : ℕ} → MapBlock m k r c κ → length (entries_of m p (largest_from w k r c κ) f) ≤ 3 * 5 ^ k
  entries_few w zero {r} {c} {κ} b =
      decide (is_inside w zero r c)
      (λ e. let x = ap length (ap (λ l. entries_of m p l f) (covered_one w zero r c κ e) ∙ entries_one κ) in let y = entry_few b in omega arith)
      (λ e. let x = ap length (ap (λ l. entries_of m p l f) (covered_none w r c κ e) ∙ entries_none) in omega arith)
  entries_few w (suc k) {r} {c} {κ} b =
      decide (is_inside w (suc k) r c)
      (λ e. let x = ap length (ap (λ l. entries_of m p l f) (covered_one w (suc k) r c κ e) ∙ entries_one κ) in let y = entry_few b in omega arith)
      (λ e.
      let l₁ : List ℕ = largest_from w k r c (child_key κ k 1) in
      let l₂ : List ℕ = largest_from w k r (c + 2 ^ k) (child_key κ k 2) in
      let l₃ : List ℕ = largest_from w k (r + 2 ^ k) c (child_key κ k 3) in
      let l₄ : List ℕ = largest_from w k (r + 2 ^ k) (c + 2 ^ k) (child_key κ k 4) in
      let x = ap length (ap (λ l. entries_of m p l f) (covered_part w k r c κ e) ∙ entries_four l₁ l₂ l₃ l₄) in
      let x₁ = length-append (entries_of m p l₁ f) (entries_of m p l₂ f ++ (entries_of m p l₃ f ++ entries_of m p l₄ f)) in
      let x₂ = length-append (entries_of m p l₂ f) (entries_of m p l₃ f ++ entries_of m p l₄ f) in
      let x₃ = length-append (entries_of m p l₃ f) (entries_of m p l₄ f) in
      let h₁ = entries_few w k (under_trans b (nw here)) in
      let h₂ = entries_few w k (under_trans b (ne here)) in
      let h₃ = entries_few w k (under_trans b (sw here)) in
      let h₄ = entries_few w k (under_trans b (se here)) in
      let five = pow-suc 5 k in
      omega arith)
