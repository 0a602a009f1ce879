-- A group taken back gives the picture before the paint of the window, and painted again the one after it, whatever stands before it in the log
-- (specification S12.1, S12.8). So do a single entry's content and feature. Rests on GroupStep and WindowPaint.
use Prim.Native.Nat.{ℕ, zero, suc, ◌<◌}
use mathlib.Core.Path.{◌≡◌, refl, sym, ap, ap₂, ◌∙◌}
use mathlib.Core.Bool.{Bool, true, false, cond, ◌||◌}
use mathlib.Core.List.{List, [], ◌∷◌, ◌++◌, append_assoc}
use native.Mathlib.Omega.{arith}
use lib.ListN.{length}
use Rattle.keys.specs.Key.{valid_key, height_of}
use Rattle.keys.specs.Block.{row_of, column_of, in_block}
use Rattle.keys.proofs.Cases.{decide}
use Rattle.keys.proofs.Pixel.{pixel_in_block}
use Rattle.keys.proofs.InBlock.{in_block_iff}
use Rattle.keys.proofs.Valid.{valid_block, block_valid}
use Rattle.definitions.specs.Picture.{Picture, features_below}
use Rattle.definitions.specs.List.{Record}
use Rattle.definitions.specs.Read.{picture_of}
use Rattle.definitions.specs.Edit.{put, paint_in, fill_window, content_of}
use Rattle.definitions.specs.Log.{entry_of, entries_of, last_key, last_feature, last_content, before_last, before_entries, put_back, paint_again}
use Rattle.definitions.specs.Window.{in_window, largest_blocks}
use Rattle.definitions.specs.declared.Window.{Window}
use Rattle.definitions.specs.Covered.{in_some}
use Rattle.laws.proofs.Pixels.{Agree}
use Rattle.laws.proofs.ReadBack.{block_back}
use Rattle.laws.proofs.Put.{put_in, put_out}
use Rattle.laws.proofs.LastEntry.{last-key, last-feature, last-content}
use Rattle.laws.proofs.LargestBlocks.{largest_in_order}
use Rattle.laws.proofs.LargestPixels.{largest_pixels}
use Rattle.laws.proofs.WindowPaint.{paint_pixel, one_of_two, fill_out}
use Rattle.laws.proofs.GroupStep.{entries_of_before}
use Rattle.laws.proofs.BlocksFrom.{BlocksInOrder, no_block, block}

-- the content of a block shows the picture there
pub content_back : (m κ : ℕ) (p : Picture) → valid_key m κ ≡ true → Agree (picture_of m (content_of m p κ)) p (height_of m κ) (row_of m κ) (column_of m κ)
unfolding content_of
content_back m κ p valid =
    block_back m p (height_of m κ) (row_of m κ) (column_of m κ) κ (λ row column low narrow. pixel_in_block row column (valid_block m κ valid) low narrow)

-- an entry taken back: its content goes into its block
entry_put : (m κ f : ℕ) (p : Picture) (log : List Record) (q : Picture)
    → put_back 1 m (log ++ entry_of m p κ f) q ≡ put m κ (picture_of m (content_of m p κ)) q
unfolding put_back entry_of
entry_put m κ f p log q = ap₂ (λ x l. put m x (picture_of m l) q) (last-key log κ (content_of m p κ) f) (last-content log κ (content_of m p κ) f)

-- so every pixel of the block is as before the paint
pub entry_back : (m κ f : ℕ) (p : Picture) → valid_key m κ ≡ true → (log : List Record) (q : Picture) (row column : ℕ)
    → put_back 1 m (log ++ entry_of m p κ f) q row column ≡ cond (in_block m κ row column) (p row column) (q row column)
entry_back m κ f p valid log q row column =
    let content : Picture = picture_of m (content_of m p κ) in
    ap (λ picture. picture row column) (entry_put m κ f p log q)
    ∙ decide (in_block m κ row column)
    (λ e. put_in m κ content q row column e
    ∙ content_back m κ p valid row column ((in_block_iff row column (valid_block m κ valid)).0 e)
    ∙ sym (ap (λ t. cond t (p row column) (q row column)) e))
    (λ e. put_out m κ content q row column e ∙ sym (ap (λ t. cond t (p row column) (q row column)) e))

-- an entry painted again: its block gets its feature
pub entry_again : (m κ f : ℕ) (p : Picture) (log : List Record) (q : Picture) → paint_again 1 m (log ++ entry_of m p κ f) q ≡ paint_in m κ f q
unfolding paint_again entry_of
entry_again m κ f p log q = ap₂ (λ x g. paint_in m x g q) (last-key log κ (content_of m p κ) f) (last-feature log κ (content_of m p κ) f)

-- the first of several entries is taken back last
back_split : (n m : ℕ) (log : List Record) (q : Picture) → put_back (suc n) m log q ≡ put_back 1 m (before_entries n log) (put_back n m log q)
unfolding put_back before_entries
back_split zero m log q = refl
back_split (suc n) m log q = back_split n m (before_last log) (put m (last_key log) (picture_of m (last_content log)) q)

-- and painted again first
again_split : (n m : ℕ) (log : List Record) (q : Picture) → paint_again (suc n) m log q ≡ paint_again n m log (paint_again 1 m (before_entries n log) q)
unfolding paint_again before_entries
again_split zero m log q = refl
again_split (suc n) m log q = ap (paint_in m (last_key log) (last_feature log)) (again_split n m (before_last log) q)

none_back : (m : ℕ) (log : List Record) (q : Picture) (row column : ℕ) → put_back 0 m log q row column ≡ q row column
unfolding put_back
none_back m log q row column = refl

none_again : (m : ℕ) (log : List Record) (q : Picture) (row column : ℕ) → paint_again 0 m log q row column ≡ q row column
unfolding paint_again
none_again m log q row column = refl

either_of_two : (a b : Bool) (f g : ℕ) → cond a f (cond b f g) ≡ cond (a || b) f g
either_of_two true b f g = refl
either_of_two false b f g = refl

module _ (m s f : ℕ) (p : Picture) (small : f < s) (below : features_below s p m 0 0 ≡ true) where
  -- entries of one picture taken back: every pixel of one of their blocks is as in that picture
  entries_back : {from until : ℕ} {blocks : List ℕ} → BlocksInOrder m from until blocks → (log : List Record) (q : Picture) (row column : ℕ)
      → put_back (length blocks) m (log ++ entries_of m p blocks f) q row column ≡ cond (in_some m blocks row column) (p row column) (q row column)
  unfolding entries_of in_some
  entries_back (no_block h) log q row column = none_back m (log ++ []) q row column
  entries_back {blocks = κ ∷ blocks} (block h b rest) log q row column =
      let entry : List Record = entry_of m p κ f in
      let all : List Record = (log ++ entry) ++ entries_of m p blocks f in
      ap (λ l. put_back (suc (length blocks)) m l q row column) (sym (append_assoc log entry (entries_of m p blocks f)))
      ∙ ap (λ picture. picture row column) (back_split (length blocks) m all q)
      ∙ ap (λ l. put_back 1 m l (put_back (length blocks) m all q) row column) (entries_of_before m s f p small below rest (log ++ entry))
      ∙ entry_back m κ f p (block_valid b).valid log (put_back (length blocks) m all q) row column
      ∙ ap (λ g. cond (in_block m κ row column) (p row column) g) (entries_back rest (log ++ entry) q row column)
      ∙ either_of_two (in_block m κ row column) (in_some m blocks row column) (p row column) (q row column)

  -- entries painted again: every pixel of one of their blocks gets the feature
  entries_again : {from until : ℕ} {blocks : List ℕ} → BlocksInOrder m from until blocks → (log : List Record) (q : Picture) (row column : ℕ)
      → paint_again (length blocks) m (log ++ entries_of m p blocks f) q row column ≡ cond (in_some m blocks row column) f (q row column)
  unfolding entries_of in_some
  entries_again (no_block h) log q row column = none_again m (log ++ []) q row column
  entries_again {blocks = κ ∷ blocks} (block h b rest) log q row column =
      let entry : List Record = entry_of m p κ f in
      let all : List Record = (log ++ entry) ++ entries_of m p blocks f in
      ap (λ l. paint_again (suc (length blocks)) m l q row column) (sym (append_assoc log entry (entries_of m p blocks f)))
      ∙ ap (λ picture. picture row column) (again_split (length blocks) m all q)
      ∙ ap (λ l. paint_again (length blocks) m all (paint_again 1 m l q) row column) (entries_of_before m s f p small below rest (log ++ entry))
      ∙ entries_again rest (log ++ entry) (paint_again 1 m (log ++ entry) q) row column
      ∙ ap (λ g. cond (in_some m blocks row column) f g) (ap (λ picture. picture row column) (entry_again m κ f p log q) ∙ paint_pixel m κ f q row column)
      ∙ one_of_two (in_block m κ row column) (in_some m blocks row column) f (q row column)

  -- the group taken back, from any picture that agrees with the one after the paint, gives the picture before it
  pub group_back : (w : Window) (log : List Record) (q : Picture) → Agree q (fill_window w f p) m 0 0
      → Agree (put_back (length (largest_blocks m w)) m (log ++ entries_of m p (largest_blocks m w) f) q) p m 0 0
  group_back w log q same row column i =
      entries_back (largest_in_order m w) log q row column
      ∙ ap (λ t. cond t (p row column) (q row column)) (largest_pixels m w row column (omega arith) (omega arith))
      ∙ decide (in_window w row column)
      (λ e. ap (λ t. cond t (p row column) (q row column)) e)
      (λ e. ap (λ t. cond t (p row column) (q row column)) e ∙ same row column i ∙ fill_out w f p row column e)

  -- painted again it gives the picture after it
  pub group_again : (w : Window) (log : List Record) (q : Picture)
      → Agree (paint_again (length (largest_blocks m w)) m (log ++ entries_of m p (largest_blocks m w) f) q) (fill_window w f q) m 0 0
  unfolding fill_window
  group_again w log q row column i =
      entries_again (largest_in_order m w) log q row column
      ∙ ap (λ t. cond t f (q row column)) (largest_pixels m w row column (omega arith) (omega arith))
