-- Painting a window is painting its largest blocks one after the other, in key order: it leaves the same pixels, and its group has the entries that those
-- paints would log, each of the picture that the earlier ones left (specification S10.2, S11.8). Rests on LargestPixels.
use Prim.Native.Nat.{ℕ, ◌+◌, ◌^◌, ◌≤◌, ◌<◌}
use mathlib.Core.Path.{◌≡◌, refl, sym, ap, ap₂, ◌∙◌}
use mathlib.Core.Bool.{Bool, true, false, cond, ◌||◌}
use mathlib.Core.List.{List, [], ◌∷◌, ◌++◌}
use native.Mathlib.Omega.{arith}
use Rattle.keys.specs.Key.{height_of}
use Rattle.keys.specs.Block.{row_of, column_of, in_block, pixel_key}
use Rattle.keys.proofs.Cases.{decide}
use Rattle.keys.specs.Under.{MapBlock}
use Rattle.keys.proofs.Pixel.{inside}
use Rattle.keys.proofs.InBlock.{in_block_iff, in_raster}
use Rattle.keys.proofs.Valid.{block_valid}
use Rattle.definitions.specs.Picture.{Picture}
use Rattle.definitions.specs.List.{Record}
use Rattle.definitions.specs.Edit.{paint_in, fill_window, content_of}
use Rattle.definitions.specs.Log.{closed, entry_of, entries_of}
use Rattle.definitions.specs.Window.{in_window, largest_blocks}
use Rattle.definitions.specs.declared.Window.{Window}
use Rattle.definitions.specs.Covered.{in_some}
use Rattle.laws.proofs.Pixels.{Agree}
use Rattle.laws.proofs.ListOf.{list_agree}
use Rattle.laws.proofs.Put.{put_in, put_out}
use Rattle.laws.proofs.LargestBlocks.{largest_in_order}
use Rattle.laws.proofs.LargestPixels.{largest_pixels}
use Rattle.laws.proofs.BlocksFrom.{BlocksInOrder, no_block, block}

-- the blocks painted one after the other, the first first
unfoldable pub painted_in_turn : (m : ℕ) (blocks : List ℕ) (f : ℕ) (p : Picture) → Picture
painted_in_turn m [] f p = p
painted_in_turn m (κ ∷ blocks) f p = painted_in_turn m blocks f (paint_in m κ f p)

-- the entries that these paints would log, each of the picture that it finds
unfoldable pub logged_in_turn : (m : ℕ) (blocks : List ℕ) (f : ℕ) (p : Picture) → List Record
logged_in_turn m [] f p = []
logged_in_turn m (κ ∷ blocks) f p = entry_of m p κ f ++ logged_in_turn m blocks f (paint_in m κ f p)

-- a paint at a pixel, by the test of its block
pub paint_pixel : (m κ f : ℕ) (p : Picture) (row column : ℕ) → paint_in m κ f p row column ≡ cond (in_block m κ row column) f (p row column)
unfolding paint_in
paint_pixel m κ f p row column =
    decide (in_block m κ row column)
    (λ e. put_in m κ (λ a b. f) p row column e ∙ sym (ap (λ t. cond t f (p row column)) e))
    (λ e. put_out m κ (λ a b. f) p row column e ∙ sym (ap (λ t. cond t f (p row column)) e))

pub one_of_two : (a b : Bool) (f g : ℕ) → cond b f (cond a f g) ≡ cond (a || b) f g
one_of_two true true f g = refl
one_of_two true false f g = refl
one_of_two false b f g = refl

-- a pixel of one of the blocks gets the feature, and any other stays
pub painted_pixel : (m : ℕ) (blocks : List ℕ) (f : ℕ) (p : Picture) (row column : ℕ)
    → painted_in_turn m blocks f p row column ≡ cond (in_some m blocks row column) f (p row column)
unfolding painted_in_turn in_some
painted_pixel m [] f p row column = refl
painted_pixel m (κ ∷ blocks) f p row column =
    painted_pixel m blocks f (paint_in m κ f p) row column
    ∙ ap (λ g. cond (in_some m blocks row column) f g) (paint_pixel m κ f p row column)
    ∙ one_of_two (in_block m κ row column) (in_some m blocks row column) f (p row column)

-- every pixel of the window gets the feature
pub fill_in : (w : Window) (f : ℕ) (p : Picture) (row column : ℕ) → in_window w row column ≡ true → fill_window w f p row column ≡ f
unfolding fill_window
fill_in w f p row column e = ap (λ t. cond t f (p row column)) e

-- and no other pixel another
pub fill_out : (w : Window) (f : ℕ) (p : Picture) (row column : ℕ) → in_window w row column ≡ false → fill_window w f p row column ≡ p row column
unfolding fill_window
fill_out w f p row column e = ap (λ t. cond t f (p row column)) e

-- painting the window is painting its largest blocks one after the other
pub window_in_turn : (m : ℕ) (w : Window) (f : ℕ) (p : Picture) → Agree (fill_window w f p) (painted_in_turn m (largest_blocks m w) f p) m 0 0
unfolding fill_window
window_in_turn m w f p row column i =
    sym (painted_pixel m (largest_blocks m w) f p row column
    ∙ ap (λ t. cond t f (p row column)) (largest_pixels m w row column (omega arith) (omega arith)))

-- the entry of a block depends on its pixels alone
entry_same : {m k r c κ : ℕ} (f : ℕ) (p q : Picture) → MapBlock m k r c κ → Agree p q k r c → entry_of m p κ f ≡ entry_of m q κ f
unfolding entry_of content_of
entry_same {m} {k} {r} {c} {κ} f p q b same =
    let is = block_valid b in
    ap (λ l. closed κ l f)
    (list_agree p q (height_of m κ) (row_of m κ) (column_of m κ) κ (rw (is.height, is.row, is.column) same))

-- pictures with the same pixels from a key on have the same entries of blocks from there on
pub entries_past : {m from until : ℕ} {blocks : List ℕ} (f : ℕ) (p q : Picture) → BlocksInOrder m from until blocks
    → ((row column : ℕ) → row < 2 ^ m → column < 2 ^ m → from ≤ pixel_key m row column → p row column ≡ q row column)
    → entries_of m p blocks f ≡ entries_of m q blocks f
unfolding entries_of
entries_past f p q (no_block h) same = refl
entries_past {m} f p q (block {k = k} {r = r} {c = c} {κ = κ} h b rest) same =
    ap₂ (λ entry entries. entry ++ entries)
    (entry_same f p q b
    (λ row column i. let on = in_raster b i in let key = inside {row = row} {column = column} b i in same row column on.0 on.1 (omega arith)))
    (entries_past f p q rest (λ row column low narrow past. same row column low narrow (omega arith)))

-- a paint of a block leaves the pixels past it
paint_past : {m k r c κ : ℕ} (f : ℕ) (p : Picture) → MapBlock m k r c κ → (row column : ℕ) → κ + 5 ^ k ≤ pixel_key m row column
    → p row column ≡ paint_in m κ f p row column
paint_past {m} {k} {r} {c} {κ} f p b row column past =
    sym (paint_pixel m κ f p row column
    ∙ decide (in_block m κ row column)
    (λ e. absurd (let key = inside {row = row} {column = column} b ((in_block_iff row column b).0 e) in omega arith))
    (λ e. ap (λ t. cond t f (p row column)) e))

-- so blocks in key order, painted in turn, log the entries of the first picture
in_turn_entries : {m from until : ℕ} {blocks : List ℕ} (f : ℕ) (p : Picture) → BlocksInOrder m from until blocks
    → logged_in_turn m blocks f p ≡ entries_of m p blocks f
unfolding logged_in_turn entries_of
in_turn_entries f p (no_block h) = refl
in_turn_entries {m} f p (block {κ = κ} {blocks = blocks} h b rest) =
    ap (λ entries. entry_of m p κ f ++ entries)
    (in_turn_entries f (paint_in m κ f p) rest
    ∙ sym (entries_past f p (paint_in m κ f p) rest (λ row column low narrow past. paint_past f p b row column past)))

-- the group's entries are those that painting the largest blocks one after the other would log
pub window_entries : (m : ℕ) (w : Window) (f : ℕ) (p : Picture) → logged_in_turn m (largest_blocks m w) f p ≡ entries_of m p (largest_blocks m w) f
window_entries m w f p = in_turn_entries f p (largest_in_order m w)
