-- What is put into a block leaves the counts of every block apart from it: pictures that are equal outside one block agree on each block whose keys
-- come before or after its own. Rests on Put and CountOf.
use Prim.Native.Nat.{ℕ, ◌+◌, ◌^◌, ◌≤◌}
use mathlib.Core.Path.{◌≡◌}
use mathlib.Core.Bool.{false}
use mathlib.Core.Logic.{◌⊎◌, ⊎_elim}
use native.Mathlib.Omega.{arith}
use Rattle.keys.specs.Block.{in_block}
use Rattle.keys.proofs.Cases.{decide}
use Rattle.keys.specs.Under.{MapBlock, Every}
use Rattle.keys.proofs.Pixel.{inside}
use Rattle.keys.proofs.InBlock.{in_block_iff}
use Rattle.definitions.specs.Picture.{Picture}
use Rattle.definitions.specs.Edit.{put}
use Rattle.definitions.specs.Area.{pixels_with}
use Rattle.laws.proofs.Pixels.{Agree}
use Rattle.laws.proofs.Put.{put_out}
use Rattle.laws.proofs.CountOf.{pixels_agree}

-- the keys of one block come before those of the other, or after them
abbrev pub Apart : ℕ → ℕ → ℕ → ℕ → Type 0
Apart k κ k' κ' = (κ + 5 ^ k ≤ κ') ⊎ (κ' + 5 ^ k' ≤ κ)

module _ {m k r c κ k' r' c' κ' : ℕ} (b : MapBlock m k r c κ) (b' : MapBlock m k' r' c' κ') (apart : Apart k κ k' κ') where
  -- no pixel of the one is a pixel of the other
  none_inside : Every (λ row column. in_block m κ row column ≡ false) k' r' c'
  none_inside row column w =
      decide (in_block m κ row column)
      (λ e. let i = inside b ((in_block_iff row column b).0 e) in
      let j = inside b' w in
      absurd (⊎_elim (λ (h : κ + 5 ^ k ≤ κ'). omega (arith, i.until, j.from)) (λ (h : κ' + 5 ^ k' ≤ κ). omega (arith, j.until, i.from)) apart))
      (λ e. e)

  -- pictures that are equal outside the one agree on the other
  pub agree_apart : (p q : Picture) → ((row column : ℕ) → in_block m κ row column ≡ false → p row column ≡ q row column) → Agree p q k' r' c'
  agree_apart p q h row column w = h row column (none_inside row column w)

  -- so the other keeps its counts
  pub put_apart : (q p : Picture) (f : ℕ) → pixels_with (put m κ q p) k' r' c' f ≡ pixels_with p k' r' c' f
  put_apart q p f = pixels_agree (put m κ q p) p k' r' c' f (agree_apart (put m κ q p) p (λ row column e. put_out m κ q p row column e))
