-- Put at a pixel: inside the block the new feature, outside it the old one. Rests on the definitions alone.
use Prim.Native.Nat.{ℕ}
use mathlib.Core.Path.{◌≡◌}
use mathlib.Core.Bool.{true, false}
use Rattle.keys.specs.Block.{in_block}
use Rattle.definitions.specs.Picture.{Picture}
use Rattle.definitions.specs.Edit.{put}

-- at a pixel of the block put has the new feature
pub put_in : (m κ : ℕ) (q p : Picture) (a b : ℕ) → in_block m κ a b ≡ true → put m κ q p a b ≡ q a b
unfolding put
put_in m κ q p a b e = rw e

-- at another pixel the old one
pub put_out : (m κ : ℕ) (q p : Picture) (a b : ℕ) → in_block m κ a b ≡ false → put m κ q p a b ≡ p a b
unfolding put
put_out m κ q p a b e = rw e
