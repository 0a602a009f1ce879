-- Put: inside the block it is the new picture, outside it the old one, and the block's content is then the new picture's. Rests on InBlock of the
-- keys and on Outside.
use Prim.Native.Nat.{ℕ}
use mathlib.Core.Path.{◌≡◌, sym}
use mathlib.Core.Bool.{true}
use Rattle.keys.specs.Key.{valid_key, height_of}
use Rattle.keys.specs.Block.{row_of, column_of, in_block}
use Rattle.keys.proofs.Cases.{decide}
use Rattle.keys.specs.Under.{MapBlock}
use Rattle.keys.proofs.Valid.{valid_block}
use Rattle.keys.proofs.InBlock.{in_block_iff}
use Rattle.definitions.specs.Picture.{Picture}
use Rattle.definitions.specs.Edit.{put, content_of}
use Rattle.laws.proofs.Pixels.{Agree}
use Rattle.laws.proofs.ListOf.{list_agree}
use Rattle.laws.proofs.Put.{put_in, put_out}
use Rattle.replace.proofs.Outside.{Outside}

-- inside the block put agrees with the new picture
pub put_inside : {m k r c κ : ℕ} (q p : Picture) → MapBlock m k r c κ → Agree (put m κ q p) q k r c
put_inside {m} {κ = κ} q p u a b w = put_in m κ q p a b ((in_block_iff a b u).1 w)

-- outside the block it is equal to the old one
pub put_outside : {m k r c κ : ℕ} (q p : Picture) → MapBlock m k r c κ → Outside p (put m κ q p) k r c
put_outside {m} {κ = κ} q p u a b w =
    decide (in_block m κ a b) (λ e. absurd (w ((in_block_iff a b u).0 e))) (λ e. sym (put_out m κ q p a b e))

-- the content of the block is then the new picture's
pub put_content : (m κ : ℕ) (q p : Picture) → valid_key m κ ≡ true → content_of m (put m κ q p) κ ≡ content_of m q κ
unfolding content_of
put_content m κ q p valid = list_agree (put m κ q p) q (height_of m κ) (row_of m κ) (column_of m κ) κ (put_inside q p (valid_block m κ valid))
