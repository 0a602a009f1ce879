-- Select gives ascending keys, each once, all in the block's interval (specification S6.8); with what it gives, this leaves one answer.
-- Rests on BlocksFrom and SelectMeans.
use Prim.Native.Nat.{ℕ, ◌+◌, ◌^◌}
use mathlib.Core.Path.{◌≡◌}
use mathlib.Core.List.{List, Memᴰ}
use Rattle.definitions.specs.Picture.{Picture}
use Rattle.definitions.specs.Window.{has_in, select_from, select_in}
use Rattle.definitions.specs.declared.Window.{Window}
use Rattle.laws.proofs.AscendingKeys.{AscendingKeys, ascending_same}
use Rattle.laws.proofs.BlocksFrom.{blocks_ascend}
use Rattle.laws.proofs.SelectMeans.{Selected, select_only, select_every}

-- the keys that select gives ascend, and lie in the interval of the block
pub select_ascends : (p : Picture) (w : Window) (f k r c κ : ℕ) → AscendingKeys κ (κ + 5 ^ k) (select_from p w f k r c κ)
select_ascends p w f k r c κ = blocks_ascend (has_in p w f) k r c κ

-- the same of the whole map
pub select_in_ascends : (m : ℕ) (p : Picture) (w : Window) (f : ℕ) → AscendingKeys 0 (0 + 5 ^ m) (select_in m p w f)
unfolding select_in
select_in_ascends m p w f = select_ascends p w f m 0 0 0

-- an ascending list that has exactly the selected keys is what select gives
pub select_unique : (p : Picture) (w : Window) (f k r c κ : ℕ) {lo hi : ℕ} (l : List ℕ) → AscendingKeys lo hi l
    → ((x : ℕ) → Memᴰ x l → Selected p w f k r c κ x) → ((x : ℕ) → Selected p w f k r c κ x → Memᴰ x l)
    → l ≡ select_from p w f k r c κ
select_unique p w f k r c κ l ascends only every =
    ascending_same l (select_from p w f k r c κ) ascends (select_ascends p w f k r c κ)
    (λ x h. select_every p w f (only x h))
    (λ x h. every x (select_only p w f k r c κ h))
