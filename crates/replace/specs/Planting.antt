-- What the contracts of the planting functions say: a run of records was written into two slices from a place on. Only contracts need this.
use Rattle.std.specs.Prelude.{ℕ, ◌+◌, ◌≤◌, ◌<◌, ◌≡◌, List, length}
use Rattle.std.proofs.lemmas.List.Edits.{sets}
use Rattle.keys.specs.Key.{all_keys}
use Rattle.definitions.specs.List.{Record, keys_of, values_of}
use Rattle.replace.specs.Plant.{digit_at}

pub record WroteFrom (l : List Record) (at : ℕ) (keys bits keys' bits' : List ℕ) (r : ℕ) : Type 0 where
  pub end : r ≡ at + length l
  pub in_keys : keys' ≡ sets keys at (keys_of l)
  pub in-bits : bits' ≡ sets bits at (values_of l)

-- there is room for so many records from a place on
pub record Roomy (l : List Record) (at : ℕ) (keys bits : List ℕ) : Type 0 where
  pub in_keys : at + length l ≤ length keys
  pub in-bits : at + length l ≤ length bits

-- from height k on, so many levels up, each block around κ is a quadrant of the next
pub record Deep (κ k n : ℕ) : Type 0 where
  pub least : κ < all_keys
  pub most : k + n ≤ 10
  pub digits : (h : ℕ) → k ≤ h → h < k + n → (1 ≤ digit_at h κ) × (digit_at h κ ≤ 4)
