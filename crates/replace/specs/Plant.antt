-- The list of a leaf in which a block has got another content: level by level the records before the content and those after it, four a level.
-- A model in the code's order. Rests on Family.
use Rattle.std.specs.Prelude.{ℕ, zero, suc, ◌+◌, ◌-◌, ◌/◌, ◌^◌, List, [], ◌∷◌, ◌++◌}
use Rattle.keys.specs.Key.{child_key}
use Rattle.definitions.specs.List.{Record, record_of}
use Rattle.replace.specs.Family.{around}

-- which quadrant the block of height h around κ is of its parent: 1 to 4
unfoldable pub digit_at : ℕ → ℕ → ℕ
digit_at h κ = (around h κ - around (suc h) κ) / 5 ^ h

-- so many leaves with bits g, quadrants of the block of height h + 1 with key κ, from one digit on
unfoldable pub leaves : ℕ → ℕ → ℕ → ℕ → ℕ → List Record
leaves g κ h zero digit = []
leaves g κ h (suc n) digit = record_of (child_key κ h digit) g ∷ leaves g κ h n (suc digit)

-- the block of height h + 1 around κ with the bits v, and its quadrants before the one of height h around κ
unfoldable pub front_at : ℕ → ℕ → ℕ → ℕ → List Record
front_at κ g v h = record_of (around (suc h) κ) v ∷ leaves g (around (suc h) κ) h (digit_at h κ - 1) 1

-- its quadrants after that one
unfoldable pub back_at : ℕ → ℕ → ℕ → List Record
back_at κ g h = leaves g (around (suc h) κ) h (4 - digit_at h κ) (suc (digit_at h κ))

-- the records before the content of the block of height k around κ, so many levels up, the highest first
unfoldable pub front : ℕ → ℕ → ℕ → ℕ → ℕ → List Record
front κ g v k zero = []
front κ g v k (suc n) = front_at κ g v (k + n) ++ front κ g v k n

-- the records after it, the lowest level first
unfoldable pub back : ℕ → ℕ → ℕ → ℕ → List Record
back κ g k zero = []
back κ g k (suc n) = back κ g k n ++ back_at κ g (k + n)
