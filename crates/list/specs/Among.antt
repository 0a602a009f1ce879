-- Which key stands last at or before another among keys alone, as the searches of the code see it: the twins of up_to and place_of without the
-- bitstrings. Only contracts need them; proofs/Among.antt has the laws that connect them.
use Rattle.std.specs.Prelude.{ℕ, ◌+◌, ◌-◌, cond, List, [], ◌∷◌, leb, ltb}

-- how many keys are at or before x
unfoldable pub keys_up_to : ℕ → List ℕ → ℕ
keys_up_to x [] = 0
keys_up_to x (κ ∷ keys) = cond (leb κ x) 1 0 + keys_up_to x keys

-- how many keys are below x
unfoldable pub keys_below : ℕ → List ℕ → ℕ
keys_below x [] = 0
keys_below x (κ ∷ keys) = cond (ltb κ x) 1 0 + keys_below x keys

-- the place of the last key at or before κ
unfoldable pub place_among : ℕ → List ℕ → ℕ
place_among κ keys = keys_up_to κ keys - 1
