-- The steps of reading as the code takes them, one block at a time. Only contracts need these; proofs/ connects them with the definitions.
use Rattle.std.specs.Prelude.{Option, None, Some, ℕ, ◌≤◌, ◌≡◌, Bool, true, false, cond, not, ◌&&◌, List, [], ◌∷◌, length, leb, eqb}
use Rattle.keys.specs.Key.{zeros_at_end}
use Rattle.definitions.specs.Read.{room}
use Rattle.definitions.specs.BitStrings.{key_after, four_equal, any_set, is_pair, records_of_pair}
use Rattle.bit_strings.specs.declared.next.AfterBlock.{AfterBlock}

-- the next bit of a string, and 2 where none is left
unfoldable pub next_bit : List Bool → ℕ
next_bit [] = 2
next_bit (b ∷ l) = cond b 1 0

-- a bit that was looked for, as that number
abbrev pub bit_told : Option Bool → ℕ
bit_told None = 2
bit_told (Some b) = cond b 1 0

-- fewer bits than a byte has, and none set
unfoldable pub is_spare : List Bool → Bool
is_spare l = not (leb 8 (length l)) && not (any_set l)

-- past the block with the key x, where these bits come next; none where no block can be passed
unfoldable pub passed : ℕ → ℕ → List Bool → List Bool → Option AfterBlock
passed m x [] leaves = None
passed m x (true ∷ nodes) [] = None
passed m x (true ∷ nodes) (f ∷ leaves) = Some (record { key = key_after m x true; leaf = true })
passed m x (false ∷ nodes) leaves =
    cond (eqb (zeros_at_end m x) 0) None (cond (four_equal nodes leaves) None (Some (record { key = key_after m x false; leaf = false })))

-- how many records a pair has, where it is one
unfoldable pub pair_length : ℕ → List ℕ → List ℕ → Option ℕ
pair_length m nodes leaves = cond (is_pair m nodes leaves) (Some (length (records_of_pair m nodes leaves))) None

-- the n records of a pair have room in two slices
pub record Fits (m : ℕ) (nodes leaves : List ℕ) (n : ℕ) (keys bits : List ℕ) : Type 0 where
  pub deep : m ≤ 10
  pub many : n ≡ length (records_of_pair m nodes leaves)
  pub roomy : n ≤ room keys bits
