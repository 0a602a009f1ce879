-- A model of the check of a list, with the tests in the order of the code. Only the contracts of the module `check` need it; that it says what
-- refusal 4 says is proved in proofs/.
use Rattle.std.specs.Prelude.{ℕ, zero, suc, ◌+◌, ◌-◌, ◌*◌, ◌^◌, Bool, cond, List, [], ◌∷◌, length, eqb}
use Rattle.std.specs.Int.Bits.{bit_or}
use Rattle.definitions.specs.Bits.{feature_of}
use Rattle.definitions.specs.List.{Record}

-- exactly one slot is set: the bitstring is its first slot alone
unfoldable pub one_slot : ℕ → Bool
one_slot bits = eqb bits (2 ^ feature_of bits)

-- the records that are left after those of a block, if those are a list of it
pub data Outcome : Type 0 where
  wrong : Outcome
  left : List Record → Outcome

unfoldable pub and_then : Outcome → (List Record → Outcome) → Outcome
and_then wrong more = wrong
and_then (left l) more = more l

-- the place among n records where those that are left begin, and 0 where the block's are wrong
unfoldable pub rest_place : ℕ → Outcome → ℕ
rest_place n wrong = 0
rest_place n (left l) = n - length l

-- after a block's own record: of a leaf nothing more follows
unfoldable pub after_own : (ℕ → ℕ → List Record → Outcome) → ℕ → ℕ → List Record → Outcome
after_own node κ bits l = cond (one_slot bits) (left l) (node κ bits l)

module _ (node : ℕ → ℕ → List Record → Outcome) (κ step own : ℕ) where
  -- the last j children of the block κ, after those before them had the given union; all together they must have the block's own bits
  unfoldable pub after_children : ℕ → ℕ → List Record → Outcome
  after_children zero union l = cond (eqb union own) (left l) wrong
  after_children (suc j) union [] = wrong
  after_children (suc j) union (e ∷ l) =
      cond (eqb e.key (κ + (5 - suc j) * step))
      (and_then (after_own node (κ + (5 - suc j) * step) e.value l) (λ more. after_children j (bit_or union e.value) more))
      wrong

-- after the own record of a block of height k that is no leaf: its four children
unfoldable pub after_node : ℕ → ℕ → ℕ → List Record → Outcome
after_node zero κ own l = wrong
after_node (suc k) κ own l = after_children (after_node k) κ (5 ^ k) own 4 0 l

-- what a digit is worth in the key of a child of a block of height k
unfoldable pub step_under : ℕ → ℕ
step_under zero = 0
step_under (suc k) = 5 ^ k
