-- Putting a content into a block of a list: the plan, the records that are exchanged, and the list afterwards. A model in the code's order:
-- plan, exchange, renew. Rests on Climb, Plant and Renew.
use Rattle.std.specs.Prelude.{ℕ, ◌+◌, ◌-◌, ◌*◌, Bool, true, false, Option, None, Some, cond, List, [], ◌∷◌, ◌++◌, length, get_or, take, drop, eqb}
use Rattle.std.specs.Int.Bits.{bit_or}
use Rattle.keys.specs.Key.{height_of}
use Rattle.definitions.specs.List.{Record, record_of, keys_of, values_of}
use Rattle.definitions.specs.Standing.{place_of, part_length}
use Rattle.replace.specs.Family.{around}
use Rattle.replace.specs.Climb.{climb}
use Rattle.replace.specs.Plant.{front, back}
use Rattle.replace.specs.Renew.{renew}
use Rattle.replace.specs.declared.plan.Plan.{Plan}

-- the content is one record: the block gets one feature
abbrev pub is_one_record : List Record → Bool
is_one_record content = eqb (length content) 1

-- the bits of the block by its content
abbrev pub first_bits : List Record → ℕ
first_bits content = get_or (values_of content) 0 0

-- the height of the block around κ that is filled, by what the content says, whether it is one record and its first bits: where climbing ends, or
-- κ's own
unfoldable pub top_for : ℕ → List Record → ℕ → Bool → ℕ → ℕ
top_for m l κ leaf b = cond leaf (climb l κ b (m - height_of m κ) (height_of m κ)) (height_of m κ)

-- the same, where the bits are told of a content that is one record
abbrev pub is_told : Option ℕ → Bool
is_told None = false
is_told (Some b) = true

abbrev pub bits_told : Option ℕ → ℕ
bits_told None = 0
bits_told (Some b) = b

abbrev pub top_with : ℕ → List Record → ℕ → Option ℕ → ℕ
top_with m l κ one = top_for m l κ (is_told one) (bits_told one)

-- what is to be told of a content
abbrev pub one_told : List Record → Option ℕ
one_told content = cond (is_one_record content) (Some (first_bits content)) None

unfoldable pub top_of : ℕ → List Record → ℕ → List Record → ℕ
top_of m l κ content = top_for m l κ (is_one_record content) (first_bits content)

-- the plan, whose numbers the code's struct names
unfoldable pub plan_at : ℕ → List Record → ℕ → ℕ → Plan
plan_at m l κ top =
    record {
      top = top;
      start = place_of (around top κ) l;
      old = part_length m (around top κ) l;
      levels = height_of m (get_or (keys_of l) (place_of (around top κ) l) 0) - top;
    }

unfoldable pub plan_of : ℕ → List Record → ℕ → List Record → Plan
plan_of m l κ content = plan_at m l κ (top_of m l κ content)

-- how many records the list has afterwards
unfoldable pub length_after : List Record → List Record → Plan → ℕ
length_after l content plan = length l - plan.old + (4 * plan.levels + length content)

-- what the filled block holds: one record with its own key, or the content as it is
unfoldable pub filling : ℕ → List Record → ℕ → List Record
filling κ content top = cond (is_one_record content) (record_of (around top κ) (first_bits content) ∷ []) content

-- the bits of the record at the place where the exchange starts: of the leaf that is split
abbrev pub bits_before : List Record → Plan → ℕ
bits_before l plan = get_or (values_of l) plan.start 0

-- the records that are put in
unfoldable pub inserted : List Record → ℕ → List Record → Plan → List Record
inserted l κ content plan =
    front κ (bits_before l plan) (bit_or (bits_before l plan) (first_bits content)) plan.top plan.levels
    ++ (filling κ content plan.top ++ back κ (bits_before l plan) plan.top plan.levels)

-- the list with the records exchanged
unfoldable pub exchanged : List Record → ℕ → List Record → Plan → List Record
exchanged l κ content plan = take plan.start l ++ (inserted l κ content plan ++ drop (plan.start + plan.old) l)

-- and with the bits renewed of the blocks around those that were exchanged
unfoldable pub parents_renewed : ℕ → List Record → ℕ → Plan → List Record
parents_renewed m l κ plan =
    renew l κ (get_or (values_of l) plan.start 0) (m - (plan.top + plan.levels)) (plan.top + plan.levels)

-- the list after the content is put into the block with key κ
unfoldable pub edited : ℕ → List Record → ℕ → List Record → List Record
edited m l κ content = parents_renewed m (exchanged l κ content (plan_of m l κ content)) κ (plan_of m l κ content)
