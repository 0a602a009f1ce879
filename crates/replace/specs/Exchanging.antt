-- What an exchange of records asks of the lent slices and leaves in them. Only contracts need these. Rests on Put and Planting.
use Rattle.std.specs.Prelude.{ℕ, ◌+◌, ◌-◌, ◌*◌, ◌≤◌, ◌≡◌, List, ◌++◌}
use Rattle.std.specs.Int.Bits.{bit_or}
use Rattle.definitions.specs.List.{Record, keys_of, values_of}
use Rattle.definitions.specs.Read.{room}
use Rattle.definitions.specs.Buffer.{over}
use Rattle.replace.specs.Plant.{front, back}
use Rattle.replace.specs.Put.{first_bits, filling}
use Rattle.replace.specs.declared.plan.Plan.{Plan}
use Rattle.replace.specs.Planting.{Deep}

-- the records that are put in, where g are the bits of the record that stands where the exchange starts
unfoldable pub inserted_for : ℕ → ℕ → List Record → Plan → List Record
inserted_for g κ content plan =
    front κ g (bit_or g (first_bits content)) plan.top plan.levels
    ++ (filling κ content plan.top ++ back κ g plan.top plan.levels)

-- a content of so many records lies in two slices, and there is room for it from a place on in two others
pub record Copyable (at : ℕ) (keys bits content_keys content_bits : List ℕ) (count : ℕ) : Type 0 where
  pub some : 1 ≤ count
  pub content_fits : count ≤ room content_keys content_bits
  pub fits : at + count ≤ room keys bits

-- the same for all that a plan puts in
pub record Insertable (keys bits : List ℕ) (κ : ℕ) (plan : Plan) (content_keys content_bits : List ℕ) (count : ℕ) : Type 0 where
  pub deep : Deep κ plan.top plan.levels
  pub some : 1 ≤ count
  pub content_fits : count ≤ room content_keys content_bits
  pub fits : plan.start + (4 * plan.levels + count) ≤ room keys bits

-- and for the exchange: the records that are taken out are there, and the list fits afterwards
pub record Exchangeable (keys bits : List ℕ) (n κ : ℕ) (plan : Plan) (content_keys content_bits : List ℕ) (count : ℕ) : Type 0 where
  pub deep : Deep κ plan.top plan.levels
  pub some : 1 ≤ count
  pub content_fits : count ≤ room content_keys content_bits
  pub taken : 1 ≤ plan.old
  pub within : plan.start + plan.old ≤ n
  pub list_fits : n ≤ room keys bits
  pub fits : n - plan.old + (4 * plan.levels + count) ≤ room keys bits

-- two slices begin with the records of a list, and the places past it are as they were
pub record SlicesHold (l : List Record) (keys bits keys' bits' : List ℕ) : Type 0 where
  pub keys_are : keys' ≡ over (keys_of l) keys
  pub values_are : bits' ≡ over (values_of l) bits
