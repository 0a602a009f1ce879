-- What putting a content into a block asks of the lent slices and leaves in them. Only contracts need these. Rests on Put.
use Rattle.std.specs.Prelude.{ℕ, ◌≤◌, ◌≡◌, true, List, length}
use Rattle.keys.specs.Key.{valid_key}
use Rattle.definitions.specs.Picture.{Picture}
use Rattle.definitions.specs.List.{Record, keys_of, values_of}
use Rattle.definitions.specs.Read.{room, records_of}
use Rattle.definitions.specs.Edit.{content_of}
use Rattle.definitions.specs.Buffer.{replaced}
use Rattle.list.specs.Own.{OwnList}
use Rattle.replace.specs.Put.{plan_of, length_after}
use Rattle.replace.specs.declared.plan.Plan.{Plan}

-- the first n records are a list, the content is that of some picture at the block, the plan is theirs, and the list fits afterwards
pub record Puttable (m : ℕ) (keys bits : List ℕ) (n κ : ℕ) (plan : Plan) (content_keys content_bits : List ℕ) (count : ℕ) : Type 0 where
  pub deep : m ≤ 10
  pub valid : valid_key m κ ≡ true
  pub own : OwnList m keys bits n
  pub picture : Picture
  pub content_fits : count ≤ room content_keys content_bits
  pub content_is : records_of content_keys content_bits count ≡ content_of m picture κ
  pub plan-is : plan ≡ plan_of m (records_of keys bits n) κ (records_of content_keys content_bits count)
  pub fits : length_after (records_of keys bits n) (records_of content_keys content_bits count) plan ≤ room keys bits

-- a list of n records in two slices is replaced by another, and the number of its records is told
pub record Replaced (n : ℕ) (l : List Record) (keys bits keys' bits' : List ℕ) (r : ℕ) : Type 0 where
  pub length-is : r ≡ length l
  pub keys_are : keys' ≡ replaced n (keys_of l) keys
  pub values_are : bits' ≡ replaced n (values_of l) bits
