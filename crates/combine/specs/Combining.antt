-- What the counting and the writing of one block of two combined lists ask and answer, for the contracts of src/ alone. A list is read by its
-- bitstrings: a block is listed at a place, or lies inside a leaf whose bits are carried along. The pictures that the two lists show are named in
-- what is asked; what is answered holds of whichever pictures they show.
use Rattle.std.specs.Prelude.{Option, None, Some, ℕ, ◌+◌, ◌*◌, ◌^◌, ◌≤◌, ◌<◌, ◌≡◌, true, cond, List, length, get_or}
use Rattle.keys.specs.Key.{slot_limit}
use Rattle.definitions.specs.Picture.{Picture, features_below}
use Rattle.definitions.specs.Bits.{bits_of}
use Rattle.definitions.specs.List.{list_of}
use Rattle.definitions.specs.Combine.{combined}
use Rattle.list.specs.Check.{one_slot}
use Rattle.list.specs.Shown.{ShownAt}
use Rattle.build.specs.BuildBlocks.{Tallied, Fitting, Written}
use Rattle.keys.specs.declared.span.KeySpan.{KeySpan}
use Rattle.combine.specs.declared.cursor.Cursor.{Cursor}
use Rattle.combine.specs.declared.cursor.Pair.{Pair}

-- where a list stands at a block: inside a leaf of the given bits, or, where it is in none, at the block's own record
pub record At (p : Picture) (k r c κ : ℕ) (bits : List ℕ) (x : Cursor) : Type 0 where
  pub inside : (b : ℕ) → x.leaf ≡ Some b → (b ≡ bits_of p k r c) × (one_slot b ≡ true)
  pub listed : x.leaf ≡ None → ShownAt p k r c κ bits x.at

-- the bits of a leaf, and none for a node
abbrev pub leaf_of : ℕ → Option ℕ
leaf_of own = cond (one_slot own) (Some own) None

-- the leaf after a block's own bits were read, where it has a record, and how many records were read
abbrev pub leaf_in : Option ℕ → ℕ → Option ℕ
leaf_in None own = leaf_of own
leaf_in (Some b) own = Some b

abbrev pub read_in : Option ℕ → ℕ
read_in None = 1
read_in (Some b) = 0

-- once the block's own record is read, where it has one: the bits of the leaf around its quadrants, and the place of what follows
pub record Entered (bits : List ℕ) (x y : Cursor) : Type 0 where
  pub leaf_is : y.leaf ≡ leaf_in x.leaf (get_or bits x.at 0)
  pub at_is : y.at ≡ x.at + read_in x.leaf

-- the bits of two leaves
abbrev pub both_of : Option ℕ → Option ℕ → Option (ℕ × ℕ)
both_of None second = None
both_of (Some a) None = None
both_of (Some a) (Some b) = Some (a, b)

-- how many records are passed with the block
abbrev pub passing : Picture → ℕ → ℕ → ℕ → ℕ → Option ℕ → ℕ
passing p k r c κ None = length (list_of p k r c κ)
passing p k r c κ (Some b) = 0

-- once the block is passed: inside the leaf as before, and at the place after the block
pub record CursorPassed (p : Picture) (k r c κ : ℕ) (x y : Cursor) : Type 0 where
  pub same_leaf : y.leaf ≡ x.leaf
  pub at_is : y.at ≡ x.at + passing p k r c κ x.leaf

-- both lists before the root's record
abbrev pub both_roots : Pair
both_roots = record { first = record { leaf = None; at = 0 }; second = record { leaf = None; at = 0 } }

-- the leaves of one pair, and the places of another
abbrev pub passed_to : (x y : Pair) → Pair
passed_to x y = record { first = record { leaf = x.first.leaf; at = y.first.at }; second = record { leaf = x.second.leaf; at = y.second.at } }

-- both lists stand at one block; step is what the last digit of its key is worth
pub record Seen (p q : Picture) (k r c κ : ℕ) (bits₁ bits₂ : List ℕ) (step : ℕ) (x : Pair) : Type 0 where
  pub step_is : step ≡ 5 ^ k
  pub first_at : At p k r c κ bits₁ x.first
  pub second_at : At q k r c κ bits₂ x.second

-- the block's records are read in both
pub record BothEntered (bits₁ bits₂ : List ℕ) (x y : Pair) : Type 0 where
  pub first_in : Entered bits₁ x.first y.first
  pub second_in : Entered bits₂ x.second y.second

-- the block is passed in both
pub record Passes (p q : Picture) (k r c κ : ℕ) (x y : Pair) : Type 0 where
  pub first_next : CursorPassed p k r c κ x.first y.first
  pub second_next : CursorPassed q k r c κ x.second y.second

-- the table has an entry for each pair of classes in the block, each a class of some result
pub record Named (p q : Picture) (k r c : ℕ) (table : List ℕ) (s₂ : ℕ) : Type 0 where
  pub slots : ℕ
  pub few : slots ≤ slot_limit
  pub few_second : s₂ ≤ slot_limit
  pub long : length table ≡ slots * s₂
  pub classes : (i : ℕ) → get_or table i 0 < slot_limit
  pub firsts : features_below slots p k r c ≡ true
  pub seconds : features_below s₂ q k r c ≡ true

-- some block that both lists show, with a table for its classes
pub record CombineAsked (bits₁ bits₂ table : List ℕ) (s₂ step : ℕ) (x : Pair) : Type 0 where
  pub first : Picture
  pub second : Picture
  pub height : ℕ
  pub row : ℕ
  pub column : ℕ
  pub key : ℕ
  pub deep : height ≤ 10
  pub seen : Seen first second height row column key bits₁ bits₂ step x
  pub named : Named first second height row column table s₂

-- and room for the records below it, as build asks for it
pub record CombineWriteAsked (bits₁ bits₂ table : List ℕ) (s₂ : ℕ) (span : KeySpan) (x : Pair) (place : ℕ) (keys bits : List ℕ) : Type 0 where
  pub asked : CombineAsked bits₁ bits₂ table s₂ span.step x
  pub fits : Fitting (combined asked.first asked.second table s₂) asked.height asked.row asked.column span.key place keys bits

-- whichever pictures the two lists show at the block, so they pass it
abbrev pub AllPass : (bits₁ bits₂ : List ℕ) (step : ℕ) (x y : Pair) → Type 0
AllPass bits₁ bits₂ step x y = (p q : Picture) (k r c κ : ℕ) → Seen p q k r c κ bits₁ bits₂ step x → Passes p q k r c κ x y

-- and these the bits and the number of records of the combined block
pub record CombinedCounted (bits₁ bits₂ table : List ℕ) (s₂ step : ℕ) (x : Pair) (union count : ℕ) (y : Pair) : Type 0 where
  pub passes : AllPass bits₁ bits₂ step x y
  pub tallied : (p q : Picture) (k r c κ : ℕ) → Seen p q k r c κ bits₁ bits₂ step x → Tallied (combined p q table s₂) k r c union count

-- or the records below the combined block are written
pub record Made (bits₁ bits₂ table : List ℕ) (s₂ : ℕ) (span : KeySpan) (x : Pair) (place : ℕ) (keys bits keys' bits' : List ℕ) (union next : ℕ) (y : Pair) : Type 0 where
  pub passes : AllPass bits₁ bits₂ span.step x y
  pub written : (p q : Picture) (k r c κ : ℕ) → Seen p q k r c κ bits₁ bits₂ span.step x
      → Written (combined p q table s₂) k r c span.key place keys bits keys' bits' union next
