-- The loop of the check over a node's children, with the records read from a file: each step is that over two slices, where the slices hold the
-- file's keys and bitstrings. Rests on ReadBytes, the records of two slices and the laws of the check.
use Prim.Native.Nat.{ℕ, ◌+◌, ◌*◌, ◌/◌, ◌^◌, ◌≤◌, ◌<◌}
use mathlib.Core.Path.{◌≡◌, sym, ap, ◌∙◌}
use mathlib.Core.Bool.{true, false}
use mathlib.Core.List.{List}
use native.Mathlib.Omega.{arith}
use lib.ListN.{length, get_or, drop}
use lib.Bits.{bit_or}
use Rattle.definitions.specs.Read.{paired}
use Rattle.laws.proofs.Records.{paired_back}
use Rattle.list.specs.Check.{one_slot, rest_place, after_node, step_under}
use Rattle.list.proofs.Turn.{Answer, TurnPassed, at_height, pixel, turn_begins, ends, differs, short, other_key, wrong_child, goes_leaf, goes_node}
use Rattle.file.specs.Layout.{RecordsFit, file_key_at, file_bits_at, records_at, keys_at, values_at}
use Rattle.file.proofs.ReadBytes.{key_read, value_read, keys_many, bits_many}

-- what the function answers, of the file's records
abbrev pub TurnAnswered : ℕ → ℕ → List ℕ → ℕ → ℕ → ℕ → ℕ → ℕ → Type 0
TurnAnswered w n file first key own step r =
    (r ≤ n) × ((k : ℕ) → step ≡ step_under k → r ≡ rest_place n (after_node k key own (drop first (records_at w n file))))

-- there are as many keys as records
pub many : (w n : ℕ) (file : List ℕ) → length (keys_at w n file) ≡ n
many w n file = keys_many w n file

-- and as many bitstrings as keys
pub size : (w n : ℕ) (file : List ℕ) → length (keys_at w n file) ≡ length (values_at w n file)
size w n file = many w n file ∙ sym (bits_many w n file)

-- together they are the file's records
pub in_file : (w n : ℕ) (file : List ℕ) → paired (keys_at w n file) (values_at w n file) ≡ records_at w n file
in_file w n file = paired_back (records_at w n file)

-- so the model's answer of the two slices is its answer of the file
pub in_place : (w n : ℕ) (file : List ℕ) (first key own k : ℕ)
    → rest_place (length (keys_at w n file)) (after_node k key own (drop first (paired (keys_at w n file) (values_at w n file))))
    ≡ rest_place n (after_node k key own (drop first (records_at w n file)))
in_place w n file first key own k i = rest_place (many w n file i) (after_node k key own (drop first (in_file w n file i)))

module _ (w n : ℕ) (file : List ℕ) (first key own step r : ℕ) where
  answered : r ≤ n → Answer (keys_at w n file) (values_at w n file) first key own step r → TurnAnswered w n file first key own step r
  answered within h = (within, λ k e. h k e ∙ in_place w n file first key own k)

  answer : TurnAnswered w n file first key own step r → Answer (keys_at w n file) (values_at w n file) first key own step r
  answer h k e = h.1 k e ∙ sym (in_place w n file first key own k)

  -- an answer at one height is the answer for that height's step
  pub at_height_in : (k : ℕ) → step ≡ step_under k → (r ≤ n) × (r ≡ rest_place n (after_node k key own (drop first (records_at w n file))))
      → TurnAnswered w n file first key own step r
  at_height_in k e h =
      answered h.0 (at_height (keys_at w n file) (values_at w n file) first key own k step r e (h.1 ∙ sym (in_place w n file first key own k)))

-- a pixel has no children
pub pixel_in : (w n : ℕ) (file : List ℕ) (first key own step : ℕ) → step < 25 → (step ≡ 5 → ⊥) → (step ≡ 1 → ⊥) → TurnAnswered w n file first key own step 0
pixel_in w n file first key own step low five one =
    answered w n file first key own step 0 (omega arith) (pixel (keys_at w n file) (values_at w n file) first key own step low five one)

-- what has been passed before a turn, and that the records are there
pub record PassedIn (w n : ℕ) (file : List ℕ) (first key own step next union digit : ℕ) : Type 0 where
  pub laid : RecordsFit w n file
  pub reached : next ≤ n
  pub passed : TurnPassed (keys_at w n file) (values_at w n file) first key own step next union digit

-- the same where the code goes by the next child's key; past the first child the place is no 0
pub record ChildrenIn (w n : ℕ) (file : List ℕ) (first key own step next union child : ℕ) : Type 0 where
  pub digit : ℕ
  pub child_is : child ≡ key + digit * step
  pub passed : PassedIn w n file first key own step next union digit
  pub past : 1 < digit → 0 < next

-- before the first turn nothing has been passed
pub begins_in : (w n : ℕ) (file : List ℕ) (first key own step : ℕ)
    → RecordsFit w n file × (first ≤ n) × (key + 5 * step < 2 ^ 32) → (step ≡ 0 → ⊥)
    → PassedIn w n file first key own step first 0 1
begins_in w n file first key own step pre positive =
    let e = many w n file in
    let within : first ≤ length (keys_at w n file) = omega (arith, pre.1) in
    record { laid = pre.0; reached = pre.1; passed = turn_begins (keys_at w n file) (values_at w n file) first key own step (size w n file, within, pre.2) positive }

module _ {w n : ℕ} {file : List ℕ} {first key own step next union digit : ℕ} (p : PassedIn w n file first key own step next union digit) where
  -- at the end: the union must be the block's own bits
  pub ends_in : 5 ≤ digit → union ≡ own → TurnAnswered w n file first key own step next
  ends_in end e = answered w n file first key own step next p.reached (ends p.passed end e)

  -- and else the records are wrong
  pub differs_in : 5 ≤ digit → (union ≡ own → ⊥) → TurnAnswered w n file first key own step 0
  differs_in end e = answered w n file first key own step 0 (omega arith) (differs p.passed end e)

  module _ (turn : digit < 5) where
    -- no record is left
    pub short_in : n ≤ next → TurnAnswered w n file first key own step 0
    short_in h =
        let e = many w n file in
        let past : length (keys_at w n file) ≤ next = omega arith in
        answered w n file first key own step 0 (omega arith) (short p.passed turn past)

    -- a record is left with the key κ, and x is the child's key
    module _ (there : next < n) (κ : ℕ) (κ-is : κ ≡ file_key_at w next file) {x : ℕ} (is : x ≡ key + digit * step) where
      listed : next < length (keys_at w n file)
      listed = let e = many w n file in omega arith

      key-is : κ ≡ get_or (keys_at w n file) next 0
      key-is = κ-is ∙ sym (key_read w n next file there)

      -- the record has another key than the child
      pub other_key_in : (κ ≡ x → ⊥) → TurnAnswered w n file first key own step 0
      other_key_in h = answered w n file first key own step 0 (omega arith) (other_key p.passed turn listed is (λ e. h (key-is ∙ e)))

      module _ (child : κ ≡ x) (found : ℕ) (found-is : found ≡ file_bits_at w next file) where
        child_is : get_or (keys_at w n file) next 0 ≡ x
        child_is = sym key-is ∙ child

        bits_is : get_or (values_at w n file) next 0 ≡ found
        bits_is = value_read w n next file there ∙ sym found-is

        -- what a function for one height alone answers of the child's block
        pub child_in : (k : ℕ) → step / 5 ≡ step_under k
            → (after : ℕ)
            → (after ≤ n) × (after ≡ rest_place n (after_node k x found (drop (next + 1) (records_at w n file))))
            → TurnAnswered w n file (next + 1) x found (step / 5) after
        child_in k e after h = at_height_in w n file (next + 1) x found (step / 5) after k e h

        -- the child's block is wrong
        pub wrong_child_in : one_slot found ≡ false → (after : ℕ) → after ≡ 0 → TurnAnswered w n file (next + 1) x found (step / 5) after
            → TurnAnswered w n file first key own step 0
        wrong_child_in node after none h =
            answered w n file first key own step 0 (omega arith)
            (wrong_child p.passed turn listed is child_is (ap one_slot bits_is ∙ node) after none
            (rw bits_is (answer w n file (next + 1) x found (step / 5) after h)))

        -- a leaf ends at once
        pub leaf_in : one_slot found ≡ true → PassedIn w n file first key own step (next + 1) (bit_or union found) (digit + 1)
        leaf_in leaf = record {
          laid = p.laid;
          reached = omega arith;
          passed = rw bits_is at (goes_leaf p.passed turn listed is child_is (ap one_slot bits_is ∙ leaf));
        }

        -- a node ends where its children end
        pub node_in : one_slot found ≡ false → (after : ℕ) → (after ≡ 0 → ⊥) → TurnAnswered w n file (next + 1) x found (step / 5) after
            → PassedIn w n file first key own step after (bit_or union found) (digit + 1)
        node_in node after good h =
            let e = many w n file in
            let within : after ≤ length (keys_at w n file) = omega (arith, h.0) in
            record {
              laid = p.laid;
              reached = h.0;
              passed = rw bits_is at
                  (goes_node p.passed turn listed is child_is (ap one_slot bits_is ∙ node) after good within
                  (rw bits_is (answer w n file (next + 1) x found (step / 5) after h)));
            }
