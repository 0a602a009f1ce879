-- `put_text`: the bytes that the loop has passed stand, and what remains is the text without them. Rests on Going.
use Prim.Native.Nat.{ℕ, ◌≤◌}
use mathlib.Core.List.{List}
use lib.ListN.{length, drop}
use Rattle.listing_text.proofs.Going.{Going}
use Rattle.listing_text.proofs.text.put_text.Given as goal

pub record Passed (text : List ℕ) (start : ℕ) (old out : List ℕ) (next i : ℕ) : Type 0 where
  pub within : i ≤ length text
  pub going : Going text (drop i text) start old out next

abbrev pub invariant-loop-byte : goal.invariant-loop-byte
invariant-loop-byte l =
    Passed l.text l.place l.initial.out l.out l.next l.byte-index
