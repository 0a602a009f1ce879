-- `put_lines`: the lines of the records that the loop has passed stand, and what remains is those of the others. Rests on Going.
use Prim.Native.Nat.{ℕ, ◌-◌, ◌≤◌}
use mathlib.Core.List.{List}
use lib.ListN.{length, drop}
use Rattle.definitions.specs.Read.{records_of}
use Rattle.definitions.specs.Listing.{lines_of}
use Rattle.listing_text.proofs.Going.{Going}
use Rattle.listing_text.proofs.listing.put_lines.Given as goal

abbrev pub left : ℕ → ℕ → List ℕ → List ℕ → ℕ → ℕ → List ℕ
left m s keys bits n i = lines_of m s (records_of (drop i keys) (drop i bits) (n - i))

pub record Passed (m s : ℕ) (keys bits : List ℕ) (n start : ℕ) (old out : List ℕ) (next i : ℕ) : Type 0 where
  pub within : i ≤ n
  pub going : Going (lines_of m s (records_of keys bits n)) (left m s keys bits n i) start old out next

abbrev pub invariant-loop-i : goal.invariant-loop-i
invariant-loop-i l =
    Passed l.m l.s l.keys l.bits (length l.keys) l.place l.initial.out l.out l.next l.i
