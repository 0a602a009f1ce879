-- `put_slots`: the slots that the loop has passed stand, and the rest is the bitstring without them. Rests on Going.
use Prim.Native.Nat.{ℕ, ◌-◌, ◌/◌, ◌^◌, ◌≤◌}
use mathlib.Core.Path.{◌≡◌}
use mathlib.Core.List.{List}
use Rattle.definitions.specs.Listing.{slots_from, slots_text}
use Rattle.listing_text.proofs.Going.{Going}
use Rattle.listing_text.proofs.line.put_slots.Given as goal

pub record Passed (s bits start : ℕ) (old out : List ℕ) (next rest i : ℕ) : Type 0 where
  pub within : i ≤ s
  pub shifted : rest ≡ bits / 2 ^ i
  pub going : Going (slots_text s bits) (slots_from i (s - i) bits) start old out next

abbrev pub invariant-loop-slot : goal.invariant-loop-slot
invariant-loop-slot l =
    Passed l.s l.bits l.place l.initial.out l.out l.next l.rest l._slot
