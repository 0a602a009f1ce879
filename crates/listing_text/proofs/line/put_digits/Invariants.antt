-- `put_digits`: the digits that the loop has passed stand, and what remains is the digits of the rest. Rests on Going.
use Prim.Native.Nat.{ℕ, ◌-◌, ◌^◌, ◌≤◌, ◌<◌}
use mathlib.Core.Path.{◌≡◌}
use mathlib.Core.List.{List}
use Rattle.definitions.specs.Listing.{digits_text}
use Rattle.listing_text.proofs.Going.{Going}
use Rattle.listing_text.proofs.line.put_digits.Given as goal

pub record Passed (m key start : ℕ) (old out : List ℕ) (next rest step i : ℕ) : Type 0 where
  pub within : i ≤ m
  pub power : step ≡ 5 ^ (m - i)
  pub small : rest < step
  pub going : Going (digits_text m key) (digits_text (m - i) rest) start old out next

abbrev pub invariant-loop-digit : goal.invariant-loop-digit
invariant-loop-digit l =
    Passed l.m l.key l.place l.initial.out l.out l.next l.rest l.step l._digit
