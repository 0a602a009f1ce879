-- What the loop of `Key::level` keeps: the level is the digits passed and those that the rest has before its first zero.
use Prim.Native.Nat.{ℕ, ◌+◌, ◌-◌, ◌^◌}
use mathlib.Core.Path.{◌≡◌}
use Rattle.keys.specs.Key.{digits_of, digits_before_zero}
use Rattle.keys.proofs.Key.level.Given as goal

-- the digits that a number of so many digits has before its first zero
abbrev pub before : ℕ → ℕ → ℕ
before k x = digits_before_zero (digits_of k x)

pub record Passed (m whole rest step level : ℕ) : Type 0 where
  pub power : step ≡ 5 ^ (m - level)
  pub found : before m whole ≡ level + before (m - level) rest

abbrev pub invariant-loop-level : goal.invariant-loop-level
invariant-loop-level l =
    Passed l.m l.initial.rest l.rest l.step l.level
