-- What the loop of `gather_run` keeps: what is counted and written so far, with what the rest of the run gives, is what the whole run gives.
use Prim.Native.Nat.{ℕ, ◌+◌, ◌≤◌}
use mathlib.Core.Path.{◌≡◌}
use mathlib.Core.List.{List}
use lib.ListN.{length}
use Rattle.walk.specs.Given.{written}
use Rattle.window.proofs.Run.{left}
use Rattle.window.proofs.select.gather_run.Given as goal

pub record Passed (whole : List ℕ) (limit count : ℕ) (answer₀ answer : List ℕ) (given i : ℕ) (more : List ℕ) : Type 0 where
  pub counts : given + length more ≡ count + length whole
  pub writes : written limit answer given more ≡ written limit answer₀ count whole
  pub lengths : length answer ≡ length answer₀
  pub bound : given ≤ count + i

abbrev pub invariant-loop-i : goal.invariant-loop-i
invariant-loop-i l =
    Passed (left l.keys l.bits l.end l.bit l.first) l.limit l.count l.initial.answer l.answer l.given l.i (left l.keys l.bits l.end l.bit l.i)
