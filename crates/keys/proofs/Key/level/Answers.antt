-- `Key::level` meets its contract: after each turn the level is the digits passed and those that the rest has before its first zero.
use Prim.Native.Nat.{ℕ, ◌+◌, ◌-◌, ◌*◌, ◌/◌, ◌%◌, ◌^◌, ◌≤◌, ◌<◌}
use mathlib.Core.Path.{◌≡◌, sym, ap, ◌∙◌}
use native.Mathlib.Omega.{arith}
use native.Mathlib.Nat.{add-zero, div-lt_iff_lt-mul, div-eq_of_lt}
use lib.Dec.{lit<}
use Rattle.keys.specs.Key.{digits_of, digits_before_zero, level_of}
use Rattle.keys.proofs.Cases.{split}
use Rattle.keys.proofs.Powers.{five_pos}
use Rattle.keys.proofs.Descent.{one_less, power_down, level_stops, level_goes}
use Rattle.keys.proofs.Key.level.Invariants.{before, Passed}
use Rattle.keys.proofs.Key.level.Goals as goal

module _ {m whole rest step level : ℕ} (p : Passed m whole rest step level) (h : level < m) where
  down : step / 5 ≡ 5 ^ (m - (level + 1))
  down = power_down 5 m level step (lit< tt) h p.power

  nonzero : 0 < step / 5
  nonzero = let q = down in let z = five_pos (m - (level + 1)) in omega arith

  -- the digit is 0 exactly when the rest is below the step
  stops : rest / (step / 5) ≡ 0 → level ≡ before m whole
  stops none =
      let q = down in
      let below : rest < 1 * (step / 5) = (div-lt_iff_lt-mul nonzero).0 (omega arith) in
      let z : rest < 5 ^ (m - (level + 1)) = omega arith in
      sym (p.found ∙ ap (λ (k : ℕ). level + before k rest) (one_less m level h) ∙ ap (λ (x : ℕ). level + x) (level_stops _ rest z) ∙ add-zero level)

  goes : (rest / (step / 5) ≡ 0 → ⊥) → Passed m whole (rest % (step / 5)) (step / 5) (level + 1)
  goes some =
      let q = down in
      let large : step / 5 ≤ rest = split rest (step / 5) (λ small. absurd (some (div-eq_of_lt small))) (λ h. h) in
      let z : 5 ^ (m - (level + 1)) ≤ rest = omega arith in
      let e = ap (λ (k : ℕ). before k rest) (one_less m level h) ∙ level_goes _ rest z in
      let d : before (m - (level + 1)) (rest % 5 ^ (m - (level + 1))) ≡ before (m - (level + 1)) (rest % (step / 5)) =
      ap (λ (x : ℕ). before (m - (level + 1)) (rest % x)) (sym q) in
      record { power = q; found = omega (arith, p.found) }

ends : {m whole rest step level : ℕ} → Passed m whole rest step level → level ≤ m → m ≤ level → m ≡ before m whole
unfolding digits_of digits_before_zero
ends {m} {whole} {rest} {step} {level} p far h =
    let none : m - level ≡ 0 = omega arith in
    let e = ap (λ (k : ℕ). before k rest) none in
    omega (arith, p.found)

pub nonzero_div-digit : goal.nonzero_div-digit
nonzero_div-digit c = nonzero c.loop-level.invariant c.loop-level-test.true

pub returns-then-digit-eq0 : goal.returns-then-digit-eq0
unfolding level_of
returns-then-digit-eq0 c = stops c.loop-level.invariant c.loop-level-test.true c.if-digit-eq0.true

pub loop-level-preserved : goal.loop-level-preserved
loop-level-preserved c = goes c.loop-level.invariant c.loop-level-test.true c.if-digit-eq0.false

pub returns : goal.returns
unfolding level_of
returns c = ends c.loop-level.invariant c.loop-level.auto.level-end c.loop-level-test.false
