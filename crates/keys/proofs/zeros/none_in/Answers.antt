-- `zeros::none_in` meets its contract: a turn reads one of the digits that are left.
use Prim.Native.Nat.{ℕ, ◌+◌, ◌-◌, ◌/◌, ◌%◌, ◌^◌, ◌<◌}
use mathlib.Core.Path.{◌≡◌, sym, ap, ◌∙◌}
use native.Mathlib.Omega.{arith}
use lib.Dec.{eqb}
use Rattle.keys.specs.Key.{level_of}
use Rattle.keys.proofs.LastDigit.{rest_below, full_stops, full_goes, full_over}
use Rattle.keys.proofs.zeros.none_in.Goals as goal

-- one digit less is left
goes : (k done rest : ℕ) → done < k → rest < 5 ^ (k - done) → (rest % 5 ≡ 0 → ⊥)
    → (rest / 5 < 5 ^ (k - (done + 1))) × (eqb (level_of (k - done) rest) (k - done) ≡ eqb (level_of (k - (done + 1)) (rest / 5)) (k - (done + 1)))
goes k done rest more below some =
    let one_off : k - done - 1 ≡ k - (done + 1) = omega arith in (
      rw (sym one_off) (rest_below (k - done) rest (omega arith) below),
      full_goes (k - done) rest (omega arith) below some ∙ ap (λ n. eqb (level_of n (rest / 5)) n) one_off,
    )

pub returns-then-rest-eq0 : goal.returns-then-rest-eq0
returns-then-rest-eq0 c = let l = c.loop in sym (l.invariant.1 ∙ full_stops _ l.rest (omega arith) l.invariant.0 c.if-rest-eq0.true)

pub loop-preserved : goal.loop-preserved
loop-preserved c =
    let l = c.loop in
    let g = goes _ _ l.rest c.loop-test.true l.invariant.0 c.if-rest-eq0.false in
    (g.0, l.invariant.1 ∙ g.1)

pub returns : goal.returns
returns c = let l = c.loop in sym (l.invariant.1 ∙ full_over _ l.rest (omega arith))
