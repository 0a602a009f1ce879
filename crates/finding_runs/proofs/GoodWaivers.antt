-- The test of the waivers by themselves, waiver by waiver: the order to the next, and the key. Rests on keys' Cases.
use Prim.Native.Nat.{ℕ}
use mathlib.Core.Path.{◌≡◌, refl, ap₂}
use mathlib.Core.Bool.{Bool, true, ◌&&◌}
use mathlib.Core.List.{List, []}
use Rattle.keys.proofs.Cases.{and_left, and_right}
use Rattle.definitions.specs.Rules.{Finding, findings_ascend}
use Rattle.finding_runs.specs.Run.{keys_valid, waivers_good}

-- both parts of the test
both : (a b : Bool) {c d : Bool} → a ≡ c → b ≡ d → a && b ≡ c && d
both a b e f = ap₂ (λ x y. x && y) e f

-- four tests, of which the first and the third hold
middle : (a b c d : Bool) → a ≡ true → c ≡ true → (a && b) && (c && d) ≡ b && d
middle a b c d e f = rw (e, f)

module _ (m : ℕ) where
  -- good waivers are in order
  pub good_in_order : (ws : List Finding) → waivers_good m ws ≡ true → findings_ascend ws ≡ true
  unfolding waivers_good
  good_in_order ws e = and_left (findings_ascend ws) (keys_valid m ws) e

  -- and have valid keys
  pub good_valid : (ws : List Finding) → waivers_good m ws ≡ true → keys_valid m ws ≡ true
  unfolding waivers_good
  good_valid ws e = and_right (findings_ascend ws) (keys_valid m ws) e

  pub good_none : waivers_good m [] ≡ true
  unfolding waivers_good findings_ascend keys_valid
  good_none = refl
