-- One step of the merge in the code's own tests. Rests on Covered and FirstPixel.
use Prim.Native.Nat.{max, ℕ, ◌+◌, ◌-◌, ◌/◌, ◌^◌, ◌≤◌, ◌<◌}
use native.Mathlib.Omega.{arith}
use mathlib.Core.Path.{◌≡◌, sym, ◌∙◌}
use mathlib.Core.Bool.{true}
use borrow.Author.Tests.{le-leb, lt-leb}
use Rattle.keys.specs.Key.{zeros_at_end, valid_key}
use Rattle.keys.proofs.Powers.{five_le}
use Rattle.keys.proofs.Interval.{within}
use Rattle.keys.proofs.Cases.{split}
use Rattle.keys.proofs.Valid.{valid_block}
use Rattle.finding.specs.Covering.{end_of, first_pixel, next_over, further, start_of}
use Rattle.finding.proofs.FirstPixel.{first_four}
use Rattle.finding.proofs.Covered.{over_yes, over_no, in_from, in_not}

pub further_yes : (a b : ℕ) → a ≤ b → b ≡ further a b
further_yes a b h = rw (le-leb a b h)

pub further_no : (a b : ℕ) → b < a → a ≡ further a b
further_no a b h = rw (lt-leb a b h)

-- a block ends within the map
pub end_small : (m κ : ℕ) → m ≤ 10 → valid_key m κ ≡ true → end_of m κ ≤ 9765625
end_small m κ low v = let w = within (valid_block m κ v) in let five = five_le 10 low in omega arith

-- a quarter of a power of five less one is the key of its first pixel
pub first_quarter : (m κ step : ℕ) → step ≡ 5 ^ zeros_at_end m κ → κ + (step - 1) / 4 ≡ first_pixel m κ
unfolding first_pixel
first_quarter m κ step e = let f = first_four (zeros_at_end m κ) in omega arith

module _ (m next w : ℕ) (v : valid_key m w ≡ true) where
  pub over_early : next < w → next ≡ next_over m next w
  over_early h = sym (over_no m next w (in_not m w v next (λ a b. omega arith)))

  pub over_late : end_of m w ≤ next → next ≡ next_over m next w
  over_late h = sym (over_no m next w (in_not m w v next (λ a b. omega arith)))

  pub over_in : w ≤ next → next < end_of m w → first_pixel m (end_of m w) ≡ next_over m next w
  over_in a b = sym (over_yes m next w (in_from m w v next a b))

pub start_reached : (m far κ : ℕ) → end_of m κ ≤ far → far ≡ start_of m far κ
unfolding start_of
start_reached m far κ h = rw (le-leb (end_of m κ) far h)

pub start_short : (m far κ : ℕ) → far < end_of m κ → first_pixel m κ ≡ start_of m far κ
unfolding start_of
start_short m far κ h = rw (lt-leb (end_of m κ) far h)

-- the larger end is the furthest
pub further_max : (a b : ℕ) → max a b ≡ further a b
further_max a b =
    split b a
    (λ less. let e : max a b ≡ a = omega arith in e ∙ further_no a b less)
    (λ more. let e : max a b ≡ b = omega arith in e ∙ further_yes a b more)
