-- The loop that climbs from a block to the largest one around it that has its bits: what is left to climb gives what was to be climbed at the
-- start. Rests on Climb.
use Prim.Native.Nat.{ℕ, suc, ◌+◌, ◌-◌, ◌*◌, ◌^◌, ◌≤◌, ◌<◌}
use mathlib.Core.Path.{◌≡◌, refl, sym, ◌∙◌, ap}
use mathlib.Core.List.{List}
use native.Mathlib.Nat.{pow-suc}
use native.Mathlib.Numerals.{add-one}
use native.Mathlib.Omega.{arith}
use borrow.Author.Tests.{eq-eqb, ne_eqb}
use Rattle.keys.proofs.Powers.{five_le, five_pos}
use Rattle.definitions.specs.List.{Record}
use Rattle.replace.specs.Family.{parent_bits, wider_bits}
use Rattle.replace.specs.Climb.{climb}
use Rattle.replace.proofs.FamilyRead.{wider_parent}
use Rattle.replace.proofs.Climb.{climb_zero, climb_on, climb_ends}

-- the loop has come to a height, with the step of its blocks
pub record Climbing (m : ℕ) (l : List Record) (key b low height step : ℕ) : Type 0 where
  pub within : height ≤ m
  pub power : step ≡ 5 ^ height
  pub left : climb l key b (m - low) low ≡ climb l key b (m - height) height

-- it begins
pub climb_begins : (m : ℕ) (l : List Record) (key b low step : ℕ) → low ≤ m → step ≡ 5 ^ low → Climbing m l key b low low step
climb_begins m l key b low step h e = record { within = h; power = e; left = refl }

module _ {m : ℕ} {l : List Record} {key b low height step : ℕ} (p : Climbing m l key b low height step) where
  -- the step is that of a block below the root
  pub climb_step : m ≤ 10 → height < m → (1 ≤ step) × (step ≤ 5 ^ 9)
  climb_step deep h =
      let e = p.power in
      let i = five_pos height in
      let j = five_le {k = height} 9 (omega arith) in
      omega arith

  levels : height < m → m - height ≡ suc (m - (height + 1))
  levels h = omega arith

  -- at the root it ends
  pub climb_done : m ≤ height → m ≡ climb l key b (m - low) low
  climb_done h =
      let w = p.within in
      let e : m - height ≡ 0 = omega arith in
      let same : m ≡ height = omega arith in
      same ∙ sym (p.left ∙ ap (λ n. climb l key b n height) e ∙ climb_zero l key b height)

  -- the parent's bits, as they were found
  module _ (h : height < m) (parent : ℕ) (found : parent ≡ wider_bits l key b step) where
    parent_is : parent ≡ parent_bits l key b height
    parent_is = found ∙ wider_parent key step height p.power l b

    -- they are others: the end
    pub climb_stops : (parent ≡ b → ⊥) → height ≡ climb l key b (m - low) low
    climb_stops other =
        sym
        (p.left
        ∙ ap (λ n. climb l key b n height) (levels h)
        ∙ climb_ends l key b (m - (height + 1)) height (ne_eqb _ _ (λ e. other (parent_is ∙ e))))

    -- they are the same: on
    pub climb_goes : parent ≡ b → Climbing m l key b low (height + 1) (step * 5)
    climb_goes same =
        record {
          within = omega arith;
          power = ap (λ s. s * 5) p.power ∙ sym (pow-suc 5 height) ∙ ap (λ k. 5 ^ k) (sym (add-one height));
          left =
              p.left
              ∙ ap (λ n. climb l key b n height) (levels h)
              ∙ climb_on l key b (m - (height + 1)) height (eq-eqb _ _ (sym (parent_is) ∙ same))
              ∙ ap (climb l key b (m - (height + 1))) (sym (add-one height));
        }
