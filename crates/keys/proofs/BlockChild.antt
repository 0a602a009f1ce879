-- A quadrant of a block of the map, told by its digit, is a lower block of the map. Rests on Under, Interval and Powers.
use Prim.Native.Nat.{ℕ, zero, suc, ◌-◌, ◌≤◌, ◌<◌}
use mathlib.Core.Path.{◌≡◌, ap}
use native.Mathlib.Omega.{arith}
use Rattle.keys.specs.Under.{MapBlock, here, nw, ne, sw, se}
use Rattle.keys.specs.Child.{child_of, InMap, KeysEnd, Divisible}
use Rattle.keys.specs.declared.block.TreeBlock.{TreeBlock}
use Rattle.keys.proofs.Under.{under_trans}
use Rattle.keys.proofs.Interval.{within}
use Rattle.keys.proofs.Powers.{two_le, five_le}

-- one of four digits
pub by-digit {ℓ} : (C : ℕ → Type ℓ) (d : ℕ) → 1 ≤ d → d ≤ 4 → C 1 → C 2 → C 3 → C 4 → C d
by-digit C zero low high a b c e = absurd (omega arith)
by-digit C (suc zero) low high a b c e = a
by-digit C (suc (suc zero)) low high a b c e = b
by-digit C (suc (suc (suc zero))) low high a b c e = c
by-digit C (suc (suc (suc (suc zero)))) low high a b c e = e
by-digit C (suc (suc (suc (suc (suc d))))) low high a b c e = absurd (omega arith)

-- a block that is no pixel is one more than a quadrant high
pub one_higher : (b : TreeBlock) → 0 < b.height → b.height ≡ suc (b.height - 1)
one_higher b positive = omega arith

pub in_child : {m : ℕ} (b : TreeBlock) (d : ℕ) → InMap m b → 0 < b.height → 1 ≤ d → d ≤ 4 → InMap m (child_of b d)
in_child {m} b d i positive low high =
    let up = one_higher b positive in
    let whole : MapBlock m (suc (b.height - 1)) b.row b.column b.key = rw (← up) i in
    by-digit (λ x. InMap m (child_of b x)) d low high
    (under_trans whole (nw here))
    (under_trans whole (ne here))
    (under_trans whole (sw here))
    (under_trans whole (se here))

-- the same by another name of the quadrant
pub is_in_child : {m : ℕ} (b : TreeBlock) (d : ℕ) {q : TreeBlock} → q ≡ child_of b d → InMap m b → 0 < b.height → 1 ≤ d → d ≤ 4 → InMap m q
is_in_child b d e i positive low high = rw e (in_child b d i positive low high)

-- a quadrant is lower
pub child_lower : (b : TreeBlock) (d : ℕ) {q : TreeBlock} {t : ℕ} → q ≡ child_of b d → 0 < b.height → b.height ≡ t → q.height < t
child_lower b d e positive f = let h = ap (λ x. x.height) e in omega (arith, h)

-- a block of the map that is no pixel has quadrants
pub divides : {m : ℕ} (b : TreeBlock) → m ≤ 10 → InMap m b → 0 < b.height → Divisible b
divides b deep i positive =
    let w = within i in
    let two = two_le 10 deep in
    let five = five_le 10 deep in
    record {
      positive = positive;
      deep = omega (arith, w.height);
      rows = omega (arith, w.bottom);
      columns = omega (arith, w.right);
      keys = omega (arith, w.until);
    }

-- a block's keys end within the map's
pub end_in-map : {m : ℕ} (b : TreeBlock) → m ≤ 10 → InMap m b → KeysEnd b
end_in-map b deep i = let w = within i in let five = five_le 10 deep in record { deep = omega (arith, w.height); keys = omega (arith, w.until) }
