-- `Key::read` meets its contract: a turn adds what a digit says of the square, and goes to the digit before it.
use Prim.Native.Nat.{ℕ, ◌+◌, ◌-◌, ◌*◌, ◌/◌, ◌%◌, ◌^◌, ◌≤◌, ◌<◌}
use mathlib.Core.Path.{◌≡◌, refl, sym, ap, ap₂, ◌∙◌}
use mathlib.Core.Bool.{Bool, true, false, cond}
use native.Mathlib.Omega.{arith}
use native.Mathlib.Nat.{pow-suc, mod-eq_of_lt}
use native.Mathlib.Numerals.{add-one}
use lib.Dec.{eqb}
use Rattle.std.specs.Prelude.{Some, None}
use Rattle.keys.specs.Key.{zeros_at_end, valid_key, level_of}
use Rattle.keys.specs.Block.{row_of, column_of, side_of, is_south, is_east}
use Rattle.keys.specs.KeySquare.{square_read}
use Rattle.keys.proofs.Cases.{decide}
use Rattle.keys.proofs.Powers.{two_pos, five_pos}
use Rattle.keys.proofs.Digits.{row_zero, column_zero}
use Rattle.keys.proofs.LastZeros.{zeros_most, zeros_divide, zeros_height, zeros_rest, zeros_valid}
use Rattle.keys.proofs.LastDigit.{rest_below, full_goes, full_stops, full_over}
use Rattle.keys.proofs.FromRight.{digits_before, row_right, column_right}
use Rattle.keys.proofs.Valid.{valid_below}
use Rattle.keys.proofs.Key.read.Invariants.{Passed}
use Rattle.keys.proofs.Key.read.Goals as goal

-- a turn leaves one level less
one_off : (m i : ℕ) → i < m → m - (i + 1) ≡ m - i - 1
one_off m i h = omega arith

-- past the zeros, which move nothing
begins : (m κ count power : ℕ) → κ < 5 ^ m → count ≡ zeros_at_end m κ → power ≡ 5 ^ zeros_at_end m κ → Passed m κ (κ / power) 0 0 count
begins m κ count power fits e f =
    let none : κ % 5 ^ count ≡ 0 = ap (λ n. κ % 5 ^ n) e ∙ zeros_divide m κ in
    record {
      within = omega (arith, zeros_most m κ);
      left = ap (λ x. κ / x) (f ∙ sym (ap (λ n. 5 ^ n) e));
      row_small = two_pos count;
      column_small = two_pos count;
      row_found = sym (ap (row_of count) none ∙ row_zero count);
      column_found = sym (ap (column_of count) none ∙ column_zero count);
      below = let d = zeros_rest m κ fits in rw (e, f) d;
      validity = zeros_valid m κ fits ∙ sym (ap₂ (λ n x. eqb (level_of (m - n) (κ / x)) (m - n)) e f);
    }

-- a digit adds a side at most
at_most : (x : ℕ) (b : Bool) (side : ℕ) → x ≡ cond b side 0 → x ≤ side
at_most x b side e = rw e (decide b (λ t. rw t (omega arith)) (λ f. rw f (omega arith)))

module _ {m κ rest row column i : ℕ} (p : Passed m κ rest row column i) (h : i < m) where
  goes : (side x y : ℕ) → (rest % 5 ≡ 0 → ⊥) → side ≡ 2 ^ i → x ≡ cond (is_south (rest % 5)) side 0 → y ≡ cond (is_east (rest % 5)) side 0
      → Passed m κ (rest / 5) (row + x) (column + y) (i + 1)
  goes side x y some is ex ey =
      let south = at_most x (is_south (rest % 5)) side ex in
      let east = at_most y (is_east (rest % 5)) side ey in
      let row_is = ex ∙ ap (λ z. cond (is_south (z % 5)) side 0) p.left ∙ ap (λ z. cond (is_south (κ / 5 ^ i % 5)) z 0) is in
      let column_is = ey ∙ ap (λ z. cond (is_east (z % 5)) side 0) p.left ∙ ap (λ z. cond (is_east (κ / 5 ^ i % 5)) z 0) is in
      let r = row_right i κ in
      let c = column_right i κ in
      let twice : 2 ^ (i + 1) ≡ 2 ^ i * 2 = ap (λ k. 2 ^ k) (add-one i) ∙ pow-suc 2 i in
      record {
        within = omega arith;
        left = ap (λ z. z / 5) p.left ∙ digits_before i κ;
        row_small = omega (arith, p.row_small);
        column_small = omega (arith, p.column_small);
        row_found = omega (arith, p.row_found);
        column_found = omega (arith, p.column_found);
        below = rw (one_off m i h) (rest_below (m - i) rest (omega arith) p.below);
        validity = p.validity ∙ full_goes (m - i) rest (omega arith) p.below some ∙ sym (ap (λ k. eqb (level_of k (rest / 5)) k) (one_off m i h));
      }

-- a number that is no key has no square
no_key : (m κ : ℕ) → valid_key m κ ≡ false → None ≡ square_read m κ
no_key m κ e = rw e refl

too_large : (m κ : ℕ) → 5 ^ m ≤ κ → valid_key m κ ≡ false
too_large m κ h = decide (valid_key m κ) (λ t. absurd (let b = valid_below m κ t in omega arith)) (λ f. f)

-- all digits are read
a_key : (m κ rest row column i side : ℕ) → Passed m κ rest row column i → m ≤ i → κ < 5 ^ m → side ≡ 2 ^ zeros_at_end m κ
    → Some (record { row = row; column = column; side = side }) ≡ square_read m κ
unfolding side_of
a_key m κ rest row column i side p h below s =
    let all : i ≡ m = omega (arith, p.within) in
    let valid : valid_key m κ ≡ true = p.validity ∙ full_over _ _ (omega arith) in
    let row_is = p.row_found ∙ ap (λ k. row_of k (κ % 5 ^ k)) all ∙ ap (row_of m) (mod-eq_of_lt below) in
    let column_is = p.column_found ∙ ap (λ k. column_of k (κ % 5 ^ k)) all ∙ ap (column_of m) (mod-eq_of_lt below) in
    let side_is = s ∙ ap (λ k. 2 ^ k) (zeros_height _ _ valid) in
    rw (valid, row_is, column_is, side_is) refl

pub returns-then-power_of_five-number : goal.returns-then-power_of_five-number
returns-then-power_of_five-number c = no_key _ _ (too_large _ _ (omega arith))

pub nonzero_div-rest : goal.nonzero_div-rest
nonzero_div-rest c = let some = five_pos (zeros_at_end c.args.m c.args.self.number) in omega (arith, c.at_end-end.ensures.1)

pub loop-height-init : goal.loop-height-init
loop-height-init c = let found = c.at_end-end.ensures in begins _ _ _ _ (omega arith) found.0 found.1

pub returns-then-last-eq0 : goal.returns-then-last-eq0
returns-then-last-eq0 c =
    let l = c.loop-height.invariant in
    no_key _ _ (l.validity ∙ full_stops _ _ (omega arith) l.below c.if-last-eq0.true)

pub loop-height-preserved : goal.loop-height-preserved
loop-height-preserved c =
    goes c.loop-height.invariant c.loop-height-test.true _ _ _ c.if-last-eq0.false c.power_of_two-side.ensures c.southward-row.ensures c.eastward-column.ensures

pub returns : goal.returns
returns c = a_key _ _ _ _ _ _ _ c.loop-height.invariant c.loop-height-test.false (omega arith)
    (c.power_of_two-side-2.ensures ∙ ap (λ k. 2 ^ k) c.at_end-end.ensures.0)
