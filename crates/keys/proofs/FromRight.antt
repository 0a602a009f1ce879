-- Digits from the right: what one digit more at the left of the last i gives to the number, the row and the column. Rests on Digits.
use Prim.Native.Nat.{ℕ, ◌+◌, ◌*◌, ◌/◌, ◌%◌, ◌^◌}
use mathlib.Core.Path.{◌≡◌, sym, ap, ◌∙◌}
use mathlib.Core.Bool.{cond}
use native.Mathlib.Nat.{pow-suc, mul_comm, mod-lt, div-div-eq-div-mul}
use native.Mathlib.Numerals.{add-one}
use lib.Dec.{lit<}
use lib.Arith.{mod-mul}
use Rattle.keys.specs.Block.{is_south, is_east, row_of, column_of}
use Rattle.keys.proofs.Powers.{five_pos}
use Rattle.keys.proofs.Digits.{row_suc, column_suc}

module _ (i κ : ℕ) where
  -- the last i + 1 digits: the digit there, and the last i
  pub last_digits : κ % 5 ^ (i + 1) ≡ κ / 5 ^ i % 5 * 5 ^ i + κ % 5 ^ i
  last_digits =
      ap (λ k. κ % 5 ^ k) (add-one i) ∙ ap (λ x. κ % x) (pow-suc 5 i ∙ mul_comm (5 ^ i) 5) ∙ mod-mul κ {m = 5} {c = 5 ^ i} (lit< tt) (five_pos i)

  -- the digits before them
  pub digits_before : κ / 5 ^ i / 5 ≡ κ / 5 ^ (i + 1)
  digits_before = div-div-eq-div-mul κ (5 ^ i) 5 ∙ ap (λ x. κ / x) (sym (ap (λ k. 5 ^ k) (add-one i) ∙ pow-suc 5 i))

  pub row_right : row_of (i + 1) (κ % 5 ^ (i + 1)) ≡ cond (is_south (κ / 5 ^ i % 5)) (2 ^ i) 0 + row_of i (κ % 5 ^ i)
  row_right = ap (row_of (i + 1)) last_digits ∙ ap (λ k. row_of k (κ / 5 ^ i % 5 * 5 ^ i + κ % 5 ^ i)) (add-one i) ∙ row_suc i (κ / 5 ^ i % 5) (mod-lt κ (five_pos i))

  pub column_right : column_of (i + 1) (κ % 5 ^ (i + 1)) ≡ cond (is_east (κ / 5 ^ i % 5)) (2 ^ i) 0 + column_of i (κ % 5 ^ i)
  column_right =
      ap (column_of (i + 1)) last_digits ∙ ap (λ k. column_of k (κ / 5 ^ i % 5 * 5 ^ i + κ % 5 ^ i)) (add-one i) ∙ column_suc i (κ / 5 ^ i % 5) (mod-lt κ (five_pos i))
