-- Bitstrings: slot i is worth 2 ^ i, and is set exactly when feature i occurs in the block (specification S4.1, S4.2). Rests on Picture.
use Rattle.std.specs.Prelude.{ℕ, zero, suc, ◌+◌, ◌/◌, ◌%◌, ◌^◌, Bool, true, false, eqb}
use Rattle.std.specs.Int.Bits.{bit_or}
use Rattle.definitions.specs.Picture.{Picture}

-- slot i is set
abbrev pub has_slot : (bits i : ℕ) → Bool
has_slot bits i = eqb (bits / 2 ^ i % 2) 1

unfoldable pub union_of_four : (nw ne sw se : ℕ) → ℕ
union_of_four nw ne sw se = bit_or (bit_or nw ne) (bit_or sw se)

-- the features of the block of height k at a row and a column
unfoldable pub bits_of : (p : Picture) (k row column : ℕ) → ℕ
bits_of p zero row column = 2 ^ p row column
bits_of p (suc k) row column =
    union_of_four (bits_of p k row column)
    (bits_of p k row (column + 2 ^ k))
    (bits_of p k (row + 2 ^ k) column)
    (bits_of p k (row + 2 ^ k) (column + 2 ^ k))

-- how often 2 divides the number, looked for at most fuel times
unfoldable pub twos_in : (fuel bits : ℕ) → ℕ
twos_in zero bits = 0
twos_in (suc fuel) bits = elim (eqb (bits % 2) 1) [ true ↦ 0 | false ↦ suc (twos_in fuel (bits / 2)) ]

-- the feature of a leaf: its first slot that is set
unfoldable pub feature_of : (bits : ℕ) → ℕ
feature_of bits = twos_in bits bits
