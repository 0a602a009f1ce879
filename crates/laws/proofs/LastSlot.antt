-- The last of 32 slots (specification S15.19): a block has slot 31 exactly when feature 31 occurs in it, and its file keeps the slot. Rests on BitsOf
-- and FileBytes.
use Prim.Native.Nat.{ℕ}
use mathlib.Core.Path.{◌≡◌}
use mathlib.Core.Logic.{◌↔◌}
use mathlib.Core.Bool.{true}
use Rattle.keys.specs.Key.{slot_limit}
use Rattle.definitions.specs.Picture.{Picture, features_below}
use Rattle.definitions.specs.Bits.{has_slot, bits_of}
use Rattle.definitions.specs.File.{bit_bytes, bytes_of, number_of}
use Rattle.laws.proofs.BitsOf.{Occurs, bits_mean, bits_below}
use Rattle.laws.proofs.FileBytes.{number_of_bytes}

-- slot 31 is had exactly when feature 31 occurs
pub last_slot : (p : Picture) (k row column : ℕ) → (has_slot (bits_of p k row column) 31 ≡ true) ↔ Occurs p 31 k row column
last_slot p k row column = bits_mean p k row column 31

-- and is had by what the bytes of a file are read as
pub last_slot_kept : (p : Picture) (k row column : ℕ) → features_below slot_limit p k row column ≡ true
    → (has_slot (number_of (bytes_of (bit_bytes slot_limit) (bits_of p k row column))) 31 ≡ true) ↔ Occurs p 31 k row column
unfolding bit_bytes
last_slot_kept p k row column below =
    rw (number_of_bytes 4 (bits_of p k row column) (bits_below slot_limit p k row column below)) (last_slot p k row column)
