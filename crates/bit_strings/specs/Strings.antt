-- One string of a list, as the code makes it from the list's bitstrings alone: a record has a bit in it or none. Only contracts need these;
-- proofs/ connects them with the definitions.
use Rattle.std.specs.Prelude.{ℕ, ◌≤◌, ◌≡◌, Bool, false, cond, not, List, [], ◌∷◌, length, get_or, drop, eqb}
use Rattle.definitions.specs.Bits.{has_slot}
use Rattle.definitions.specs.BitStrings.{is_inner, high_first}
use Rattle.definitions.specs.Refusal.{◌gives◌, first, bad_settings, no_list}
use Rattle.bit_strings.specs.declared.pack.Bit.{Bit}
use Rattle.bit_strings.specs.declared.pack.Byte.{Byte}

-- a record's bit in the string of leaves or in that of nodes, and 2 for none
unfoldable pub bit_of : Bool → ℕ → ℕ
bit_of leaves value = cond leaves (cond (is_inner value) 2 (cond (has_slot value 1) 1 0)) (cond (is_inner value) 0 1)

unfoldable pub string_of : Bool → List ℕ → List Bool
string_of leaves [] = []
string_of leaves (v ∷ values) = cond (eqb (bit_of leaves v) 2) (string_of leaves values) (eqb (bit_of leaves v) 1 ∷ string_of leaves values)

-- the first bit of the string from a place on, and the place where the string without it goes on
pub record Picked (leaves : Bool) (values : List ℕ) (at : ℕ) (r : Bit) : Type 0 where
  pub inside : r.after ≤ length values
  pub bit_is : r.bit ≡ get_or (string_of leaves (drop at values)) 0 false
  pub rest : string_of leaves (drop r.after values) ≡ drop 1 (string_of leaves (drop at values))

-- the first eight bits, and the place where the string without them goes on
pub record ByteFilled (leaves : Bool) (values : List ℕ) (at : ℕ) (r : Byte) : Type 0 where
  pub inside : r.after ≤ length values
  pub byte_is : r.byte ≡ high_first 8 (string_of leaves (drop at values))
  pub rest : string_of leaves (drop r.after values) ≡ drop 8 (string_of leaves (drop at values))

-- the first of the refusals 1, 23 and 4 that applies, or 0
unfoldable pub early_refusal : ℕ → ℕ → List ℕ → List ℕ → ℕ → ℕ
early_refusal m s keys bits n = first (bad_settings m s gives 1 ∷ not (eqb s 2) gives 23 ∷ no_list m s keys bits n gives 4 ∷ [])
