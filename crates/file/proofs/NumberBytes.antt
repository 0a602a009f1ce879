-- Numbers in two, four and eight bytes: what writing them leaves, and what reading them gives. Rests on the writes to slices.
use Prim.Native.Nat.{ℕ, suc, ◌+◌, ◌-◌, ◌*◌, ◌/◌, ◌%◌, ◌≤◌, ◌<◌}
use mathlib.Core.Path.{◌≡◌, refl, ap, ap₂, ◌∙◌}
use mathlib.Core.List.{List, [], ◌∷◌}
use native.Mathlib.Nat.{div-one}
use native.Mathlib.Numerals.{add-one}
use native.Mathlib.Omega.{arith}
use borrow.Rule.Slice.PartMut.{put_mid}
use Rattle.std.specs.Int.{w16, w32, w64, to_be_bytes, from_be_bytes}
use lib.ListN.{length, get_or}
use lib.Seq.{sets, drop-cons}
use Rattle.definitions.specs.File.{bytes_of, number_after, number_of, number_at}
use Rattle.laws.proofs.FileBytes.{length-bytes}
use Rattle.slices.proofs.Writes.{written_run}

-- a number's bytes, written into the part from a place on
pub put_bytes : (l bytes : List ℕ) (place k x : ℕ) → place + k ≤ length l → bytes ≡ bytes_of k x
    → put_mid place (place + k - place) l bytes ≡ sets l place (bytes_of k x)
put_bytes l bytes place k x room e =
    let size : length bytes ≡ k = ap length e ∙ length-bytes k x in
    written_run l bytes place (place + k - place) (omega arith) (omega arith) ∙ ap (sets l place) e

-- the bytes that the library makes of a number are those of the definition
pub two_bytes : (x : ℕ) → to_be_bytes w16 (x % 65536) ≡ bytes_of 2 x
unfolding bytes_of
two_bytes x =
    let high : x % 65536 / 256 % 256 ≡ x / 256 % 256 = omega arith in
    let low : x % 65536 % 256 ≡ x / 1 % 256 = omega arith in
    ap₂ (λ a b. a ∷ b ∷ []) high low

pub four_bytes : (x : ℕ) → to_be_bytes w32 x ≡ bytes_of 4 x
unfolding bytes_of
four_bytes x = rw (div-one x) refl

pub eight_bytes : (x : ℕ) → to_be_bytes w64 x ≡ bytes_of 8 x
unfolding bytes_of
eight_bytes x = rw (div-one x) refl

-- what reading gives, in one byte
pub number_one : (place : ℕ) (file : List ℕ) → place < length file → number_at place 1 file ≡ get_or file place 0
unfolding number_at number_of number_after
number_one place file h = rw (drop-cons file place 0 h) (omega arith)

-- in two
pub number_two : (place : ℕ) (file : List ℕ) → place + 2 ≤ length file
    → from_be_bytes w16 (get_or file place 0 ∷ get_or file (place + 1) 0 ∷ []) ≡ number_at place 2 file
unfolding number_at number_of number_after
number_two place file h = rw (drop-cons file place 0 (omega arith), drop-cons file (suc place) 0 (omega arith), ← add-one place) (omega arith)

-- in four
pub number_four : (place : ℕ) (file : List ℕ) → place + 4 ≤ length file
    → from_be_bytes w32 (get_or file place 0 ∷ get_or file (place + 1) 0 ∷ get_or file (place + 2) 0 ∷ get_or file (place + 3) 0 ∷ [])
    ≡ number_at place 4 file
unfolding number_at number_of number_after
number_four place file h =
    let second : place + 1 ≡ suc place = omega arith in
    let third : place + 2 ≡ suc (suc place) = omega arith in
    let fourth : place + 3 ≡ suc (suc (suc place)) = omega arith in
    rw (
      second,
      third,
      fourth,
      drop-cons file place 0 (omega arith),
      drop-cons file (suc place) 0 (omega arith),
      drop-cons file (suc (suc place)) 0 (omega arith),
      drop-cons file (suc (suc (suc place))) 0 (omega arith),
    )
    (omega arith)

-- a number in eight bytes is that in the first four and that in the last four
pub number_eight : (place : ℕ) (file : List ℕ) → place + 8 ≤ length file
    → number_at place 8 file ≡ number_at place 4 file * 4294967296 + number_at (place + 4) 4 file
unfolding number_at number_of number_after
number_eight place file h =
    let fifth : place + 4 ≡ suc (suc (suc (suc place))) = omega arith in
    rw (
      fifth,
      drop-cons file place 0 (omega arith),
      drop-cons file (suc place) 0 (omega arith),
      drop-cons file (suc (suc place)) 0 (omega arith),
      drop-cons file (suc (suc (suc place))) 0 (omega arith),
      drop-cons file (suc (suc (suc (suc place)))) 0 (omega arith),
      drop-cons file (suc (suc (suc (suc (suc place))))) 0 (omega arith),
      drop-cons file (suc (suc (suc (suc (suc (suc place)))))) 0 (omega arith),
      drop-cons file (suc (suc (suc (suc (suc (suc (suc place))))))) 0 (omega arith),
    )
    (omega arith)
