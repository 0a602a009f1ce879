-- Signed lines by cases of their sign, and what a local of the code, which keeps the bits, says of the line. Rests on the definition of a clipped
-- window and on laws' Overlap.
use Prim.Native.Nat.{ℕ, ◌-◌, ◌≤◌, ◌^◌, min}
use mathlib.Core.Path.{◌≡◌, sym, ap, ◌∙◌}
use native.Mathlib.Omega.{arith}
use lib.IntN.{ℤ, pos, negsuc, nat_abs}
use mir.Syntax.{w32}
use mir.Val.{SFits, to_z, of_z}
use mir.ValLaws.{to_z-of_z}
use Rattle.std.specs.Prelude.{Result, Ok, Err}
use Rattle.std.specs.Int.{FitsUnsignedBits}
use Rattle.std.specs.Result.{OkIff, result_unwrap_or}
use Rattle.keys.proofs.Cases.{split}
use Rattle.definitions.specs.Clip.{not_before, overlap_length, overlap_window, clipped_window}
use Rattle.definitions.specs.declared.Window.{Window}
use Rattle.laws.proofs.Overlap.{before_none, before_some, from_none, from_some, not_before_zero, not_before_line}

-- the amount of a line that fits 32 bits without a sign, or 0: the overlap's first line
pub line_or_none : {E : Type 0} (r : Result ℕ E) (line : ℤ) → SFits w32 line → OkIff r (FitsUnsignedBits 32 line) (nat_abs line) → result_unwrap_or r 0 ≡ not_before line
line_or_none (Ok x) (pos n) f h = h.1 ∙ sym (not_before_line n)
line_or_none (Ok x) (negsuc n) f h = absurd h.0
line_or_none (Err e) (pos n) f h = let fits = f.sfits in absurd (h (omega arith))
line_or_none (Err e) (negsuc n) f h = sym (not_before_zero n)

-- how many lines a window has in the raster that begins in it or behind it
pub common_from : (line : ℤ) (length side : ℕ) {first common : ℕ} → FitsUnsignedBits 32 line → first ≡ nat_abs line → common ≡ min length (side - first)
    → common ≡ overlap_length line length side
common_from (pos n) length side fits is e =
    split n side (λ h. omega (arith, from_some n length side h)) (λ h. omega (arith, from_none n length side h))
common_from (negsuc n) length side fits is e = absurd fits

-- and one that begins before it
pub common_before : (line : ℤ) (length side : ℕ) {before common : ℕ} → SFits w32 line → (FitsUnsignedBits 32 line → ⊥) → before ≡ nat_abs line
    → common ≡ min (length - before) side
    → common ≡ overlap_length line length side
common_before (pos n) length side f none is e = let fits = f.sfits in absurd (none (omega arith))
common_before (negsuc n) length side f none is e =
    split n length (λ h. omega (arith, before_some n length side h)) (λ h. omega (arith, before_none n length side h))

-- what a local of the code keeps of a line
pub bits_fit : (line : ℤ) → SFits w32 line → SFits w32 (to_z w32 (of_z w32 line))
bits_fit line f = rw (to_z-of_z w32 line f) f

pub same_start : {first : ℕ} (start : ℤ) → SFits w32 start → first ≡ not_before (to_z w32 (of_z w32 start)) → first ≡ not_before start
same_start start f e = e ∙ ap not_before (to_z-of_z w32 start f)

pub same_length : {common : ℕ} (start : ℤ) (length side : ℕ) → SFits w32 start → common ≡ overlap_length (to_z w32 (of_z w32 start)) length side
    → common ≡ overlap_length start length side
same_length start length side f e = e ∙ ap (λ z. overlap_length z length side) (to_z-of_z w32 start f)

-- the four numbers of the overlap with a side that is the raster's where m is at most 10
pub clipped_window_of : {m side first left high wide : ℕ} (row column : ℤ) (height width : ℕ) → (m ≤ 10 → side ≡ 2 ^ m) → first ≡ not_before row → left ≡ not_before column
    → high ≡ overlap_length row height side
    → wide ≡ overlap_length column width side
    → m ≤ 10
    → ◌≡◌ {A = Window} (record { row = first; column = left; height = high; width = wide }) (clipped_window m row column height width)
unfolding overlap_window
clipped_window_of row column height width is a b c d h =
    let up = c ∙ ap (overlap_length row height) (is h) in
    let across = d ∙ ap (overlap_length column width) (is h) in
    λ i. record { row = a i; column = b i; height = up i; width = across i }

pub same_dragged : (m : ℕ) (row column : ℤ) (height width : ℕ) → SFits w32 row → SFits w32 column
    → clipped_window m (to_z w32 (of_z w32 row)) (to_z w32 (of_z w32 column)) height width ≡ clipped_window m row column height width
same_dragged m row column height width f g =
    ap (λ z. clipped_window m z (to_z w32 (of_z w32 column)) height width) (to_z-of_z w32 row f)
    ∙ ap (λ z. clipped_window m row z height width) (to_z-of_z w32 column g)

pub same_window : {m : ℕ} {w : Window} (row column : ℤ) (height width : ℕ) → SFits w32 row → SFits w32 column
    → (m ≤ 10 → w ≡ clipped_window m (to_z w32 (of_z w32 row)) (to_z w32 (of_z w32 column)) height width)
    → m ≤ 10
    → w ≡ clipped_window m row column height width
same_window {m} row column height width f g e h = e h ∙ same_dragged m row column height width f g
