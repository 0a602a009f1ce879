-- Rows and columns of the ground on its sheets: each lies on one sheet, and the lines of a clipped window are those of the ground's window that lie on
-- the sheet. Rests on the laws of the overlap.
use Prim.Native.Nat.{ℕ, suc, ◌+◌, ◌-◌, ◌*◌, ◌/◌, ◌%◌, ◌^◌, ◌<◌, ◌≤◌, max, min}
use mathlib.Core.Path.{◌≡◌, sym, ap, subst, ◌∙◌}
use mathlib.Core.Bool.{cond}
use native.Mathlib.Nat.{div-add-mod', mod-lt, div-lt_iff_lt-mul, le-div_iff_mul-le, suc-mul, mul-add-div_right, div-eq_of_lt, add-zero}
use native.Mathlib.Omega.{arith}
use lib.IntN.{pos, negsuc}
use lib.Signed.{mag}
use lib.Pow.{pow_pos}
use borrow.Author.Tests.{lt-ltb, le-ltb}
use Rattle.keys.proofs.Cases.{split}
use Rattle.definitions.specs.Clip.{not_before, overlap_length}
use Rattle.laws.proofs.Overlap.{Common, before_none, before_some, from_none, from_some, not_before_zero, not_before_line}
use Rattle.sheets.specs.Ground.{sheets_for, first_line, on_sheet}

-- each sheet has a line of the ground
pub each_needed : (m lines i : ℕ) → i < sheets_for m lines → first_line m i < lines
unfolding sheets_for
each_needed m lines i h =
    let t = pow_pos m in
    let e = (le-div_iff_mul-le (pow_pos m)).0 h in
    let s = suc-mul i (2 ^ m) in
    omega arith

-- and they reach to the last line
pub covered : (m lines : ℕ) → lines ≤ sheets_for m lines * 2 ^ m
unfolding sheets_for
covered m lines =
    let t = pow_pos m in
    let e = div-add-mod' (lines + (2 ^ m - 1)) (2 ^ m) in
    let h = mod-lt (lines + (2 ^ m - 1)) (pow_pos m) in
    omega arith

-- a line on its sheet
pub record OnItsSheet (m lines line : ℕ) : Type 0 where
  pub sheet : ℕ
  pub place : ℕ
  pub sheet_below : sheet < sheets_for m lines
  pub place-below : place < 2 ^ m
  pub is : first_line m sheet + place ≡ line

-- each line of the ground lies on a sheet
pub on_its_sheet : (m lines line : ℕ) → line < lines → OnItsSheet m lines line
on_its_sheet m lines line h =
    let c = covered m lines in
    record {
      sheet = line / 2 ^ m;
      place = line % 2 ^ m;
      sheet_below = (div-lt_iff_lt-mul (pow_pos m)).1 (omega arith);
      place-below = mod-lt line (pow_pos m);
      is = div-add-mod' line (2 ^ m);
    }

-- a line of a window that lies on a sheet: counted from the sheet's first it is line number r
pub record SeenLine (start first length side r : ℕ) : Type 0 where
  pub from : start ≤ first + r
  pub to : first + r < start + length
  pub on : r < side

on_before : (start first : ℕ) → start < first → on_sheet start first ≡ negsuc (first - suc start)
unfolding on_sheet
on_before start first h = ap (λ t. cond t (negsuc (first - suc start)) (pos (start - first))) (lt-ltb start first h)

on_from : (start first : ℕ) → first ≤ start → on_sheet start first ≡ pos (start - first)
unfolding on_sheet
on_from start first h = ap (λ t. cond t (negsuc (first - suc start)) (pos (start - first))) (le-ltb start first h)

before_seen : (start first length side r : ℕ) → start < first → Common (negsuc (first - suc start)) length side r → SeenLine start first length side r
before_seen start first length side r h x =
    let z = not_before_zero (first - suc start) in
    let t = x.to in
    split (first - suc start) length
    (λ l. let e = before_some (first - suc start) length side l in record { from = omega arith; to = omega arith; on = omega arith })
    (λ l. let e = before_none (first - suc start) length side l in absurd (omega arith))

from_seen : (start first length side r : ℕ) → first ≤ start → Common (pos (start - first)) length side r → SeenLine start first length side r
from_seen start first length side r h x =
    let z = not_before_line (start - first) in
    let f = x.from in
    let t = x.to in
    split (start - first) side
    (λ l. let e = from_some (start - first) length side l in record { from = omega arith; to = omega arith; on = omega arith })
    (λ l. let e = from_none (start - first) length side l in absurd (omega arith))

-- a line of the overlap is a line of the window that lies on the sheet
pub common_seen : (start first length side r : ℕ) → Common (on_sheet start first) length side r → SeenLine start first length side r
common_seen start first length side r x =
    split start first
    (λ h. before_seen start first length side r h (subst (λ z. Common z length side r) (on_before start first h) x))
    (λ h. from_seen start first length side r h (subst (λ z. Common z length side r) (on_from start first h) x))

seen_before : (start first length side r : ℕ) → start < first → SeenLine start first length side r → Common (negsuc (first - suc start)) length side r
seen_before start first length side r h x =
    let z = not_before_zero (first - suc start) in
    let a = x.from in let b = x.to in let c = x.on in
    let e = before_some (first - suc start) length side (omega arith) in
    record { from = omega arith; to = omega arith }

seen-from : (start first length side r : ℕ) → first ≤ start → SeenLine start first length side r → Common (pos (start - first)) length side r
seen-from start first length side r h x =
    let z = not_before_line (start - first) in
    let a = x.from in let b = x.to in let c = x.on in
    let e = from_some (start - first) length side (omega arith) in
    record { from = omega arith; to = omega arith }

-- and the other way
pub seen_common : (start first length side r : ℕ) → SeenLine start first length side r → Common (on_sheet start first) length side r
seen_common start first length side r x =
    split start first
    (λ h. subst (λ z. Common z length side r) (sym (on_before start first h)) (seen_before start first length side r h x))
    (λ h. subst (λ z. Common z length side r) (sym (on_from start first h)) (seen-from start first length side r h x))

-- where the overlap begins on the sheet, and how long it is, by numbers that are not negative
pub on_start : (start first : ℕ) → not_before (on_sheet start first) ≡ max start first - first
on_start start first =
    split start first
    (λ h. ap not_before (on_before start first h) ∙ not_before_zero (first - suc start) ∙ omega arith)
    (λ h. ap not_before (on_from start first h) ∙ not_before_line (start - first) ∙ omega arith)

shifted : (end first side : ℕ) → min (end - first) side ≡ min end (first + side) - first
shifted end first side = omega arith

pub on-length : (start first length side : ℕ) → overlap_length (on_sheet start first) length side ≡ min (start + length) (first + side) - max start first
on-length start first length side =
    split start first
    (λ h. ap (λ z. overlap_length z length side) (on_before start first h)
    ∙ split (first - suc start) length
    (λ l.
    let later : first ≡ max start first = omega arith in
    let left : length - (first - suc start) - 1 ≡ start + length - first = omega arith in
    before_some (first - suc start) length side l
    ∙ ap (λ x. min x side) left
    ∙ shifted (start + length) first side
    ∙ ap (λ x. min (start + length) (first + side) - x) later)
    (λ l. before_none (first - suc start) length side l ∙ omega arith))
    (λ h. ap (λ z. overlap_length z length side) (on_from start first h)
    ∙ split (start - first) side
    (λ l. from_some (start - first) length side l ∙ omega arith)
    (λ l. from_none (start - first) length side l ∙ omega arith))

-- where the ground's lines fit 31 bits, they fit an i32 on every sheet
pub on_fits : (start first : ℕ) → start < 2 ^ 31 → first ≤ 2 ^ 31 → mag (on_sheet start first) < 2 ^ 31
on_fits start first h l =
    split start first
    (λ b. rw (on_before start first b) (omega arith))
    (λ b. rw (on_from start first b) (omega arith))

-- a line lies on no other sheet
pub one_sheet : (m i place : ℕ) → place < 2 ^ m → (first_line m i + place) / 2 ^ m ≡ i
one_sheet m i place h = mul-add-div_right (pow_pos m) i place ∙ ap (λ x. i + x) (div-eq_of_lt h) ∙ add-zero i
