-- Paints that are apart may be swapped: a picture is the same after both, in either order, and so after any rearrangement of a run of them. Then what
-- each pixel has after such a run. Rests on ApartBlocks and Rearrangements.
use Prim.Native.Nat.{ℕ}
use mathlib.Core.Path.{◌≡◌, refl, sym, ap, fun_ext, ◌∙◌}
use mathlib.Core.Bool.{Bool, true, ◌&&◌}
use mathlib.Core.List.{List, ◌∷◌}
use Rattle.keys.specs.Key.{valid_key}
use Rattle.keys.specs.Block.{in_block}
use Rattle.keys.proofs.Cases.{decide, and_left, and_right, and_both}
use Rattle.definitions.specs.Picture.{Picture}
use Rattle.definitions.specs.Edit.{paint_in}
use Rattle.order.specs.Paint.{BlockPaint}
use Rattle.history.proofs.Drawn.{paint_inside, paint_outside}
use Rattle.order.specs.Rearranged.{Rearranged, Swapped, none, further, swap, and-then}
use Rattle.order.specs.Apart.{apart, apart_from_all, all_apart, all_valid}
use Rattle.order.specs.Either.{in_turn}
use Rattle.order.proofs.Rearrangements.{times_swapped}
use Rattle.order.proofs.ApartBlocks.{apart_to, apart_flip, Disjoint, apart_disjoint}

-- paints of blocks without a common pixel leave the same picture in either order
pub paints_swap : (m a f b g : ℕ) (p : Picture) → Disjoint m a b → paint_in m b g (paint_in m a f p) ≡ paint_in m a f (paint_in m b g p)
paints_swap m a f b g p h = fun_ext (λ row. fun_ext (λ column. at_pixel row column))
  where
    at_pixel : (row column : ℕ) → paint_in m b g (paint_in m a f p) row column ≡ paint_in m a f (paint_in m b g p) row column
    at_pixel row column =
        decide (in_block m a row column)
        (λ i. paint_outside m b g (paint_in m a f p) row column (h row column i)
        ∙ paint_inside m a f p row column i
        ∙ sym (paint_inside m a f (paint_in m b g p) row column i))
        (λ o. decide (in_block m b row column)
        (λ i. paint_inside m b g (paint_in m a f p) row column i
        ∙ sym (paint_outside m a f (paint_in m b g p) row column o ∙ paint_inside m b g p row column i))
        (λ o'. paint_outside m b g (paint_in m a f p) row column o'
        ∙ paint_outside m a f p row column o
        ∙ sym (paint_outside m a f (paint_in m b g p) row column o ∙ paint_outside m b g p row column o')))

-- a swap keeps the blocks of a run valid
pub valid_swapped : (m : ℕ) {xs ys : List BlockPaint} → Swapped xs ys → all_valid m xs ≡ true → all_valid m ys ≡ true
unfolding all_valid
valid_swapped m none h = h
valid_swapped m (further {x = x} {xs = xs} {ys = ys} d) h =
    and_both (valid_key m x.key) (all_valid m ys)
    (and_left (valid_key m x.key) (all_valid m xs) h)
    (valid_swapped m d (and_right (valid_key m x.key) (all_valid m xs) h))
valid_swapped m (swap {x = x} {y = y} {xs = xs}) h =
    let a : Bool = valid_key m x.key in
    let b : Bool = valid_key m y.key in
    let rest = and_right a (b && all_valid m xs) h in
    and_both b (a && all_valid m xs) (and_left b (all_valid m xs) rest) (and_both a (all_valid m xs) (and_left a (b && all_valid m xs) h) (and_right b (all_valid m xs) rest))
valid_swapped m (and-then d e) h = valid_swapped m e (valid_swapped m d h)

-- and a paint apart from all of it
from_all_swapped : (m : ℕ) (z : BlockPaint) {xs ys : List BlockPaint} → Swapped xs ys → apart_from_all m z xs ≡ true → apart_from_all m z ys ≡ true
unfolding apart_from_all
from_all_swapped m z none h = h
from_all_swapped m z (further {x = x} {xs = xs} {ys = ys} d) h =
    and_both (apart m z x) (apart_from_all m z ys)
    (and_left (apart m z x) (apart_from_all m z xs) h)
    (from_all_swapped m z d (and_right (apart m z x) (apart_from_all m z xs) h))
from_all_swapped m z (swap {x = x} {y = y} {xs = xs}) h =
    let a : Bool = apart m z x in
    let b : Bool = apart m z y in
    let rest = and_right a (b && apart_from_all m z xs) h in
    and_both b (a && apart_from_all m z xs) (and_left b (apart_from_all m z xs) rest)
    (and_both a (apart_from_all m z xs) (and_left a (b && apart_from_all m z xs) h) (and_right b (apart_from_all m z xs) rest))
from_all_swapped m z (and-then d e) h = from_all_swapped m z e (from_all_swapped m z d h)

-- what a run of apart paints says of its first two
record FirstTwo (m : ℕ) (x y : BlockPaint) (xs : List BlockPaint) : Type 0 where
  two : apart m x y ≡ true
  first : apart_from_all m x xs ≡ true
  second : apart_from_all m y xs ≡ true
  rest : all_apart m xs ≡ true

two_to : (m : ℕ) (x y : BlockPaint) (xs : List BlockPaint) → all_apart m (x ∷ y ∷ xs) ≡ true → FirstTwo m x y xs
unfolding all_apart apart_from_all
two_to m x y xs h =
    let front : Bool = apart m x y && apart_from_all m x xs in
    let later : Bool = apart_from_all m y xs && all_apart m xs in
    let a = and_left front later h in
    let b = and_right front later h in
    record {
      two = and_left (apart m x y) (apart_from_all m x xs) a;
      first = and_right (apart m x y) (apart_from_all m x xs) a;
      second = and_left (apart_from_all m y xs) (all_apart m xs) b;
      rest = and_right (apart_from_all m y xs) (all_apart m xs) b;
    }

two_from : (m : ℕ) (x y : BlockPaint) (xs : List BlockPaint) → FirstTwo m x y xs → all_apart m (x ∷ y ∷ xs) ≡ true
unfolding all_apart apart_from_all
two_from m x y xs h =
    and_both (apart m x y && apart_from_all m x xs) (apart_from_all m y xs && all_apart m xs)
    (and_both (apart m x y) (apart_from_all m x xs) h.two h.first)
    (and_both (apart_from_all m y xs) (all_apart m xs) h.second h.rest)

-- a rearrangement keeps every pair apart
pub apart_swapped : (m : ℕ) {xs ys : List BlockPaint} → Swapped xs ys → all_apart m xs ≡ true → all_apart m ys ≡ true
unfolding all_apart
apart_swapped m none h = h
apart_swapped m (further {x = x} {xs = xs} {ys = ys} d) h =
    and_both (apart_from_all m x ys) (all_apart m ys)
    (from_all_swapped m x d (and_left (apart_from_all m x xs) (all_apart m xs) h))
    (apart_swapped m d (and_right (apart_from_all m x xs) (all_apart m xs) h))
apart_swapped m (swap {x = x} {y = y} {xs = xs}) h =
    let t = two_to m x y xs h in
    two_from m y x xs (record { two = apart_flip m x y t.two; first = t.second; second = t.first; rest = t.rest })
apart_swapped m (and-then d e) h = apart_swapped m e (apart_swapped m d h)

-- two valid paints that are apart leave the same picture in either order
pub two_swap : (m : ℕ) (x y : BlockPaint) (p : Picture) → valid_key m x.key ≡ true → valid_key m y.key ≡ true → apart m x y ≡ true
    → paint_in m y.key y.feature (paint_in m x.key x.feature p) ≡ paint_in m x.key x.feature (paint_in m y.key y.feature p)
two_swap m x y p valid-x valid-y h =
    paints_swap m x.key x.feature y.key y.feature p (apart_disjoint m x.key y.key valid-x valid-y (apart_to m x y h))

rest_apart : (m : ℕ) (x : BlockPaint) (xs : List BlockPaint) → all_apart m (x ∷ xs) ≡ true → all_apart m xs ≡ true
unfolding all_apart
rest_apart m x xs h = and_right (apart_from_all m x xs) (all_apart m xs) h

-- so any rearrangement of a run of them does, by swaps
swapped_picture : (m : ℕ) {xs ys : List BlockPaint} → Swapped xs ys → all_valid m xs ≡ true → all_apart m xs ≡ true → (p : Picture) → in_turn m p xs ≡ in_turn m p ys
unfolding in_turn all_valid
swapped_picture m none v h p = refl
swapped_picture m (further {x = x} {xs = xs} d) v h p =
    swapped_picture m d (and_right (valid_key m x.key) (all_valid m xs) v) (rest_apart m x xs h) (paint_in m x.key x.feature p)
swapped_picture m (swap {x = x} {y = y} {xs = xs}) v h p =
    let rest = and_right (valid_key m x.key) (valid_key m y.key && all_valid m xs) v in
    ap (λ q. in_turn m q xs)
    (two_swap m x y p (and_left (valid_key m x.key) (valid_key m y.key && all_valid m xs) v) (and_left (valid_key m y.key) (all_valid m xs) rest) (two_to m x y xs h).two)
swapped_picture m (and-then d e) v h p = swapped_picture m d v h p ∙ swapped_picture m e (valid_swapped m d v) (apart_swapped m d h) p

-- and by how often each paint comes
pub picture_either : (m : ℕ) (xs ys : List BlockPaint) → Rearranged xs ys → all_valid m xs ≡ true → all_apart m xs ≡ true → (p : Picture) → in_turn m p xs ≡ in_turn m p ys
picture_either m xs ys r v h p = swapped_picture m (times_swapped xs ys r) v h p
