-- A raster from a picture: its pixels row after row have the right length, and show the picture again inside the map. Which rasters pass the
-- tests of refusals 2 and 3. Rests on Features.
use Prim.Native.Nat.{ℕ, zero, suc, ◌+◌, ◌*◌, ◌/◌, ◌%◌, ◌^◌, ◌<◌}
use mathlib.Core.Path.{◌≡◌, refl, sym, ◌∙◌, ap, ap₂}
use mathlib.Core.Bool.{true, false}
use mathlib.Core.List.{List, [], ◌∷◌, ◌++◌}
use native.Mathlib.Nat.{zero-add, add-zero, suc-mul, zero-mul, div-lt_iff_lt-mul, mod-lt, div-add-mod'}
use native.Mathlib.Omega.{arith}
use lib.Arith.{digits_lt}
use lib.Dec.{leb}
use lib.ListN.{length, get_or, length-append, get_or-append}
use lib.Pow.{pow_pos}
use lib.Seq.{get_or-append-add}
use borrow.Author.Tests.{leb-false, lt-leb, eqb-true, eq-eqb, not-false}
use Rattle.keys.proofs.Cases.{neither_left, neither_right}
use Rattle.definitions.specs.Picture.{Picture, picture_of_raster, features_below}
use Rattle.definitions.specs.Window.{features_of_row, features_of_rows}
use Rattle.definitions.specs.Refusal.{bad_length, bad_pixel}
use Rattle.laws.proofs.Pixels.{Agree}
use Rattle.laws.proofs.Features.{below_to, below_from}

-- a run of a row has its width
pub row-length : (p : Picture) (r c w : ℕ) → length (features_of_row p r c w) ≡ w
unfolding features_of_row
row-length p r c zero = refl
row-length p r c (suc w) = ap suc (row-length p r (suc c) w)

-- and at each place the feature of that column
pub row-at : (p : Picture) (r c w i : ℕ) → i < w → get_or (features_of_row p r c w) i 0 ≡ p r (c + i)
unfolding features_of_row
row-at p r c zero i h = absurd (omega arith)
row-at p r c (suc w) zero h = ap (p r) (sym (add-zero c))
row-at p r c (suc w) (suc i) h = row-at p r (suc c) w i (omega arith) ∙ ap (p r) (omega arith)

-- a row, and then the others
pub rows_suc : (p : Picture) (r c w h : ℕ) → features_of_rows p r c w (suc h) ≡ features_of_row p r c w ++ features_of_rows p (suc r) c w h
unfolding features_of_rows
rows_suc p r c w h = refl

-- rows have their height times their width
pub rows-length : (p : Picture) (r c w h : ℕ) → length (features_of_rows p r c w h) ≡ h * w
unfolding features_of_rows
rows-length p r c w zero = sym (zero-mul w)
rows-length p r c w (suc h) =
    length-append (features_of_row p r c w) (features_of_rows p (suc r) c w h)
    ∙ ap₂ ◌+◌ (row-length p r c w) (rows-length p (suc r) c w h)
    ∙ sym (suc-mul h w ∙ omega arith)

-- the feature at a row and a column of the rows
pub rows_at : (p : Picture) (r c w h i j : ℕ) → i < h → j < w → get_or (features_of_rows p r c w h) (i * w + j) 0 ≡ p (r + i) (c + j)
rows_at p r c w zero i j u v = absurd (omega arith)
rows_at p r c w (suc h) zero j u v =
    let e : 0 * w + j ≡ j = omega arith in
    rw (rows_suc p r c w h, e)
    (get_or-append (features_of_row p r c w) (features_of_rows p (suc r) c w h) 0 j (rw (row-length p r c w) v)
    ∙ row-at p r c w j v
    ∙ ap (λ x. p x (c + j)) (sym (add-zero r)))
rows_at p r c w (suc h) (suc i) j u v =
    let n = row-length p r c w in
    let s = suc-mul i w in
    let e : suc i * w + j ≡ length (features_of_row p r c w) + (i * w + j) = omega arith in
    rw (rows_suc p r c w h, e)
    (get_or-append-add (features_of_row p r c w) (features_of_rows p (suc r) c w h) (i * w + j) 0
    ∙ rows_at p (suc r) c w h i j (omega arith) v
    ∙ ap (λ x. p x (c + j)) (omega arith))

-- a raster that passes the test of its length has the side's square
pub length_to : (m : ℕ) (raster : List ℕ) → bad_length m raster ≡ false → length raster ≡ 2 ^ m * 2 ^ m
unfolding bad_length
length_to m raster e = eqb-true _ _ (not-false _ e)

-- and conversely
pub length_from : (m : ℕ) (raster : List ℕ) → length raster ≡ 2 ^ m * 2 ^ m → bad_length m raster ≡ false
unfolding bad_length
length_from m raster e = rw (eq-eqb (length raster) (2 ^ m * 2 ^ m) e)

-- no bad pixel means that each place is below s
pub pixels_to : (s : ℕ) (raster : List ℕ) (i : ℕ) → bad_pixel s raster ≡ false → i < length raster → get_or raster i 0 < s
unfolding bad_pixel
pixels_to s [] i e h = absurd (omega arith)
pixels_to s (x ∷ xs) zero e h = leb-false s x (neither_left (leb s x) (bad_pixel s xs) e)
pixels_to s (x ∷ xs) (suc i) e h = pixels_to s xs i (neither_right (leb s x) (bad_pixel s xs) e) (omega arith)

-- and conversely
pub pixels_from : (s : ℕ) (raster : List ℕ) → ((i : ℕ) → i < length raster → get_or raster i 0 < s) → bad_pixel s raster ≡ false
unfolding bad_pixel
pixels_from s [] h = refl
pixels_from s (x ∷ xs) h = rw (lt-leb s x (h 0 (omega arith))) (pixels_from s xs (λ i j. h (suc i) (omega arith)))

-- the raster of a picture: the pixels of the map, row after row
abbrev pub raster_of_picture : ℕ → Picture → List ℕ
raster_of_picture m p = features_of_rows p 0 0 (2 ^ m) (2 ^ m)

-- it has the side's square
pub raster-length : (m : ℕ) (p : Picture) → length (raster_of_picture m p) ≡ 2 ^ m * 2 ^ m
raster-length m p = rows-length p 0 0 (2 ^ m) (2 ^ m)

-- it shows the picture again
pub raster_back : (m : ℕ) (p : Picture) → Agree (picture_of_raster m (raster_of_picture m p)) p m 0 0
raster_back m p r c w = rows_at p 0 0 (2 ^ m) (2 ^ m) r c (omega arith) (omega arith) ∙ ap₂ p (zero-add r) (zero-add c)

-- a raster that passes the two tests shows features below s
pub raster_below : (m s : ℕ) (raster : List ℕ) → bad_length m raster ≡ false → bad_pixel s raster ≡ false
    → features_below s (picture_of_raster m raster) m 0 0 ≡ true
raster_below m s raster e f = below_from s (picture_of_raster m raster) m 0 0
    (λ r c w. pixels_to s raster (r * 2 ^ m + c) f (rw (length_to m raster e) (digits_lt (omega arith) (omega arith))))

-- the raster of a picture with features below s has no bad pixel
pub raster_good : (m s : ℕ) (p : Picture) → features_below s p m 0 0 ≡ true → bad_pixel s (raster_of_picture m p) ≡ false
raster_good m s p e = pixels_from s (raster_of_picture m p)
    (λ i h.
    let n = raster-length m p in
    let side = pow_pos m in
    let a : i / 2 ^ m < 2 ^ m = (div-lt_iff_lt-mul side).1 (omega arith) in
    let b : i % 2 ^ m < 2 ^ m = mod-lt i side in
    let at : i / 2 ^ m * 2 ^ m + i % 2 ^ m ≡ i = div-add-mod' i (2 ^ m) in
    let v : get_or (raster_of_picture m p) i 0 ≡ p (i / 2 ^ m) (i % 2 ^ m) =
    ap (λ x. get_or (raster_of_picture m p) x 0) (sym at) ∙ raster_back m p (i / 2 ^ m) (i % 2 ^ m) (omega arith) in
    rw v (below_to s p m 0 0 e (i / 2 ^ m) (i % 2 ^ m) (omega arith)))
