-- Refusals 2 and 3, as the code tests them: what the scan of the pixels has found so far, and what an accepted raster is like. Rests on keys' Cases.
use Prim.Native.Nat.{ℕ, zero, suc, ◌+◌, ◌≤◌, ◌<◌}
use mathlib.Core.Path.{◌≡◌, refl, sym, ◌∙◌, ap}
use mathlib.Core.Bool.{Bool, true, false, ◌||◌}
use mathlib.Core.List.{List, [], ◌∷◌}
use native.Mathlib.Omega.{arith}
use native.Mathlib.Numerals.{add-one}
use lib.Dec.{leb}
use lib.ListN.{length, get_or, drop, drop_of_length-le}
use lib.Seq.{drop-cons}
use borrow.Author.Tests.{leb-false, le-leb, lt-leb}
use Rattle.keys.proofs.Cases.{neither_left, neither_right}
use Rattle.definitions.specs.Refusal.{bad_pixel}

bad_cons : (s x : ℕ) (xs : List ℕ) → bad_pixel s (x ∷ xs) ≡ leb s x || bad_pixel s xs
unfolding bad_pixel
bad_cons s x xs = refl

bad_none : (s : ℕ) → bad_pixel s [] ≡ false
unfolding bad_pixel
bad_none s = refl

-- in a raster with no bad pixel every feature is below s; past its end the default is read
pub pixels_below : (s : ℕ) (raster : List ℕ) → 0 < s → bad_pixel s raster ≡ false → (i : ℕ) → get_or raster i 0 < s
pixels_below s [] h e i = h
pixels_below s (x ∷ xs) h e zero = leb-false s x (neither_left (leb s x) (bad_pixel s xs) (sym (bad_cons s x xs) ∙ e))
pixels_below s (x ∷ xs) h e (suc i) = pixels_below s xs h (neither_right (leb s x) (bad_pixel s xs) (sym (bad_cons s x xs) ∙ e)) i

-- after i pixels: a bad one was found, or one is among the others
pub record Scanned (s : ℕ) (raster : List ℕ) (bad : Bool) (i : ℕ) : Type 0 where
  pub within : i ≤ length raster
  pub found : bad_pixel s raster ≡ bad || bad_pixel s (drop i raster)

or_assoc : (a b c : Bool) → a || (b || c) ≡ a || b || c
or_assoc true b c = refl
or_assoc false b c = refl

or_true : (a c : Bool) → a || true || c ≡ true
or_true true c = refl
or_true false c = refl

or_false : (a c : Bool) → a || false || c ≡ a || c
or_false true c = refl
or_false false c = refl

module _ {s : ℕ} {raster : List ℕ} {bad : Bool} {i : ℕ} (p : Scanned s raster bad i) (h : i < length raster) where
  turn : bad_pixel s raster ≡ bad || leb s (get_or raster i 0) || bad_pixel s (drop (i + 1) raster)
  turn =
      p.found
      ∙ ap (λ l. bad || bad_pixel s l) (drop-cons raster i 0 h ∙ ap (λ k. get_or raster i 0 ∷ drop k raster) (sym (add-one i)))
      ∙ ap (λ b. bad || b) (bad_cons s (get_or raster i 0) (drop (i + 1) raster))
      ∙ or_assoc bad (leb s (get_or raster i 0)) (bad_pixel s (drop (i + 1) raster))

  pub scan_bad : s ≤ get_or raster i 0 → Scanned s raster true (i + 1)
  scan_bad l = record {
    within = omega arith;
    found = turn ∙ ap (λ b. bad || b || bad_pixel s (drop (i + 1) raster)) (le-leb _ _ l) ∙ or_true bad (bad_pixel s (drop (i + 1) raster));
  }

  pub scan_good : get_or raster i 0 < s → Scanned s raster bad (i + 1)
  scan_good l = record {
    within = omega arith;
    found = turn ∙ ap (λ b. bad || b || bad_pixel s (drop (i + 1) raster)) (lt-leb _ _ l) ∙ or_false bad (bad_pixel s (drop (i + 1) raster));
  }

or_none : (a : Bool) → a || false ≡ a
or_none true = refl
or_none false = refl

pub scan_ends : {s : ℕ} {raster : List ℕ} {bad : Bool} {i : ℕ} → Scanned s raster bad i → length raster ≤ i → bad ≡ bad_pixel s raster
scan_ends {s} {raster} {bad} p h = sym (p.found ∙ ap (λ l. bad || bad_pixel s l) (drop_of_length-le raster h) ∙ ap (λ b. bad || b) (bad_none s) ∙ or_none bad)
