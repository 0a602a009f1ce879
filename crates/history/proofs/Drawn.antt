-- Pictures under paints: the paints one after the other, what a paint does at a pixel, and that it keeps agreement and features below s.
-- Rests on the laws of pictures.
use Prim.Native.Nat.{ℕ, ◌<◌}
use mathlib.Core.Path.{◌≡◌, refl, ap, sym, ◌∙◌}
use mathlib.Core.Bool.{true, false}
use mathlib.Core.List.{List, [], ◌∷◌, ◌++◌}
use Rattle.keys.specs.Block.{in_block}
use Rattle.keys.proofs.Cases.{decide}
use Rattle.definitions.specs.Picture.{Picture, features_below}
use Rattle.definitions.specs.Edit.{paint_in, fill_window}
use Rattle.definitions.specs.Window.{in_window}
use Rattle.definitions.specs.declared.Window.{Window}
use Rattle.laws.proofs.Pixels.{Agree}
use Rattle.laws.proofs.Features.{below_to, below_from}
use Rattle.laws.proofs.Put.{put_in, put_out}
use Rattle.laws.proofs.WindowPaint.{fill_in, fill_out}
use Rattle.history.specs.History.{Paint, applied, drawn}

-- no paint leaves the picture
pub drawn_none : (m : ℕ) (p : Picture) → drawn m p [] ≡ p
unfolding drawn
drawn_none m p = refl

-- the latest paint comes last
pub drawn_latest : (m : ℕ) (p : Picture) (x : Paint) (xs : List Paint) → drawn m p (x ∷ xs) ≡ applied m x (drawn m p xs)
unfolding drawn
drawn_latest m p x xs = refl

-- later paints are applied to what the earlier ones made
pub drawn-append : (m : ℕ) (p : Picture) (xs ys : List Paint) → drawn m p (xs ++ ys) ≡ drawn m (drawn m p ys) xs
drawn-append m p [] ys = sym (drawn_none m (drawn m p ys))
drawn-append m p (x ∷ xs) ys =
    drawn_latest m p x (xs ++ ys)
    ∙ ap (applied m x) (drawn-append m p xs ys)
    ∙ sym (drawn_latest m (drawn m p ys) x xs)

-- a painted pixel of the block has the feature
pub paint_inside : (m κ f : ℕ) (p : Picture) (r c : ℕ) → in_block m κ r c ≡ true → paint_in m κ f p r c ≡ f
unfolding paint_in
paint_inside m κ f p r c e = put_in m κ (λ row column. f) p r c e

-- every other pixel stays
pub paint_outside : (m κ f : ℕ) (p : Picture) (r c : ℕ) → in_block m κ r c ≡ false → paint_in m κ f p r c ≡ p r c
unfolding paint_in
paint_outside m κ f p r c e = put_out m κ (λ row column. f) p r c e

-- pictures that agree agree after the same paint
pub paint_agree : (m κ f : ℕ) (p q : Picture) (k r c : ℕ) → Agree p q k r c → Agree (paint_in m κ f p) (paint_in m κ f q) k r c
paint_agree m κ f p q k r c h a b w =
    decide (in_block m κ a b)
    (λ e. paint_inside m κ f p a b e ∙ sym (paint_inside m κ f q a b e))
    (λ e. paint_outside m κ f p a b e ∙ h a b w ∙ sym (paint_outside m κ f q a b e))

-- a paint with a feature below s leaves features below s
pub paint_below : (m s κ f : ℕ) (p : Picture) (k r c : ℕ) → f < s → features_below s p k r c ≡ true → features_below s (paint_in m κ f p) k r c ≡ true
paint_below m s κ f p k r c h e =
    below_from s (paint_in m κ f p) k r c
    (λ a b w. decide (in_block m κ a b)
    (λ i. rw (paint_inside m κ f p a b i) h)
    (λ o. rw (paint_outside m κ f p a b o) (below_to s p k r c e a b w)))

-- and so after the same paint of a window
pub fill_agree : (w : Window) (f : ℕ) (p q : Picture) (k r c : ℕ) → Agree p q k r c → Agree (fill_window w f p) (fill_window w f q) k r c
fill_agree w f p q k r c h a b i =
    decide (in_window w a b)
    (λ e. fill_in w f p a b e ∙ sym (fill_in w f q a b e))
    (λ e. fill_out w f p a b e ∙ h a b i ∙ sym (fill_out w f q a b e))

-- which leaves features below s too
pub fill_below : (s : ℕ) (w : Window) (f : ℕ) (p : Picture) (k r c : ℕ) → f < s → features_below s p k r c ≡ true → features_below s (fill_window w f p) k r c ≡ true
fill_below s w f p k r c h e =
    below_from s (fill_window w f p) k r c
    (λ a b i. decide (in_window w a b)
    (λ inner. rw (fill_in w f p a b inner) h)
    (λ outer. rw (fill_out w f p a b outer) (below_to s p k r c e a b i)))
