-- The place of a row in a table, row by row: the rows before it come before the row; where the row is in the table it stands there, and a row more or less
-- is one at that place. Rests on Narrow, and on laws' RowOrder.
use Prim.Native.Nat.{ℕ, suc, ◌+◌, ◌≤◌, ◌<◌}
use mathlib.Core.Path.{◌≡◌, refl, sym, ap, ◌∙◌}
use mathlib.Core.Bool.{true, false, cond, ◌||◌}
use mathlib.Core.List.{List, [], ◌∷◌, ◌++◌}
use native.Mathlib.Numerals.{add-one}
use native.Mathlib.Omega.{arith}
use lib.ListN.{length, take, drop}
use Rattle.std.specs.Prelude.{Ok, Err}
use Rattle.keys.proofs.Cases.{decide}
use Rattle.definitions.specs.Offices.{Waiver, row_at, rows_in, row_before, rows_ascend, same_row, is_row, added, removed}
use Rattle.laws.proofs.RowOrder.{test_before, before_other, before_or_after, after_on, ascend_after, ascend_rows, not_after}
use Rattle.offices.specs.Place.{row_place, leads, row_found}
use Rattle.offices.proofs.Narrow.{OneLength, rows-drop, rows-end}

-- ---- one row
place_none : (w : Waiver) → row_place w [] ≡ 0
unfolding row_place
place_none w = refl

place_here : (w x : Waiver) (t : List Waiver) → row_before x w ≡ false → row_place w (x ∷ t) ≡ 0
unfolding row_place
place_here w x t e = rw e

place_later : (w x : Waiver) (t : List Waiver) → row_before x w ≡ true → row_place w (x ∷ t) ≡ suc (row_place w t)
unfolding row_place
place_later w x t e = rw e

pub place_within : (w : Waiver) (t : List Waiver) → row_place w t ≤ length t
place_within w [] = let e = place_none w in omega arith
place_within w (x ∷ t) =
    let ih = place_within w t in
    decide (row_before x w) (λ e. let f = place_later w x t e in omega arith) (λ e. let f = place_here w x t e in omega arith)

-- ---- the search, place by place
leads_here : (w x : Waiver) (t : List Waiver) → leads w (x ∷ t) ≡ same_row x w
unfolding leads
leads_here w x t = refl

leads_none : (w : Waiver) → leads w [] ≡ false
unfolding leads
leads_none w = refl

module _ (w : Waiver) (offices ids waived : List ℕ) where
  abbrev t : List Waiver
  t = rows_in offices ids waived

  -- so many rows come before the row, and the place among the others is still to be found
  abbrev pub Searched : ℕ → Type 0
  Searched place = row_place w t ≡ place + row_place w (drop place t)

  module _ (h : OneLength offices ids waived) where
    stops : (place : ℕ) → place < length offices → Searched place → row_before (row_at offices ids waived place) w ≡ false → row_place w t ≡ place
    stops place more inv e =
        let here = ap (row_place w) (rows-drop offices ids waived h place more) ∙ place_here w _ _ e in omega arith

    -- the row stands at the place exactly where the row there is the same
    pub search_stops : (place : ℕ) → place < length offices → Searched place → row_before (row_at offices ids waived place) w ≡ false
        → row_found w t ≡ cond (same_row (row_at offices ids waived place) w) (Ok place) (Err place)
    search_stops place more inv e =
        ap (λ i. cond (leads w (drop i t)) (Ok i) (Err i)) (stops place more inv e)
        ∙ ap (λ b. cond b (Ok place) (Err place)) (ap (leads w) (rows-drop offices ids waived h place more) ∙ leads_here w _ _)

    pub search_goes_on : (place : ℕ) → place < length offices → Searched place → row_before (row_at offices ids waived place) w ≡ true → Searched (place + 1)
    search_goes_on place more inv e =
        let later = ap (row_place w) (rows-drop offices ids waived h place more) ∙ place_later w _ _ e in
        let next = ap (λ i. row_place w (drop i t)) (add-one place) in
        omega arith

    pub search_ends : (place : ℕ) → place ≡ length offices → Searched place → Err place ≡ row_found w t
    search_ends place all inv =
        let none = rows-end offices ids waived h place (omega arith) in
        let last : row_place w t ≡ place = (let e = ap (row_place w) none ∙ place_none w in omega arith) in
        sym (ap (λ i. cond (leads w (drop i t)) (Ok i) (Err i)) last ∙ ap (λ b. cond b (Ok place) (Err place)) (ap (leads w) none ∙ leads_none w))

-- ---- the row at its place
-- the row is in the table exactly where it leads the rows from its place on
pub row_there : (w : Waiver) (t : List Waiver) → rows_ascend t ≡ true → is_row w t ≡ leads w (drop (row_place w t) t)
unfolding is_row
row_there w [] asc = sym (ap (λ i. leads w (drop i [])) (place_none w) ∙ leads_none w)
row_there w (x ∷ t) asc =
    decide (row_before x w)
    (λ e.
    ap (λ b. b || is_row w t) (before_other x w (test_before x w e))
    ∙ row_there w t (ascend_rows x t asc)
    ∙ ap (λ i. leads w (drop i (x ∷ t))) (sym (place_later w x t e)))
    (λ e. here e ∙ sym (leads_here w x t) ∙ ap (λ i. leads w (drop i (x ∷ t))) (sym (place_here w x t e)))
  where
    here : row_before x w ≡ false → same_row x w || is_row w t ≡ same_row x w
    here e =
        decide (same_row x w)
        (λ same. rw same)
        (λ other. rw other (not_after w t (after_on (before_or_after x w e other) (ascend_after x t asc))))

-- a row more stands at its place, and the later ones after it
pub added_at : (w : Waiver) (t : List Waiver) → added w t ≡ take (row_place w t) t ++ (w ∷ drop (row_place w t) t)
unfolding added
added_at w [] = ap (λ i. take i [] ++ (w ∷ drop i [])) (sym (place_none w))
added_at w (x ∷ t) =
    decide (row_before x w)
    (λ e. rw e (ap (λ l. x ∷ l) (added_at w t) ∙ ap (λ i. take i (x ∷ t) ++ (w ∷ drop i (x ∷ t))) (sym (place_later w x t e))))
    (λ e. rw e (ap (λ i. take i (x ∷ t) ++ (w ∷ drop i (x ∷ t))) (sym (place_here w x t e))))

-- a row less leaves the rows before its place and after it
pub removed_at : (w : Waiver) (t : List Waiver) → leads w (drop (row_place w t) t) ≡ true → removed w t ≡ take (row_place w t) t ++ drop (suc (row_place w t)) t
unfolding removed
removed_at w [] same = absurd (cc (ap (λ i. leads w (drop i [])) (place_none w) ∙ leads_none w))
removed_at w (x ∷ t) same =
    decide (row_before x w)
    (λ e.
    let at = place_later w x t e in
    rw (before_other x w (test_before x w e))
    (ap (λ l. x ∷ l) (removed_at w t (sym (ap (λ i. leads w (drop i (x ∷ t))) at) ∙ same)) ∙ ap (λ i. take i (x ∷ t) ++ drop (suc i) (x ∷ t)) (sym at)))
    (λ e.
    let at = place_here w x t e in
    rw (sym (leads_here w x t) ∙ sym (ap (λ i. leads w (drop i (x ∷ t))) at) ∙ same) (ap (λ i. take i (x ∷ t) ++ drop (suc i) (x ∷ t)) (sym at)))

-- and then there is a row at the place
pub leads_within : (w : Waiver) (t : List Waiver) → leads w (drop (row_place w t) t) ≡ true → row_place w t < length t
leads_within w [] same = absurd (cc (ap (λ i. leads w (drop i [])) (place_none w) ∙ leads_none w))
leads_within w (x ∷ t) same =
    decide (row_before x w)
    (λ e. let at = place_later w x t e in let ih = leads_within w t (sym (ap (λ i. leads w (drop i (x ∷ t))) at) ∙ same) in omega arith)
    (λ e. let at = place_here w x t e in omega arith)
