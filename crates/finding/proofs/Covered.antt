-- The first pixel that is left tells whether ascending waivers cover a block: they do exactly when it lies past the block's end. An earlier waiver has the
-- block exactly when it reaches the block's end. Rests on FirstPixel and the laws of scans.
use Prim.Native.Nat.{ℕ, suc, ◌+◌, ◌^◌, ◌≤◌, ◌<◌}
use native.Mathlib.Omega.{arith}
use mathlib.Core.Path.{◌≡◌, refl, sym, ap, ◌∙◌, subst}
use mathlib.Core.Bool.{true, false, ◌||◌, true≢false}
use mathlib.Core.List.{List, [], ◌∷◌, ◌++◌}
use lib.Dec.{leb}
use borrow.Author.Tests.{le-leb, lt-leb, leb-true, leb-false}
use Rattle.keys.specs.Key.{valid_key}
use Rattle.keys.specs.Block.{pixel_key, in_block, in_interval}
use Rattle.keys.proofs.Cases.{decide, split, or_left, or_right, same_test}
use Rattle.keys.proofs.Powers.{five_pos}
use Rattle.keys.specs.Under.{MapBlock, InSquare}
use Rattle.keys.proofs.Interval.{within, nest}
use Rattle.keys.proofs.Valid.{valid_block, block_valid}
use Rattle.keys.proofs.Pixel.{inside}
use Rattle.keys.proofs.InBlock.{in_interval-iff, in_block-in_interval, in_raster}
use Rattle.definitions.specs.Picture.{every_pixel}
use Rattle.laws.proofs.Within.{first_within}
use Rattle.laws.proofs.Pixels.{every_to, every_from}
use Rattle.definitions.specs.Covered.{in_some, is_covered}
use Rattle.finding.specs.Covering.{end_of, first_pixel, next_over, next_of, further, furthest_of, start_of, Waived, none, one, AllBefore, no_waiver, waiver}
use Rattle.finding.proofs.FirstPixel.{first_from, first_at, first_past, past_end, PixelAt, lands}

-- steps of the fold
pub next_none : (m next : ℕ) → next_of m next [] ≡ next
unfolding next_of
next_none m next = refl

pub next_cons : (m next w : ℕ) (ws : List ℕ) → next_of m next (w ∷ ws) ≡ next_of m (next_over m next w) ws
unfolding next_of
next_cons m next w ws = refl

pub over_yes : (m next w : ℕ) → in_interval m w next ≡ true → next_over m next w ≡ first_pixel m (end_of m w)
unfolding next_over
over_yes m next w e = rw e

pub over_no : (m next w : ℕ) → in_interval m w next ≡ false → next_over m next w ≡ next
unfolding next_over
over_no m next w e = rw e

-- a number is in the interval of a valid key
module _ (m w : ℕ) (v : valid_key m w ≡ true) (x : ℕ) where
  pub in_to : in_interval m w x ≡ true → (w ≤ x) × (x < end_of m w)
  in_to e = let i = (in_interval-iff x (valid_block m w v)).0 e in (i.from, i.until)

  pub in_from : w ≤ x → x < end_of m w → in_interval m w x ≡ true
  in_from a b = (in_interval-iff x (valid_block m w v)).1 (record { from = a; until = b })

  pub in_not : ((w ≤ x) → (x < end_of m w) → ⊥) → in_interval m w x ≡ false
  in_not h = decide (in_interval m w x) (λ e. let i = in_to e in absurd (h i.0 i.1)) (λ e. e)

-- what is left never falls
over_rises : (m next w : ℕ) → valid_key m w ≡ true → next ≤ next_over m next w
over_rises m next w v =
    decide (in_interval m w next)
    (λ e. let i = in_to m w v next e in let f = first_from m (end_of m w) in let o = over_yes m next w e in omega arith)
    (λ e. let o = over_no m next w e in omega arith)

pub next_rises : {m lo : ℕ} {ws : List ℕ} → Waived m lo ws → (next : ℕ) → next ≤ next_of m next ws
next_rises {m} none next = let e = next_none m next in omega arith
next_rises {m} (one {w = w} {ws} low v t) next =
    let e = next_cons m next w ws in
    let a = over_rises m next w v in
    let b = next_rises t (next_over m next w) in
    omega arith

-- and waivers that begin past it leave it
pub next_stuck : {m lo : ℕ} {ws : List ℕ} → Waived m lo ws → (next : ℕ) → next < lo → next_of m next ws ≡ next
next_stuck {m} none next h = next_none m next
next_stuck {m} (one {w = w} {ws} low v t) next h =
    let e = over_no m next w (in_not m w v next (λ a b. omega arith)) in
    next_cons m next w ws ∙ ap (λ x. next_of m x ws) e ∙ next_stuck t next (omega arith)

-- the tests of the definition
some_none : (m row column : ℕ) → in_some m [] row column ≡ false
unfolding in_some
some_none m row column = refl

some_cons : (m w : ℕ) (ws : List ℕ) (row column : ℕ) → in_some m (w ∷ ws) row column ≡ in_block m w row column || in_some m ws row column
unfolding in_some
some_cons m w ws row column = refl

module _ (m row column : ℕ) (low : row < 2 ^ m) (narrow : column < 2 ^ m) where
  -- a pixel before what is left lies in a waiver
  pub held : {lo : ℕ} {ws : List ℕ} → Waived m lo ws → (next : ℕ) → next ≤ pixel_key m row column → pixel_key m row column < next_of m next ws → in_some m ws row column ≡ true
  held none next from until = let e = next_none m next in absurd (omega arith)
  held (one {w = w} {ws} lo v t) next from until =
      let step = next_cons m next w ws in
      let x = pixel_key m row column in
      let rest : next_over m next w ≤ x → in_block m w row column || in_some m ws row column ≡ true = λ h. or_right (in_block m w row column) (in_some m ws row column) (held t (next_over m next w) h (omega arith)) in
      some_cons m w ws row column
      ∙ decide (in_interval m w next)
      (λ e.
      let i = in_to m w v next e in
      let o = over_yes m next w e in
      split x (end_of m w)
      (λ in-w. or_left (in_block m w row column) (in_some m ws row column) (in_block-in_interval m w row column v low narrow ∙ in_from m w v x (omega arith) in-w))
      (λ past. let p = past_end m w row column v low narrow past in rest (omega arith)))
      (λ e. let o = over_no m next w e in rest (omega arith))

  -- the pixel that is left lies in none
  pub missed : {lo : ℕ} {ws : List ℕ} → Waived m lo ws → (next : ℕ) → pixel_key m row column ≡ next_of m next ws → in_some m ws row column ≡ false
  missed none next is = some_none m row column
  missed (one {w = w} {ws} lo v t) next is =
      let x = pixel_key m row column in
      let step = next_cons m next w ws in
      let rise = next_rises t (next_over m next w) in
      let out : in_interval m w x ≡ false =
      in_not m w v x (λ a b.
      decide (in_interval m w next)
      (λ e. let o = over_yes m next w e in let f = first_from m (end_of m w) in omega arith)
      (λ e.
      let o = over_no m next w e in
      split next w
      (λ before. let s = next_stuck t (next_over m next w) (omega arith) in omega arith)
      (λ past. split next (end_of m w) (λ in-w. let z = true≢false (sym (in_from m w v next past in-w) ∙ e) in absurd z) (λ beyond. omega arith)))) in
      some_cons m w ws row column
      ∙ ap (λ b. b || in_some m ws row column) (in_block-in_interval m w row column v low narrow ∙ out)
      ∙ missed t (next_over m next w) (is ∙ step)

-- what is left among a block's keys is a pixel of the block
pub left_pixel : {m k r c κ lo : ℕ} {ws : List ℕ} → MapBlock m k r c κ → Waived m lo ws → (next : ℕ) → κ ≤ next
    → (next < κ + 5 ^ k → PixelAt k r c m next)
    → next_of m next ws < κ + 5 ^ k
    → PixelAt k r c m (next_of m next ws)
left_pixel {m} {k} {r} {c} b none next from here' until = let e = next_none m next in subst (λ (x : ℕ). PixelAt k r c m x) (sym e) (here' (omega arith))
left_pixel {m} {k} {r} {c} {κ} b (one {w = w} {ws} lo v t) next from here' until =
    let step = next_cons m next w ws in
    let rise = over_rises m next w v in
    subst (λ (x : ℕ). PixelAt k r c m x) (sym step)
    (left_pixel b t (next_over m next w) (omega arith)
    (λ h.
    decide (in_interval m w next)
    (λ e.
    let o = over_yes m next w e in
    let i = in_to m w v next e in
    subst (λ (x : ℕ). PixelAt k r c m x) (sym o) (lands w b v (omega arith) (omega arith)))
    (λ e. let o = over_no m next w e in subst (λ (x : ℕ). PixelAt k r c m x) (sym o) (here' (omega arith))))
    (omega arith))

module _ {m k r c κ : ℕ} (b : MapBlock m k r c κ) where
  -- the definition, by the block's own numbers
  covered_scan : (ws : List ℕ) → is_covered m ws κ ≡ every_pixel (in_some m ws) k r c
  unfolding is_covered
  covered_scan ws = let i = block_valid b in rw (i.height, i.row, i.column)

  -- the waivers cover the block exactly when what is left lies past its end
  pub covered_next : {lo : ℕ} {ws : List ℕ} → Waived m lo ws → is_covered m ws κ ≡ leb (κ + 5 ^ k) (next_of m (first_pixel m κ) ws)
  covered_next {ws = ws} t =
      let next = first_pixel m κ in
      let z = first_from m κ in
      covered_scan ws
      ∙ same_test _ _
      (λ e.
      split (next_of m next ws) (κ + 5 ^ k)
      (λ short.
      let p = left_pixel b t next z (λ h. record { row = r; column = c; inside = first_within k r c; key = first_at b }) short in
      let q = in_raster b p.inside in
      absurd (true≢false (sym (every_to (in_some m ws) k r c e p.row p.column p.inside) ∙ missed m p.row p.column q.0 q.1 t next p.key)))
      (λ past. le-leb _ _ past))
      (λ e.
      let past = leb-true (κ + 5 ^ k) (next_of m next ws) e in
      every_from (in_some m ws) k r c
      (λ row column i.
      let q = in_raster b i in
      let x = inside b i in
      held m row column q.0 q.1 t next (first_past row column b q.0 q.1 x.from) (omega arith)))

-- the fold over waivers that were passed before, and over the others
pub next-append : (m next : ℕ) (a b : List ℕ) → next_of m next (a ++ b) ≡ next_of m (next_of m next a) b
next-append m next [] b = ap (λ x. next_of m x b) (sym (next_none m next))
next-append m next (w ∷ a) b =
    next_cons m next w (a ++ b) ∙ next-append m (next_over m next w) a b ∙ ap (λ x. next_of m x b) (sym (next_cons m next w a))

-- the furthest end
pub furthest_none : (m far : ℕ) → furthest_of m far [] ≡ far
unfolding furthest_of
furthest_none m far = refl

pub furthest_cons : (m far w : ℕ) (ws : List ℕ) → furthest_of m far (w ∷ ws) ≡ furthest_of m (further far (end_of m w)) ws
unfolding furthest_of
furthest_cons m far w ws = refl

further_most : (a b : ℕ) → (a ≤ further a b) × (b ≤ further a b)
further_most a b = decide (leb a b) (λ e. let h = leb-true a b e in rw e (omega arith)) (λ e. let h = leb-false a b e in rw e (omega arith))

further-one {ℓ} : {C : Type ℓ} (a b : ℕ) → (further a b ≡ a → C) → (further a b ≡ b → C) → C
further-one a b first second = decide (leb a b) (λ e. second (rw e)) (λ e. first (rw e))

pub furthest_rises : (m far : ℕ) (ws : List ℕ) → far ≤ furthest_of m far ws
furthest_rises m far [] = let e = furthest_none m far in omega arith
furthest_rises m far (w ∷ ws) =
    let e = furthest_cons m far w ws in
    let a = further_most far (end_of m w) in
    let b = furthest_rises m (further far (end_of m w)) ws in
    omega arith

-- waivers that all end at or before what is left leave it
pub next_passed : {m lo : ℕ} {ws : List ℕ} → Waived m lo ws → (far next : ℕ) → furthest_of m far ws ≤ next → next_of m next ws ≡ next
next_passed {m} none far next h = next_none m next
next_passed {m} (one {w = w} {ws} low v t) far next h =
    let e = furthest_cons m far w ws in
    let a = further_most far (end_of m w) in
    let b = furthest_rises m (further far (end_of m w)) ws in
    let o = over_no m next w (in_not m w v next (λ from until. omega arith)) in
    next_cons m next w ws ∙ ap (λ x. next_of m x ws) o ∙ next_passed t (further far (end_of m w)) next (omega arith)

-- some waiver has this end, or all end at or before far
pub data Reaches (m : ℕ) (x : ℕ) : List ℕ → Type 0 where
  at_first : {w : ℕ} {ws : List ℕ} → valid_key m w ≡ true → end_of m w ≡ x → Reaches m x (w ∷ ws)
  at_later : {w : ℕ} {ws : List ℕ} → Reaches m x ws → Reaches m x (w ∷ ws)

furthest-reached {ℓ} : {C : Type ℓ} {m lo : ℕ} {ws : List ℕ} → Waived m lo ws → (far : ℕ) → (furthest_of m far ws ≡ far → C) → (Reaches m (furthest_of m far ws) ws → C) → C
furthest-reached {m = m} none far same some = same (furthest_none m far)
furthest-reached {m = m} (one {w = w} {ws} low v t) far same some =
    let step = furthest_cons m far w ws in
    let next = further far (end_of m w) in
    furthest-reached t next
    (λ e. further-one far (end_of m w) (λ f. same (step ∙ e ∙ f)) (λ f. some (at_first v (sym f ∙ sym e ∙ sym step))))
    (λ r. some (at_later (subst (λ (x : ℕ). Reaches m x ws) (sym step) r)))

-- a list of waivers, in two parts
pub waived_left : {m lo : ℕ} (a b : List ℕ) → Waived m lo (a ++ b) → Waived m lo a
waived_left [] b t = none
waived_left (w ∷ a) b (one low v t) = one low v (waived_left a b t)

pub waived_lower : {m lo lo' : ℕ} {ws : List ℕ} → lo' ≤ lo → Waived m lo ws → Waived m lo' ws
waived_lower h none = none
waived_lower {lo' = lo'} h (one {w = w} low v t) = one {lo = lo'} {w = w} (omega arith) v t

pub waived_right : {m lo : ℕ} (a b : List ℕ) → Waived m lo (a ++ b) → Waived m lo b
waived_right [] b t = t
waived_right {lo = lo} (w ∷ a) b (one low v t) = waived_lower {lo = suc w} {lo' = lo} (omega arith) (waived_right a b t)

module _ {m k r c κ : ℕ} (b : MapBlock m k r c κ) where
  -- an earlier waiver that reaches the block's end has its pixels
  reached_holds : {x : ℕ} {ws : List ℕ} (rest : List ℕ) → Reaches m x ws → AllBefore κ ws → κ + 5 ^ k ≤ x → (row column : ℕ) → InSquare k r c row column → in_some m (ws ++ rest) row column ≡ true
  reached_holds rest (at_first {w} {ws} v e) (waiver before all) far row column i =
      let q = in_raster b i in
      let x = inside b i in
      some_cons m w (ws ++ rest) row column
      ∙ or_left (in_block m w row column) (in_some m (ws ++ rest) row column)
      (in_block-in_interval m w row column v q.0 q.1 ∙ in_from m w v (pixel_key m row column) (omega arith) (omega arith))
  reached_holds rest (at_later {w} {ws} t) (waiver before all) far row column i =
      some_cons m w (ws ++ rest) row column ∙ or_right (in_block m w row column) (in_some m (ws ++ rest) row column) (reached_holds rest t all far row column i)

  -- one that does not reach it ends before the block
  furthest_before : {lo : ℕ} {ws : List ℕ} → Waived m lo ws → AllBefore κ ws → (far : ℕ) → far ≤ κ → furthest_of m far ws < κ + 5 ^ k → furthest_of m far ws ≤ κ
  furthest_before none no_waiver far h short = let e = furthest_none m far in omega arith
  furthest_before (one {w = w} {ws} low v t) (waiver before all) far h short =
      let e = furthest_cons m far w ws in
      let a = further_most far (end_of m w) in
      let up = furthest_rises m (further far (end_of m w)) ws in
      let ends : end_of m w ≤ κ =
      split κ (end_of m w)
      (λ over. let i = within (nest (valid_block m w v) b (omega arith) over) in absurd (omega arith))
      (λ done. done) in
      let rest = furthest_before t all (further far (end_of m w)) (further-one far (end_of m w) (λ f. omega arith) (λ f. omega arith)) (omega arith) in
      omega arith

  -- the merge: with the furthest end of the waivers before, and what is left over the others
  pub covered_merge : {lo : ℕ} (before rest : List ℕ) → Waived m lo (before ++ rest) → AllBefore κ before
      → is_covered m (before ++ rest) κ ≡ leb (κ + 5 ^ k) (next_of m (start_of m (furthest_of m 0 before) κ) rest)
  unfolding start_of
  covered_merge before rest t all =
      let far = furthest_of m 0 before in
      let end = (block_valid b).height in
      let is : end_of m κ ≡ κ + 5 ^ k = ap (λ j. κ + 5 ^ j) end in
      let z = five_pos k in
      split far (κ + 5 ^ k)
      (λ short.
      let low = furthest_before (waived_left before rest t) all 0 (omega arith) short in
      let from = first_from m κ in
      covered_next b t
      ∙ ap (leb (κ + 5 ^ k)) (next-append m (first_pixel m κ) before rest ∙ ap (λ x. next_of m x rest) (next_passed (waived_left before rest t) 0 (first_pixel m κ) (omega arith)))
      ∙ rw (is, lt-leb (κ + 5 ^ k) far short))
      (λ reach.
      let up = next_rises (waived_right before rest t) far in
      let all_in = covered_scan b (before ++ rest)
      ∙ every_from (in_some m (before ++ rest)) k r c
      (λ row column i.
      furthest-reached (waived_left before rest t) 0
      (λ e. absurd (omega arith))
      (λ h. reached_holds rest h all reach row column i)) in
      all_in ∙ sym (rw (is, le-leb (κ + 5 ^ k) far reach) (le-leb (κ + 5 ^ k) (next_of m far rest) (omega arith))))

-- waivers from the block's end on need not be looked at
pub covered_stop : {m lo : ℕ} {ws : List ℕ} → Waived m lo ws → (end next : ℕ) → end ≤ lo → leb end (next_of m next ws) ≡ leb end next
covered_stop {m} {ws = ws} t end next h =
    let up = next_rises t next in
    split next end
    (λ short. ap (leb end) (next_stuck t next (omega arith)))
    (λ past. le-leb end (next_of m next ws) (omega arith) ∙ sym (le-leb end next past))
