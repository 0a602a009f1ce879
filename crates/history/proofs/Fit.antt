-- Paints that are fit: of a block of the map or of a window of the raster, with a feature below s. All that a history needs to know of a paint: it keeps
-- agreement and features below s, what it logs is a step, that step taken back gives the picture before it, and painted again the one after it. Each law is
-- that of a block's paint or that of a window's. Rests on Drawn, and of groups on laws' GroupStep and GroupBack.
use Prim.Native.Nat.{ℕ, ◌≤◌, ◌<◌}
use mathlib.Core.Path.{◌≡◌, ap, ap₂, ◌∙◌}
use mathlib.Core.Bool.{true, false, cond}
use mathlib.Core.List.{List, [], ◌++◌}
use native.Mathlib.Omega.{arith}
use lib.ListN.{length}
use Rattle.keys.specs.Key.{valid_key}
use Rattle.keys.specs.Block.{in_block}
use Rattle.keys.proofs.Cases.{decide}
use Rattle.definitions.specs.Picture.{Picture, features_below}
use Rattle.definitions.specs.List.{Record}
use Rattle.definitions.specs.Edit.{paint_in, fill_window, content_of}
use Rattle.definitions.specs.Window.{is_window, largest_blocks}
use Rattle.definitions.specs.declared.Window.{Window}
use Rattle.definitions.specs.Log.{group_mark, entry_of, grouped, entries_of, group_of, ends_in_mark, step_count, step_entries, put_back, paint_again}
use Rattle.laws.proofs.Pixels.{Agree}
use Rattle.laws.proofs.LastStep.{IsStep, single_mark, count_single, entries_single, group_count, group_entries}
use Rattle.laws.proofs.LargestBlocks.{largest_in_order}
use Rattle.laws.proofs.WindowPaint.{entries_past}
use Rattle.laws.proofs.GroupStep.{entry_step, group_step}
use Rattle.laws.proofs.GroupBack.{entry_back, entry_again, group_back, group_again}
use Rattle.history.specs.History.{Paint, of_block, of_window, applied, logged_by}
use Rattle.history.proofs.Drawn.{paint_outside, paint_agree, paint_below, fill_agree, fill_below}
use Rattle.history.proofs.Content.{entry_agree}

-- a block of the map, or a window of the raster, and a feature below s
pub data Fit (m s : ℕ) : Paint → Type 0 where
  block_fit : (κ f : ℕ) → valid_key m κ ≡ true → f < s → Fit m s (of_block κ f)
  window_fit : (w : Window) (f : ℕ) → is_window m w ≡ true → f < s → Fit m s (of_window w f)

-- pictures that agree on the map agree after the same paint
pub applied_agree : (m : ℕ) (x : Paint) (p q : Picture) → Agree p q m 0 0 → Agree (applied m x p) (applied m x q) m 0 0
unfolding applied
applied_agree m (of_block κ f) p q h = paint_agree m κ f p q m 0 0 h
applied_agree m (of_window w f) p q h = fill_agree w f p q m 0 0 h

-- a fit paint leaves features below s
pub applied_below : {m s : ℕ} {x : Paint} (p : Picture) → Fit m s x → features_below s p m 0 0 ≡ true → features_below s (applied m x p) m 0 0 ≡ true
unfolding applied
applied_below {m} {s} p (block_fit κ f valid small) below = paint_below m s κ f p m 0 0 small below
applied_below {m} {s} p (window_fit w f good small) below = fill_below s w f p m 0 0 small below

-- what a fit paint logs of a picture with features below s is a step
pub step_is : {m s : ℕ} {x : Paint} (p : Picture) → Fit m s x → features_below s p m 0 0 ≡ true → IsStep m s (logged_by m p x)
unfolding logged_by
step_is {m} {s} p (block_fit κ f valid small) below = entry_step m s κ f p valid small below
step_is {m} {s} p (window_fit w f good small) below = group_step m s f p small below w good

-- the group of a window depends on the map's pixels alone
group_agree : (m : ℕ) (w : Window) (f : ℕ) (p q : Picture) → Agree p q m 0 0 → group_of m p w f ≡ group_of m q w f
unfolding group_of
group_agree m w f p q h =
    ap (λ entries. grouped entries (length (largest_blocks m w)))
    (entries_past f p q (largest_in_order m w) (λ row column low narrow past. h row column (omega arith)))

-- pictures that agree on the map have the same step
pub step_agree : {m s : ℕ} {x : Paint} (p q : Picture) → Fit m s x → Agree p q m 0 0 → logged_by m p x ≡ logged_by m q x
unfolding logged_by
step_agree {m} p q (block_fit κ f valid small) h = entry_agree m κ f p q valid h
step_agree {m} p q (window_fit w f good small) h = group_agree m w f p q h

-- the step of a paint of a block is one entry
module _ (m s : ℕ) (few : s ≤ group_mark) (κ f : ℕ) (small : f < s) (p : Picture) (log : List Record) where
  entry_mark : ends_in_mark (log ++ entry_of m p κ f) ≡ false
  unfolding entry_of
  entry_mark = single_mark m s few log κ (content_of m p κ) f small

  entry_count : step_count (log ++ entry_of m p κ f) ≡ 1
  entry_count = count_single (log ++ entry_of m p κ f) entry_mark

  entry_entries : step_entries (log ++ entry_of m p κ f) ≡ log ++ entry_of m p κ f
  entry_entries = entries_single (log ++ entry_of m p κ f) entry_mark

-- that of a paint of a window has one for each of its largest blocks
module _ (m : ℕ) (w : Window) (f : ℕ) (p : Picture) (log : List Record) where
  window_count : step_count (log ++ group_of m p w f) ≡ length (largest_blocks m w)
  unfolding group_of
  window_count = group_count log (entries_of m p (largest_blocks m w) f) (length (largest_blocks m w))

  window_entries : step_entries (log ++ group_of m p w f) ≡ log ++ entries_of m p (largest_blocks m w) f
  unfolding group_of
  window_entries = group_entries log (entries_of m p (largest_blocks m w) f) (length (largest_blocks m w))

-- an entry taken back, from any picture that agrees with the painted one, gives the picture before
block_back : (m κ f : ℕ) (p : Picture) → valid_key m κ ≡ true → (log : List Record) (q : Picture) → Agree q (paint_in m κ f p) m 0 0
    → Agree (put_back 1 m (log ++ entry_of m p κ f) q) p m 0 0
block_back m κ f p valid log q same row column i =
    entry_back m κ f p valid log q row column
    ∙ decide (in_block m κ row column)
    (λ e. ap (λ t. cond t (p row column) (q row column)) e)
    (λ e. ap (λ t. cond t (p row column) (q row column)) e ∙ same row column i ∙ paint_outside m κ f p row column e)

-- pictures that are one agree
same_agree : (m : ℕ) (p q : Picture) → p ≡ q → Agree p q m 0 0
same_agree m p q e row column i = ap (λ picture. picture row column) e

-- agreement with another picture, where the first is one with it
from_same : (m : ℕ) (p p' q : Picture) → p ≡ p' → Agree p' q m 0 0 → Agree p q m 0 0
from_same m p p' q e h row column i = ap (λ picture. picture row column) e ∙ h row column i

-- the step of a fit paint taken back, from any picture that agrees with the one after it, gives the picture before it
pub step_back : {m s : ℕ} {x : Paint} (p : Picture) → s ≤ group_mark → Fit m s x → features_below s p m 0 0 ≡ true
    → (log : List Record) (q : Picture) → Agree q (applied m x p) m 0 0
    → Agree (put_back (step_count (log ++ logged_by m p x)) m (step_entries (log ++ logged_by m p x)) q) p m 0 0
unfolding applied logged_by
step_back {m} {s} p few (block_fit κ f valid small) below log q same =
    from_same m _ (put_back 1 m (log ++ entry_of m p κ f) q) p
    (ap₂ (λ n l. put_back n m l q) (entry_count m s few κ f small p log) (entry_entries m s few κ f small p log))
    (block_back m κ f p valid log q same)
step_back {m} {s} p few (window_fit w f good small) below log q same =
    from_same m _ (put_back (length (largest_blocks m w)) m (log ++ entries_of m p (largest_blocks m w) f) q) p
    (ap₂ (λ n l. put_back n m l q) (window_count m w f p log) (window_entries m w f p log))
    (group_back m s f p small below w log q same)

-- painted again, on any picture, it is the paint
pub step_again : {m s : ℕ} {x : Paint} (p : Picture) → s ≤ group_mark → Fit m s x → features_below s p m 0 0 ≡ true
    → (q : Picture) → Agree (paint_again (step_count (logged_by m p x)) m (step_entries (logged_by m p x)) q) (applied m x q) m 0 0
unfolding applied logged_by
step_again {m} {s} p few (block_fit κ f valid small) below q =
    same_agree m _ (paint_in m κ f q)
    (ap₂ (λ n l. paint_again n m l q) (entry_count m s few κ f small p []) (entry_entries m s few κ f small p []) ∙ entry_again m κ f p [] q)
step_again {m} {s} p few (window_fit w f good small) below q =
    from_same m _ (paint_again (length (largest_blocks m w)) m ([] ++ entries_of m p (largest_blocks m w) f) q) (fill_window w f q)
    (ap₂ (λ n l. paint_again n m l q) (window_count m w f p []) (window_entries m w f p []))
    (group_again m s f p small below w [] q)
