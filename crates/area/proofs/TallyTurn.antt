-- A turn of the count of one feature over a node's quadrants: a leaf or a node among them adds the quadrant's pixels, and after four turns the node is
-- counted. Rests on list's ShownQuadrants and laws' CountOf.
use Prim.Native.Nat.{ℕ, zero, suc, ◌+◌, ◌/◌, ◌^◌, ◌≤◌, ◌<◌}
use mathlib.Core.Path.{◌≡◌, sym, ◌∙◌, ap}
use mathlib.Core.Bool.{true, false, cond, true≢false}
use mathlib.Core.List.{List}
use native.Mathlib.Omega.{arith}
use lib.ListN.{length, get_or}
use lib.Dec.{eqb}
use borrow.Author.Tests.{eq-eqb, ne_eqb}
use Rattle.keys.specs.Key.{child_key}
use Rattle.keys.proofs.Cases.{equal}
use Rattle.definitions.specs.Picture.{Picture, one_feature}
use Rattle.definitions.specs.Bits.{feature_of}
use Rattle.definitions.specs.Area.{pixels_with}
use Rattle.laws.proofs.Features.{one_pixel}
use Rattle.laws.proofs.CountOf.{pixels_most, pixels_one, pixels_none}
use Rattle.list.specs.Check.{one_slot}
use Rattle.list.specs.Shown.{ShownAt}
use Rattle.list.proofs.OneSlot.{one_slot_power}
use Rattle.list.proofs.Shown.{shown_room, leaf_one, leaf_feature, leaf-length, node_several}
use Rattle.list.proofs.ShownQuadrants.{Left, left_all, left_shown, left_then, left_none}
use Rattle.list.specs.Quadrants.{quadrant_row, quadrant_column}
use Rattle.summary.specs.Count.{NodeAt}
use Rattle.summary.proofs.CountTurn.{first_pixels, first_none, first_more, first_all, first_room, quarter_is, shown_node}
use Rattle.area.specs.Tally.{BlockTallied, NodeTallied}
use Rattle.area.specs.declared.tally.Measure.{Measure}

-- what a leaf adds to the count of a feature whose bit is given
leaf_tallied : {p : Picture} {k r c κ : ℕ} {bits : List ℕ} {at : ℕ} (s : ShownAt p k r c κ bits at) → one_slot (get_or bits at 0) ≡ true
    → (bit : ℕ) → one_slot bit ≡ true
    → cond (eqb (get_or bits at 0) bit) (4 ^ k) 0 ≡ pixels_with p k r c (feature_of bit)
leaf_tallied {p} {k} {r} {c} {bits = bits} {at} s leaf bit one =
    equal (get_or bits at 0) bit
    (λ e. ap (λ b. cond b (4 ^ k) 0) (eq-eqb (get_or bits at 0) bit e) ∙ sym (pixels_one p k r c (leaf_one s leaf) (feature_of bit) (ap feature_of (sym e) ∙ leaf_feature s leaf)))
    (λ e. ap (λ b. cond b (4 ^ k) 0) (ne_eqb (get_or bits at 0) bit e)
    ∙ sym (pixels_none p k r c (leaf_one s leaf) (feature_of bit)
    (λ same. e (one_slot_power (get_or bits at 0) leaf ∙ ap (λ x. 2 ^ x) (leaf_feature s leaf ∙ sym same) ∙ sym (one_slot_power bit one)))))

node_tallied : {p : Picture} (k : ℕ) {r c κ : ℕ} {bits : List ℕ} {at area f : ℕ} {t : Measure}
    → NodeTallied bits at area f t
    → ShownAt p k r c κ bits at
    → one_feature p k r c ≡ false
    → area ≡ 4 ^ k
    → BlockTallied p k r c κ at f t
node_tallied {p} zero {r} {c} x s several e = absurd (true≢false (sym (one_pixel p r c) ∙ several))
node_tallied {p} (suc k) {r} {c} {κ} x s several e = x.holds p k r c κ s several e

-- of whichever block is shown and has several features
pub shown_tallied : {p : Picture} {k r c κ : ℕ} {bits : List ℕ} {at area f : ℕ} {t : Measure}
    → NodeTallied bits at area f t
    → ShownAt p k r c κ bits at
    → one_feature p k r c ≡ false
    → area ≡ 4 ^ k
    → BlockTallied p k r c κ at f t
shown_tallied {k = k} x s several e = node_tallied k x s several e

-- after some turns: the quadrants that are left follow, and the pixels of those before are counted
pub record TallyPassed (p : Picture) (k r c κ : ℕ) (bits : List ℕ) (at f pixels next d : ℕ) : Type 0 where
  pub left : Left p k r c κ bits at next d
  pub counted : pixels ≡ first_pixels p k r c d f

-- the same of whichever node the bitstrings show
pub record TallyReached (bits : List ℕ) (at area f pixels next d : ℕ) : Type 0 where
  pub most : d ≤ 4
  pub passed : (p : Picture) (k r c κ : ℕ)
      → ShownAt p (suc k) r c κ bits at
      → one_feature p (suc k) r c ≡ false
      → area ≡ 4 ^ suc k
      → TallyPassed p k r c κ bits at f pixels next d

pub tally_reached_none : (bits : List ℕ) (at area f : ℕ) → TallyReached bits at area f 0 (at + 1) 0
tally_reached_none bits at area f = record {
  most = omega arith;
  passed = λ p k r c κ s several e. record { left = left_all s several; counted = sym (first_none p k r c f) };
}

module _ {bits : List ℕ} {at area f pixels next d : ℕ} (x : TallyReached bits at area f pixels next d) where
  -- one quadrant more
  turned : (t : Measure) (pixels' next' : ℕ) → d < 4
      → ((p : Picture) (k r c κ : ℕ)
      → ShownAt p k (quadrant_row d r (2 ^ k)) (quadrant_column d c (2 ^ k)) (child_key κ k (suc d)) bits next
      → area / 4 ≡ 4 ^ k
      → BlockTallied p k (quadrant_row d r (2 ^ k)) (quadrant_column d c (2 ^ k)) (child_key κ k (suc d)) next f t)
      → pixels' ≡ pixels + t.pixels
      → next' ≡ t.next
      → TallyReached bits at area f pixels' next' (d + 1)
  turned t pixels' next' h one more past = record {
    most = omega arith;
    passed = λ p k r c κ s several e.
        let before = x.passed p k r c κ s several e in
        let b = one p k r c κ (left_shown before.left h) (quarter_is area k e) in
        record {
          left = left_then before.left h next' (past ∙ b.ends);
          counted = let y = b.counted in let z = before.counted in let w = first_more p k r c f d in omega arith;
        };
  }

  pub node_turn : (t : Measure) (pixels' next' : ℕ) → d < 4
      → one_slot (get_or bits next 0) ≡ false
      → NodeTallied bits next (area / 4) f t
      → pixels' ≡ pixels + t.pixels
      → next' ≡ t.next
      → TallyReached bits at area f pixels' next' (d + 1)
  node_turn t pixels' next' h node y = turned t pixels' next' h (λ p k r c κ s q. shown_tallied y s (node_several s node) q)

  -- after four turns the node is counted
  pub reached_all : 4 ≤ d → NodeTallied bits at area f (record { pixels = pixels; next = next })
  reached_all h = record {
    holds = λ p k r c κ s several e.
        let y = x.passed p k r c κ s several e in
        let four : d ≡ 4 = omega (arith, x.most) in
        record { counted = y.counted ∙ ap (λ j. first_pixels p k r c j f) four ∙ first_all p k r c f; ends = left_none y.left four };
  }

  -- what the code may do at a turn, since the bitstrings show some node
  module _ (node : NodeAt bits at area) (h : d < 4) where
    now_passed : TallyPassed node.picture node.height node.row node.column node.key bits at f pixels next d
    now_passed = x.passed _ _ _ _ _ node.shown node.several node.pixels

    pub next_room : next < length bits
    next_room = shown_room (left_shown now_passed.left h)

    -- a quadrant's pixels more are not more than the node's
    pub pixels_room : pixels + area / 4 ≤ area
    pixels_room =
        let b = now_passed.counted in
        let e = node.pixels in
        let q = quarter_is area node.height node.pixels in
        let m = first_room node.picture node.height node.row node.column f d h in
        omega arith

    pub child_asked : one_slot (get_or bits next 0) ≡ false → NodeAt bits next (area / 4)
    child_asked e = shown_node (left_shown now_passed.left h) e (quarter_is area node.height node.pixels)

    -- what the child gives is at most its pixels
    pub child_most : (t : Measure) → one_slot (get_or bits next 0) ≡ false → NodeTallied bits next (area / 4) f t → t.pixels ≤ area / 4
    child_most t e y =
        let s = left_shown now_passed.left h in
        let q = quarter_is area node.height node.pixels in
        let b = (shown_tallied y s (node_several s e) q).counted in
        let m = pixels_most node.picture node.height (quadrant_row d node.row (2 ^ node.height)) (quadrant_column d node.column (2 ^ node.height)) f in
        omega arith

-- a leaf among the quadrants
pub leaf_turn : (bit : ℕ) {bits : List ℕ} {at area pixels next d : ℕ} → TallyReached bits at area (feature_of bit) pixels next d → one_slot bit ≡ true
    → (more pixels' next' : ℕ) → d < 4
    → one_slot (get_or bits next 0) ≡ true
    → more ≡ cond (eqb (get_or bits next 0) bit) (area / 4) 0
    → pixels' ≡ pixels + more
    → next' ≡ next + 1
    → TallyReached bits at area (feature_of bit) pixels' next' (d + 1)
leaf_turn bit {bits} {next = next} x one more pixels' next' h leaf e sum past =
    turned x (record { pixels = more; next = next + 1 }) pixels' next' h
    (λ p k r c κ s q. record {
      counted = e ∙ ap (λ a. cond (eqb (get_or bits next 0) bit) a 0) q ∙ leaf_tallied s leaf bit one;
      ends = ap (λ n. next + n) (sym (leaf-length s leaf));
    })
    sum past
