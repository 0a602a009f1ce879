-- A turn of the count over a node's quadrants: a leaf or a node among them adds the quadrant's pixels, and after four turns the node is counted. Rests
-- on list's ShownQuadrants and laws' CountOf.
use Prim.Native.Nat.{ℕ, zero, suc, ◌+◌, ◌*◌, ◌/◌, ◌^◌, ◌≤◌, ◌<◌}
use mathlib.Core.Path.{◌≡◌, refl, sym, ◌∙◌, ap}
use mathlib.Core.Bool.{true, false, true≢false}
use mathlib.Core.List.{List}
use native.Mathlib.Nat.{pow-suc, suc-mul, add-zero, mul-le-mul_right, one-le-pow}
use native.Mathlib.Numerals.{add-one}
use native.Mathlib.Omega.{arith}
use lib.Pow.{pow_pos}
use lib.ListN.{length, get_or, length-set}
use lib.Seq.{get_or-set_same, get_or-set_other}
use Rattle.keys.specs.Key.{child_key}
use Rattle.keys.proofs.Cases.{decide, equal}
use Rattle.definitions.specs.Picture.{Picture, one_feature}
use Rattle.definitions.specs.Bits.{bits_of, feature_of}
use Rattle.definitions.specs.Area.{pixels_with}
use Rattle.laws.proofs.Within.{first_within}
use Rattle.laws.proofs.Slots.{slot_le}
use Rattle.laws.proofs.BitsOf.{bits_from}
use Rattle.laws.proofs.Features.{one_pixel}
use Rattle.laws.proofs.CountOf.{pixels_quadrants, pixels_most, pixels_one, pixels_none}
use Rattle.list.specs.Check.{one_slot}
use Rattle.list.specs.Shown.{ShownAt}
use Rattle.list.proofs.Shown.{shown_value, shown_room, leaf_one, leaf_feature, leaf-length, node_several}
use Rattle.list.proofs.ShownQuadrants.{Left, left_all, left_shown, left_then, left_none}
use Rattle.list.specs.Quadrants.{quadrant_row, quadrant_column}
use Rattle.summary.specs.Count.{with_pixels, CountersFit, NodeAt, BlockCounted, NodeCounted}

-- the pixels of quadrant number d, and those of the first d quadrants
abbrev pub quadrant_pixels : Picture → ℕ → ℕ → ℕ → ℕ → ℕ → ℕ
quadrant_pixels p k r c d f = pixels_with p k (quadrant_row d r (2 ^ k)) (quadrant_column d c (2 ^ k)) f

unfoldable pub first_pixels : Picture → ℕ → ℕ → ℕ → ℕ → ℕ → ℕ
first_pixels p k r c zero f = 0
first_pixels p k r c (suc d) f = first_pixels p k r c d f + quadrant_pixels p k r c d f

module _ (p : Picture) (k r c f : ℕ) where
  pub first_none : first_pixels p k r c 0 f ≡ 0
  unfolding first_pixels
  first_none = refl

  pub first_more : (d : ℕ) → first_pixels p k r c (d + 1) f ≡ first_pixels p k r c d f + quadrant_pixels p k r c d f
  unfolding first_pixels
  first_more d = rw (add-one d)

  pub first_all : first_pixels p k r c 4 f ≡ pixels_with p (suc k) r c f
  unfolding first_pixels quadrant_row quadrant_column
  first_all = let e = pixels_quadrants p f k r c in omega arith

  pub first_most : (d : ℕ) → first_pixels p k r c d f ≤ d * 4 ^ k
  unfolding first_pixels
  first_most zero = omega arith
  first_most (suc d) = let e = first_most d in let h = pixels_most p k (quadrant_row d r (2 ^ k)) (quadrant_column d c (2 ^ k)) f in let g = suc-mul d (4 ^ k) in omega arith

  -- while a quadrant is left, there is room for it
  pub first_room : (d : ℕ) → d < 4 → first_pixels p k r c d f + 4 ^ k ≤ 4 ^ suc k
  first_room d h =
      let e = first_most d in
      let g = suc-mul d (4 ^ k) in
      let i = mul-le-mul_right {m = suc d} {n = 4} (4 ^ k) (omega arith) in
      let j = pow-suc 4 k in
      omega arith

pub added-length : (counts : List ℕ) (f pixels : ℕ) → length (with_pixels counts f pixels) ≡ length counts
added-length counts f pixels = length-set counts f (get_or counts f 0 + pixels)

-- a counter after a leaf of so many pixels was added
pub leaf_added : (p : Picture) (k r c : ℕ) (counts : List ℕ) (f : ℕ) → one_feature p k r c ≡ true → length counts ≡ 32 → f < 32
    → get_or (with_pixels counts (p r c) (4 ^ k)) f 0 ≡ get_or counts f 0 + pixels_with p k r c f
leaf_added p k r c counts f one long h =
    equal f (p r c)
    (λ e. let x = pixels_one p k r c one f e in
    let y = get_or-set_same counts f (get_or counts f 0 + 4 ^ k) 0 (omega arith) in
    ap (λ g. get_or (with_pixels counts g (4 ^ k)) f 0) (sym e) ∙ y ∙ ap (λ g. get_or counts f 0 + g) (sym x))
    (λ e. get_or-set_other counts (p r c) f (get_or counts (p r c) 0 + 4 ^ k) 0 e
    ∙ sym (add-zero (get_or counts f 0))
    ∙ ap (λ g. get_or counts f 0 + g) (sym (pixels_none p k r c one f e)))

-- a node is asked for as it is shown, and is counted as it is shown: a pixel is none
node_asked : {p : Picture} (k : ℕ) {r c κ : ℕ} {bits : List ℕ} {at area : ℕ} → ShownAt p k r c κ bits at → one_feature p k r c ≡ false → area ≡ 4 ^ k → NodeAt bits at area
node_asked {p} zero {r} {c} s several e = absurd (true≢false (sym (one_pixel p r c) ∙ several))
node_asked {p} (suc k) {r} {c} {κ} s several e = record { picture = p; height = k; row = r; column = c; key = κ; shown = s; several = several; pixels = e }

node_counted : {p : Picture} (k : ℕ) {r c κ : ℕ} {bits : List ℕ} {at area : ℕ} {before after : List ℕ} {next : ℕ}
    → NodeCounted bits at area before after next
    → ShownAt p k r c κ bits at
    → one_feature p k r c ≡ false
    → area ≡ 4 ^ k
    → BlockCounted p k r c κ at before after next
node_counted {p} zero {r} {c} x s several e = absurd (true≢false (sym (one_pixel p r c) ∙ several))
node_counted {p} (suc k) {r} {c} {κ} x s several e = x.holds p k r c κ s several e

-- what is shown and is no leaf
pub shown_node : {p : Picture} {k r c κ : ℕ} {bits : List ℕ} {at area : ℕ} → ShownAt p k r c κ bits at → one_slot (get_or bits at 0) ≡ false → area ≡ 4 ^ k → NodeAt bits at area
shown_node {k = k} s e h = node_asked k s (node_several s e) h

pub shown_counted : {p : Picture} {k r c κ : ℕ} {bits : List ℕ} {at area : ℕ} {before after : List ℕ} {next : ℕ}
    → NodeCounted bits at area before after next
    → ShownAt p k r c κ bits at
    → one_slot (get_or bits at 0) ≡ false
    → area ≡ 4 ^ k
    → BlockCounted p k r c κ at before after next
shown_counted {k = k} x s e h = node_counted k x s (node_several s e) h

-- a shown block has a slot, since its first pixel has a feature
shown_slots : {p : Picture} {k r c κ : ℕ} {bits : List ℕ} {at : ℕ} → ShownAt p k r c κ bits at → 0 < get_or bits at 0
shown_slots {p} {k} {r} {c} s =
    let e = shown_value s in
    let b = slot_le (bits_of p k r c) (p r c) (bits_from p k r c r c (first_within k r c)) in
    let g = pow_pos (p r c) in
    omega arith

-- after some turns: the quadrants that are left follow, and the counters have the pixels of those before
pub record CountPassed (p : Picture) (k r c κ : ℕ) (bits : List ℕ) (at : ℕ) (counts₀ counts : List ℕ) (next d : ℕ) : Type 0 where
  pub left : Left p k r c κ bits at next d
  pub counted : (f : ℕ) → f < 32 → get_or counts f 0 ≡ get_or counts₀ f 0 + first_pixels p k r c d f

-- the same of whichever node the bitstrings show
pub record CountReached (bits counts₀ : List ℕ) (at area : ℕ) (counts : List ℕ) (next d : ℕ) : Type 0 where
  pub most : d ≤ 4
  pub long : length counts ≡ length counts₀
  pub passed : (p : Picture) (k r c κ : ℕ)
      → ShownAt p (suc k) r c κ bits at
      → one_feature p (suc k) r c ≡ false
      → area ≡ 4 ^ suc k
      → CountPassed p k r c κ bits at counts₀ counts next d

pub reached_none : (bits counts : List ℕ) (at area : ℕ) → CountReached bits counts at area counts (at + 1) 0
reached_none bits counts at area = record {
  most = omega arith;
  long = refl;
  passed = λ p k r c κ s several e. record {
    left = left_all s several;
    counted = λ f h. let z = first_none p k r c f in omega arith;
  };
}

pub quarter_is : (area k : ℕ) → area ≡ 4 ^ suc k → area / 4 ≡ 4 ^ k
quarter_is area k e = let f = pow-suc 4 k in omega arith

module _ {bits counts₀ : List ℕ} {at area : ℕ} {counts : List ℕ} {next d : ℕ} (x : CountReached bits counts₀ at area counts next d) where
  -- one quadrant more
  turned : (counts' : List ℕ) (next' : ℕ) → d < 4
      → length counts' ≡ length counts
      → ((p : Picture) (k r c κ : ℕ)
      → ShownAt p k (quadrant_row d r (2 ^ k)) (quadrant_column d c (2 ^ k)) (child_key κ k (suc d)) bits next
      → area / 4 ≡ 4 ^ k
      → BlockCounted p k (quadrant_row d r (2 ^ k)) (quadrant_column d c (2 ^ k)) (child_key κ k (suc d)) next counts counts' next')
      → CountReached bits counts₀ at area counts' next' (d + 1)
  turned counts' next' h same one = record {
    most = omega arith;
    long = same ∙ x.long;
    passed = λ p k r c κ s several e.
        let before = x.passed p k r c κ s several e in
        let b = one p k r c κ (left_shown before.left h) (quarter_is area k e) in
        record {
          left = left_then before.left h next' b.ends;
          counted = λ f i.
              let y = b.counts f i in
              let z = before.counted f i in
              let more = first_more p k r c f d in
              omega arith;
        };
  }

  pub leaf_turn : (counts' : List ℕ) (next' : ℕ) → d < 4
      → length counts₀ ≡ 32
      → one_slot (get_or bits next 0) ≡ true
      → counts' ≡ with_pixels counts (feature_of (get_or bits next 0)) (area / 4)
      → next' ≡ next + 1
      → CountReached bits counts₀ at area counts' next' (d + 1)
  leaf_turn counts' next' h long leaf e one =
      turned counts' next' h (ap length e ∙ length-set counts _ _)
      (λ p k r c κ s q.
      record {
        counts = λ f i.
            ap (λ l. get_or l f 0) e
            ∙ ap (λ g. get_or (with_pixels counts g (area / 4)) f 0) (leaf_feature s leaf)
            ∙ ap (λ a. get_or (with_pixels counts (p (quadrant_row d r (2 ^ k)) (quadrant_column d c (2 ^ k))) a) f 0) q
            ∙ leaf_added p k (quadrant_row d r (2 ^ k)) (quadrant_column d c (2 ^ k)) counts f (leaf_one s leaf) (x.long ∙ long) i;
        ends = one ∙ ap (λ n. next + n) (sym (leaf-length s leaf));
      })

  -- the node's pixels may be known by another number
  pub node_turn : (counts' counts'' : List ℕ) (next' next'' quarter : ℕ) → d < 4
      → area / 4 ≡ quarter
      → one_slot (get_or bits next 0) ≡ false
      → NodeCounted bits next quarter counts counts' next'
      → counts'' ≡ counts'
      → next'' ≡ next'
      → CountReached bits counts₀ at area counts'' next'' (d + 1)
  node_turn counts' counts'' next' next'' quarter h is node y same same' =
      rw (same, same') (turned counts' next' h y.long (λ p k r c κ s q. shown_counted y s node (sym is ∙ q)))

  -- after four turns the node is counted
  pub reached_all : 4 ≤ d → NodeCounted bits at area counts₀ counts next
  reached_all h = record {
    long = x.long;
    holds = λ p k r c κ s several e.
        let y = x.passed p k r c κ s several e in
        let four : d ≡ 4 = omega (arith, x.most) in
        record {
          counts = λ f i. y.counted f i ∙ ap (λ j. get_or counts₀ f 0 + first_pixels p k r c j f) four ∙ ap (λ n. get_or counts₀ f 0 + n) (first_all p k r c f);
          ends = left_none y.left four;
        };
  }

  -- what the code may do at a turn, since the bitstrings show some node
  module _ (node : NodeAt bits at area) (h : d < 4) where
    now_passed : CountPassed node.picture node.height node.row node.column node.key bits at counts₀ counts next d
    now_passed = x.passed _ _ _ _ _ node.shown node.several node.pixels

    pub next_room : next < length bits
    next_room = shown_room (left_shown now_passed.left h)

    pub counts_room : CountersFit counts₀ area → CountersFit counts (area / 4)
    counts_room room = record {
      long = x.long ∙ room.long;
      fits = λ f i.
          let a = room.fits f i in
          let b = now_passed.counted f i in
          let e = node.pixels in
          let q = quarter_is area node.height node.pixels in
          let m = first_room node.picture node.height node.row node.column f d h in
          omega arith;
    }

    pub next_slots : 0 < get_or bits next 0
    next_slots = shown_slots (left_shown now_passed.left h)

    pub child_asked : one_slot (get_or bits next 0) ≡ false → NodeAt bits next (area / 4)
    child_asked e = shown_node (left_shown now_passed.left h) e (quarter_is area node.height node.pixels)

    -- a quarter of four pixels is a leaf: a node has more than one pixel
    pub pixel_leaf : area ≡ 4 → one_slot (get_or bits next 0) ≡ true
    pixel_leaf e =
        decide (one_slot (get_or bits next 0)) (λ t. t)
        (λ f. let n = child_asked f in
        let is = n.pixels in
        let g = pow-suc 4 n.height in
        let i = one-le-pow n.height 4 (omega arith) in
        absurd (omega arith))

-- a quarter of the pixels is less
pub less : (area t : ℕ) {bits : List ℕ} {at : ℕ} → area ≡ t → NodeAt bits at area → area / 4 < t
less area t e node = let f = node.pixels in let g = one-le-pow (suc node.height) 4 (omega arith) in omega arith
