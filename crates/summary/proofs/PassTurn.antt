-- The pass over a node's children, in plain numbers and lists: what has been checked and counted before each turn, how a turn goes on, and that a node
-- which the check passes is shown by the bitstrings. Rests on list's Turn, Sound and Places, and on CountTurn.
use Prim.Native.Nat.{ℕ, zero, suc, ◌+◌, ◌-◌, ◌*◌, ◌/◌, ◌^◌, ◌≤◌, ◌<◌}
use mathlib.Core.Path.{◌≡◌, refl, sym, ◌∙◌, ap}
use mathlib.Core.Bool.{true, false}
use mathlib.Core.List.{List, ◌∷◌, ◌++◌, map-append}
use native.Mathlib.Nat.{pow-suc, suc-mul, mul-le-mul_right}
use native.Mathlib.Omega.{arith}
use lib.Bits.{bit_or}
use lib.ListN.{length, get_or, drop, length-drop}
use Rattle.std.specs.Prelude.{Option, Some, None}
use lib.Seq.{get_or-set_same, get_or-set_other}
use Rattle.keys.proofs.Cases.{equal}
use Rattle.keys.proofs.Powers.{five_le, five_pos}
use Rattle.definitions.specs.Bits.{feature_of}
use Rattle.definitions.specs.List.{Record, record_of, values_of, list_of}
use Rattle.definitions.specs.Read.{paired}
use Rattle.laws.proofs.Records.{paired-length, paired_values, drop-paired}
use Rattle.laws.proofs.CountOf.{pixels_most}
use Rattle.list.specs.Check.{one_slot, rest_place, after_node, step_under}
use Rattle.list.proofs.Children.{own_node}
use Rattle.list.proofs.Sound.{sound}
use Rattle.list.proofs.Places.{record_at, told}
use Rattle.list.proofs.Shown.{slot_several}
use Rattle.list.proofs.Turn as check
use Rattle.summary.specs.Count.{with_pixels, CountersFit, NodeAt, NodeCounted}
use Rattle.summary.specs.Pass.{NodeThere, OneHeight, PassAsked, PassAnswered}
use Rattle.summary.proofs.CountTurn.{CountReached, reached_none, reached_all, leaf_turn, node_turn}

-- the height tells the step
pub step_of_height : (k step : ℕ) → step ≡ 5 ^ k → step ≡ step_under (suc k)
unfolding step_under
step_of_height k step e = e

-- the height below
pub lower_level : (step area : ℕ) → OneHeight step area → 5 ≤ step → OneHeight (step / 5) (area / 4)
lower_level step area l h = go l.height l.steps l.pixels
  where
    go : (k : ℕ) → step ≡ 5 ^ k → area ≡ 4 ^ suc k → OneHeight (step / 5) (area / 4)
    go zero e f = absurd (omega arith)
    go (suc k) e f = let a = pow-suc 5 k in let b = pow-suc 4 (suc k) in record { height = k; steps = omega arith; pixels = omega arith }

-- a step of 5 is that of sixteen pixels, and other steps are larger
pub sixteen_pixels : (step area : ℕ) → OneHeight step area → step ≡ 5 → area ≡ 16
sixteen_pixels step area l five = go l.height l.steps l.pixels
  where
    go : (k : ℕ) → step ≡ 5 ^ k → area ≡ 4 ^ suc k → area ≡ 16
    go zero e f = absurd (omega arith)
    go (suc zero) e f = f
    go (suc (suc k)) e f = absurd (let h = five_le {k = 2} (suc (suc k)) (omega arith) in omega arith)

pub larger : (step area : ℕ) → OneHeight step area → 5 ≤ step → (step ≡ 5 → ⊥) → 25 ≤ step
larger step area l low five = go l.height l.steps
  where
    go : (k : ℕ) → step ≡ 5 ^ k → 25 ≤ step
    go zero e = absurd (omega arith)
    go (suc zero) e = absurd (five e)
    go (suc (suc k)) e = let h = five_le {k = 2} (suc (suc k)) (omega arith) in omega arith

-- a node whose records the check passes is the node of some picture
module _ {K B : List ℕ} {at key own step : ℕ} (node : NodeThere K B at key own step) where
  values_from : (i : ℕ) → values_of (drop i (paired K B)) ≡ drop i B
  values_from i =
      let a = length-drop i K in
      let b = length-drop i B in
      ap values_of (drop-paired i K B) ∙ paired_values (drop i K) (drop i B) (omega (arith, node.size))

  own_record : drop at (paired K B) ≡ record_of (get_or K at 0) own ∷ drop (at + 1) (paired K B)
  own_record =
      record_at K B at node.size node.there ∙ ap (λ x. record_of (get_or K at 0) x ∷ drop (at + 1) (paired K B)) (sym node.own_is)

  pub passed_node : {area place : ℕ} → OneHeight step area
      → ((k : ℕ) → step ≡ step_under k → place ≡ rest_place (length K) (after_node k key own (drop (at + 1) (paired K B))))
      → (place ≡ 0 → ⊥)
      → NodeAt B at area
  passed_node {area} {place} l answer good =
      let k = l.height in
      let there = node.there in
      let own_is = own_node (after_node (suc k)) key own (drop (at + 1) (paired K B)) node.several in
      let t = told (suc k) key own (paired K B) (at + 1) (length K) (sym (paired-length K B node.size)) (omega arith) (omega arith) in
      let is = answer (suc k) (step_of_height k step l.steps) ∙ ap (rest_place (length K)) (sym own_is) in
      let s = sound (suc k) 0 0 key own (drop (at + 1) (paired K B)) _ (t.passed (λ z. good (is ∙ z))) in
      record {
        picture = s.picture;
        height = k;
        row = 0;
        column = 0;
        key = key;
        shown = record {
          rest = _;
          values = sym (values_from at) ∙ ap values_of own_record ∙ ap values_of s.is ∙ two_parts (list_of s.picture (suc k) 0 0 key) _;
        };
        several = slot_several s.picture (suc k) 0 0 (ap one_slot s.bits_are ∙ node.several);
        pixels = l.pixels;
      }
    where
      two_parts : (a b : List Record) → values_of (a ++ b) ≡ values_of a ++ values_of b
      two_parts a b = map-append (λ x. x.value) a b

-- a node's pixels are as many as its area
pub counted_most : {B before after : List ℕ} {at area next : ℕ} → NodeAt B at area → NodeCounted B at area before after next
    → (f : ℕ) → f < 32 → get_or after f 0 ≤ get_or before f 0 + area
counted_most node x f h =
    let e = (x.holds _ _ _ _ _ node.shown node.several node.pixels).counts f h in
    let g = pixels_most node.picture (suc node.height) node.row node.column f in
    let p = node.pixels in
    omega arith

-- a leaf's too
pub leaf_most : (counts : List ℕ) (g area f : ℕ) → length counts ≡ 32 → f < 32 → get_or (with_pixels counts g area) f 0 ≤ get_or counts f 0 + area
leaf_most counts g area f long h =
    equal f g
    (λ e. let y = get_or-set_same counts f (get_or counts f 0 + area) 0 (omega arith) in
    let z : get_or (with_pixels counts g area) f 0 ≡ get_or (with_pixels counts f area) f 0 = ap (λ i. get_or (with_pixels counts i area) f 0) (sym e) in
    omega arith)
    (λ e. let y = get_or-set_other counts g f (get_or counts g 0 + area) 0 e in omega arith)

-- before the turn of a digit: the children before it have been checked and counted
pub record Passing (K B counts₀ : List ℕ) (at key own step area : ℕ) (counts : List ℕ) (next union digit : ℕ) : Type 0 where
  pub checked : check.TurnPassed K B (at + 1) key own step next union digit
  pub reached : CountReached B counts₀ at area counts next (digit - 1)
  pub after : 0 < next
  pub most : (f : ℕ) → f < 32 → get_or counts f 0 ≤ get_or counts₀ f 0 + (digit - 1) * (area / 4)

module _ {K B counts₀ : List ℕ} {at key own step area : ℕ} (asked : PassAsked K B counts₀ at key own step area) where
  positive : step ≡ 0 → ⊥
  positive e = let h = five_pos asked.level.height in let s = asked.level.steps in omega arith

  pub passing_begins : Passing K B counts₀ at key own step area counts₀ (at + 1) 0 1
  passing_begins = record {
    checked = check.turn_begins K B (at + 1) key own step (asked.node.size, omega (arith, asked.node.there), asked.node.fits) positive;
    reached = reached_none B counts₀ at area;
    after = omega arith;
    most = λ f h. omega arith;
  }

  module _ {counts : List ℕ} {next union digit : ℕ} (x : Passing K B counts₀ at key own step area counts next union digit) where
    -- what is wrong answers none
    pub refuses : check.Answer K B (at + 1) key own step 0 → PassAnswered K B counts₀ counts at key own step area None
    refuses h = record { within = omega arith; checked = h; counted = λ place e. cc }

    pub passes : 5 ≤ digit → union ≡ own → PassAnswered K B counts₀ counts at key own step area (Some next)
    passes end e = record {
      within = x.checked.within;
      checked = check.ends x.checked end e;
      counted = λ place same.
          let is : next ≡ place = cc in (rw is at x.after, rw is at (reached_all x.reached (omega arith)));
    }

    module _ (turn : digit < 5) where
      -- there is room for one quadrant more
      pub passing_room : CountersFit counts (area / 4)
      passing_room = record {
        long = x.reached.long ∙ asked.room.long;
        fits = λ f h.
            let a = x.most f h in
            let b = asked.room.fits f h in
            let e = suc-mul (digit - 1) (area / 4) in
            let i = mul-le-mul_right {m = suc (digit - 1)} {n = 4} (area / 4) (omega arith) in
            omega arith;
      }

      module _ (there : next < length K) {child : ℕ} (is : child ≡ key + digit * step) (same : get_or K next 0 ≡ child) where
        from : 1 ≤ digit
        from = x.checked.from

        on : {counts' : List ℕ} (next' : ℕ) → CountReached B counts₀ at area counts' next' (digit - 1 + 1) → CountReached B counts₀ at area counts' next' (digit + 1 - 1)
        on next' r = let f = from in let e : digit - 1 + 1 ≡ digit + 1 - 1 = omega arith in rw e at r

        pub leaf_passes : (counts' : List ℕ) → one_slot (get_or B next 0) ≡ true
            → counts' ≡ with_pixels counts (feature_of (get_or B next 0)) (area / 4)
            → Passing K B counts₀ at key own step area counts' (next + 1) (bit_or union (get_or B next 0)) (digit + 1)
        leaf_passes counts' leaf e = record {
          checked = check.goes_leaf x.checked turn there is same leaf;
          reached = on (next + 1) (leaf_turn x.reached counts' (next + 1) (omega arith) asked.room.long leaf e refl);
          after = omega arith;
          most = λ f h.
              let a = x.most f h in
              let b = leaf_most counts (feature_of (get_or B next 0)) (area / 4) f (x.reached.long ∙ asked.room.long) h in
              let c = ap (λ l. get_or l f 0) e in
              let g = from in
              let d = suc-mul (digit - 1) (area / 4) in
              let i : (digit + 1 - 1) * (area / 4) ≡ suc (digit - 1) * (area / 4) = ap (λ y. y * (area / 4)) (omega arith) in
              omega arith;
        }

        module _ (several : one_slot (get_or B next 0) ≡ false) where
          child_there : NodeThere K B next child (get_or B next 0) (step / 5)
          child_there = record {
            size = asked.node.size;
            there = there;
            own_is = refl;
            several = several;
            fits = let h = check.child_fits x.checked turn in omega arith;
          }

          pub node_asked : 5 ≤ step → PassAsked K B counts next child (get_or B next 0) (step / 5) (area / 4)
          node_asked h = record { node = child_there; level = lower_level step area asked.level h; room = passing_room }

          pub node_refuses : {counts' : List ℕ} → PassAnswered K B counts counts' next child (get_or B next 0) (step / 5) (area / 4) None
              → PassAnswered K B counts₀ counts' at key own step area None
          node_refuses y = record {
            within = omega arith;
            checked = check.wrong_child x.checked turn there is same several 0 refl y.checked;
            counted = λ place e. cc;
          }

          pub node_passes : (counts' : List ℕ) (place : ℕ) → 5 ≤ step
              → PassAnswered K B counts counts' next child (get_or B next 0) (step / 5) (area / 4) (Some place)
              → Passing K B counts₀ at key own step area counts' place (bit_or union (get_or B next 0)) (digit + 1)
          node_passes counts' place low y = let z = y.counted place refl in let good : place ≡ 0 → ⊥ = λ e. omega arith in record {
            checked = check.goes_node x.checked turn there is same several place good y.within y.checked;
            reached = on place (node_turn x.reached counts' counts' place place (area / 4) (omega arith) refl several z.1 refl refl);
            after = z.0;
            most = λ f h.
                let a = x.most f h in
                let b = counted_most (passed_node child_there (lower_level step area asked.level low) y.checked good) z.1 f h in
                let g = from in
                let d = suc-mul (digit - 1) (area / 4) in
                let i : (digit + 1 - 1) * (area / 4) ≡ suc (digit - 1) * (area / 4) = ap (λ z. z * (area / 4)) (omega arith) in
                omega arith;
          }

-- a node of sixteen pixels is one of its step and area
module _ {K B counts : List ℕ} {at key own step area : ℕ} (asked : PassAsked K B counts at key own step area) (five : step ≡ 5) where
  sixteen : area ≡ 16
  sixteen = sixteen_pixels step area asked.level five

  pub sixteen_asked : PassAsked K B counts at key own 5 16
  sixteen_asked = rw (five, sixteen) at asked

  pub sixteen_answered : {counts' : List ℕ} {answer : Option ℕ} → PassAnswered K B counts counts' at key own 5 16 answer
      → PassAnswered K B counts counts' at key own step area answer
  sixteen_answered x = rw (five, sixteen) x
