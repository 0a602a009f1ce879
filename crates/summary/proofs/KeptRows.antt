-- What the pass keeps of the blocks of a summary: how a block is kept, and the turns over the children of a node above the blocks. Rests on list's Turn.
use Prim.Native.Nat.{ℕ, zero, suc, ◌+◌, ◌-◌, ◌*◌, ◌/◌, ◌^◌, ◌≤◌, ◌<◌}
use mathlib.Core.Path.{◌≡◌, refl, sym, ◌∙◌, ap}
use mathlib.Core.Bool.{true, false}
use mathlib.Core.List.{List}
use native.Mathlib.Nat.{pow-suc, suc-mul, one-le-pow}
use native.Mathlib.Omega.{arith}
use lib.Bits.{bit_or}
use lib.ListN.{length, get_or, set, replicate, length-set, length-replicate, get_or-replicate}
use lib.Seq.{get_or-set_same, get_or-set_other}
use Rattle.keys.proofs.Cases.{equal, split}
use Rattle.keys.proofs.Powers.{five_pos}
use Rattle.list.specs.Check.{one_slot}
use Rattle.list.proofs.Turn as check
use Rattle.std.specs.Prelude.{Option, Some, None}
use Rattle.summary.specs.declared.kept.KeptBlock.{KeptBlock}
use Rattle.summary.specs.Count.{CountersFit, NodeCounted}
use Rattle.summary.specs.Pass.{OneHeight, PassAsked, PassAnswered}
use Rattle.summary.specs.Kept.{RowKept, RowsKept, SharedArea, KeepingAsked, KeepingAnswered}

-- counters that are all 0 have room
pub none_fit : (area : ℕ) → area ≤ 4 ^ 10 → CountersFit (replicate 32 0) area
none_fit area h = record {
  long = length-replicate {A = ℕ} 32 0;
  fits = λ f i. let z = get_or-replicate {A = ℕ} 32 f 0 0 i in omega arith;
}

-- a block by itself, and the blocks of a child
pub kept_level : (step area : ℕ) → SharedArea step area 1 → OneHeight step area × (5 ≤ step)
kept_level step area s = go s.up s.blocks s.steps
  where
    go : (u : ℕ) → 1 ≡ 4 ^ u → step ≡ 5 ^ (u + suc s.height) → OneHeight step area × (5 ≤ step)
    go zero e f =
        let a = pow-suc 5 s.height in
        let p = five_pos s.height in
        let steps : step ≡ 5 ^ suc s.height = f ∙ ap (λ x. 5 ^ x) (omega arith) in
        (record { height = suc s.height; steps = steps; pixels = s.pixels }, omega arith)
    go (suc u) e f = absurd (let a = pow-suc 4 u in let p = one-le-pow u 4 (omega arith) in omega arith)

pub child_shared : (step area share : ℕ) → SharedArea step area share → (share ≡ 1 → ⊥) → SharedArea (step / 5) area (share / 4) × (4 * (share / 4) ≡ share)
child_shared step area share s many = go s.up s.blocks s.steps
  where
    go : (u : ℕ) → share ≡ 4 ^ u → step ≡ 5 ^ (u + suc s.height) → SharedArea (step / 5) area (share / 4) × (4 * (share / 4) ≡ share)
    go zero e f = absurd (many e)
    go (suc u) e f =
        let a = pow-suc 4 u in
        let b = pow-suc 5 (u + suc s.height) in
        let steps : step ≡ 5 ^ suc (u + suc s.height) = f ∙ ap (λ x. 5 ^ x) (omega arith) in
        (record { up = u; height = s.height; blocks = omega arith; steps = omega arith; pixels = s.pixels; small = s.small }, omega arith)

-- counters that were all 0 have counted a node
pub counted_row : {B : List ℕ} {at area : ℕ} {counts : List ℕ} {next : ℕ} → one_slot (get_or B at 0) ≡ false
    → NodeCounted B at area (replicate 32 0) counts next
    → RowKept B area at counts
counted_row several x = record {
  several = several;
  long = x.long ∙ length-replicate {A = ℕ} 32 0;
  counted = λ p k r c κ shown more pixels f h.
      let e = (x.holds p k r c κ shown more pixels).counts f h in
      let z = get_or-replicate {A = ℕ} 32 f 0 0 h in
      omega arith;
}

-- one block more is kept
pub kept_more : {B : List ℕ} {area : ℕ} {kept : List (Option KeptBlock)} (b : ℕ) (block : KeptBlock) → RowsKept B area kept → b < 16
    → RowKept B area block.place block.counts
    → RowsKept B area (set kept b (Some block))
kept_more {B} {area} {kept} b block k h x = record {
  long = length-set kept b (Some block) ∙ k.long;
  known = λ i other e.
      equal i b
      (λ here.
      let own : get_or (set kept b (Some block)) i None ≡ Some block =
      ap (λ j. get_or (set kept b (Some block)) j None) here ∙ get_or-set_same kept b (Some block) None (let l = k.long in omega arith) in
      let same : block ≡ other = cc in
      rw same at x)
      (λ away. k.known i other (sym (get_or-set_other kept b i (Some block) None away) ∙ e));
}

module _ {K B : List ℕ} {kept : List (Option KeptBlock)} {at key own step area b : ℕ} (asked : KeepingAsked K B kept at key own step area b 1) where
  pub block_asked : PassAsked K B (replicate 32 0) at key own step area × (5 ≤ step)
  block_asked =
      let l = kept_level step area asked.shared in
      (record { node = asked.node; level = l.0; room = none_fit area asked.shared.small }, l.1)

  module _ {counts : List ℕ} where
    pub block_wrong : PassAnswered K B (replicate 32 0) counts at key own step area None → KeepingAnswered K B kept at key own step area None
    block_wrong x = record { within = omega arith; some = λ place e. cc; checked = x.checked; holds = asked.holds }

    pub block_kept : {place : ℕ} → PassAnswered K B (replicate 32 0) counts at key own step area (Some place)
        → KeepingAnswered K B (set kept b (Some (record { place = at; counts = counts }))) at key own step area (Some place)
    block_kept {place} x = record {
      within = x.within;
      some = λ found e. (x.counted found e).0;
      checked = x.checked;
      holds = kept_more b (record { place = at; counts = counts }) asked.holds (let h = asked.most in omega arith)
          (counted_row (ap one_slot (sym asked.node.own_is) ∙ asked.node.several) (x.counted place refl).1);
    }

-- before the turn of a digit: the children before it have been checked, and their blocks are kept
pub record Keeping (K B : List ℕ) (at key own step area quarter : ℕ) (kept : List (Option KeptBlock)) (number next union digit : ℕ) : Type 0 where
  pub checked : check.TurnPassed K B (at + 1) key own step next union digit
  pub most : number + (5 - digit) * quarter ≤ 16
  pub after : 0 < next
  pub holds : RowsKept B area kept

module _ {K B : List ℕ} {kept₀ : List (Option KeptBlock)} {at key own step area b share : ℕ}
    (asked : KeepingAsked K B kept₀ at key own step area b share) (many : share ≡ 1 → ⊥) where
  positive : step ≡ 0 → ⊥
  positive e = let h = five_pos (asked.shared.up + suc asked.shared.height) in let s = asked.shared.steps in omega arith

  -- a child's step is less
  pub step_less : step / 5 < step
  step_less = split 0 step (λ h. omega arith) (λ h. absurd (positive (omega arith)))

  pub keeping_begins : Keeping K B at key own step area (share / 4) kept₀ b (at + 1) 0 1
  keeping_begins = record {
    checked = check.turn_begins K B (at + 1) key own step (asked.node.size, omega (arith, asked.node.there), asked.node.fits) positive;
    most = let e = (child_shared step area share asked.shared many).1 in let h = asked.most in omega arith;
    after = omega arith;
    holds = asked.holds;
  }

  module _ {kept : List (Option KeptBlock)} {number next union digit : ℕ}
      (x : Keeping K B at key own step area (share / 4) kept number next union digit) where
    pub keep_refuses : check.Answer K B (at + 1) key own step 0 → KeepingAnswered K B kept at key own step area None
    keep_refuses h = record { within = omega arith; some = λ place e. cc; checked = h; holds = x.holds }

    pub keep_passes : 5 ≤ digit → union ≡ own → KeepingAnswered K B kept at key own step area (Some next)
    keep_passes end e = record {
      within = x.checked.within;
      some = λ place same. let is : next ≡ place = cc in rw is at x.after;
      checked = check.ends x.checked end e;
      holds = x.holds;
    }

    module _ (turn : digit < 5) where
      here : number + (share / 4) + (4 - digit) * (share / 4) ≤ 16
      here =
          let h = x.most in
          let e = suc-mul (4 - digit) (share / 4) in
          let f : (5 - digit) * (share / 4) ≡ suc (4 - digit) * (share / 4) = ap (λ y. y * (share / 4)) (omega arith) in
          omega arith

      pub number_fits : number + share / 4 ≤ 16
      number_fits = let h = here in omega arith

      number_more : number + share / 4 + (5 - (digit + 1)) * (share / 4) ≤ 16
      number_more = let h = here in let f : (5 - (digit + 1)) * (share / 4) ≡ (4 - digit) * (share / 4) = ap (λ y. y * (share / 4)) (omega arith) in omega arith

      module _ (there : next < length K) {child : ℕ} (is : child ≡ key + digit * step) (same : get_or K next 0 ≡ child) where
        pub keep_leaf : one_slot (get_or B next 0) ≡ true
            → Keeping K B at key own step area (share / 4) kept (number + share / 4) (next + 1) (bit_or union (get_or B next 0)) (digit + 1)
        keep_leaf leaf = record { checked = check.goes_leaf x.checked turn there is same leaf; most = number_more; after = omega arith; holds = x.holds }

        module _ (several : one_slot (get_or B next 0) ≡ false) where
          pub keep_asked : KeepingAsked K B kept next child (get_or B next 0) (step / 5) area number (share / 4)
          keep_asked = record {
            node = record {
              size = asked.node.size;
              there = there;
              own_is = refl;
              several = several;
              fits = let h = check.child_fits x.checked turn in omega arith;
            };
            shared = (child_shared step area share asked.shared many).0;
            most = number_fits;
            holds = x.holds;
          }

          module _ {kept' : List (Option KeptBlock)} where
            pub keep_wrong : KeepingAnswered K B kept' next child (get_or B next 0) (step / 5) area None → KeepingAnswered K B kept' at key own step area None
            keep_wrong y = record {
              within = omega arith;
              some = λ place e. cc;
              checked = check.wrong_child x.checked turn there is same several 0 refl y.checked;
              holds = y.holds;
            }

            pub keep_node : {place : ℕ} → KeepingAnswered K B kept' next child (get_or B next 0) (step / 5) area (Some place)
                → Keeping K B at key own step area (share / 4) kept' (number + share / 4) place (bit_or union (get_or B next 0)) (digit + 1)
            keep_node {place} y =
                let after = y.some place refl in
                let good : place ≡ 0 → ⊥ = λ e. omega arith in
                record {
                  checked = check.goes_node x.checked turn there is same several place good y.within y.checked;
                  most = number_more;
                  after = after;
                  holds = y.holds;
                }
