-- Where the walk stands, what was sifted is what select gives below the key. Within a turn it goes down to a block that lies within the window, or apart
-- from it, or lacks the feature; the key rises from turn to turn. Rests on the laws of the way down and of the merge.
use Prim.Native.Nat.{ℕ, ◌+◌, ◌^◌, ◌≤◌}
use mathlib.Core.Path.{◌≡◌, sym, ap, ◌∙◌, subst}
use mathlib.Core.Bool.{true, false}
use mathlib.Core.List.{List, ◌++◌}
use native.Mathlib.Omega.{arith}
use lib.ListN.{length}
use Rattle.keys.proofs.Powers.{five_le}
use Rattle.definitions.specs.Picture.{Picture}
use Rattle.definitions.specs.Window.{select_in}
use Rattle.definitions.specs.declared.Window.{Window}
use Rattle.definitions.specs.Rules.{window_of_rule}
use Rattle.definitions.specs.Edit.{content_of}
use Rattle.list.specs.Check.{one_slot}
use Rattle.list.specs.Sorted.{Near}
use Rattle.list.specs.Taken.{picture_listed}
use Rattle.list.proofs.OneSlot.{power_slot}
use Rattle.walk.specs.declared.Spot.{Spot}
use Rattle.walk.specs.Walk.{BlockSpot, Walking, is_within}
use Rattle.walk.specs.Given.{keys_with, lower}
use Rattle.walk.proofs.Lies.{small}
use Rattle.walk.proofs.Steps.{some_keys, cut_parent, walking_root, walking_after, rises}
use Rattle.list.proofs.Fuller.{near_root}
use Rattle.walk.proofs.Asked.{asked_place, near_later, near_place}
use Rattle.walk.proofs.Shows.{place_no}
use Rattle.walk.proofs.Below.{lower_apart, lower_lacking, lower_block, below_none, below_all, below_few}
use Rattle.finding.proofs.Descent.{descent_enters}
use Rattle.finding.specs.declared.Sifting.{Sifting}
use Rattle.finding.specs.Sift.{SiftReady, Sifted}
use Rattle.finding.proofs.Settling.{passed_widen}
use Rattle.finding.proofs.Merge.{still_ready, sifted_none, sifted-append, sifted_as}
use Rattle.finding.proofs.sift_rule.Invariants.{Below, Going}
use Rattle.finding.proofs.sift_rule.Goals as goal
use Rattle.finding.proofs.sift_rule.Goals.{At-loop-from-2, Joined-apart, then-apart, else-apart+then-lacking, else-apart+else-lacking+then-within}

module _ (m : ℕ) (p : Picture) (w : Window) (f limit id : ℕ) (waived : List ℕ) where
  -- nothing is sifted at the root
  begins : {most : ℕ} (at : Sifting) (ids keys : List ℕ) (x : ℕ) → x ≡ 0 → SiftReady m limit waived at ids keys most 0
      → Below m p w f limit id waived at at ids ids keys keys x
  begins at ids keys x e r =
      sifted_none m limit id waived _ at ids keys x (below_none m p w f x e) (passed_widen x r.passed (omega arith))

  module _ {at st : Sifting} {ids₀ ids keys₀ keys : List ℕ} where
    -- the same by the names in the code
    named : {x : ℕ} (st₁ : Sifting) (ids₁ keys₁ : List ℕ) → ids₁ ≡ ids → keys₁ ≡ keys → st₁ ≡ st
        → Below m p w f limit id waived at st ids₀ ids keys₀ keys x
        → Below m p w f limit id waived at st₁ ids₀ ids₁ keys₀ keys₁ x
    named st₁ ids₁ keys₁ d e h b = rw (d, e, h) b

    module _ {x : ℕ} (b : Below m p w f limit id waived at st ids₀ ids keys₀ keys x) where
      -- what adds nothing is passed
      passes : (y : ℕ) → lower x (select_in m p w f) ≡ lower y (select_in m p w f) → x ≤ y → Below m p w f limit id waived at st ids₀ ids keys₀ keys y
      passes y e h = sifted_as m limit id waived _ _ at st ids₀ ids keys₀ keys x y b e h

      -- at the end all is sifted
      ends : x ≡ 5 ^ m → Sifted m limit id waived (select_in m p w f) at st ids₀ ids keys₀ keys (5 ^ m)
      ends e = sifted_as m limit id waived _ _ at st ids₀ ids keys₀ keys x (5 ^ m) b (below_all m p w f x e) (omega arith)

      -- the next block can be sifted
      ready : SiftReady m limit waived at ids₀ keys₀ (2 ^ 59) 0 → m ≤ 10 → SiftReady m limit waived st ids keys (2 ^ 60) x
      ready r low = let few = below_few m p w f x low in still_ready m limit id waived b.counted (2 ^ 60) x r b.passed (omega arith)

    -- past a block within the window, which is a largest block
    adds : {s : Spot} → Walking m w s → is_within s w ≡ true → Below m p w f limit id waived at st ids₀ ids keys₀ keys s.key
        → (bit : ℕ) → bit ≡ 2 ^ f → (st₁ : Sifting) (ids₁ keys₁ : List ℕ)
        → Sifted m limit id waived (keys_with bit (content_of m p s.key)) st st₁ ids ids₁ keys keys₁ (s.key + s.step)
        → Below m p w f limit id waived at st₁ ids₀ ids₁ keys₀ keys₁ (s.key + s.step)
    adds {s} h e b bit is st₁ ids₁ keys₁ more =
        let before = lower s.key (select_in m p w f) in
        let leaves = keys_with bit (content_of m p s.key) in
        let same : before ++ leaves ≡ lower (s.key + s.step) (select_in m p w f)
        = ap (λ x. before ++ keys_with x (content_of m p s.key)) is ∙ sym (lower_block m p w f h e) in
        sifted_as m limit id waived (before ++ leaves) _ at st₁ ids₀ ids₁ keys₀ keys₁ (s.key + s.step) (s.key + s.step)
        (sifted-append m limit id waived before leaves at st st₁ ids₀ ids ids₁ keys₀ keys keys₁ s.key (s.key + s.step) b more)
        same
        (omega arith)

    -- on to the block that follows
    goes_on : {records : List ℕ} {n : ℕ} (from : ℕ) {s : Spot} (t : Spot) → Walking m w s → Near records n from s.key → BlockSpot m t → t.key ≡ s.key + s.step
        → Below m p w f limit id waived at st ids₀ ids keys₀ keys (s.key + s.step)
        → Going m p w f limit id waived at st ids₀ ids keys₀ keys records n from t
    goes_on from t h near i e b =
        record {
          walking = walking_after h t i e;
          near = near_later near _ (omega arith);
          sifted = subst (λ (y : ℕ). Below m p w f limit id waived at st ids₀ ids keys₀ keys y) (sym e) b;
        }

-- what was sifted at the head of the inner loop
so_far : (c : At-loop-from-2)
    → Below c.args.list.now.m (picture_listed c.args.list.now) (window_of_rule c.args.rule) c.args.rule.feature c.args.limit c.args.rule.id c.args.waived.now
    c.args.at c.loop-from-2.st c.args.found_ids.now c.loop-from-2.found_ids c.args.found_keys.now c.loop-from-2.found_keys c.loop-from-2.spot.key
so_far c =
    let d = c.loop-from-2.invariant in
    passes _ _ _ _ _ _ _ (named _ _ _ _ _ _ _ _ _ _ d.same_ids d.same_keys d.states c.loop-from.invariant.sifted) _ d.descent.gap d.descent.rise

pub loop-from-init : goal.loop-from-init
loop-from-init c =
    record {
      walking = walking_root _ _ _ c.start-spot.ensures.0 c.start-spot.ensures.1;
      near = near_root c.args.list.now.own _;
      sifted = begins _ _ _ _ _ _ _ _ _ _ _ c.start-spot.ensures.1 c.requires.2;
    }

pub apart-requires : goal.apart-requires
apart-requires c = small _ _ _ c.args.list.now.deepest c.requires.0 c.loop-from-2.invariant.descent.walking.stands

pub bounds-list-from : goal.bounds-list-from
bounds-list-from c =
    let own = c.args.list.now.own in
    let asked = asked_place own c.loop-from-2.invariant.descent.walking.stands.block _ c.place_from-from.ensures in
    omega (arith, asked.room, own.fits)

pub offset_bounds-list-from : goal.offset_bounds-list-from
offset_bounds-list-from c =
    let own = c.args.list.now.own in
    let asked = asked_place own c.loop-from-2.invariant.descent.walking.stands.block _ c.place_from-from.ensures in
    record { fits = omega (arith, asked.room, own.fits) }

pub within-requires : goal.within-requires
within-requires c = small _ _ _ c.args.list.now.deepest c.requires.0 c.loop-from-2.invariant.descent.walking.stands

pub invariant_of-job : goal.invariant_of-job
invariant_of-job c = record { one_feature = ap one_slot c.power_of_two-bit.ensures ∙ power_slot c.args.rule.feature }

pub sift_block-st-requires : goal.sift_block-st-requires
sift_block-st-requires c = (
  c.loop-from-2.invariant.descent.walking.stands,
  c.place_from-from.ensures,
  ready _ _ _ _ _ _ _ (so_far (goal.at.sift_block-st-requires c).At-loop-from-2) c.requires.2 c.args.list.now.deepest,
)

pub first-spot-requires : goal.first-spot-requires
first-spot-requires c =
    let k = some_keys c.loop-from-2.invariant.descent.walking.stands in
    let five = five_le 10 c.args.list.now.deepest in
    omega arith

pub loop-from-2-smaller : goal.loop-from-2-smaller
loop-from-2-smaller c =
    let k = some_keys c.loop-from-2.invariant.descent.walking.stands in
    rw c.first-spot.ensures (omega (arith, k.0))

pub loop-from-2-preserved : goal.loop-from-2-preserved
loop-from-2-preserved c =
    let d = c.loop-from-2.invariant in
    let e : is_within c.loop-from-2.spot (window_of_rule c.args.rule) ≡ false = sym c.within.ensures ∙ c.if-within.false in
    rw c.first-spot.ensures
    record {
      descent = descent_enters _ _ _ d.descent _ (near_place c.args.list.now.own _ _ c.place_from-from.ensures)
          (cut_parent _ d.descent.walking.stands e (sym c.apart.ensures ∙ c.if-apart.false)) e;
      states = d.states;
      same_ids = d.same_ids;
      same_keys = d.same_keys;
    }

-- whichever way a turn ended, what the block gives is sifted
passed : (c : Joined-apart)
    → Below c.args.list.now.m (picture_listed c.args.list.now) (window_of_rule c.args.rule) c.args.rule.feature c.args.limit c.args.rule.id c.args.waived.now
    c.args.at c.loop-from-2.st c.args.found_ids.now c.loop-from-2.found_ids c.args.found_keys.now c.loop-from-2.found_keys c.loop-from-2.spot.key
    → Below c.args.list.now.m (picture_listed c.args.list.now) (window_of_rule c.args.rule) c.args.rule.feature c.args.limit c.args.rule.id c.args.waived.now
    c.args.at c.if-apart.st c.args.found_ids.now c.if-apart.found_ids c.args.found_keys.now c.if-apart.found_keys (c.loop-from-2.spot.key + c.loop-from-2.spot.step)
passed c b =
    let stands = c.loop-from-2.invariant.descent.walking.stands in
    let bit = c.power_of_two-bit.ensures in
    elim c.if-apart.branch [
      | then-apart w ↦
          named _ _ _ _ _ _ _ _ _ _ w.found_ids-is w.found_keys-is w.st-is
          (passes _ _ _ _ _ _ _ b _ (lower_apart _ _ _ _ stands (sym c.apart.ensures ∙ w.if-apart.true)) (omega arith))
      | else-apart+then-lacking w ↦
          named _ _ _ _ _ _ _ _ _ _ w.found_ids-is w.found_keys-is w.st-is
          (passes _ _ _ _ _ _ _ b _
          (lower_lacking _ _ _ _ stands _ (omega arith, omega arith) (place_no c.args.list.now.own stands _ _ bit _ w.place_from-from.ensures w.if-lacking.true)) (omega arith))
      | else-apart+else-lacking+then-within w ↦
          named _ _ _ _ _ _ _ _ _ _ w.found_ids-is w.found_keys-is w.st-is
          (adds _ _ _ _ _ _ _ c.loop-from-2.invariant.descent.walking (sym w.within.ensures ∙ w.if-within.true) b _ bit _ _ _ w.sift_block-st.ensures)
    ]

-- and the next search can begin where the last one ended
kept : (c : Joined-apart) → Near c.args.list.now.keys.now (length c.args.list.now.keys.now) c.if-apart.from c.loop-from-2.spot.key
kept c =
    let own = c.args.list.now.own in
    elim c.if-apart.branch [
      | then-apart w ↦ rw w.from-is c.loop-from-2.invariant.descent.near
      | else-apart+then-lacking w ↦ rw w.from-is (near_place own _ _ w.place_from-from.ensures)
      | else-apart+else-lacking+then-within w ↦ rw w.from-is (near_place own _ _ w.place_from-from.ensures)
    ]

pub returns-in_default : goal.returns-in_default
returns-in_default c = ends _ _ _ _ _ _ _ (passed (goal.at.returns-in_default c).Joined-apart (so_far (goal.at.returns-in_default c).At-loop-from-2)) c.in_default.ensures

pub loop-from-smaller : goal.loop-from-smaller
loop-from-smaller c =
    let f = c.in-Some.ensures in
    let d = c.loop-from-2.invariant.descent in
    let k = some_keys d.walking.stands in
    rises c.loop-from.invariant.walking.stands _ (omega (arith, f.1, d.rise))

pub loop-from-preserved : goal.loop-from-preserved
loop-from-preserved c =
    let f = c.in-Some.ensures in
    let done = (goal.at.loop-from-preserved c).Joined-apart in
    goes_on _ _ _ _ _ _ _ _ _ c.loop-from-2.invariant.descent.walking (kept done) f.0 f.1 (passed done (so_far (goal.at.loop-from-preserved c).At-loop-from-2))
