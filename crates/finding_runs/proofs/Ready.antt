-- What a run stands on is kept by every rule: so it holds from the beginning to the end. The counts stay small, since ids ascend and a rule has at most
-- as many findings as the map has keys. Rests on StepCases.
use Prim.Native.Nat.{ℕ, ◌*◌, ◌≤◌, ◌<◌}
use mathlib.Core.Path.{◌≡◌, refl, ◌∙◌}
use mathlib.Core.Bool.{true, true≢false}
use mathlib.Core.List.{List, [], ◌∷◌, map}
use native.Mathlib.Nat.{mul-le-mul}
use native.Mathlib.Omega.{arith}
use lib.ListN.{length, length-map}
use lib.Dec.{leb, ltb}
use borrow.Author.Tests.{leb-true, ltb-true}
use Rattle.keys.proofs.Cases.{decide, equal, and_left, and_right}
use Rattle.keys.proofs.Powers.{two_le, five_le}
use Rattle.definitions.specs.Picture.{Picture}
use Rattle.definitions.specs.Window.{is_window, select_in}
use Rattle.definitions.specs.Rules.{finding_of, window_of_rule, findings_of, waivers_of, live_of, is_rule}
use Rattle.definitions.specs.declared.Rule.{Rule}
use Rattle.laws.proofs.SelectAscends.{select_in_ascends}
use Rattle.laws.proofs.Waivers.{live_and_hidden}
use Rattle.walk.proofs.Lies.{accepted_window}
use Rattle.walk.proofs.Lower.{ascending-length}
use Rattle.walk.proofs.Written.{length-written}
use Rattle.finding_runs.specs.Run.{Progress, pixels_of, may_come, picture, findings_at, gathered, bounded, rule_step, rules_run, RulesFine, RulesReady}
use Rattle.finding_runs.proofs.Fold.{run_nil, run_cons}
use Rattle.finding_runs.proofs.StepCases.{is_faulty, step_stopped, step_rests, step_bad, step_faulty, step_good, served_bounds, served_gathers}

-- a rule has at most as many findings as the map has keys
pub findings_few : (m : ℕ) (p : Picture) (rule : Rule) → m ≤ 10 → length (findings_of m p rule) ≤ 9765625
unfolding findings_of
findings_few m p rule low =
    let a = ascending-length (select_in_ascends m p (window_of_rule rule) rule.feature) in
    let b = length-map (select_in m p (window_of_rule rule) rule.feature) (finding_of rule.id) in
    let c = five_le 10 low in
    omega arith

-- a good rule has a window of the raster and a feature below s
pub good_window : (m s : ℕ) (rule : Rule) → is_rule m s rule ≡ true → is_window m (window_of_rule rule) ≡ true
unfolding is_rule
good_window m s rule e = and_left (is_window m (window_of_rule rule)) (ltb rule.feature s) e

pub good_feature : (m s : ℕ) (rule : Rule) → is_rule m s rule ≡ true → rule.feature < s
unfolding is_rule
good_feature m s rule e = ltb-true rule.feature s (and_right (is_window m (window_of_rule rule)) (ltb rule.feature s) e)

-- so its window is not larger than the largest raster
pub rule_small : (m s : ℕ) (rule : Rule) → m ≤ 10 → is_rule m s rule ≡ true → (rule.height ≤ 1024) × (rule.width ≤ 1024)
rule_small m s rule low e =
    let a = accepted_window m (window_of_rule rule) (good_window m s rule e) in
    let two = two_le 10 low in
    (omega (arith, a.rows), omega (arith, a.columns))

module _ (keys bits waiver_ids waiver_keys : List ℕ) where
  abbrev Is : Progress → Type 0
  Is = RulesReady keys bits waiver_ids waiver_keys

  -- the least id that may come is at most the rule's
  pub next_low : (rule : Rule) (p : Progress) → may_come rule p.state ≡ true → p.state.next ≤ rule.id
  next_low rule p e = leb-true _ _ (and_left (leb p.state.next rule.id) (is_rule p.state.m p.state.s rule) e)

  pub rule_good : (rule : Rule) (p : Progress) → may_come rule p.state ≡ true → is_rule p.state.m p.state.s rule ≡ true
  rule_good rule p e = and_right (leb p.state.next rule.id) (is_rule p.state.m p.state.s rule) e

  -- gathering keeps it
  fine_gathered : (rule : Rule) (p : Progress) → p.state.next ≤ rule.id → RulesFine keys bits waiver_ids waiver_keys p
      → RulesFine keys bits waiver_ids waiver_keys (gathered keys bits waiver_ids waiver_keys rule p)
  fine_gathered rule p low f =
      let ws = waivers_of waiver_ids waiver_keys in
      let found = findings_at keys bits waiver_ids waiver_keys rule p.state in
      let live = live_of p.state.m ws found in
      let few = findings_few p.state.m (picture keys bits waiver_ids waiver_keys p.state) rule f.level in
      let both = live_and_hidden p.state.m ws found in
      let ids = length-written p.state.limit p.ids p.state.live (map (λ x. x.id) live) in
      let keys' = length-written p.state.limit p.keys p.state.live (map (λ x. x.key) live) in
      record {
        level = f.level;
        slots = f.slots;
        list = f.list;
        limit_ids = omega (arith, f.limit_ids);
        limit_keys = omega (arith, f.limit_keys);
        room_ids = omega (arith, f.room_ids);
        room_keys = omega (arith, f.room_keys);
        count = f.count;
        good = f.good;
        passed = λ e. refl;
        small = omega (arith, f.small);
      }

  -- and so does bounding
  fine_bounded : (rule : Rule) (p : Progress) → p.state.next ≤ rule.id → is_rule p.state.m p.state.s rule ≡ true → RulesFine keys bits waiver_ids waiver_keys p
      → RulesFine keys bits waiver_ids waiver_keys (bounded keys bits waiver_ids waiver_keys rule p)
  fine_bounded rule p low good f =
      let small = rule_small p.state.m p.state.s rule f.level good in
      let few : pixels_of rule ≤ 1024 * 1024 = mul-le-mul small.0 small.1 in
      record {
        level = f.level;
        slots = f.slots;
        list = f.list;
        limit_ids = f.limit_ids;
        limit_keys = f.limit_keys;
        room_ids = f.room_ids;
        room_keys = f.room_keys;
        count = f.count;
        good = f.good;
        passed = λ e. refl;
        small = omega (arith, f.small);
      }

  -- a rule keeps it
  pub ready_step : (rule : Rule) (p next : Progress) → next ≡ rule_step keys bits waiver_ids waiver_keys rule p → Is p → Is next
  ready_step rule p next e h =
      equal p.state.refusal 0
      (λ zero.
      let f = h.fine zero in
      equal p.state.mode 2
      (λ resting. rw (e ∙ step_rests keys bits waiver_ids waiver_keys rule p zero resting) h)
      (λ on.
      decide (may_come rule p.state)
      (λ may.
      decide (is_faulty keys bits waiver_ids waiver_keys rule p)
      (λ faulty.
      rw (e ∙ step_faulty keys bits waiver_ids waiver_keys rule p zero on may faulty)
      (record {
        fine = λ still. record {
          level = f.level;
          slots = f.slots;
          list = f.list;
          limit_ids = f.limit_ids;
          limit_keys = f.limit_keys;
          room_ids = f.room_ids;
          room_keys = f.room_keys;
          count = f.count;
          good = λ no-fault. absurd (true≢false no-fault);
          passed = λ no-fault. absurd (true≢false no-fault);
          small = let low = next_low rule p may in omega (arith, f.small);
        };
      }))
      (λ good.
      let served = e ∙ step_good keys bits waiver_ids waiver_keys rule p zero on may good in
      equal p.state.mode 0
      (λ bounds.
      rw (served ∙ served_bounds keys bits waiver_ids waiver_keys rule p bounds)
      (record { fine = λ still. fine_bounded rule p (next_low rule p may) (rule_good rule p may) f }))
      (λ gathers.
      rw (served ∙ served_gathers keys bits waiver_ids waiver_keys rule p gathers)
      (record { fine = λ still. fine_gathered rule p (next_low rule p may) f }))))
      (λ bad. rw (e ∙ step_bad keys bits waiver_ids waiver_keys rule p zero on bad) (record { fine = λ still. absurd (omega arith) }))))
      (λ stopped. rw (e ∙ step_stopped keys bits waiver_ids waiver_keys rule p stopped) h)

  -- and so does a run
  pub ready_run : (rules : List Rule) (p : Progress) → Is p → Is (rules_run keys bits waiver_ids waiver_keys rules p)
  ready_run [] p h = rw (run_nil keys bits waiver_ids waiver_keys p) h
  ready_run (rule ∷ rules) p h =
      rw (run_cons keys bits waiver_ids waiver_keys rule rules p)
      (ready_run rules (rule_step keys bits waiver_ids waiver_keys rule p) (ready_step rule p (rule_step keys bits waiver_ids waiver_keys rule p) refl h))
