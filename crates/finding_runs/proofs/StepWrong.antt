-- A waiver is wrong exactly if the code's test says so; where it does not, the rule's findings can be gathered. Rests on StepWaivers.
use Prim.Native.Nat.{ℕ}
use mathlib.Core.Path.{◌≡◌, refl, ap, ◌∙◌}
use mathlib.Core.Bool.{Bool, true, false, ◌&&◌, ◌||◌, true≢false}
use mathlib.Core.List.{List}
use lib.ListN.{get_or}
use lib.Dec.{ltb}
use Rattle.definitions.specs.Rules.{waivers_of}
use Rattle.definitions.specs.declared.Rule.{Rule}
use Rattle.finding_runs.specs.declared.state.RunState.{RunState}
use Rattle.finding_runs.specs.Run.{Progress, waivers_below, may_come, is_unknown, RulesFine}
use Rattle.finding_runs.specs.Step.{Gatherable}
use Rattle.finding_runs.proofs.GoodWaivers.{good_in_order}
use Rattle.finding_runs.proofs.StepCases.{is_faulty}
use Rattle.finding_runs.proofs.StepWaivers.{smaller_at}

or_decided : (a b c : Bool) → (a ≡ false → b ≡ c) → a || b ≡ a || c
or_decided true b c h = refl
or_decided false b c h = h refl

neither_left : (a b : Bool) → a || b ≡ false → a ≡ false
neither_left true b e = absurd (true≢false e)
neither_left false b e = refl

neither_right : (a b : Bool) → a || b ≡ false → b ≡ false
neither_right true b e = absurd (true≢false e)
neither_right false b e = e

module _ (keys bits waiver_ids waiver_keys : List ℕ) (rule : Rule) (p : Progress) (f : RulesFine keys bits waiver_ids waiver_keys p) where
  abbrev st : RunState
  st = p.state

  abbrev unknown : Bool
  unknown = is_unknown keys bits waiver_ids waiver_keys rule st

  abbrev smaller : Bool
  smaller = ltb st.passed st.waivers && ltb (get_or waiver_ids st.passed 0) rule.id

  smaller_unknown : st.faulty ≡ false → smaller ≡ unknown
  smaller_unknown e =
      smaller_at waiver_ids waiver_keys (good_in_order _ _ (f.good e)) st.waivers f.count st.passed rule.id
      ∙ ap (λ x. ltb x (waivers_below rule.id (waivers_of waiver_ids waiver_keys))) (f.passed e)

  pub wrong_is : st.faulty || smaller ≡ is_faulty keys bits waiver_ids waiver_keys rule p
  wrong_is = or_decided st.faulty smaller unknown smaller_unknown

  pub gatherable : may_come rule st ≡ true → is_faulty keys bits waiver_ids waiver_keys rule p ≡ false → Gatherable keys bits waiver_ids waiver_keys rule p
  gatherable may e =
      record {
        fine = f;
        may = may;
        right = neither_left st.faulty unknown e;
        known = neither_right st.faulty unknown e;
      }
