-- A rule's findings, sifted against the part of the waivers' keys that the code lends, are those that the run gathers; or their number is bounded. Rests on
-- RuleWaivers, StepWaivers and Ready.
use Prim.Native.Nat.{ℕ, ◌+◌, ◌-◌, ◌^◌, ◌≤◌, ◌<◌}
use mathlib.Core.Path.{◌≡◌, refl, sym, ap, ap₂, ◌∙◌, subst}
use mathlib.Core.Bool.{true}
use mathlib.Core.List.{List, [], ◌∷◌, map}
use native.Mathlib.Omega.{arith}
use lib.ListN.{length, take, drop, length-map}
use borrow.Author.Tests.{ltb-false}
use Rattle.keys.specs.Key.{slot_limit}
use Rattle.definitions.specs.Window.{is_window, select_in}
use Rattle.definitions.specs.Rules.{Finding, finding_of, window_of_rule, findings_of, waivers_of, live_of, hidden_count, findings_ascend}
use Rattle.definitions.specs.declared.Rule.{Rule}
use Rattle.definitions.specs.Covered.{waived_keys}
use Rattle.list.specs.Own.{OwnList, shown_by}
use Rattle.list.specs.Taken.{Taken, picture_listed}
use Rattle.list.specs.declared.accepted_list.Accepted.{Accepted}
use Rattle.list.proofs.Taken.{taken_picture}
use Rattle.list.proofs.Own.{own_list}
use Rattle.walk.specs.Given.{written}
use Rattle.finding.specs.declared.Sifting.{Sifting}
use Rattle.finding.specs.Sift.{not_waived, SiftReady, Sifted}
use Rattle.finding_runs.specs.declared.state.RunState.{RunState}
use Rattle.finding_runs.specs.Run.{Progress, progress_of, waivers_below, counting, picture, findings_at, gathered, served}
use Rattle.finding_runs.specs.Step.{OwnEnd, Gatherable, widened}
use Rattle.finding.proofs.Settling.{none_passed}
use Rattle.finding_runs.proofs.GoodWaivers.{good_in_order}
use Rattle.finding_runs.proofs.KnownIds.{below_mono}
use Rattle.finding_runs.proofs.Ready.{next_low, rule_good, good_window, good_feature, rule_small}
use Rattle.finding_runs.proofs.StepCases.{served_bounds, served_gathers}
use Rattle.finding_runs.proofs.RuleWaivers.{below_room, own_keys, own_waived, own_live, own_hidden}
use Rattle.finding_runs.proofs.StepWaivers.{end_is}

-- the ids and the keys of a rule's findings
ids_of : (id : ℕ) (keys : List ℕ) → map (λ (key : ℕ). id) keys ≡ map (λ x. x.id) (map (finding_of id) keys)
ids_of id [] = refl
ids_of id (key ∷ keys) = ap (λ l. id ∷ l) (ids_of id keys)

keys_of : (id : ℕ) (keys : List ℕ) → keys ≡ map (λ x. x.key) (map (finding_of id) keys)
keys_of id [] = refl
keys_of id (key ∷ keys) = ap (λ l. key ∷ l) (keys_of id keys)

module _ (keys bits waiver_ids waiver_keys : List ℕ) (rule : Rule) (p : Progress) (g : Gatherable keys bits waiver_ids waiver_keys rule p) where
  abbrev ws : List Finding
  ws = waivers_of waiver_ids waiver_keys

  abbrev st : RunState
  st = p.state

  asc : findings_ascend ws ≡ true
  asc = good_in_order _ _ (g.fine.good g.right)

  -- what sifting asks of the rule and the list
  pub own_window : is_window st.m (window_of_rule rule) ≡ true
  own_window = good_window st.m st.s rule (rule_good keys bits waiver_ids waiver_keys rule p g.may)

  pub own_feature : rule.feature < slot_limit
  own_feature =
      let low = good_feature st.m st.s rule (rule_good keys bits waiver_ids waiver_keys rule p g.may) in
      omega (arith, g.fine.slots)

  pub own_small : (rule.height ≤ 1024) × (rule.width ≤ 1024)
  own_small = rule_small st.m st.s rule g.fine.level (rule_good keys bits waiver_ids waiver_keys rule p g.may)

  pub own_records : OwnList st.m keys bits st.n
  own_records = own_list st.m st.s keys bits st.n g.fine.list

  -- no waiver is between the rules before and this one
  pub passed_below : st.passed ≡ waivers_below rule.id ws
  passed_below =
      let is = g.fine.passed g.right in
      let up = below_mono st.next rule.id ws (next_low keys bits waiver_ids waiver_keys rule p g.may) in
      let none = ltb-false (waivers_below st.next ws) (waivers_below rule.id ws) g.known in
      omega arith

  pub passed_room : (st.passed ≤ st.waivers) × (st.waivers ≤ length waiver_ids)
  passed_room =
      let is = passed_below in
      let some = below_room waiver_ids waiver_keys asc rule.id in
      let all = g.fine.count in
      (omega arith, omega arith)

  module _ (end : ℕ) (o : OwnEnd waiver_ids st.passed st.waivers rule.id end) where
    -- the part of the waivers' keys that is lent
    abbrev pub lent : List ℕ
    lent = take (end - st.passed) (drop st.passed waiver_keys)

    end_below : end ≡ waivers_below (rule.id + 1) ws
    end_below =
        end_is waiver_ids waiver_keys asc st.waivers g.fine.count rule.id end
        (subst (λ x. OwnEnd waiver_ids x st.waivers rule.id end) passed_below o)

    lent_own : lent ≡ waived_keys rule.id ws
    lent_own = ap₂ (λ a b. take (a - b) (drop b waiver_keys)) end_below passed_below ∙ own_keys waiver_ids waiver_keys rule.id asc

    -- what sifting starts from
    abbrev pub at : Sifting
    at = record { passed = 0; furthest = 0; live = st.live; hidden = st.hidden }

    pub lent_ready : rule.id < 4294967296 → SiftReady st.m st.limit lent at p.ids p.keys (2 ^ 59) 0
    lent_ready fits =
        let low = next_low keys bits waiver_ids waiver_keys rule p g.may in
        record {
          limit_ids = g.fine.limit_ids;
          limit_keys = g.fine.limit_keys;
          counts = omega (arith, g.fine.small);
          waivers = rw lent_own (own_waived st.m ws rule.id (g.fine.good g.right));
          passed = none_passed st.m lent 0;
        }

    pub counts_small : rule.id < 4294967296 → st.live ≤ 2 ^ 62
    counts_small fits = let low = next_low keys bits waiver_ids waiver_keys rule p g.may in omega (arith, g.fine.small)

    -- where the run only bounds
    pub widened_served : st.mode ≡ 0 → {r : Sifting} {after : RunState} → r ≡ widened rule at → after ≡ counting (rule.id + 1) end r.live r.hidden st
        → progress_of after p.ids p.keys ≡ served keys bits waiver_ids waiver_keys rule p
    widened_served bounds {r} e f =
        ap (λ a. progress_of a p.ids p.keys) f
        ∙ ap₂ (λ (n : ℕ) (x : Sifting). progress_of (counting (rule.id + 1) n x.live x.hidden st) p.ids p.keys) end_below e
        ∙ sym (served_bounds keys bits waiver_ids waiver_keys rule p bounds)

    -- the keys of the rule's findings, and those that are live
    abbrev given : List ℕ
    given = select_in st.m (picture keys bits waiver_ids waiver_keys st) (window_of_rule rule) rule.feature

    abbrev live : List ℕ
    live = not_waived st.m lent given

    live_is : map (finding_of rule.id) live ≡ live_of st.m ws (findings_at keys bits waiver_ids waiver_keys rule st)
    unfolding findings_of
    live_is =
        ap (λ l. map (finding_of rule.id) (not_waived st.m l given)) lent_own
        ∙ sym (own_live st.m ws rule.id given)

    hidden_is : hidden_count st.m ws (findings_at keys bits waiver_ids waiver_keys rule st) + length live ≡ length given
    unfolding findings_of
    hidden_is =
        ap (λ l. hidden_count st.m ws (map (finding_of rule.id) given) + length (not_waived st.m l given)) lent_own
        ∙ own_hidden st.m ws rule.id given

    module _ {r : Sifting} {ids' keys' : List ℕ} {x : ℕ} (s : Sifted st.m st.limit rule.id lent given at r p.ids ids' p.keys keys' x) where
      count_live : r.live ≡ st.live + length (live_of st.m ws (findings_at keys bits waiver_ids waiver_keys rule st))
      count_live =
          s.counted.live
          ∙ ap (λ n. st.live + n) (sym (length-map live (finding_of rule.id)) ∙ ap length live_is)

      count_hidden : r.hidden ≡ st.hidden + hidden_count st.m ws (findings_at keys bits waiver_ids waiver_keys rule st)
      count_hidden =
          let both = s.counted.hidden in
          let parts = hidden_is in
          omega arith

      wrote-ids : ids' ≡ written st.limit p.ids st.live (map (λ x. x.id) (live_of st.m ws (findings_at keys bits waiver_ids waiver_keys rule st)))
      wrote-ids =
          s.counted.wrote_ids
          ∙ ap (written st.limit p.ids st.live) (ids_of rule.id live ∙ ap (map (λ x. x.id)) live_is)

      wrote-keys : keys' ≡ written st.limit p.keys st.live (map (λ x. x.key) (live_of st.m ws (findings_at keys bits waiver_ids waiver_keys rule st)))
      wrote-keys =
          s.counted.wrote_keys
          ∙ ap (written st.limit p.keys st.live) (keys_of rule.id live ∙ ap (map (λ x. x.key)) live_is)

      sifted_gathered : {after : RunState} → after ≡ counting (rule.id + 1) end r.live r.hidden st
          → progress_of after ids' keys' ≡ gathered keys bits waiver_ids waiver_keys rule p
      sifted_gathered e =
          ap (λ a. progress_of a ids' keys') e
          ∙ ap (λ n. progress_of (counting (rule.id + 1) n r.live r.hidden st) ids' keys') end_below
          ∙ ap₂ (λ a b. progress_of (counting (rule.id + 1) (waivers_below (rule.id + 1) ws) a b st) ids' keys') count_live count_hidden
          ∙ ap₂ (λ a b. progress_of (gathered keys bits waiver_ids waiver_keys rule p).state a b) wrote-ids wrote-keys

      -- where it walks
      pub sifted_served : (st.mode ≡ 0 → ⊥) → {after : RunState} → after ≡ counting (rule.id + 1) end r.live r.hidden st
          → progress_of after ids' keys' ≡ served keys bits waiver_ids waiver_keys rule p
      sifted_served walks e = sifted_gathered e ∙ sym (served_gathers keys bits waiver_ids waiver_keys rule p walks)

-- what was sifted of the list that was taken is what was sifted of the records
module _ (m : ℕ) (keys bits : List ℕ) (n : ℕ) (list : Accepted) (t : Taken m keys bits n list) where
  pub listed_ready : (limit : ℕ) (waived : List ℕ) (at : Sifting) (ids found_keys : List ℕ) (most x : ℕ) → SiftReady m limit waived at ids found_keys most x
      → SiftReady list.m limit waived at ids found_keys most x
  listed_ready limit waived at ids found_keys most x = subst (λ k. SiftReady k limit waived at ids found_keys most x) (sym t.map)

  pub listed_window : (rule : Rule) → is_window m (window_of_rule rule) ≡ true → is_window list.m (window_of_rule rule) ≡ true
  listed_window rule = subst (λ k. is_window k (window_of_rule rule) ≡ true) (sym t.map)

  pub listed_sifted : (limit : ℕ) (waived : List ℕ) (rule : Rule) (at r : Sifting) (ids ids' found_keys found_keys' : List ℕ)
      → Sifted list.m limit rule.id waived (select_in list.m (picture_listed list) (window_of_rule rule) rule.feature) at r ids ids' found_keys found_keys' (5 ^ list.m)
      → Sifted m limit rule.id waived (select_in m (shown_by m keys bits n) (window_of_rule rule) rule.feature) at r ids ids' found_keys found_keys' (5 ^ m)
  listed_sifted limit waived rule at r ids ids' found_keys found_keys' s =
      subst (λ p. Sifted m limit rule.id waived (select_in m p (window_of_rule rule) rule.feature) at r ids ids' found_keys found_keys' (5 ^ m)) (taken_picture t)
      (subst (λ k. Sifted k limit rule.id waived (select_in k (picture_listed list) (window_of_rule rule) rule.feature) at r ids ids' found_keys found_keys' (5 ^ k)) t.map s)
