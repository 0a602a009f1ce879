-- Two runs over the rules, the first to count and the second to write, give the findings of specification S13: each refusal in its order, and otherwise the live
-- findings with both counts. Rests on AllGathered, RunEnds, Quiet, NextCases, Beginning and Refusals.
use Prim.Native.Nat.{ℕ, ◌≤◌, ◌<◌}
use mathlib.Core.Path.{◌≡◌, refl, sym, ap, ap₂, ◌∙◌}
use mathlib.Core.Bool.{Bool, true, false, not, ◌||◌}
use mathlib.Core.List.{List, map}
use native.Mathlib.Nat.{zero-add}
use native.Mathlib.Omega.{arith}
use lib.ListN.{length, length-map}
use Rattle.keys.proofs.Cases.{decide, split, or_left, or_right}
use Rattle.definitions.specs.Read.{room, picture_of, records_of, is_list}
use Rattle.definitions.specs.Buffer.{over}
use Rattle.definitions.specs.Rules.{Finding, all_findings, waivers_of, live_of, hidden_count, bad_waivers}
use Rattle.definitions.specs.Offices.{bad_office}
use Rattle.definitions.specs.Refusal.{bad_settings}
use Rattle.definitions.specs.Calls.Findings.{live_in, hidden_in, refusal_with, found_with, ids_with, found_keys_with}
use Rattle.definitions.specs.declared.Rule.{Rule}
use Rattle.walk.specs.Given.{written}
use Rattle.walk.proofs.Written.{written_over}
use Rattle.finding_runs.specs.declared.state.RunState.{RunState}
use Rattle.finding_runs.specs.Run.{OfficeRows, waivers_below, waivers_good, Progress, progress_of, restarting, rules_run, begin_refusal, begin_of, after_run, answer_of}
use Rattle.finding_runs.proofs.WaiverPlaces.{waivers-length}
use Rattle.finding_runs.proofs.NextCases.{next_stopped, next_faulty, next_left, next_full, next_writes, answer_done, answer_full, answer_refused}
use Rattle.finding_runs.proofs.Beginning.{RunFits, begin_other, begin_bad, begin_no_list, begin_good, below_zero}
use Rattle.finding_runs.proofs.GoodRules.{good_from}
use Rattle.finding_runs.proofs.KnownIds.{next_after, known_from, known_ids, ids_known}
use Rattle.finding_runs.proofs.AllGathered.{all_gathered, run_gathered}
use Rattle.finding_runs.proofs.RunEnds.{Faulted, run_bad, run_faulty, run_unknown}
use Rattle.finding_runs.proofs.Quiet.{run_stopped, quiet_ids, quiet_keys}
use Rattle.finding_runs.proofs.Refusals.{waivers_fine, waivers_unknown, refusal_21, refusal_1, refusal_4, refusal_13, refusal_14, refusal_12, refusal_0, given_refused, given_full, given_done, ids_stay, keys_stay, ids_written, keys_written}

module _ (m s : ℕ) (keys bits : List ℕ) (n office : ℕ) (own : OfficeRows) (rules : List Rule) (waiver_ids waiver_keys ids found_keys : List ℕ) where
  abbrev ws : List Finding
  ws = waivers_of waiver_ids waiver_keys

  abbrev run : Progress → Progress
  run = rules_run keys bits waiver_ids waiver_keys rules

  abbrev live : List Finding
  live = live_in m keys bits n rules (waivers_of waiver_ids waiver_keys)

  abbrev refusal : ℕ
  refusal = refusal_with m s keys bits n office (not own.good) rules (waivers_of waiver_ids waiver_keys) ids found_keys

  abbrev start : RunState
  start = begin_of m s keys bits n office own (length ids) (length found_keys)

  abbrev begun : Progress
  begun = progress_of start ids found_keys

  -- after the counting run
  abbrev pub counted : Progress
  counted = run begun

  abbrev pub second : Progress
  second = progress_of (after_run counted.state) counted.ids counted.keys

  -- what the call gives and leaves
  pub record Promised (p : Progress) : Type 0 where
    pub answered : answer_of p.state ≡ found_with m s keys bits n office (not own.good) rules (waivers_of waiver_ids waiver_keys) ids found_keys
    pub wrote_ids : p.ids ≡ ids_with m s keys bits n office (not own.good) rules (waivers_of waiver_ids waiver_keys) ids found_keys
    pub wrote_keys : p.keys ≡ found_keys_with m s keys bits n office (not own.good) rules (waivers_of waiver_ids waiver_keys) ids found_keys

  -- the counting run writes nothing
  pub ids_quiet : counted.ids ≡ ids
  unfolding begin_of
  ids_quiet = quiet_ids keys bits waiver_ids waiver_keys rules begun refl

  pub keys_quiet : counted.keys ≡ found_keys
  unfolding begin_of
  keys_quiet = quiet_keys keys bits waiver_ids waiver_keys rules begun refl

  -- the writing run is refused before it begins
  module _ (c : ℕ) (is : (after_run counted.state).refusal ≡ c) (not-zero : c ≡ 0 → ⊥) (said : refusal ≡ c) where
    stays : run second ≡ second
    stays = run_stopped keys bits waiver_ids waiver_keys rules second (λ e. not-zero (sym is ∙ e))

    not_done : refusal ≡ 0 → ⊥
    not_done e = not-zero (sym said ∙ e)

    stopped_ids : (run second).ids ≡ ids_with m s keys bits n office (not own.good) rules (waivers_of waiver_ids waiver_keys) ids found_keys
    stopped_ids = ap (λ p. p.ids) stays ∙ ids_quiet ∙ sym (ids_stay m s keys bits n office (not own.good) rules ws ids found_keys not_done)

    stopped_keys : (run second).keys ≡ found_keys_with m s keys bits n office (not own.good) rules (waivers_of waiver_ids waiver_keys) ids found_keys
    stopped_keys = ap (λ p. p.keys) stays ∙ keys_quiet ∙ sym (keys_stay m s keys bits n office (not own.good) rules ws ids found_keys not_done)

    stopped : (c ≡ 12 → ⊥) → Promised (run second)
    stopped not_full =
        let st = after_run counted.state in
        record {
          answered = ap (λ p. answer_of p.state) stays
              ∙ answer_refused st (λ e. not-zero (sym is ∙ e)) (λ e. not_full (sym is ∙ e))
              ∙ ap (λ k. record { refusal = k; live = 0; hidden = 0 }) is
              ∙ sym (given_refused m s keys bits n office (not own.good) rules ws ids found_keys c said not-zero not_full);
          wrote_ids = stopped_ids;
          wrote_keys = stopped_keys;
        }

  -- the counting run was refused
  pub refused_first : (c : ℕ) → counted.state.refusal ≡ c → (c ≡ 0 → ⊥) → (c ≡ 12 → ⊥) → refusal ≡ c → Promised (run second)
  refused_first c is not-zero not_full said =
      stopped c (ap (λ st. st.refusal) (next_stopped counted.state (λ e. not-zero (sym is ∙ e))) ∙ is) not-zero said not_full

  -- 1 and 4
  begin_refused : (c : ℕ) → begin_refusal office m s keys bits n ≡ c → (c ≡ 0 → ⊥) → (c ≡ 12 → ⊥) → refusal ≡ c → Promised (run second)
  unfolding begin_of
  begin_refused c is not-zero not_full said =
      refused_first c (ap (λ p. p.state.refusal) (run_stopped keys bits waiver_ids waiver_keys rules begun (λ e. not-zero (sym is ∙ e))) ∙ is) not-zero not_full said

  -- 14
  faulted : Faulted counted → refusal ≡ 14 → Promised (run second)
  faulted f said =
      stopped 14 (ap (λ st. st.refusal) (next_faulty counted.state f.running f.fault)) (λ e. omega arith) said (λ e. omega arith)

  module _ (known-office : bad_office office ≡ false) (settings : bad_settings m s ≡ false) (list : is_list m s keys bits n ≡ true) where
    begins : start.refusal ≡ 0
    unfolding begin_of
    begins = begin_good office m s keys bits n known-office settings list

    -- 13
    bad_run : good_from m s 0 rules ≡ false → counted.state.refusal ≡ 13
    unfolding begin_of
    bad_run bad = run_bad keys bits waiver_ids waiver_keys rules begun begins refl bad

    module _ (good : good_from m s 0 rules ≡ true) where
      wrong_run : own.good ≡ false → Faulted counted
      unfolding begin_of
      wrong_run wrong = run_faulty keys bits waiver_ids waiver_keys rules begun (record { running = begins; fault = ap not wrong }) refl good

      unknown_run : known_from ws 0 rules ≡ false → Faulted counted
      unfolding begin_of
      unknown_run unknown = run_unknown keys bits waiver_ids waiver_keys rules begun begins refl good unknown

      module _ (right : own.good ≡ true) (size : own.count ≡ length ws) (sound : waivers_good m ws ≡ true) (known : known_from ws 0 rules ≡ true) where
        counting_run : counted ≡ all_gathered keys bits waiver_ids waiver_keys rules begun
        unfolding begin_of
        counting_run =
            run_gathered keys bits waiver_ids waiver_keys rules begun begins refl (ap not right)
            (below_zero ws)
            good
            known

        abbrev last : RunState
        last = counted.state

        zero_last : last.refusal ≡ 0
        unfolding begin_of
        zero_last = ap (λ p. p.state.refusal) counting_run ∙ begins

        walks_last : last.mode ≡ 0 → ⊥
        unfolding begin_of
        walks_last e = let walks = ap (λ p. p.state.mode) counting_run in omega arith

        sound_last : last.faulty ≡ false
        unfolding begin_of
        sound_last = ap (λ p. p.state.faulty) counting_run ∙ ap not right

        passed_last : last.passed ≡ waivers_below (next_after 0 rules) ws
        unfolding begin_of
        passed_last = ap (λ p. p.state.passed) counting_run

        waivers_last : last.waivers ≡ length ws
        unfolding begin_of
        waivers_last = ap (λ p. p.state.waivers) counting_run ∙ size

        room_last : last.room ≡ room ids found_keys
        unfolding begin_of
        room_last = ap (λ p. p.state.room) counting_run

        live_last : last.live ≡ length live
        unfolding begin_of live_in
        live_last = ap (λ p. p.state.live) counting_run ∙ zero-add _

        -- 14: a waiver is left
        left_over : last.passed < last.waivers → refusal ≡ 14 → Promised (run second)
        left_over h said =
            stopped 14 (ap (λ st. st.refusal) (next_left last zero_last sound_last h)) (λ e. omega arith) said (λ e. omega arith)

        module _ (none : last.waivers ≤ last.passed) where
          -- 12
          too_many : last.room < last.live → refusal ≡ 12 → Promised (run second)
          too_many h said =
              let full = next_full last zero_last sound_last none walks_last h in
              let is = ap (λ st. st.refusal) full in
              let stay = stays 12 is (λ e. omega arith) said in
              record {
                answered = ap (λ p. answer_of p.state) stay
                    ∙ answer_full (after_run last) is
                    ∙ (λ i. record { refusal = is i; live = (ap (λ st. st.live) full ∙ live_last) i; hidden = 0 })
                    ∙ sym (given_full m s keys bits n office (not own.good) rules ws ids found_keys said);
                wrote_ids = stopped_ids 12 is (λ e. omega arith) said;
                wrote_keys = stopped_keys 12 is (λ e. omega arith) said;
              }

          -- the writing run
          module _ (fits : last.live ≤ last.room) where
            -- it starts from the same settings
            abbrev again : Progress
            again = progress_of (restarting last.room last) ids found_keys

            second_is : second ≡ again
            second_is = λ i. progress_of (next_writes last zero_last sound_last none walks_last fits i) (ids_quiet i) (keys_quiet i)

            level_last : last.m ≡ m
            unfolding begin_of
            level_last = ap (λ p. p.state.m) counting_run

            slots_last : last.s ≡ s
            unfolding begin_of
            slots_last = ap (λ p. p.state.s) counting_run

            records_last : last.n ≡ n
            unfolding begin_of
            records_last = ap (λ p. p.state.n) counting_run

            writing_run : run again ≡ all_gathered keys bits waiver_ids waiver_keys rules again
            writing_run =
                run_gathered keys bits waiver_ids waiver_keys rules again refl refl refl
                (below_zero ws)
                (rw (level_last, slots_last) good)
                known

            -- the findings are those of the call
            all_same : all_findings last.m (picture_of last.m (records_of keys bits last.n)) rules ≡ all_findings m (picture_of m (records_of keys bits n)) rules
            all_same = λ i. all_findings (level_last i) (picture_of (level_last i) (records_of keys bits (records_last i))) rules

            live_same : live_of last.m ws (all_findings last.m (picture_of last.m (records_of keys bits last.n)) rules) ≡ live
            unfolding live_in
            live_same = ap₂ (λ x l. live_of x ws l) level_last all_same

            hidden_same : hidden_count last.m ws (all_findings last.m (picture_of last.m (records_of keys bits last.n)) rules) ≡ hidden_in m keys bits n rules (waivers_of waiver_ids waiver_keys)
            unfolding hidden_in
            hidden_same = ap₂ (λ x l. hidden_count x ws l) level_last all_same

            final : run second ≡ all_gathered keys bits waiver_ids waiver_keys rules again
            final = ap run second_is ∙ writing_run

            wrote_all : (f : Finding → ℕ) (answer : List ℕ) → room ids found_keys ≤ length answer
                → written last.room answer 0 (map f (live_of last.m ws (all_findings last.m (picture_of last.m (records_of keys bits last.n)) rules)))
                ≡ over (map f live) answer
            wrote_all f answer h =
                let size = length-map live f in
                let small = live_last in
                let wide = room_last in
                ap (λ l. written last.room answer 0 (map f l)) live_same ∙ written_over last.room answer (map f live) (omega arith) (omega arith)

            done : refusal ≡ 0 → Promised (run second)
            done said =
                record {
                  answered = ap (λ p. answer_of p.state) final
                      ∙ answer_done (all_gathered keys bits waiver_ids waiver_keys rules again).state refl
                      ∙ (λ i. record { refusal = 0; live = (zero-add _ ∙ ap length live_same) i; hidden = (zero-add _ ∙ hidden_same) i })
                      ∙ sym (given_done m s keys bits n office (not own.good) rules ws ids found_keys said);
                  wrote_ids = ap (λ p. p.ids) final
                      ∙ wrote_all (λ x. x.id) ids (omega arith)
                      ∙ sym (ids_written m s keys bits n office (not own.good) rules ws ids found_keys said);
                  wrote_keys = ap (λ p. p.keys) final
                      ∙ wrote_all (λ x. x.key) found_keys (omega arith)
                      ∙ sym (keys_written m s keys bits n office (not own.good) rules ws ids found_keys said);
                }

        fine_table : last.waivers ≤ last.passed → not own.good || bad_waivers m rules ws ≡ false
        fine_table none =
            ap₂ (λ a b. a || b) (ap not right)
            (waivers_fine m rules ws sound (known_ids m s ws 0 rules good known (let a = passed_last in let b = waivers_last in omega arith)))

        -- the rules and the waivers are good
        gathered_runs : Promised (run second)
        gathered_runs =
            split last.passed last.waivers
            (λ h. left_over h
            (refusal_14 m s keys bits n office (not own.good) rules ws ids found_keys known-office settings list good
            (or_right (not own.good) (bad_waivers m rules ws) (waivers_unknown m rules ws (λ all. let found = ids_known m s ws 0 rules good all in let a = passed_last in let b = waivers_last in let c = found.none in omega arith)))))
            (λ none. split last.room last.live
            (λ h. too_many none h
            (refusal_12 m s keys bits n office (not own.good) rules ws ids found_keys known-office settings list good
            (fine_table none)
            (let a = live_last in let b = room_last in omega arith)))
            (λ fits. done none fits
            (refusal_0 m s keys bits n office (not own.good) rules ws ids found_keys known-office settings list good (fine_table none)
            (let a = live_last in let b = room_last in omega arith))))

      good_runs : RunFits m own waiver_ids waiver_keys → Promised (run second)
      good_runs fit =
          decide own.good
          (λ right.
          let sound = fit.good right in
          decide (known_from ws 0 rules) (λ known. gathered_runs right (fit.size ∙ sym (waivers-length waiver_ids waiver_keys)) sound known)
          (λ unknown. faulted (unknown_run unknown)
          (refusal_14 m s keys bits n office (not own.good) rules ws ids found_keys known-office settings list good
          (or_right (not own.good) (bad_waivers m rules ws)
          (waivers_unknown m rules ws (λ all. mathlib.Core.Bool.true≢false (sym (ids_known m s ws 0 rules good all).known ∙ unknown)))))))
          (λ wrong. faulted (wrong_run wrong)
          (refusal_14 m s keys bits n office (not own.good) rules ws ids found_keys known-office settings list good (or_left (not own.good) (bad_waivers m rules ws) (ap not wrong))))

  -- two runs give what the specification says
  pub two_runs : RunFits m own waiver_ids waiver_keys → Promised (run second)
  two_runs fit =
      decide (bad_office office)
      (λ other. begin_refused 21 (begin_other office m s keys bits n other) (λ e. omega arith) (λ e. omega arith) (refusal_21 m s keys bits n office (not own.good) rules ws ids found_keys other))
      (λ known. decide (bad_settings m s)
      (λ bad. begin_refused 1 (begin_bad office m s keys bits n known bad) (λ e. omega arith) (λ e. omega arith) (refusal_1 m s keys bits n office (not own.good) rules ws ids found_keys known bad))
      (λ settings. decide (is_list m s keys bits n)
      (λ list. decide (good_from m s 0 rules) (λ good. good_runs known settings list good fit)
      (λ wrong. refused_first 13 (bad_run known settings list wrong) (λ e. omega arith) (λ e. omega arith) (refusal_13 m s keys bits n office (not own.good) rules ws ids found_keys known settings list wrong)))
      (λ no_list. begin_refused 4 (begin_no_list office m s keys bits n known settings no_list) (λ e. omega arith) (λ e. omega arith) (refusal_4 m s keys bits n office (not own.good) rules ws ids found_keys known settings no_list))))
