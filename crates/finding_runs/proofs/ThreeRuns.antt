-- Three runs over the rules, the first to check and to bound, the second to count, if need be, and the third to write, give what two give: where the bound is
-- past the room, the second and the third are those two; where it is not, the second is passed over and the third begins as the writing run does. Rests on
-- TwoRuns, Bounds, Quiet and NextCases.
use Prim.Native.Nat.{ℕ, ◌≤◌, ◌<◌}
use mathlib.Core.Path.{◌≡◌, refl, sym, ap, ◌∙◌, subst}
use mathlib.Core.Bool.{false, true≢false}
use mathlib.Core.List.{List}
use native.Mathlib.Omega.{arith}
use lib.ListN.{length}
use Rattle.keys.proofs.Cases.{decide, split, equal}
use Rattle.definitions.specs.declared.Rule.{Rule}
use Rattle.finding_runs.specs.declared.state.RunState.{RunState}
use Rattle.finding_runs.specs.Run.{OfficeRows, Progress, progress_of, refusing, bounding, resting, restarting, rules_run, begin_of, after_run, answer_of}
use Rattle.finding_runs.proofs.NextCases.{next_stopped, next_faulty, next_left, next_counts, next_rests, next_writes, answer_refused}
use Rattle.finding_runs.proofs.Beginning.{RunFits, begin_not_full}
use Rattle.finding_runs.proofs.Quiet.{run_stopped, run_rests, quiet_ids, quiet_keys}
use Rattle.finding_runs.proofs.Bounds.{Bounded, run_bounded}
use Rattle.finding_runs.proofs.TwoRuns.{counted, second, Promised, ids_quiet, keys_quiet, two_runs}

module _ (m s : ℕ) (keys bits : List ℕ) (n office : ℕ) (own : OfficeRows) (rules : List Rule) (waiver_ids waiver_keys ids found_keys : List ℕ) where
  abbrev run : Progress → Progress
  run = rules_run keys bits waiver_ids waiver_keys rules

  abbrev start : RunState
  start = begin_of m s keys bits n office own (length ids) (length found_keys)

  -- the run after a run
  abbrev pub after : Progress → Progress
  after p = progress_of (after_run p.state) p.ids p.keys

  -- after the run that checks
  abbrev pub checked : Progress
  checked = run (progress_of (bounding 0 start) ids found_keys)

  abbrev Keeps : Progress → Type 0
  Keeps = Promised m s keys bits n office own rules waiver_ids waiver_keys ids found_keys

  abbrev last : RunState
  last = (counted m s keys bits n office own rules waiver_ids waiver_keys ids found_keys).state

  bounds : Bounded keys bits waiver_ids waiver_keys (progress_of start ids found_keys) (run (progress_of start ids found_keys)) checked.state
  unfolding begin_of
  bounds = run_bounded keys bits waiver_ids waiver_keys rules (progress_of start ids found_keys) 0 ids found_keys refl (omega arith)

  start_not_full : start.refusal ≡ 12 → ⊥
  unfolding begin_of
  start_not_full = begin_not_full office m s keys bits n

  -- the state after the run that checks is that after a counting run, but for the counts
  abbrev told : RunState
  told = bounding bounds.bound last

  checked_is : checked ≡ progress_of told ids found_keys
  unfolding begin_of
  checked_is =
      λ i. progress_of (bounds.same i)
      (quiet_ids keys bits waiver_ids waiver_keys rules (progress_of (bounding 0 start) ids found_keys) refl i)
      (quiet_keys keys bits waiver_ids waiver_keys rules (progress_of (bounding 0 start) ids found_keys) refl i)

  counted_is : counted m s keys bits n office own rules waiver_ids waiver_keys ids found_keys ≡ progress_of last ids found_keys
  counted_is = λ i. progress_of last (ids_quiet m s keys bits n office own rules waiver_ids waiver_keys ids found_keys i) (keys_quiet m s keys bits n office own rules waiver_ids waiver_keys ids found_keys i)

  abbrev third : Progress
  third = run (after (run (after checked)))

  module _ (fit : RunFits m own waiver_ids waiver_keys) where
    -- the state st, with nothing written, comes after the first run, and another with the same refusal after the counting run: both runs stop
    module _ (c : ℕ) (not-zero : c ≡ 0 → ⊥) (not_full : c ≡ 12 → ⊥) (st st' : RunState) (e : after_run told ≡ st) (e' : after_run last ≡ st') (is : st.refusal ≡ c) (is' : st'.refusal ≡ c) where
      stay : (x : RunState) → x.refusal ≡ c → run (progress_of x ids found_keys) ≡ progress_of x ids found_keys
      stay x h = run_stopped keys bits waiver_ids waiver_keys rules (progress_of x ids found_keys) (λ z. not-zero (sym h ∙ z))

      both_stop : Keeps third
      both_stop =
          let first : run (after checked) ≡ progress_of st ids found_keys = ap (λ p. run (after p)) checked_is ∙ ap (λ x. run (progress_of x ids found_keys)) e ∙ stay st is in
          let here : third ≡ progress_of st ids found_keys =
          ap (λ p. run (after p)) first ∙ ap (λ x. run (progress_of x ids found_keys)) (next_stopped st (λ z. not-zero (sym is ∙ z))) ∙ stay st is in
          let there : run (second m s keys bits n office own rules waiver_ids waiver_keys ids found_keys) ≡ progress_of st' ids found_keys =
          ap (λ p. run (after p)) counted_is ∙ ap (λ x. run (progress_of x ids found_keys)) e' ∙ stay st' is' in
          let two = subst Keeps there (two_runs m s keys bits n office own rules waiver_ids waiver_keys ids found_keys fit) in
          let answers : (x : RunState) → x.refusal ≡ c → answer_of x ≡ record { refusal = c; live = 0; hidden = 0 } =
          λ x h. answer_refused x (λ z. not-zero (sym h ∙ z)) (λ z. not_full (sym h ∙ z)) ∙ ap (λ k. record { refusal = k; live = 0; hidden = 0 }) h in
          subst Keeps (sym here) (record { answered = answers st is ∙ sym (answers st' is') ∙ two.answered; wrote_ids = two.wrote_ids; wrote_keys = two.wrote_keys })

    -- the run goes on, and no waiver is wrong
    module _ (zero : last.refusal ≡ 0) (sound : last.faulty ≡ false) (none : last.waivers ≤ last.passed) where
      begins : start.refusal ≡ 0
      begins =
          equal start.refusal 0 (λ e. e)
          (λ stopped. absurd (stopped (sym (ap (λ p. p.state.refusal) (run_stopped keys bits waiver_ids waiver_keys rules (progress_of start ids found_keys) stopped)) ∙ zero)))

      right : start.faulty ≡ false
      right = decide start.faulty (λ wrong. absurd (true≢false (sym (bounds.faults wrong) ∙ sound))) (λ e. e)

      -- a counting run that begins again begins as the counting run does
      same_start : restarting 0 start ≡ start
      unfolding begin_of
      same_start =
          sym (λ i. record {
            m = m;
            s = s;
            n = n;
            mode = 1;
            refusal = begins i;
            next = 0;
            faulty = right i;
            offset = start.offset;
            waivers = start.waivers;
            passed = 0;
            limit = 0;
            room = start.room;
            live = 0;
            hidden = 0;
          })

      -- the findings are counted, and written
      counts : told.room < told.live → Keeps third
      counts h =
          let again : after_run told ≡ start = next_counts told zero sound none refl h ∙ bounds.restarts ∙ same_start in
          let is : third ≡ run (second m s keys bits n office own rules waiver_ids waiver_keys ids found_keys) =
          ap (λ p. run (after (run (after p)))) checked_is ∙ ap (λ x. run (after (run (progress_of x ids found_keys)))) again in
          subst Keeps (sym is) (two_runs m s keys bits n office own rules waiver_ids waiver_keys ids found_keys fit)

      -- or written at once
      writes : told.live ≤ told.room → Keeps third
      writes h =
          let idle : RunState = resting told in
          let passes : run (after checked) ≡ progress_of idle ids found_keys =
          ap (λ p. run (after p)) checked_is
          ∙ ap (λ x. run (progress_of x ids found_keys)) (next_rests told zero sound none refl h)
          ∙ run_rests keys bits waiver_ids waiver_keys rules (progress_of idle ids found_keys) zero refl in
          let last_is : after_run last ≡ restarting last.room last =
          next_writes last zero sound none (λ e. let walks = bounds.walks in omega arith) (let low = bounds.enough in omega arith) in
          let is : third ≡ run (second m s keys bits n office own rules waiver_ids waiver_keys ids found_keys) =
          ap (λ p. run (after p)) passes
          ∙ ap (λ x. run (progress_of x ids found_keys)) (next_writes idle zero sound none (λ e. omega arith) h ∙ sym last_is)
          ∙ sym (ap (λ p. run (after p)) counted_is) in
          subst Keeps (sym is) (two_runs m s keys bits n office own rules waiver_ids waiver_keys ids found_keys fit)

    -- three runs give what the specification says
    pub three_runs : Keeps third
    three_runs =
        equal last.refusal 0
        (λ zero.
        decide last.faulty
        (λ faulty.
        both_stop 14 (λ e. omega arith) (λ e. omega arith) (refusing 14 told) (refusing 14 last) (next_faulty told zero faulty) (next_faulty last zero faulty) refl refl)
        (λ sound.
        split last.passed last.waivers
        (λ left.
        both_stop 14 (λ e. omega arith) (λ e. omega arith) (refusing 14 told) (refusing 14 last) (next_left told zero sound left) (next_left last zero sound left) refl refl)
        (λ none. split told.room told.live (counts zero sound none) (writes zero sound none))))
        (λ stopped.
        both_stop last.refusal stopped (bounds.not_full start_not_full) told last (next_stopped told stopped) (next_stopped last stopped) refl refl)
