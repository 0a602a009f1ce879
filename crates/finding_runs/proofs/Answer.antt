-- What the calls of `findings` come to, one after the other: each run may begin, and in the end the call gives the findings of specification S13. Rests on TableRuns,
-- ThreeRuns and OfficeAnswer.
use Prim.Native.Nat.{ℕ, ◌≤◌}
use mathlib.Core.Path.{◌≡◌, refl, sym, ap, subst, ◌∙◌}
use mathlib.Core.Bool.{false}
use mathlib.Core.List.{List}
use native.Mathlib.Omega.{arith}
use lib.ListN.{length}
use Rattle.keys.proofs.Cases.{decide, split, equal}
use Rattle.definitions.specs.Rules.{waivers_of}
use Rattle.definitions.specs.Calls.Findings.{findings, findings_ids, findings_keys}
use Rattle.definitions.specs.declared.Rule.{Rule}
use Rattle.definitions.specs.declared.Found.{Found}
use Rattle.finding_runs.specs.declared.state.RunState.{RunState}
use Rattle.finding_runs.specs.Run.{OfficeRows, Progress, progress_of, bounding, restarting, own_part, RulesFine, RulesReady, TableReady, rules_run, table_run, begin_of, own_at, after_run, answer_of, OfFindings}
use Rattle.finding_runs.proofs.NextCases.{next_stopped, next_faulty, next_left, next_counts, next_rests, next_full, next_writes}
use Rattle.finding_runs.proofs.Beginning.{below_zero, begin_ready}
use Rattle.finding_runs.proofs.TableRuns.{SameTable, same_on, next_same, ready_same, table_ready_run, table_run_same, table_run_from}
use Rattle.finding_runs.proofs.OfFindings.{of_findings}
use Rattle.finding_runs.proofs.OfficeAnswer.{own_at_within, own_at_fits, office_answers}
use Rattle.finding_runs.proofs.ThreeRuns.{after, three_runs}

module _ (keys bits waiver_ids waiver_keys : List ℕ) where
  -- where a run ended, one that goes through the rules again may begin
  fine_restarted : (limit : ℕ) (st : RunState) (l l' : List ℕ) → RulesFine keys bits waiver_ids waiver_keys (progress_of st l l') → st.faulty ≡ false → limit ≤ st.room
      → RulesFine keys bits waiver_ids waiver_keys (progress_of (restarting limit st) l l')
  fine_restarted limit st l l' f sound low =
      record {
        level = f.level;
        slots = f.slots;
        list = f.list;
        limit_ids = omega (arith, f.room_ids);
        limit_keys = omega (arith, f.room_keys);
        room_ids = f.room_ids;
        room_keys = f.room_keys;
        count = f.count;
        good = λ still. f.good sound;
        passed = λ still. below_zero (waivers_of waiver_ids waiver_keys);
        small = omega arith;
      }

  -- so the next run may begin, whichever it is
  ready_next : (st : RunState) (l l' : List ℕ) → RulesReady keys bits waiver_ids waiver_keys (progress_of st l l') → RulesReady keys bits waiver_ids waiver_keys (progress_of (after_run st) l l')
  ready_next st l l' h =
      equal st.refusal 0
      (λ running.
      let f = h.fine running in
      decide st.faulty
      (λ faulty. rw (next_faulty st running faulty) (record { fine = λ e. absurd (omega arith) }))
      (λ sound.
      split st.passed st.waivers
      (λ left. rw (next_left st running sound left) (record { fine = λ e. absurd (omega arith) }))
      (λ none.
      equal st.mode 0
      (λ bounds. split st.room st.live
      (λ past. rw (next_counts st running sound none bounds past) (record { fine = λ e. fine_restarted 0 st l l' f sound (omega arith) }))
      (λ within. rw (next_rests st running sound none bounds within)
      (record {
        fine = λ e. record {
          level = f.level;
          slots = f.slots;
          list = f.list;
          limit_ids = f.limit_ids;
          limit_keys = f.limit_keys;
          room_ids = f.room_ids;
          room_keys = f.room_keys;
          count = f.count;
          good = f.good;
          passed = f.passed;
          small = f.small;
        };
      })))
      (λ walks. split st.room st.live
      (λ full. rw (next_full st running sound none walks full) (record { fine = λ e. absurd (omega arith) }))
      (λ fits. rw (next_writes st running sound none walks fits) (record { fine = λ e. fine_restarted st.room st l l' f sound (omega arith) }))))))
      (λ stopped. rw (next_stopped st stopped) h)

module _ (keys bits ids waived : List ℕ) where
  pub next_ready : (rules : List Rule) (p : Progress) (r r' : RunState) (l l' : List ℕ) → TableReady keys bits ids waived p
      → progress_of r l l' ≡ table_run keys bits ids waived rules p
      → r' ≡ after_run r
      → TableReady keys bits ids waived (progress_of r' l l')
  next_ready rules p r r' l l' h e f =
      let ran : TableReady keys bits ids waived (progress_of r l l') = rw e (table_ready_run keys bits ids waived rules p h) in
      rw f
      (ready_same keys bits ids waived (progress_of r l l') (progress_of (after_run r) l l') (next_same r) ran (ready_next keys bits (own_part r ids) (own_part r waived) r l l' ran.own))

module _ (m s : ℕ) (keys bits : List ℕ) (n office : ℕ) (rules : List Rule) (offices ids waived : List ℕ) (rows : ℕ) (found_ids found_keys : List ℕ) where
  abbrev own : OfficeRows
  own = own_at m s keys bits n office offices ids waived rows

  abbrev start : RunState
  start = bounding 0 (begin_of m s keys bits n office own (length found_ids) (length found_keys))

  -- the first run may begin
  pub checking_ready : (r₀ : RunState) → r₀ ≡ start → TableReady keys bits ids waived (progress_of r₀ found_ids found_keys)
  unfolding begin_of
  checking_ready r₀ e =
      let within = own_at_within m s keys bits n office offices ids waived rows in
      rw e
      (record {
        in_ids = within.0;
        in_waived = within.1;
        own = begin_ready office m s keys bits n own (length found_ids) (length found_keys) (own_part start ids) (own_part start waived) found_ids found_keys
            (own_at_fits m s keys bits n office offices ids waived rows) refl refl;
      })

  abbrev run : Progress → Progress
  run = table_run keys bits ids waived rules

  abbrev run_own : Progress → Progress
  run_own = rules_run keys bits (own_part start ids) (own_part start waived) rules

  -- the states and the answer slices along the call: what begins, what the first run leaves, what begins after it, and so on to the answer
  pub record Course (r₀ r₁ r₂ r₃ r₄ r₅ : RunState) (l₁ l₁' l₃ l₃' l₅ l₅' : List ℕ) (f : Found) : Type 0 where
    pub begins : r₀ ≡ start
    pub checks : progress_of r₁ l₁ l₁' ≡ run (progress_of r₀ found_ids found_keys)
    pub next : r₂ ≡ after_run r₁
    pub counts : progress_of r₃ l₃ l₃' ≡ run (progress_of r₂ l₁ l₁')
    pub last : r₄ ≡ after_run r₃
    pub writes : progress_of r₅ l₅ l₅' ≡ run (progress_of r₄ l₃ l₃')
    pub answers : f ≡ answer_of r₅

  -- a run over the table from a state with the same rows is one over the office's rows
  runs_own : (p : Progress) → SameTable start p.state → run p ≡ run_own p
  runs_own p same = table_run_from keys bits ids waived rules p same

  -- the call gives and leaves what the specification says
  pub findings_law : {r₀ r₁ r₂ r₃ r₄ r₅ : RunState} {l₁ l₁' l₃ l₃' l₅ l₅' : List ℕ} {f : Found} → Course r₀ r₁ r₂ r₃ r₄ r₅ l₁ l₁' l₃ l₃' l₅ l₅' f
      → (f ≡ findings m s keys bits n office rules offices ids waived rows found_ids found_keys)
      × (l₅ ≡ findings_ids m s keys bits n office rules offices ids waived rows found_ids found_keys)
      × (l₅' ≡ findings_keys m s keys bits n office rules offices ids waived rows found_ids found_keys)
  unfolding begin_of
  findings_law {r₀} {r₁} {r₂} {r₃} {r₄} {r₅} {l₁} {l₁'} {l₃} {l₃'} {l₅} {l₅'} c =
      let go = after m s keys bits n office own rules (own_part start ids) (own_part start waived) found_ids found_keys in
      let s₀ : SameTable start r₀ = rw c.begins (record { offset = refl; count = refl }) in
      let s₁ : SameTable start r₁ = same_on s₀ (subst (λ q. SameTable r₀ q.state) (sym c.checks) (table_run_same keys bits ids waived rules (progress_of r₀ found_ids found_keys))) in
      let s₂ : SameTable start r₂ = same_on s₁ (subst (λ x. SameTable r₁ x) (sym c.next) (next_same r₁)) in
      let s₃ : SameTable start r₃ = same_on s₂ (subst (λ q. SameTable r₂ q.state) (sym c.counts) (table_run_same keys bits ids waived rules (progress_of r₂ l₁ l₁'))) in
      let s₄ : SameTable start r₄ = same_on s₃ (subst (λ x. SameTable r₃ x) (sym c.last) (next_same r₃)) in
      let first = c.checks ∙ runs_own (progress_of r₀ found_ids found_keys) s₀ ∙ ap (λ r. run_own (progress_of r found_ids found_keys)) c.begins in
      let second = c.counts ∙ runs_own (progress_of r₂ l₁ l₁') s₂ ∙ ap (λ r. run_own (progress_of r l₁ l₁')) c.next ∙ ap (λ p. run_own (go p)) first in
      let third = c.writes ∙ runs_own (progress_of r₄ l₃ l₃') s₄ ∙ ap (λ r. run_own (progress_of r l₃ l₃')) c.last ∙ ap (λ p. run_own (go p)) second in
      let promised = three_runs m s keys bits n office own rules (own_part start ids) (own_part start waived) found_ids found_keys (own_at_fits m s keys bits n office offices ids waived rows) in
      let is = office_answers m s keys bits n office rules offices ids waived rows found_ids found_keys in (
        c.answers ∙ ap (λ p. answer_of p.state) third ∙ promised.answered ∙ is.0,
        ap (λ p. p.ids) third ∙ promised.wrote_ids ∙ is.1,
        ap (λ p. p.keys) third ∙ promised.wrote_keys ∙ is.2,
      )

  -- so it has one of the findings' numbers
  pub answer_of_findings : {r₀ r₁ r₂ r₃ r₄ r₅ : RunState} {l₁ l₁' l₃ l₃' l₅ l₅' : List ℕ} {f : Found} → Course r₀ r₁ r₂ r₃ r₄ r₅ l₁ l₁' l₃ l₃' l₅ l₅' f → OfFindings f
  answer_of_findings c = subst OfFindings (sym (findings_law c).0) (of_findings m s keys bits n office _ rules _ found_ids found_keys)
