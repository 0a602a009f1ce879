-- The entries of a group as a run of crate deeds, and what the deed over them makes of a picture. Rests on edit_log's GroupEntries and deeds' PutBack.
use Prim.Native.Nat.{ℕ, suc, ◌-◌, ◌≤◌}
use mathlib.Core.Path.{◌≡◌, sym, ◌∙◌, ap, ap₂, subst}
use mathlib.Core.List.{List}
use native.Mathlib.Nat.{le_refl}
use native.Mathlib.Omega.{arith}
use lib.ListN.{length}
use Rattle.definitions.specs.Picture.{Picture}
use Rattle.definitions.specs.List.{Record}
use Rattle.definitions.specs.Read.{records_of}
use Rattle.definitions.specs.Log.{closing_places, step_count, step_entries, before_step, put_back, paint_again}
use Rattle.laws.proofs.Records.{records-length}
use Rattle.edit_log.specs.declared.step.LogStep.{LogStep}
use Rattle.edit_log.specs.Steps.{last_step, Stepped, EntriesBetween, none_between, one_between}
use Rattle.edit_log.proofs.GroupChecked.{entries_at}
use Rattle.edit_log.proofs.GroupEntries.{group_between}
use Rattle.deeds.specs.declared.run.Run.{Run}
use Rattle.deeds.specs.declared.deed.Deed.TheVariants.{Back, Again}
use Rattle.deeds.specs.Step.{step_over}
use Rattle.deeds.specs.Deed.{step_of}
use Rattle.deeds.specs.Runs.{last_first, Chain, done, more, Between, EntriesIn}
use Rattle.deeds.proofs.Chains.{last_none, chain_more}
use Rattle.deeds.proofs.PutBack.{back_picture, again_picture}
use Rattle.undo.specs.GroupCall.{GroupLast, GroupRun}

-- entries between two places are a chain, with as many links
between_chain : {m s : ℕ} {ks vs : List ℕ} {start count end : ℕ} → EntriesBetween m s ks vs start count end → Chain m s ks vs start end
between_chain none_between = done
between_chain (one_between {end = end} some a b e rest) = more {end = end} some a b e (between_chain rest)

between_many : {m s : ℕ} {ks vs : List ℕ} {start count end : ℕ} → EntriesBetween m s ks vs start count end → length (last_first end ks vs start end) ≡ count
between_many {ks = ks} {vs} {start} none_between = ap length (last_none start ks vs start start (le_refl _))
between_many (one_between {count} {end} some a b e rest) =
    ap length (chain_more end (more {end = end} some a b e (between_chain rest)) some) ∙ ap suc (between_many rest)

module _ {m : ℕ} {ks vs : List ℕ} {used : ℕ} (d : GroupLast m ks vs used) where
  abbrev log : List Record
  log = records_of ks vs used

  -- the records end in a step
  pub group_stepped : Stepped ks vs used
  group_stepped = record { m = m; s = d.s; in_keys = d.in_keys; in_values = d.in_values; step = d.step }

  between : EntriesBetween m d.s ks vs (length (before_step log)) (step_count log) (length (step_entries log))
  between = group_between m d.s ks vs used d.in_keys d.in_values d.step d.mark

  -- the step that was found
  module _ (last : LogStep) (found : last ≡ last_step (records_of ks vs used)) where
    start_is : last.start ≡ length (before_step log)
    start_is = ap (λ x. x.start) found

    end_is : last.end ≡ length (step_entries log)
    end_is = ap (λ x. x.end) found

    -- its places can be made a run
    pub run_asked : (m ≤ 10) × Between m last.start last.end ks vs
    run_asked = (
      d.deep,
      record {
        s = d.s;
        few = d.few;
        chain = subst (λ x. Chain m d.s ks vs x last.end) (sym start_is)
            (subst (λ x. Chain m d.s ks vs (length (before_step log)) x) (sym end_is) (between_chain between));
      },
    )

    -- and that is the group's
    pub run_found : (r : Run) → r.start ≡ last.start → r.end ≡ last.end → EntriesIn m r ks vs → GroupRun m r ks vs (records_of ks vs used)
    run_found r starts ends entries =
        let at = entries_at ks vs used d.in_keys d.in_values d.mark in
        let in_keys = d.in_keys in
        let in_values = d.in_values in
        let size : length (step_entries log) ≡ used - closing_places = ap length at ∙ records-length ks vs (used - closing_places) (omega arith) (omega arith) in
        record {
          entries = entries;
          start_is = starts ∙ start_is;
          entries_are = at ∙ ap (records_of ks vs) (sym (ends ∙ end_is ∙ size));
          many = ap₂ (λ a b. length (last_first b ks vs a b)) (starts ∙ start_is) (ends ∙ end_is) ∙ between_many between;
        }

-- the deeds over it: its contents go back, the last first, or its blocks are painted again, the first first
module _ {m : ℕ} {run : Run} {ks vs : List ℕ} {log : List Record} (g : GroupRun m run ks vs log) (p : Picture) where
  pub back_over : step_over (step_of m (Back run) ks vs) p ≡ put_back (step_count log) m (step_entries log) p
  back_over = back_picture g.entries g.many g.entries_are p

  pub again_over : step_over (step_of m (Again run) ks vs) p ≡ paint_again (step_count log) m (step_entries log) p
  again_over = again_picture g.entries g.many g.entries_are p
