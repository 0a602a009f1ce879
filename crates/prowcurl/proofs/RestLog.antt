-- The log of a rest is tied to the C calls: calls of hlq_store_log and hlq_load_log that keep their contracts and are accepted, the second lent the bytes
-- that the first left, bring the log along. So a rest by the five calls asks nothing more of the caller. Rests on RestSteps and LogByFile.
use Prim.Native.Nat.{ℕ}
use mathlib.Core.Path.{◌≡◌, sym, ap, subst, ◌∙◌}
use mathlib.Core.List.{List}
use lib.ListN.{take}
use contract.Lifetimes.{Lfts}
use denote.Triple.Clauses.{at_exit}
use denote.Triple.Entry.{Args}
use Rattle.definitions.specs.Calls.StoreLog.{store_log_refusal, store_log, store_log_file}
use Rattle.definitions.specs.Calls.LoadLog.{load_log_refusal, load_log, load_log_keys, load_log_values}
use Rattle.definitions.specs.declared.Counted.{Counted}
use Rattle.definitions.specs.declared.LoadedLog.{LoadedLog}
use Rattle.rests.specs.Events.{LogBrought}
use Rattle.rests.proofs.LogByFile.{MachineLog, log_brought, counts_brought}
use Rattle.prowcurl.proofs.HistorySteps.{Slice, MutSlice}
use Rattle.prowcurl.proofs.RestSteps.{Rest, KeepsCalls, KeepsRest}
use Rattle.prowcurl.specs.contracts.files.hlq_store_log as store
use Rattle.prowcurl.proofs.files.hlq_store_log.Reads as store-reads
use Rattle.prowcurl.specs.contracts.files.hlq_load_log as load
use Rattle.prowcurl.proofs.files.hlq_load_log.Reads as load-reads

-- the calls of the log: what each was lent, its answer, and what it left; as many records are stored as are to be brought along
pub record LogRest : Type 0 where
  -- store
  pub κs : Lfts 3
  pub log_keys : Slice
  pub log_values : Slice
  pub brought : ℕ
  pub in_force : ℕ
  pub buffer : MutSlice
  pub stored : Counted
  pub buffer' : List ℕ
  -- load
  pub κs₂ : Lfts 3
  pub file : Slice
  pub log_keys₂ : MutSlice
  pub log_values₂ : MutSlice
  pub loaded : LoadedLog
  pub log_keys' : List ℕ
  pub log_values' : List ℕ

module _ (m s : ℕ) (y : LogRest) where
  abbrev store_log_lent : Args store.signature y.κs
  store_log_lent = (m, (s, (y.log_keys, (y.log_values, (y.brought, (y.in_force, (y.buffer, tt)))))))

  abbrev load_log_lent : Args load.signature y.κs₂
  load_log_lent = (y.file, (y.log_keys₂, (y.log_values₂, tt)))

  -- both calls keep their contracts and are accepted, and load is lent the bytes that store left; the log's numbers are the machine's
  pub record KeepsLogCalls : Type 0 where
    pub store : store-reads.Learnt y.κs store_log_lent y.stored (at_exit store.ended y.κs store_log_lent (tt, (tt, (tt, (tt, (tt, (tt, (y.buffer', tt))))))))
    pub store_passed : y.stored.refusal ≡ 0
    pub same_file : y.file.now ≡ take y.stored.count y.buffer'
    pub load : load-reads.Learnt y.κs₂ load_log_lent y.loaded (at_exit load.ended y.κs₂ load_log_lent (tt, (y.log_keys', (y.log_values', tt))))
    pub load_passed : y.loaded.refusal ≡ 0
    pub machine : MachineLog y.log_keys.now y.log_values.now y.brought

  module _ (h : KeepsLogCalls) where
    -- store is accepted as the definition is
    stored_well : store_log_refusal m s y.log_keys.now y.log_values.now y.brought y.in_force y.buffer.now ≡ 0
    unfolding store_log
    stored_well = sym (ap (λ (r : Counted). r.refusal) h.store.0) ∙ h.store_passed

    -- the file is what it leaves
    abbrev stored_file : List ℕ
    stored_file =
        take (store_log m s y.log_keys.now y.log_values.now y.brought y.in_force y.buffer.now).count
        (store_log_file m s y.log_keys.now y.log_values.now y.brought y.in_force y.buffer.now)

    file_is : y.file.now ≡ stored_file
    file_is = h.same_file ∙ (λ i. take (h.store.0 i).count (h.store.1 i))

    loaded_well : load_log_refusal y.file.now y.log_keys₂.now y.log_values₂.now ≡ 0
    unfolding load_log
    loaded_well = sym (ap (λ (r : LoadedLog). r.refusal) h.load.0) ∙ h.load_passed

    -- what the definitions say of their own file holds of the one that was loaded
    of_file : (Holds : List ℕ → Type 0)
        → (load_log_refusal stored_file y.log_keys₂.now y.log_values₂.now ≡ 0 → Holds stored_file)
        → Holds y.file.now
    of_file Holds h₂ =
        subst Holds (sym file_is) (h₂ (ap (λ (f : List ℕ). load_log_refusal f y.log_keys₂.now y.log_values₂.now) (sym file_is) ∙ loaded_well))

    -- so the log is brought along
    pub log_step : LogBrought y.log_keys.now y.log_values.now y.brought y.log_keys' y.log_values'
    log_step =
        rw (h.load.1.0, h.load.1.1)
        (of_file
        (λ (f : List ℕ).
        LogBrought y.log_keys.now y.log_values.now y.brought (load_log_keys f y.log_keys₂.now y.log_values₂.now)
        (load_log_values f y.log_keys₂.now y.log_values₂.now))
        (log_brought m s y.log_keys.now y.log_values.now y.brought y.in_force y.buffer.now stored_well h.machine y.log_keys₂.now
        y.log_values₂.now))

    -- with both counts
    pub counts_step : (y.loaded.used ≡ y.brought) × (y.loaded.in_force ≡ y.in_force)
    counts_step =
        rw h.load.0
        (of_file
        (λ (f : List ℕ).
        ((load_log f y.log_keys₂.now y.log_values₂.now).used ≡ y.brought)
        × ((load_log f y.log_keys₂.now y.log_values₂.now).in_force ≡ y.in_force))
        (counts_brought m s y.log_keys.now y.log_values.now y.brought y.in_force y.buffer.now stored_well h.machine y.log_keys₂.now
        y.log_values₂.now))

-- a rest by the five calls: nothing is left to ask, where the log that was stored is that of the rest, and it goes on with what was loaded
pub rest_by_files : (m s : ℕ) (x : Rest) (y : LogRest) → KeepsCalls m s x → KeepsLogCalls m s y → x.log_keys ≡ y.log_keys.now → x.log_values ≡ y.log_values.now
    → x.log_keys' ≡ y.log_keys'
    → x.log_values' ≡ y.log_values'
    → KeepsRest m s x y.brought
rest_by_files m s x y calls log keys values keys' values' = record { calls = calls; log = rw (keys, values, keys', values') (log_step m s y log) }
