-- A rest is tied to the C calls: calls of hlq_store, hlq_load and hlq_fill_summary that keep their contracts, as they stand in src/, and are accepted,
-- lead where a rest may lead, if the log's records were brought along. Rests on the contracts, and on CallsRest.
use Prim.Native.Nat.{ℕ}
use mathlib.Core.Path.{◌≡◌, ◌∙◌}
use mathlib.Core.List.{List}
use lib.ListN.{take}
use contract.Lifetimes.{Lfts}
use denote.Triple.Clauses.{at_exit}
use denote.Triple.Entry.{Args}
use Rattle.definitions.specs.Calls.FillSummary.{fill_summary, filled_summary}
use Rattle.definitions.specs.declared.Counted.{Counted}
use Rattle.definitions.specs.declared.Loaded.{Loaded}
use Rattle.definitions.specs.declared.Done.{Done}
use Rattle.history.specs.History.{Buffers}
use Rattle.rests.specs.Events.{LogBrought, Rested, LentSlices}
use Rattle.rests.specs.ByFile.{RestCalls}
use Rattle.rests.proofs.CallsRest.{calls_rest}
use Rattle.prowcurl.proofs.HistorySteps.{Slice, MutSlice}
use Rattle.prowcurl.specs.contracts.files.hlq_store as store
use Rattle.prowcurl.proofs.files.hlq_store.Reads as store-reads
use Rattle.prowcurl.specs.contracts.files.hlq_load as load
use Rattle.prowcurl.proofs.files.hlq_load.Reads as load-reads
use Rattle.prowcurl.specs.contracts.areas.hlq_fill_summary as fill
use Rattle.prowcurl.proofs.areas.hlq_fill_summary.Reads as fill-reads

-- the calls of one rest: what each was lent, its answer, and what it left; and the log in its old and its new slices
pub record Rest : Type 0 where
  -- store
  pub κs : Lfts 3
  pub keys : Slice
  pub bits : Slice
  pub n : ℕ
  pub buffer : MutSlice
  pub stored : Counted
  pub buffer' : List ℕ
  -- load
  pub κs₂ : Lfts 3
  pub file : Slice
  pub keys₂ : MutSlice
  pub bits₂ : MutSlice
  pub loaded : Loaded
  pub keys' : List ℕ
  pub bits' : List ℕ
  -- fill
  pub κs₃ : Lfts 3
  pub keys₃ : Slice
  pub bits₃ : Slice
  pub summary₃ : MutSlice
  pub filled : Done
  pub summary' : List ℕ
  -- what was not stored
  pub summary : List ℕ
  pub log_keys : List ℕ
  pub log_values : List ℕ
  pub used : ℕ
  pub in_force : ℕ
  pub log_keys' : List ℕ
  pub log_values' : List ℕ

-- what the caller had
abbrev pub rest_leaves : Rest → Buffers
rest_leaves x =
    record {
      keys = x.keys.now;
      bits = x.bits.now;
      n = x.n;
      summary = x.summary;
      log_keys = x.log_keys;
      log_values = x.log_values;
      used = x.used;
      in_force = x.in_force;
    }

-- what he has afterwards, with so many records of the log
abbrev pub comes : Rest → ℕ → Buffers
comes x brought =
    record {
      keys = x.keys';
      bits = x.bits';
      n = x.loaded.n;
      summary = x.summary';
      log_keys = x.log_keys';
      log_values = x.log_values';
      used = brought;
      in_force = x.in_force;
    }

module _ (m s : ℕ) (x : Rest) where
  abbrev store_lent : Args store.signature x.κs
  store_lent = (m, (s, (x.keys, (x.bits, (x.n, (x.buffer, tt))))))

  abbrev load_lent : Args load.signature x.κs₂
  load_lent = (x.file, (x.keys₂, (x.bits₂, tt)))

  abbrev fill_lent : Args fill.signature x.κs₃
  fill_lent = (m, (s, (x.keys₃, (x.bits₃, (x.loaded.n, (x.summary₃, tt))))))

  -- the three calls keep their contracts and are accepted, load is lent the bytes that store left, and fill what load left
  pub record KeepsCalls : Type 0 where
    pub store : store-reads.Learnt x.κs store_lent x.stored (at_exit store.ended x.κs store_lent (tt, (tt, (tt, (tt, (tt, (x.buffer', tt)))))))
    pub store_passed : x.stored.refusal ≡ 0
    pub same_file : x.file.now ≡ take x.stored.count x.buffer'
    pub load : load-reads.Learnt x.κs₂ load_lent x.loaded (at_exit load.ended x.κs₂ load_lent (tt, (x.keys', (x.bits', tt))))
    pub load_passed : x.loaded.refusal ≡ 0
    pub same_keys : x.keys₃.now ≡ x.keys'
    pub same_bits : x.bits₃.now ≡ x.bits'
    pub fill : fill-reads.Learnt x.κs₃ fill_lent x.filled (at_exit fill.ended x.κs₃ fill_lent (tt, (tt, (tt, (tt, (tt, (x.summary', tt)))))))
    pub fill_passed : x.filled.refusal ≡ 0

  -- and so many records of the log were brought along
  pub record KeepsRest (brought : ℕ) : Type 0 where
    pub calls : KeepsCalls
    pub log : LogBrought x.log_keys x.log_values brought x.log_keys' x.log_values'

  -- they lead where a rest may lead
  pub rest_step : (brought : ℕ) → KeepsRest brought → Rested m s (rest_leaves x) brought (comes x brought)
  rest_step brought kept =
      let h = kept.calls in
      let lent : LentSlices = record { keys = x.keys₂.now; bits = x.bits₂.now; summary = x.summary₃.now; log_keys = x.log_keys'; log_values = x.log_values' } in
      let calls : RestCalls m s (rest_leaves x) x.buffer.now lent =
      record {
        stored = x.stored;
        buffer' = x.buffer';
        store_answer = h.store.0;
        store_leaves = h.store.1;
        store_passed = h.store_passed;
        file = x.file.now;
        same_file = h.same_file;
        loaded = x.loaded;
        keys' = x.keys';
        bits' = x.bits';
        load_answer = h.load.0;
        load-keys = h.load.1.0;
        load-bits = h.load.1.1;
        load_passed = h.load_passed;
        filled = x.filled;
        summary' = x.summary';
        fill_answer = h.fill.0 ∙ (λ i. fill_summary m s (h.same_keys i) (h.same_bits i) x.loaded.n x.summary₃.now);
        fill_leaves = h.fill.1 ∙ (λ i. filled_summary m s (h.same_keys i) (h.same_bits i) x.loaded.n x.summary₃.now);
        fill_passed = h.fill_passed;
      } in
      calls_rest calls x.log_keys' x.log_values' brought kept.log
