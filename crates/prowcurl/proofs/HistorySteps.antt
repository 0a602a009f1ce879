-- Demand 3 is tied to the C calls: a call that keeps its contract, as it stands in src/, takes the history's step. The refusal is the step's `answer`, and
-- slices and counts are afterwards the step's `after`; an accepted build and an emptied log are where histories begin. Rests on
-- the contracts, and at the end on the theorem of history.
use Prim.Native.Nat.{ℕ}
use mathlib.Core.Path.{◌≡◌, refl, sym, ap, ◌∙◌, subst}
use mathlib.Core.List.{List, [], ◌∷◌}
use contract.Lifetimes.{Lfts}
use denote.Ref.{Bor, MutBor}
use denote.Triple.Clauses.{at_exit}
use denote.Triple.Entry.{Args}
use Rattle.definitions.specs.Refusal.{accepted}
use Rattle.definitions.specs.Calls.Survey.{survey_refusal, survey}
use Rattle.definitions.specs.Calls.Edit.{edit_answer}
use Rattle.definitions.specs.declared.Counted.{Counted}
use Rattle.definitions.specs.declared.Window.{Window}
use Rattle.definitions.specs.declared.Edited.{Edited}
use Rattle.definitions.specs.declared.Emptied.{Emptied}
use Rattle.history.specs.History.{Call, of_block, of_window, painting, taking_back, redoing, emptying, Buffers, built, answer, after, after_calls, kept, nothing, longest_list, longest_log}
use Rattle.history.specs.Claim.{AsBuilt}
use Rattle.history.proofs.Theorem.{history}
use Rattle.prowcurl.specs.contracts.lists.hlq_build as build
use Rattle.prowcurl.proofs.lists.hlq_build.Reads as build-reads
use Rattle.prowcurl.specs.contracts.edits.hlq_paint as paint
use Rattle.prowcurl.proofs.edits.hlq_paint.Reads as paint-reads
use Rattle.prowcurl.specs.contracts.edits.hlq_paint_window as paint-window
use Rattle.prowcurl.proofs.edits.hlq_paint_window.Reads as paint-window-reads
use Rattle.prowcurl.specs.contracts.edits.hlq_take_back as take_back
use Rattle.prowcurl.proofs.edits.hlq_take_back.Reads as take-back-reads
use Rattle.prowcurl.specs.contracts.edits.hlq_redo as redo
use Rattle.prowcurl.proofs.edits.hlq_redo.Reads as redo-reads
use Rattle.prowcurl.proofs.edits.hlq_empty.Reads as empty-reads

-- a slice as it is lent to be read, and one as it is lent to be written: `now` is its content
abbrev pub Slice : Type 0
Slice = Bor (List ℕ)

abbrev pub MutSlice : Type 0
MutSlice = MutBor (List ℕ)

-- a call at m and s that answers with this refusal takes the history's step c from the buffers b to b'
pub record CallSteps (m s : ℕ) (b : Buffers) (c : Call) (refusal : ℕ) (b' : Buffers) : Type 0 where
  pub refused : refusal ≡ answer m s b c
  pub left : b' ≡ after m s b c

-- one call of an edit: the slices and counts that it was lent, its answer, and the lists that it leaves in the slices
pub record EditCall : Type 0 where
  pub κs : Lfts 5
  pub keys : MutSlice
  pub bits : MutSlice
  pub n : ℕ
  pub summary : MutSlice
  pub log_keys : MutSlice
  pub log_values : MutSlice
  pub used : ℕ
  pub in_force : ℕ
  pub result : Edited
  pub keys' : List ℕ
  pub bits' : List ℕ
  pub summary' : List ℕ
  pub log_keys' : List ℕ
  pub log_values' : List ℕ

-- what the caller had
abbrev before : EditCall → Buffers
before x =
    record {
      keys = x.keys.now;
      bits = x.bits.now;
      n = x.n;
      summary = x.summary.now;
      log_keys = x.log_keys.now;
      log_values = x.log_values.now;
      used = x.used;
      in_force = x.in_force;
    }

-- what he has with these slices and this answer: its counts if it is accepted, and else his own
abbrev counted : EditCall → Edited → (keys bits summary log_keys log_values : List ℕ) → Buffers
counted x r keys bits summary log_keys log_values =
    record {
      keys = keys;
      bits = bits;
      n = accepted r.refusal r.n x.n;
      summary = summary;
      log_keys = log_keys;
      log_values = log_values;
      used = accepted r.refusal r.used x.used;
      in_force = accepted r.refusal r.in_force x.in_force;
    }

-- what he has after the call
abbrev pub afterwards : EditCall → Buffers
afterwards x = counted x x.result x.keys' x.bits' x.summary' x.log_keys' x.log_values'

module _ (m s : ℕ) (x : EditCall) where
  -- the contract of hlq_paint holds of the call
  abbrev pub KeepsPaint : (κ f : ℕ) → Type 0
  KeepsPaint κ f =
      let lent : Args paint.signature x.κs = (m, (s, (x.keys, (x.bits, (x.n, (x.summary, (x.log_keys, (x.log_values, (x.used, (x.in_force, (κ, (f, tt)))))))))))) in
      paint-reads.Learnt x.κs lent x.result
      (at_exit paint.ended x.κs lent (tt, (tt, (x.keys', (x.bits', (tt, (x.summary', (x.log_keys', (x.log_values', (tt, (tt, (tt, (tt, tt)))))))))))))

  -- it gives the step of a paint
  pub paint_step : (κ f : ℕ) → KeepsPaint κ f → CallSteps m s (before x) (painting (of_block κ f)) x.result.refusal (afterwards x)
  unfolding answer after edit_answer
  paint_step κ f kept =
      record {
        refused = ap (λ (r : Edited). r.refusal) kept.answer;
        left = λ i. counted x (kept.answer i) (kept.keys_are i) (kept.bits_are i) (kept.summary_is i) (kept.log_keys_are i) (kept.log_values_are i);
      }

  -- that of hlq_paint_window
  abbrev pub KeepsPaintWindow : (w : Window) (f : ℕ) → Type 0
  KeepsPaintWindow w f =
      let lent : Args paint-window.signature x.κs =
      (m, (s, (x.keys, (x.bits, (x.n, (x.summary, (x.log_keys, (x.log_values, (x.used, (x.in_force, (w.row, (w.column, (w.height, (w.width, (f, tt))))))))))))))) in
      paint-window-reads.Learnt x.κs lent x.result
      (at_exit paint-window.ended x.κs lent
      (tt, (tt, (x.keys', (x.bits', (tt, (x.summary', (x.log_keys', (x.log_values', (tt, (tt, (tt, (tt, (tt, (tt, (tt, tt))))))))))))))))

  -- it gives the step of a paint of a window
  pub paint_window_step : (w : Window) (f : ℕ) → KeepsPaintWindow w f → CallSteps m s (before x) (painting (of_window w f)) x.result.refusal (afterwards x)
  unfolding answer after edit_answer
  paint_window_step w f kept =
      record {
        refused = ap (λ (r : Edited). r.refusal) kept.answer;
        left = λ i. counted x (kept.answer i) (kept.keys_are i) (kept.bits_are i) (kept.summary_is i) (kept.log_keys_are i) (kept.log_values_are i);
      }

  -- that of hlq_take_back
  abbrev pub KeepsTakeBack : Type 0
  KeepsTakeBack =
      let lent : Args take_back.signature x.κs = (m, (s, (x.keys, (x.bits, (x.n, (x.summary, (x.log_keys, (x.log_values, (x.used, (x.in_force, tt)))))))))) in
      take-back-reads.Learnt x.κs lent x.result
      (at_exit take_back.ended x.κs lent (tt, (tt, (x.keys', (x.bits', (tt, (x.summary', (x.log_keys', (x.log_values', (tt, (tt, tt)))))))))))

  -- gives the step of a taking back
  pub take-back_step : KeepsTakeBack → CallSteps m s (before x) taking_back x.result.refusal (afterwards x)
  unfolding answer after edit_answer
  take-back_step kept =
      record {
        refused = ap (λ (r : Edited). r.refusal) kept.answer;
        left = λ i. counted x (kept.answer i) (kept.keys_are i) (kept.bits_are i) (kept.summary_is i) (kept.log_keys_are i) (kept.log_values_are i);
      }

  -- that of hlq_redo
  abbrev pub KeepsRedo : Type 0
  KeepsRedo =
      let lent : Args redo.signature x.κs = (m, (s, (x.keys, (x.bits, (x.n, (x.summary, (x.log_keys, (x.log_values, (x.used, (x.in_force, tt)))))))))) in
      redo-reads.Learnt x.κs lent x.result
      (at_exit redo.ended x.κs lent (tt, (tt, (x.keys', (x.bits', (tt, (x.summary', (x.log_keys', (x.log_values', (tt, (tt, tt)))))))))))

  -- gives the step of a redo
  pub redo_step : KeepsRedo → CallSteps m s (before x) redoing x.result.refusal (afterwards x)
  unfolding answer after edit_answer
  redo_step kept =
      record {
        refused = ap (λ (r : Edited). r.refusal) kept.answer;
        left = λ i. counted x (kept.answer i) (kept.keys_are i) (kept.bits_are i) (kept.summary_is i) (kept.log_keys_are i) (kept.log_values_are i);
      }

-- hlq_empty is lent nothing and never refuses: the caller keeps his slices and takes its two counts
abbrev pub with_counts : Buffers → Emptied → Buffers
with_counts b r =
    record {
      keys = b.keys;
      bits = b.bits;
      n = b.n;
      summary = b.summary;
      log_keys = b.log_keys;
      log_values = b.log_values;
      used = r.used;
      in_force = r.in_force;
    }

-- its contract gives the step of an emptying
pub empty_step : (m s : ℕ) (b : Buffers) (κs : Lfts 0) (r : Emptied) → empty-reads.Learnt κs tt r tt → CallSteps m s b emptying 0 (with_counts b r)
unfolding answer after
empty_step m s b κs r kept = record { refused = refl; left = ap (with_counts b) kept }

-- calls one after the other, each of which keeps its contract and was lent what the one before it left
pub data Ran (m s : ℕ) : Buffers → List Call → Buffers → Type 0 where
  done : {b : Buffers} → Ran m s b [] b
  by_paint : {b' : Buffers} {cs : List Call} (x : EditCall) (κ f : ℕ) → KeepsPaint m s x κ f → Ran m s (afterwards x) cs b' → Ran m s (before x) (painting (of_block κ f) ∷ cs) b'
  by_paint_window : {b' : Buffers} {cs : List Call} (x : EditCall) (w : Window) (f : ℕ) → KeepsPaintWindow m s x w f → Ran m s (afterwards x) cs b'
      → Ran m s (before x) (painting (of_window w f) ∷ cs) b'
  by_take_back : {b' : Buffers} {cs : List Call} (x : EditCall) → KeepsTakeBack m s x → Ran m s (afterwards x) cs b' → Ran m s (before x) (taking_back ∷ cs) b'
  by_redo : {b' : Buffers} {cs : List Call} (x : EditCall) → KeepsRedo m s x → Ran m s (afterwards x) cs b' → Ran m s (before x) (redoing ∷ cs) b'
  by_empty : {b b' : Buffers} {cs : List Call} (κs : Lfts 0) (r : Emptied) → empty-reads.Learnt κs tt r tt → Ran m s (with_counts b r) cs b' → Ran m s b (emptying ∷ cs) b'

-- they lead where the history's run leads
module _ (m s : ℕ) where
  further : {b b' b'' : Buffers} {c : Call} {refusal : ℕ} (cs : List Call) → CallSteps m s b c refusal b' → b'' ≡ after_calls m s b' cs → b'' ≡ after_calls m s b (c ∷ cs)
  unfolding after_calls
  further cs step rest = rest ∙ ap (λ (b : Buffers). after_calls m s b cs) step.left

  pub ran_is : {b b' : Buffers} {cs : List Call} → Ran m s b cs b' → b' ≡ after_calls m s b cs
  unfolding after_calls
  ran_is done = refl
  ran_is (by_paint {cs = cs} x κ f kept rest) = further cs (paint_step m s x κ f kept) (ran_is rest)
  ran_is (by_paint_window {cs = cs} x w f kept rest) = further cs (paint_window_step m s x w f kept) (ran_is rest)
  ran_is (by_take_back {cs = cs} x kept rest) = further cs (take-back_step m s x kept) (ran_is rest)
  ran_is (by_redo {cs = cs} x kept rest) = further cs (redo_step m s x kept) (ran_is rest)
  ran_is (by_empty {b = b} {cs = cs} κs r kept rest) = further cs (empty_step m s b κs r kept) (ran_is rest)

-- hlq_build was lent these slices, answers r, and leaves the lists keys', bits' and summary'; hlq_empty answers e for any two slices of a log
module _ (m s : ℕ) (κs : Lfts 4) (raster : Slice) (keys bits summary : MutSlice) (r : Counted) (keys' bits' summary' : List ℕ) (κs₀ : Lfts 0) (e : Emptied)
    (log_keys log_values : List ℕ) where
  abbrev pub build_lent : Args build.signature κs
  build_lent = (m, (s, (raster, (keys, (bits, (summary, tt))))))

  -- both keep their contracts
  pub record Built : Type 0 where
    pub build : build-reads.Learnt κs build_lent r (at_exit build.ended κs build_lent (tt, (tt, (tt, (keys', (bits', (summary', tt)))))))
    pub empty : empty-reads.Learnt κs₀ tt e tt

  -- what the caller has
  abbrev pub start : Buffers
  start =
      record {
        keys = keys';
        bits = bits';
        n = r.count;
        summary = summary';
        log_keys = log_keys;
        log_values = log_values;
        used = e.used;
        in_force = e.in_force;
      }

  -- build is refused as the history's is
  pub build_refusal : Built → r.refusal ≡ survey_refusal m s raster.now keys.now bits.now summary.now
  unfolding survey
  build_refusal h = ap (λ (x : Counted). x.refusal) h.build.0

  -- and the caller's buffers are those with which a history begins
  pub build_start : Built → start ≡ built m s raster.now keys.now bits.now summary.now log_keys log_values
  unfolding built
  build_start h =
      λ i. record {
        keys = h.build.1.0 i;
        bits = h.build.1.1.0 i;
        n = (h.build.0 i).count;
        summary = h.build.1.1.1 i;
        log_keys = log_keys;
        log_values = log_values;
        used = (h.empty i).used;
        in_force = (h.empty i).in_force;
      }

  -- so demand 3 holds of the calls: an accepted build, and any run of edits after it
  pub calls_history : Built → r.refusal ≡ 0 → (calls : List Call) (b : Buffers) → Ran m s start calls b
      → AsBuilt m s raster.now keys.now bits.now summary.now log_keys log_values b (kept m s start nothing calls) (longest_list m s start calls)
      (longest_log m s start calls)
  calls_history h passed calls b ran =
      let claim : Buffers → Buffers → Type 0 = λ first last. AsBuilt m s raster.now keys.now bits.now summary.now log_keys log_values last
      (kept m s first nothing calls) (longest_list m s first calls) (longest_log m s first calls) in
      subst (claim start) (sym (ran_is m s ran))
      (subst (λ (first : Buffers). claim first (after_calls m s first calls)) (sym (build_start h))
      (history m s raster.now keys.now bits.now summary.now log_keys log_values (sym (build_refusal h) ∙ passed) calls))
