-- Histories with rests are tied to the C calls: the claim holds of an accepted hlq_build, or of an accepted hlq_fill_summary of any list, an emptied log,
-- and any edits and rests after it that keep their contracts. Rests on HistorySteps and RestSteps, and on the Theorem of rests.
use Prim.Native.Nat.{ℕ, suc, ◌-◌, ◌/◌, ◌^◌, ◌≤◌}
use mathlib.Core.Path.{◌≡◌, refl, sym, ap, subst, ◌∙◌}
use mathlib.Core.List.{List, [], ◌∷◌, ◌++◌, map}
use contract.Lifetimes.{Lfts}
use denote.Triple.Clauses.{at_exit}
use denote.Triple.Entry.{Args}
use Rattle.definitions.specs.Calls.FillSummary.{fill_refusal, fill_summary}
use Rattle.definitions.specs.Calls.Survey.{survey_refusal}
use Rattle.definitions.specs.declared.Counted.{Counted}
use Rattle.definitions.specs.declared.Done.{Done}
use Rattle.definitions.specs.declared.Emptied.{Emptied}
use Rattle.history.specs.History.{Call, Buffers, built, after_calls}
use Rattle.rests.specs.Events.{Event, calling, resting, resting_short, Rested, LentSlices, list_room, Reached, begins, after_event, after_events, AllMay}
use Rattle.rests.specs.AsLeft.{AsLeft}
use Rattle.rests.specs.Starts.{HasList, raster_shown, found, filled_from}
use Rattle.rests.specs.Roomy.{AllKeepRoom, AsBuiltLast}
use Rattle.rests.proofs.Run.{calls_buffers, calls_may, events-append, may-append}
use Rattle.rests.proofs.Theorem.{across_rests, across_roomy_rests, from_a_list, from_a_list_roomy}
use Rattle.rests.proofs.Exactly.{with_ample_room}
use Rattle.rests.proofs.FromCalls.{filled_begins}
use Rattle.prowcurl.proofs.HistorySteps.{Slice, MutSlice, Ran, ran_is, Built, start, build_refusal, build_start}
use Rattle.prowcurl.proofs.RestSteps.{Rest, rest_leaves, comes, KeepsRest, rest_step}
use Rattle.prowcurl.proofs.edits.hlq_empty.Reads as empty-reads
use Rattle.prowcurl.specs.contracts.areas.hlq_fill_summary as fill
use Rattle.prowcurl.proofs.areas.hlq_fill_summary.Reads as fill-reads

-- calls and rests one after the other, each of which keeps its contracts and was lent what the one before it left
pub data Happened (m s : ℕ) : Buffers → List Event → Buffers → Type 0 where
  over : {b : Buffers} → Happened m s b [] b
  by_calls : {b b' b'' : Buffers} {es : List Event} (cs : List Call) → Ran m s b cs b' → Happened m s b' es b'' → Happened m s b (map calling cs ++ es) b''
  by_rest : {b' : Buffers} {es : List Event} (x : Rest) → KeepsRest m s x x.used → Happened m s (comes x x.used) es b'
      → Happened m s (rest_leaves x) (resting (comes x x.used) ∷ es) b'
  by_short_rest : {b' : Buffers} {es : List Event} (x : Rest) → KeepsRest m s x x.in_force → Happened m s (comes x x.in_force) es b'
      → Happened m s (rest_leaves x) (resting_short (comes x x.in_force) ∷ es) b'

-- they may happen, and lead where the events lead
pub record Leads (m s : ℕ) (t : Reached) (es : List Event) (b : Buffers) : Type 0 where
  pub may : AllMay m s t es
  pub leads : (after_events m s t es).buffers ≡ b

module _ (m s : ℕ) where
  -- with no events all stays
  leads_over : (t : Reached) (b : Buffers) → t.buffers ≡ b → Leads m s t [] b
  unfolding after_events AllMay
  leads_over t b e = record { may = tt; leads = e }

  -- calls first
  leads_calls : (t : Reached) (cs : List Call) (es : List Event) (b : Buffers) → Leads m s (after_events m s t (map calling cs)) es b → Leads m s t (map calling cs ++ es) b
  leads_calls t cs es b h =
      record {
        may = may-append m s t (map calling cs) es (calls_may m s t cs) h.may;
        leads = ap (λ u. u.buffers) (events-append m s t (map calling cs) es) ∙ h.leads;
      }

  -- a rest first
  leads_rest : (t : Reached) (to : Buffers) (es : List Event) (b : Buffers) → Rested m s t.buffers t.buffers.used to → Leads m s (after_event m s t (resting to)) es b
      → Leads m s t (resting to ∷ es) b
  unfolding after_events AllMay
  leads_rest t to es b r h = record { may = (r, h.may); leads = h.leads }

  leads_short : (t : Reached) (to : Buffers) (es : List Event) (b : Buffers) → Rested m s t.buffers t.buffers.in_force to
      → Leads m s (after_event m s t (resting_short to)) es b
      → Leads m s t (resting_short to ∷ es) b
  unfolding after_events AllMay
  leads_short t to es b r h = record { may = (r, h.may); leads = h.leads }

  rest_buffers : (t : Reached) (to : Buffers) → (after_event m s t (resting to)).buffers ≡ to
  unfolding after_event
  rest_buffers t to = refl

  short_buffers : (t : Reached) (to : Buffers) → (after_event m s t (resting_short to)).buffers ≡ to
  unfolding after_event
  short_buffers t to = refl

  pub happened_leads : {b b' : Buffers} {es : List Event} → Happened m s b es b' → (t : Reached) → t.buffers ≡ b → Leads m s t es b'
  happened_leads {b} over t e = leads_over t b e
  happened_leads {b' = b'} (by_calls {es = es} cs ran rest) t e =
      leads_calls t cs es b'
      (happened_leads rest (after_events m s t (map calling cs))
      (calls_buffers m s t cs ∙ ap (λ (b : Buffers). after_calls m s b cs) e ∙ sym (ran_is m s ran)))
  happened_leads {b' = b'} (by_rest {es = es} x kept rest) t e =
      leads_rest t (comes x x.used) es b'
      (subst (λ (b : Buffers). Rested m s b b.used (comes x x.used)) (sym e) (rest_step m s x x.used kept))
      (happened_leads rest (after_event m s t (resting (comes x x.used))) (rest_buffers t (comes x x.used)))
  happened_leads {b' = b'} (by_short_rest {es = es} x kept rest) t e =
      leads_short t (comes x x.in_force) es b'
      (subst (λ (b : Buffers). Rested m s b b.in_force (comes x x.in_force)) (sym e) (rest_step m s x x.in_force kept))
      (happened_leads rest (after_event m s t (resting_short (comes x x.in_force))) (short_buffers t (comes x x.in_force)))

-- a claim of b: it holds where the history stands, and there b are the buffers
pub record ClaimedOf (Claim : Reached → Type 0) (t : Reached) (b : Buffers) : Type 0 where
  pub stands_in : t.buffers ≡ b
  pub claimed : Claim t

-- hlq_build was lent these slices, answers r, and leaves the lists keys', bits' and summary'; hlq_empty answers e for any two slices of a log
module _ (m s : ℕ) (κs : Lfts 4) (raster : Slice) (keys bits summary : MutSlice) (r : Counted) (keys' bits' summary' : List ℕ) (κs₀ : Lfts 0) (e : Emptied)
    (log_keys log_values : List ℕ) where
  abbrev lent_first : LentSlices
  lent_first = record { keys = keys.now; bits = bits.now; summary = summary.now; log_keys = log_keys; log_values = log_values }

  -- what the caller has then
  abbrev first : Buffers
  first = start m s κs raster keys bits summary r keys' bits' summary' κs₀ e log_keys log_values

  module _ (h : Built m s κs raster keys bits summary r keys' bits' summary' κs₀ e log_keys log_values) (passed : r.refusal ≡ 0) (es : List Event) (b : Buffers)
      (happened : Happened m s first es b) where
    build_accepted : survey_refusal m s raster.now keys.now bits.now summary.now ≡ 0
    build_accepted = sym (build_refusal m s κs raster keys bits summary r keys' bits' summary' κs₀ e log_keys log_values h) ∙ passed

    -- what holds of the definition's buffers holds of the caller's
    of_first : (Holds : Buffers → Type 0) → Holds (built m s raster.now keys.now bits.now summary.now log_keys log_values) → Holds first
    of_first Holds = subst Holds (sym (build_start m s κs raster keys bits summary r keys' bits' summary' κs₀ e log_keys log_values h))

    led : Leads m s (begins lent_first first) es b
    led = happened_leads m s happened (begins lent_first first) refl

    -- after an accepted build, and any calls and rests
    pub calls_across_rests : ClaimedOf (AsLeft m s raster.now) (after_events m s (begins lent_first first) es) b
    calls_across_rests =
        record {
          stands_in = led.leads;
          claimed =
              of_first (λ (b : Buffers). AllMay m s (begins lent_first b) es → AsLeft m s raster.now (after_events m s (begins lent_first b) es))
              (across_rests m s raster.now lent_first build_accepted es)
              led.may;
        }

    -- it is demand 3's own claim where no rest led to slices with less room
    pub calls_across_roomy_rests : AllKeepRoom m s (begins lent_first first) es → ClaimedOf (AsBuiltLast m s raster.now) (after_events m s (begins lent_first first) es) b
    calls_across_roomy_rests more =
        record {
          stands_in = led.leads;
          claimed =
              of_first
              (λ (b : Buffers).
              AllMay m s (begins lent_first b) es
              → AllKeepRoom m s (begins lent_first b) es
              → AsBuiltLast m s raster.now (after_events m s (begins lent_first b) es))
              (across_roomy_rests m s raster.now lent_first build_accepted es)
              led.may
              more;
        }

-- hlq_fill_summary was lent a list, whoever left it there, and a summary, answers d, and leaves summary'; hlq_empty answers e
module _ (m s : ℕ) (κs : Lfts 3) (keys bits : Slice) (n : ℕ) (summary : MutSlice) (d : Done) (summary' : List ℕ) (κs₀ : Lfts 0) (e : Emptied) (log_keys log_values : List ℕ) where
  abbrev given_fill : Args fill.signature κs
  given_fill = (m, (s, (keys, (bits, (n, (summary, tt))))))

  -- both keep their contracts
  pub record Filled : Type 0 where
    pub fill : fill-reads.Learnt κs given_fill d (at_exit fill.ended κs given_fill (tt, (tt, (tt, (tt, (tt, (summary', tt)))))))
    pub empty : empty-reads.Learnt κs₀ tt e tt

  -- what the caller has then
  abbrev pub has : Buffers
  has =
      record {
        keys = keys.now;
        bits = bits.now;
        n = n;
        summary = summary';
        log_keys = log_keys;
        log_values = log_values;
        used = e.used;
        in_force = e.in_force;
      }

  module _ (h : Filled) (passed : d.refusal ≡ 0) (es : List Event) (b : Buffers) (happened : Happened m s has es b) where
    has_is : has ≡ filled_from m s keys.now bits.now n summary.now log_keys log_values
    has_is =
        λ i. record {
          keys = keys.now;
          bits = bits.now;
          n = n;
          summary = h.fill.1 i;
          log_keys = log_keys;
          log_values = log_values;
          used = (h.empty i).used;
          in_force = (h.empty i).in_force;
        }

    fill_accepted : fill_refusal m s keys.now bits.now n summary.now ≡ 0
    unfolding fill_summary
    fill_accepted = sym (ap (λ (x : Done). x.refusal) h.fill.0) ∙ passed

    has_list : HasList m s has
    has_list = subst (λ (b : Buffers). HasList m s b) (sym has_is) (filled_begins summary.now log_keys log_values m s keys.now bits.now n fill_accepted)

    led_on : Leads m s (found has) es b
    led_on = happened_leads m s happened (found has) refl

    -- after an accepted filling, and any calls and rests, by the raster that the list shows
    pub calls_from_a_list : ClaimedOf (AsLeft m s (raster_shown m has)) (after_events m s (found has) es) b
    calls_from_a_list = record { stands_in = led_on.leads; claimed = from_a_list m s has has_list es led_on.may }

    pub calls_from_a_list_roomy : AllKeepRoom m s (found has) es → ClaimedOf (AsBuiltLast m s (raster_shown m has)) (after_events m s (found has) es) b
    calls_from_a_list_roomy more = record { stands_in = led_on.leads; claimed = from_a_list_roomy m s has has_list es led_on.may more }

-- in slices with HLQ_MOST_RECORDS places it is demand 3's own claim too, whatever room there was before
pub calls_with_ample_room : {m s : ℕ} {raster : List ℕ} (t : Reached) (b : Buffers) → ClaimedOf (AsLeft m s raster) t b → (4 ^ suc m - 1) / 3 ≤ list_room t.lent
    → ClaimedOf (AsBuiltLast m s raster) t b
calls_with_ample_room t b h ample = record { stands_in = h.stands_in; claimed = with_ample_room t h.claimed ample }
