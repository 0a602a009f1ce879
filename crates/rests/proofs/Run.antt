-- A history with rests keeps the invariant: every call and every rest does. Where no rest leads to slices with less room, no slices had more room than
-- those lent last; and events that are calls alone are a history's run. Rests on RestStep and history's Theorem.
use Prim.Native.Nat.{ℕ, ◌≤◌}
use mathlib.Core.Path.{◌≡◌, refl}
use mathlib.Core.Bool.{false}
use mathlib.Core.List.{List, [], ◌∷◌, ◌++◌, map}
use native.Mathlib.Omega.{arith}
use borrow.Author.Tests.{eq-eqb}
use Rattle.definitions.specs.Picture.{Picture}
use Rattle.definitions.specs.Read.{records_of, picture_of}
use Rattle.definitions.specs.Area.{summary_of, bad_summary_length}
use Rattle.laws.proofs.SummaryOf.{summary-length}
use Rattle.history.specs.History.{Call, Buffers, after_calls, kept}
use Rattle.history.proofs.Invariant.{Invariant}
use Rattle.history.proofs.Theorem.{call_keeps}
use Rattle.rests.specs.Events.{Event, calling, resting, resting_short, Rested, MayHappen, Reached, list_room, after_event, after_events, AllMay}
use Rattle.rests.specs.Roomy.{KeepsRoom, AllKeepRoom}
use Rattle.rests.proofs.RestStep.{rest_keeps, short_keeps}

-- the invariant holds in the slices lent last, and their summary has its length
pub record RestStands (m s : ℕ) (p : Picture) (t : Reached) : Type 0 where
  pub holds : Invariant m s t.largest p t.lent.keys t.lent.bits t.lent.log_keys t.lent.log_values t.buffers t.paints t.in_list t.in_log
  pub sized : bad_summary_length m s t.lent.summary ≡ false

-- a summary that is some picture's has its length
pub own-length : (m s : ℕ) (p : Picture) (summary : List ℕ) → summary ≡ summary_of m s p → bad_summary_length m s summary ≡ false
own-length m s p summary e = rw (e, eq-eqb _ _ (summary-length m s p))

-- and so has one that a rest filled
rested-length : {m s : ℕ} {b : Buffers} {brought : ℕ} {to : Buffers} → Rested m s b brought to → bad_summary_length m s to.summary ≡ false
rested-length {m} {s} {to = to} r = own-length m s (picture_of m (records_of to.keys to.bits to.n)) to.summary r.counted

-- every event that may happen keeps it
pub event_keeps : {m s : ℕ} {p : Picture} {t : Reached} (e : Event) → MayHappen m s t.buffers e → RestStands m s p t → RestStands m s p (after_event m s t e)
unfolding after_event
event_keeps (calling c) may h = record { holds = call_keeps c h.holds; sized = h.sized }
event_keeps (resting to) may h = record { holds = rest_keeps h.holds to may; sized = rested-length may }
event_keeps (resting_short to) may h = record { holds = short_keeps h.holds to may; sized = rested-length may }

-- and so does every run of them
pub events_keep : {m s : ℕ} {p : Picture} {t : Reached} (es : List Event) → AllMay m s t es → RestStands m s p t → RestStands m s p (after_events m s t es)
unfolding after_events AllMay
events_keep [] may h = h
events_keep {m} {s} {t = t} (e ∷ es) may h = events_keep {t = after_event m s t e} es may.1 (event_keeps e may.0 h)

-- no slices had more room than those lent last
abbrev pub Largest : Reached → Type 0
Largest t = t.largest ≤ list_room t.lent

event_largest : (m s : ℕ) (t : Reached) (e : Event) → KeepsRoom t e → Largest t → Largest (after_event m s t e)
unfolding after_event
event_largest m s t (calling c) more h = h
event_largest m s t (resting to) more h = omega arith
event_largest m s t (resting_short to) more h = omega arith

-- where no rest leads to slices with less room
pub events_largest : (m s : ℕ) (t : Reached) (es : List Event) → AllKeepRoom m s t es → Largest t → Largest (after_events m s t es)
unfolding after_events AllKeepRoom
events_largest m s t [] more h = h
events_largest m s t (e ∷ es) more h = events_largest m s (after_event m s t e) es more.1 (event_largest m s t e more.0 h)

-- calls alone lead where the history's run leads
pub calls_buffers : (m s : ℕ) (t : Reached) (cs : List Call) → (after_events m s t (map calling cs)).buffers ≡ after_calls m s t.buffers cs
unfolding after_events after_event after_calls
calls_buffers m s t [] = refl
calls_buffers m s t (c ∷ cs) = calls_buffers m s (after_event m s t (calling c)) cs

-- and keep the paints that it keeps
pub calls_paints : (m s : ℕ) (t : Reached) (cs : List Call) → (after_events m s t (map calling cs)).paints ≡ kept m s t.buffers t.paints cs
unfolding after_events after_event kept
calls_paints m s t [] = refl
calls_paints m s t (c ∷ cs) = calls_paints m s (after_event m s t (calling c)) cs

-- calls may always happen
pub calls_may : (m s : ℕ) (t : Reached) (cs : List Call) → AllMay m s t (map calling cs)
unfolding AllMay
calls_may m s t [] = tt
calls_may m s t (c ∷ cs) = (tt, calls_may m s (after_event m s t (calling c)) cs)

-- events that go on begin where the first part ended
pub events-append : (m s : ℕ) (t : Reached) (es more : List Event) → after_events m s t (es ++ more) ≡ after_events m s (after_events m s t es) more
unfolding after_events
events-append m s t [] more = refl
events-append m s t (e ∷ es) more = events-append m s (after_event m s t e) es more

pub may-append : (m s : ℕ) (t : Reached) (es more : List Event) → AllMay m s t es → AllMay m s (after_events m s t es) more → AllMay m s t (es ++ more)
unfolding after_events AllMay
may-append m s t [] more h j = j
may-append m s t (e ∷ es) more h j = (h.0, may-append m s (after_event m s t e) es more h.1 j)
