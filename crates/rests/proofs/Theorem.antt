-- Histories with rests: after any run of calls and rests from an accepted build, or from any list with its summary, with an empty log, the buffers are as
-- claimed; where no rest led to slices with less room, they are as demand 3 claims of the slices lent last. Rests on Run and Begun.
use Prim.Native.Nat.{ℕ}
use mathlib.Core.Path.{◌≡◌, sym, ap, ◌∙◌}
use mathlib.Core.List.{List}
use native.Mathlib.Nat.{le_refl}
use lib.ListN.{length}
use Rattle.definitions.specs.Picture.{picture_of_raster}
use Rattle.definitions.specs.List.{list_of_picture, keys_of, values_of}
use Rattle.definitions.specs.Read.{room}
use Rattle.definitions.specs.Buffer.{replaced}
use Rattle.definitions.specs.Area.{summary_of}
use Rattle.definitions.specs.Calls.Survey.{survey_refusal}
use Rattle.laws.proofs.Built.{build_accepted, build_count, build_summary, build_records}
use Rattle.history.specs.History.{Buffers, Kept, picture_left, raster_left}
use Rattle.history.proofs.Slices.{list_keys-length, list_bits-length}
use Rattle.history.proofs.LogSlices.{log_counts}
use Rattle.history.proofs.Invariant.{now_records, now_force, now_redo, now_is_list, now_is_summary, now_is_log}
use Rattle.history.proofs.PaintAnswer.{paint-answer, window_answer}
use Rattle.history.proofs.TakeBackStep.{back-answer-in}
use Rattle.history.proofs.RedoStep.{redo-answer-in}
use Rattle.history.proofs.Theorem.{left_is, left_list, left_summary, left_builds, as_built}
use Rattle.rests.specs.Events.{Event, LentSlices, list_room, Reached, built_into, after_events, AllMay}
use Rattle.rests.specs.AsLeft.{AsLeft}
use Rattle.rests.specs.Starts.{HasList, raster_shown, found, GoodStart}
use Rattle.rests.specs.Roomy.{AllKeepRoom, AsBuiltLast}
use Rattle.rests.proofs.Run.{RestStands, events_keep, Largest, events_largest}
use Rattle.rests.proofs.Begun.{built_stands, list_stands}

-- where the invariant holds the buffers are as claimed
pub as_left : {m s : ℕ} (raster : List ℕ) (t : Reached) → RestStands m s (picture_of_raster m raster) t → AsLeft m s raster t
as_left {m} {s} raster t stands =
    let h = stands.holds in
    let lent : LentSlices = t.lent in
    let b : Buffers = t.buffers in
    let k : Kept = t.paints in
    let list = left_list m raster k in
    let fresh = build_accepted m s (raster_left m raster k) lent.keys lent.bits lent.summary (left_builds raster lent.summary stands.sized h) in
    let counts : b.summary ≡ summary_of m s (picture_left m raster k) = h.counts ∙ ap (summary_of m s) (sym (left_is m raster k)) in
    let records = now_records h ∙ sym list in
    record {
      picture = now_records h ∙ ap (λ q. list_of_picture m q) (sym (left_is m raster k));
      list = records;
      summary_left = counts;
      fresh = fresh;
      fresh_count = h.list.count ∙ ap length (sym list) ∙ sym (build_count m s (raster_left m raster k) lent.keys lent.bits lent.summary fresh);
      fresh_records = records ∙ sym (build_records m s (raster_left m raster k) lent.keys lent.bits lent.summary fresh);
      fresh_summary = counts
          ∙ sym (build_summary m s (raster_left m raster k) lent.keys lent.bits lent.summary fresh ∙ left_summary m s raster k);
      all_keys = h.list.all_keys ∙ ap (λ l. replaced t.in_list (keys_of l) lent.keys) (sym list);
      all_bits = h.list.all_bits ∙ ap (λ l. replaced t.in_list (values_of l) lent.bits) (sym list);
      is-list = now_is_list h;
      is_summary = now_is_summary h;
      is_log = now_is_log h;
      in-force = now_force h;
      redoable = rw (left_is m raster k) (now_redo h);
      force_count = h.log.force;
      used_count = rw (left_is m raster k) (log_counts h.log);
      back = back-answer-in k.held k.undone k.fixed h;
      again = rw (left_is m raster k) (redo-answer-in k.held k.undone k.fixed h);
      paints = λ κ f. rw (left_is m raster k) (paint-answer h κ f);
      window_paints = λ w f. rw (left_is m raster k) (window_answer h w f);
      keys_length = list_keys-length h.list;
      bits_length = list_bits-length h.list;
      log_keys_length = h.log.keys_length;
      log_values_length = h.log.values_length;
      past_log_keys = h.log.past_keys;
      past_log_values = h.log.past_values;
    }

-- after an accepted build, and any calls and rests
pub across_rests : (m s : ℕ) (raster : List ℕ) (lent : LentSlices) → survey_refusal m s raster lent.keys lent.bits lent.summary ≡ 0
    → (es : List Event)
    → AllMay m s (built_into m s raster lent) es
    → AsLeft m s raster (after_events m s (built_into m s raster lent) es)
across_rests m s raster lent e es may =
    as_left raster (after_events m s (built_into m s raster lent) es) (events_keep es may (built_stands m s raster lent e))

-- from any list with its summary and an empty log, by the raster that the list shows
pub from_a_list : (m s : ℕ) (b : Buffers) → HasList m s b → GoodStart m s b
from_a_list m s b h es may = as_left (raster_shown m b) (after_events m s (found b) es) (events_keep es may (list_stands m s b h))

-- where no slices had more room than those lent last, demand 3's own claim holds
pub as_built_last : {m s : ℕ} (raster : List ℕ) (t : Reached) → RestStands m s (picture_of_raster m raster) t → Largest t → AsBuiltLast m s raster t
as_built_last raster t stands large = as_built raster t.lent.summary stands.sized stands.holds large

-- so after rests none of which led to slices with less room: taking back is then refused with 11 alone, and redo with 20 alone
pub across_roomy_rests : (m s : ℕ) (raster : List ℕ) (lent : LentSlices) → survey_refusal m s raster lent.keys lent.bits lent.summary ≡ 0
    → (es : List Event)
    → AllMay m s (built_into m s raster lent) es
    → AllKeepRoom m s (built_into m s raster lent) es
    → AsBuiltLast m s raster (after_events m s (built_into m s raster lent) es)
across_roomy_rests m s raster lent e es may more =
    as_built_last raster (after_events m s (built_into m s raster lent) es) (events_keep es may (built_stands m s raster lent e))
    (events_largest m s (built_into m s raster lent) es more (le_refl (list_room lent)))

pub from_a_list_roomy : (m s : ℕ) (b : Buffers) → HasList m s b → (es : List Event) → AllMay m s (found b) es → AllKeepRoom m s (found b) es
    → AsBuiltLast m s (raster_shown m b) (after_events m s (found b) es)
from_a_list_roomy m s b h es may more =
    as_built_last (raster_shown m b) (after_events m s (found b) es) (events_keep es may (list_stands m s b h))
    (events_largest m s (found b) es more (le_refl (room b.keys b.bits)))
