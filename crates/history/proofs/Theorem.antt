-- The history theorem: after any run of paints of blocks and of windows, takings back, redos and log emptyings from an accepted build and an empty log, refused calls included, the
-- buffers hold the list and the summary that a fresh build of the raster left gives, taking back is refused exactly when no paint is held, and redo exactly when none
-- is there to redo. Rests on the steps.
use Prim.Native.Nat.{ℕ, ◌≤◌, max}
use mathlib.Core.Path.{◌≡◌, sym, ap, subst₂, ◌∙◌}
use mathlib.Core.Bool.{false}
use mathlib.Core.List.{List, [], ◌∷◌}
use native.Mathlib.Omega.{arith}
use native.Mathlib.Nat.{le_refl}
use lib.ListN.{length}
use Rattle.keys.specs.Key.{root_key}
use Rattle.definitions.specs.Picture.{Picture, picture_of_raster}
use Rattle.definitions.specs.List.{list_of_picture, list_of_raster, keys_of, values_of}
use Rattle.definitions.specs.Read.{room}
use Rattle.definitions.specs.Buffer.{replaced}
use Rattle.definitions.specs.Area.{summary_of, bad_summary_length}
use Rattle.definitions.specs.Calls.Survey.{survey_refusal}
use Rattle.laws.proofs.ListOf.{list_agree}
use Rattle.laws.proofs.SummaryOf.{summary_agree}
use Rattle.laws.proofs.RasterOf.{raster_of_picture, raster-length, raster_back, raster_good, length_from}
use Rattle.laws.proofs.Built.{Builds, build_passed, build_accepted, build_count, build_summary, build_records}
use Rattle.history.specs.History.{Call, painting, taking_back, redoing, emptying, Buffers, Kept, nothing, built, after, answer, after_calls, keep, kept, longest_list, longest_log, picture_left, raster_left}
use Rattle.history.specs.Claim.{AsBuilt, History}
use Rattle.history.proofs.Past.{past_legal}
use Rattle.history.proofs.Slices.{list_longest, list_keys-length, list_bits-length}
use Rattle.history.proofs.LogSlices.{log_counts, log_longest}
use Rattle.history.proofs.Invariant.{now, Invariant, now_records, now_force, now_redo, now_is_list, now_is_summary, now_is_log, Keeps}
use Rattle.history.proofs.BuildStep.{build_holds}
use Rattle.history.proofs.PaintStep.{paint_keeps}
use Rattle.history.proofs.PaintAnswer.{paint-answer, window_answer}
use Rattle.history.proofs.TakeBackStep.{back-answer, back_keeps}
use Rattle.history.proofs.RedoStep.{redo-answer, redo_keeps}
use Rattle.history.proofs.EmptyStep.{ground_emptied, empty_keeps}

-- every call keeps the invariant
pub call_keeps : {m s size : ℕ} {p : Picture} {keys bits log_keys log_values : List ℕ} {b : Buffers} {k : Kept} {in_list in_log : ℕ} (c : Call)
    → Invariant m s size p keys bits log_keys log_values b k in_list in_log
    → Keeps m s size p keys bits log_keys log_values b k in_list in_log c
call_keeps (painting x) h = paint_keeps x h
call_keeps {k = k} taking_back h = back_keeps k.held k.undone k.fixed h
call_keeps {k = k} redoing h = redo_keeps k.held k.undone k.fixed h
call_keeps emptying h = empty_keeps h

-- a run's longest list and log are at least those that it begins with
begins_list : (m s : ℕ) (b : Buffers) (calls : List Call) → b.n ≤ longest_list m s b calls
unfolding longest_list
begins_list m s b [] = le_refl b.n
begins_list m s b (c ∷ cs) = omega arith

begins_log : (m s : ℕ) (b : Buffers) (calls : List Call) → b.used ≤ longest_log m s b calls
unfolding longest_log
begins_log m s b [] = le_refl b.used
begins_log m s b (c ∷ cs) = omega arith

joined : (before first next rest : ℕ) → first ≤ before → next ≤ rest → max (max before next) rest ≡ max before (max first rest)
joined before first next rest h j = omega arith

-- a run of calls keeps the invariant
pub run_holds : {m s size : ℕ} {p : Picture} {keys bits log_keys log_values : List ℕ} {b : Buffers} {k : Kept} {in_list in_log : ℕ} (calls : List Call)
    → Invariant m s size p keys bits log_keys log_values b k in_list in_log
    → Invariant m s size p keys bits log_keys log_values (after_calls m s b calls) (kept m s b k calls)
    (max in_list (longest_list m s b calls)) (max in_log (longest_log m s b calls))
unfolding after_calls kept longest_list longest_log
run_holds {m} {s} {size} {p} {keys} {bits} {log_keys} {log_values} {b} {k} {in_list} {in_log} [] h =
    subst₂ (λ x y. Invariant m s size p keys bits log_keys log_values b k x y) (list_longest h.list) (log_longest h.log) h
run_holds {m} {s} {size} {p} {keys} {bits} {log_keys} {log_values} {b} {k} {in_list} {in_log} (c ∷ cs) h =
    let next : Buffers = after m s b c in
    subst₂ (λ x y. Invariant m s size p keys bits log_keys log_values (after_calls m s next cs) (kept m s next (keep c (answer m s b c) k) cs) x y)
    (joined in_list b.n next.n (longest_list m s next cs) h.list.short (begins_list m s next cs))
    (joined in_log b.used next.used (longest_log m s next cs) h.log.short (begins_log m s next cs))
    (run_holds {b = next} cs (call_keeps c h))

-- the picture left is the picture now
pub left_is : (m : ℕ) (raster : List ℕ) (k : Kept) → picture_left m raster k ≡ now m (picture_of_raster m raster) k
unfolding picture_left
left_is m raster k = ground_emptied m (picture_of_raster m raster) k

-- the raster left shows it: their lists are the same
pub left_list : (m : ℕ) (raster : List ℕ) (k : Kept) → list_of_raster m (raster_left m raster k) ≡ list_of_picture m (now m (picture_of_raster m raster) k)
unfolding raster_left
left_list m raster k =
    let q : Picture = picture_left m raster k in
    list_agree (picture_of_raster m (raster_of_picture m q)) q m 0 0 root_key (raster_back m q) ∙ ap (λ q'. list_of_picture m q') (left_is m raster k)

-- and so their summaries
pub left_summary : (m s : ℕ) (raster : List ℕ) (k : Kept) → summary_of m s (picture_of_raster m (raster_left m raster k)) ≡ summary_of m s (picture_left m raster k)
unfolding raster_left
left_summary m s raster k =
    let q : Picture = picture_left m raster k in
    summary_agree m s (picture_of_raster m (raster_of_picture m q)) q (raster_back m q)

module _ {m s size : ℕ} (raster summary : List ℕ) (counted : bad_summary_length m s summary ≡ false) {keys bits log_keys log_values : List ℕ} {b : Buffers} {k : Kept} {in_list in_log : ℕ}
    (h : Invariant m s size (picture_of_raster m raster) keys bits log_keys log_values b k in_list in_log) where
  -- build takes the raster left
  pub left_builds : Builds m s (raster_left m raster k) keys bits summary
  unfolding raster_left
  left_builds =
      let q : Picture = picture_left m raster k in
      let legal = past_legal h.past in
      record {
        settings = h.settings;
        sized = length_from m (raster_of_picture m q) (raster-length m q);
        below = raster_good m s q (rw (left_is m raster k) legal.below);
        counted = counted;
        fits = rw (left_list m raster k) (let e = h.list.count in let f = h.list.short in let g = h.list.fits in omega arith);
      }

  -- the buffers are as demand 3 claims
  pub as_built : size ≤ room keys bits
      → AsBuilt m s raster keys bits summary log_keys log_values b k in_list in_log
  as_built large =
      let list = left_list m raster k in
      let fresh = build_accepted m s (raster_left m raster k) keys bits summary left_builds in
      let counts : b.summary ≡ summary_of m s (picture_left m raster k) = h.counts ∙ ap (summary_of m s) (sym (left_is m raster k)) in
      let records = now_records h ∙ sym list in
      record {
        picture = now_records h ∙ ap (λ q. list_of_picture m q) (sym (left_is m raster k));
        list = records;
        summary_left = counts;
        fresh = fresh;
        fresh_count = h.list.count ∙ ap length (sym list) ∙ sym (build_count m s (raster_left m raster k) keys bits summary fresh);
        fresh_records = records ∙ sym (build_records m s (raster_left m raster k) keys bits summary fresh);
        fresh_summary = counts
            ∙ sym (build_summary m s (raster_left m raster k) keys bits summary fresh ∙ left_summary m s raster k);
        all_keys = h.list.all_keys ∙ ap (λ l. replaced in_list (keys_of l) keys) (sym list);
        all_bits = h.list.all_bits ∙ ap (λ l. replaced in_list (values_of l) bits) (sym list);
        is-list = now_is_list h;
        is_summary = now_is_summary h;
        is_log = now_is_log h;
        in-force = now_force h;
        redoable = rw (left_is m raster k) (now_redo h);
        force_count = h.log.force;
        used_count = rw (left_is m raster k) (log_counts h.log);
        back = back-answer k.held k.undone k.fixed h large;
        again = redo-answer k.held k.undone k.fixed h large;
        paints = λ κ f. rw (left_is m raster k) (paint-answer h κ f);
        window_paints = λ w f. rw (left_is m raster k) (window_answer h w f);
        keys_length = list_keys-length h.list;
        bits_length = list_bits-length h.list;
        log_keys_length = h.log.keys_length;
        log_values_length = h.log.values_length;
        past_log_keys = h.log.past_keys;
        past_log_values = h.log.past_values;
      }

-- demand 3, for all settings, rasters, slices and runs of calls
pub history : (m s : ℕ) (raster keys bits summary log_keys log_values : List ℕ) → survey_refusal m s raster keys bits summary ≡ 0 → (calls : List Call)
    → History m s raster keys bits summary log_keys log_values calls
history m s raster keys bits summary log_keys log_values accepted calls =
    let first : Buffers = built m s raster keys bits summary log_keys log_values in
    let begins = begins_list m s first calls in
    let begins' = begins_log m s first calls in
    subst₂ (λ x y. AsBuilt m s raster keys bits summary log_keys log_values (after_calls m s first calls) (kept m s first nothing calls) x y)
    (let e : max first.n (longest_list m s first calls) ≡ longest_list m s first calls = omega arith in e)
    (let e : max first.used (longest_log m s first calls) ≡ longest_log m s first calls = omega arith in e)
    (as_built raster summary (build_passed m s raster keys bits summary accepted).counted (run_holds calls (build_holds m s raster keys bits summary accepted log_keys log_values)) (le_refl (room keys bits)))
