-- The raster that the list shows: after an accepted build it is the raster built, place by place, and after any calls and rests the first raster with
-- every accepted paint that was not taken back, in order. Rests on Theorem and read's RoundTrip.
use Prim.Native.Nat.{ℕ}
use mathlib.Core.Path.{◌≡◌, refl, sym, ap, ◌∙◌}
use mathlib.Core.List.{List}
use native.Mathlib.Omega.{arith}
use Rattle.definitions.specs.Picture.{Picture, picture_of_raster}
use Rattle.definitions.specs.List.{list_of_picture}
use Rattle.definitions.specs.Read.{records_of, picture_of}
use Rattle.definitions.specs.Calls.Survey.{survey_refusal}
use Rattle.laws.proofs.Pixels.{Agree}
use Rattle.laws.proofs.Built.{build_passed, build_records}
use Rattle.laws.proofs.RasterOf.{raster_of_picture, raster-length, raster_back, length_to}
use Rattle.read.proofs.RoundTrip.{shows_raster}
use Rattle.history.specs.History.{Buffers, built, picture_left, raster_left}
use Rattle.history.proofs.Content.{map_back}
use Rattle.rests.specs.Events.{Event, LentSlices, Reached, built_into, after_events, AllMay}
use Rattle.rests.specs.AsLeft.{AsLeft}
use Rattle.rests.specs.Starts.{HasList, raster_shown, found}
use Rattle.rests.proofs.Theorem.{across_rests, from_a_list}

-- pictures that agree on the map have one raster
raster_agree : (m : ℕ) (p q : Picture) → Agree p q m 0 0 → raster_of_picture m p ≡ raster_of_picture m q
raster_agree m p q h =
    shows_raster m p (raster_of_picture m q) (raster-length m q) (λ row column r c. h row column (omega arith) ∙ sym (raster_back m q row column (omega arith)))

-- a picture's list shows the picture's raster
shown_of : (m : ℕ) (p : Picture) (b : Buffers) → records_of b.keys b.bits b.n ≡ list_of_picture m p → raster_shown m b ≡ raster_of_picture m p
unfolding raster_shown
shown_of m p b e = ap (λ l. raster_of_picture m (picture_of m l)) e ∙ raster_agree m (picture_of m (list_of_picture m p)) p (map_back m p)

-- after an accepted build the list shows the raster that was built
pub shown_built : (m s : ℕ) (raster keys bits summary log_keys log_values : List ℕ) → survey_refusal m s raster keys bits summary ≡ 0
    → raster_shown m (built m s raster keys bits summary log_keys log_values) ≡ raster
unfolding built
shown_built m s raster keys bits summary log_keys log_values e =
    shown_of m (picture_of_raster m raster) (built m s raster keys bits summary log_keys log_values) (build_records m s raster keys bits summary e)
    ∙ shows_raster m (picture_of_raster m raster) raster (length_to m raster (build_passed m s raster keys bits summary e).sized) (λ row column r c. refl)

-- wherever a history stands it shows the raster left: so where the log is lost, a history that begins anew with the list goes on from the same raster
pub shown_left : {m s : ℕ} {raster : List ℕ} (t : Reached) → AsLeft m s raster t → raster_shown m t.buffers ≡ raster_left m raster t.paints
unfolding raster_left
shown_left {m} {s} {raster} t h = shown_of m (picture_left m raster t.paints) t.buffers h.picture

-- what the list shows in the end is the raster built, with every accepted paint that was not taken back
pub shown_from_build : (m s : ℕ) (raster : List ℕ) (lent : LentSlices) → survey_refusal m s raster lent.keys lent.bits lent.summary ≡ 0
    → (es : List Event)
    → AllMay m s (built_into m s raster lent) es
    → raster_shown m (after_events m s (built_into m s raster lent) es).buffers ≡ raster_left m raster (after_events m s (built_into m s raster lent) es).paints
shown_from_build m s raster lent e es may = shown_left (after_events m s (built_into m s raster lent) es) (across_rests m s raster lent e es may)

-- from any list, what the list showed with them
pub shown_from_list : (m s : ℕ) (b : Buffers) → HasList m s b → (es : List Event) → AllMay m s (found b) es
    → raster_shown m (after_events m s (found b) es).buffers ≡ raster_left m (raster_shown m b) (after_events m s (found b) es).paints
shown_from_list m s b h es may = shown_left (after_events m s (found b) es) (from_a_list m s b h es may)
