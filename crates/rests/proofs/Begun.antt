-- Where histories with rests begin: the invariant holds after an accepted build, and of any buffers with a list, its summary and an empty log, by the
-- raster that the list shows. Rests on Run and Moved.
use Prim.Native.Nat.{ℕ}
use mathlib.Core.Path.{◌≡◌, refl, sym, ap, subst, ◌∙◌}
use mathlib.Core.List.{List, []}
use native.Mathlib.Nat.{le_refl}
use native.Mathlib.Omega.{arith}
use Rattle.keys.specs.Key.{root_key}
use Rattle.definitions.specs.Picture.{Picture, picture_of_raster}
use Rattle.definitions.specs.List.{list_of_picture}
use Rattle.definitions.specs.Read.{room, records_of, picture_of}
use Rattle.definitions.specs.Area.{summary_of}
use Rattle.definitions.specs.Calls.Survey.{survey_refusal}
use Rattle.laws.proofs.Pixels.{Agree}
use Rattle.laws.proofs.Built.{build_passed}
use Rattle.laws.proofs.Features.{below_agree}
use Rattle.laws.proofs.ListOf.{list_agree}
use Rattle.laws.proofs.RasterOf.{raster_back}
use Rattle.laws.proofs.SummaryOf.{summary_agree}
use Rattle.laws.proofs.SameNumbers.{summary_is}
use Rattle.list.proofs.Accepted.{AcceptedList, accepted_as_list}
use Rattle.history.specs.History.{Buffers, drawn}
use Rattle.history.proofs.Drawn.{drawn_none}
use Rattle.history.proofs.Shown.{ShownInSlices, shown_none}
use Rattle.history.proofs.Past.{Legal, log_none, after_none, start, no_more}
use Rattle.history.proofs.BuildStep.{build_holds}
use Rattle.rests.specs.Events.{LentSlices, built_into}
use Rattle.rests.specs.Starts.{HasList, raster_shown, found}
use Rattle.rests.proofs.Moved.{shown_there, list_there, log_there}
use Rattle.rests.proofs.Run.{RestStands, own-length}

-- after an accepted build, with an empty log
pub built_stands : (m s : ℕ) (raster : List ℕ) (lent : LentSlices) → survey_refusal m s raster lent.keys lent.bits lent.summary ≡ 0
    → RestStands m s (picture_of_raster m raster) (built_into m s raster lent)
built_stands m s raster lent e =
    record {
      holds = build_holds m s raster lent.keys lent.bits lent.summary e lent.log_keys lent.log_values;
      sized = (build_passed m s raster lent.keys lent.bits lent.summary e).counted;
    }

module _ (m s : ℕ) (b : Buffers) (h : HasList m s b) where
  -- the list is accepted, and so it is that of the picture that it shows
  listed : AcceptedList m s b.keys b.bits b.n
  listed = accepted_as_list m s b.keys b.bits b.n h.gives.is-list

  abbrev seen : Picture
  seen = picture_of m (records_of b.keys b.bits b.n)

  -- and of the raster shown
  abbrev shown : Picture
  shown = picture_of_raster m (raster_shown m b)

  -- both pictures agree on the map
  shown_agree : Agree shown seen m 0 0
  unfolding raster_shown
  shown_agree = raster_back m seen

  -- so the list and the summary are those of the raster shown
  shown_list : records_of b.keys b.bits b.n ≡ list_of_picture m shown
  shown_list = listed.is ∙ sym (list_agree shown seen m 0 0 root_key shown_agree)

  shown_summary : b.summary ≡ summary_of m s shown
  shown_summary = summary_is m s seen b.summary h.is_summary ∙ sym (summary_agree m s shown seen shown_agree)

  -- the slices show it
  in_slices : ShownInSlices (list_of_picture m shown) b.n b.keys b.bits
  in_slices =
      let in_keys = listed.in_keys in
      let in-bits = listed.in-bits in
      shown_there b.n b.keys b.bits (omega arith) shown_list

  -- and there is room for it
  shown_legal : Legal m s (room b.keys b.bits) shown
  shown_legal =
      record {
        below = below_agree s shown seen m 0 0 shown_agree ∙ listed.below;
        fits =
            let in_keys = listed.in_keys in
            let in-bits = listed.in-bits in
            let count = in_slices.count in
            omega arith;
      }

  -- with a list, its summary and an empty log
  pub list_stands : RestStands m s shown (found b)
  list_stands =
      record {
        holds =
            record {
              settings = h.gives.settings;
              list = rw (drawn_none m (drawn m shown []), drawn_none m shown) (list_there in_slices);
              counts = shown_summary ∙ sym (ap (summary_of m s) (drawn_none m (drawn m shown []) ∙ drawn_none m shown));
              log = rw (log_none m (drawn m shown []), after_none m (drawn m (drawn m shown []) []), h.none_used, h.none_in_force)
                  (log_there (shown_none b.log_keys b.log_values) refl);
              roomy = le_refl (room b.keys b.bits);
              past = start (subst (λ q. Legal m s (room b.keys b.bits) q) (sym (drawn_none m shown)) shown_legal);
              future = no_more;
            };
        sized = own-length m s shown b.summary shown_summary;
      }
