-- A history's start: the buffers after an accepted build, with an empty log, and that the invariant holds then. Rests on Invariant and the laws of an
-- accepted build.
use Prim.Native.Nat.{ℕ}
use mathlib.Core.Path.{◌≡◌, sym, ap, ◌∙◌, subst}
use mathlib.Core.List.{List, []}
use native.Mathlib.Nat.{le_refl}
use lib.ListN.{length}
use Rattle.definitions.specs.Picture.{Picture, picture_of_raster}
use Rattle.definitions.specs.List.{list_of_raster, keys_of, values_of}
use Rattle.definitions.specs.Read.{room}
use Rattle.definitions.specs.Buffer.{over}
use Rattle.definitions.specs.Area.{summary_of}
use Rattle.definitions.specs.Calls.Survey.{survey_refusal}
use Rattle.laws.proofs.RasterOf.{raster_below}
use Rattle.laws.proofs.Built.{build_passed, build_count, build_keys, build_bits, build_summary}
use Rattle.history.specs.History.{built, nothing, drawn}
use Rattle.history.proofs.Drawn.{drawn_none}
use Rattle.history.proofs.Past.{Legal, log_none, after_none, start, no_more}
use Rattle.history.proofs.Slices.{list_built}
use Rattle.history.proofs.LogSlices.{log_empty}
use Rattle.history.proofs.Invariant.{Invariant}

module _ (m s : ℕ) (raster keys bits summary : List ℕ) (e : survey_refusal m s raster keys bits summary ≡ 0) where
  -- the buffers after it, with an empty log
  built_is : (log_keys log_values : List ℕ) → built m s raster keys bits summary log_keys log_values
      ≡ record {
        keys = over (keys_of (list_of_raster m raster)) keys;
        bits = over (values_of (list_of_raster m raster)) bits;
        n = length (list_of_raster m raster);
        summary = summary_of m s (picture_of_raster m raster);
        log_keys = log_keys;
        log_values = log_values;
        used = 0;
        in_force = 0;
      }
  unfolding built
  built_is log_keys log_values = rw (build_keys m s raster keys bits summary e, build_bits m s raster keys bits summary e, build_count m s raster keys bits summary e, build_summary m s raster keys bits summary e)

  -- the invariant holds
  pub build_holds : (log_keys log_values : List ℕ)
      → Invariant m s (room keys bits) (picture_of_raster m raster) keys bits log_keys log_values (built m s raster keys bits summary log_keys log_values) nothing
      (built m s raster keys bits summary log_keys log_values).n (built m s raster keys bits summary log_keys log_values).used
  build_holds log_keys log_values =
      let p : Picture = picture_of_raster m raster in
      let passed = build_passed m s raster keys bits summary e in
      rw (built_is log_keys log_values)
      (record {
        settings = passed.settings;
        list = rw (drawn_none m (drawn m p []), drawn_none m p) (list_built (list_of_raster m raster) keys bits passed.fits);
        counts = sym (ap (summary_of m s) (drawn_none m (drawn m p []) ∙ drawn_none m p));
        log = rw (log_none m (drawn m p []), after_none m (drawn m (drawn m p []) [])) (log_empty log_keys log_values);
        roomy = le_refl (room keys bits);
        past =
            start
            (subst (λ q. Legal m s (room keys bits) q) (sym (drawn_none m p))
            (record { below = raster_below m s raster passed.sized passed.below; fits = passed.fits }));
        future = no_more;
      })
