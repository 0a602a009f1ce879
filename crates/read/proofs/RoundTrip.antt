-- Raster to list and back loses nothing, over the promises of build and raster: build and then raster gives the raster back, raster and then
-- build gives the list back. Rests on the laws of reading, of an accepted build and of accepted lists; not on the code of build.
use Prim.Native.Nat.{ℕ, ◌+◌, ◌*◌, ◌/◌, ◌%◌, ◌^◌, ◌<◌}
use mathlib.Core.Path.{◌≡◌, sym, ap, ◌∙◌}
use mathlib.Core.List.{List}
use native.Mathlib.Omega.{arith}
use native.Mathlib.Nat.{div-add-mod', mod-lt, div-lt_iff_lt-mul}
use lib.ListN.{length, get_or}
use lib.Seq.{ext_get_or}
use borrow.Author.Tests.{eq-eqb}
use Rattle.keys.proofs.Powers.{two_pos}
use Rattle.definitions.specs.Picture.{Picture, picture_of_raster}
use Rattle.definitions.specs.List.{list_of_raster}
use Rattle.definitions.specs.Read.{records_of, picture_of}
use Rattle.definitions.specs.Calls.Survey.{survey_refusal, survey, survey_keys, survey_bits}
use Rattle.definitions.specs.Calls.Raster.{raster_refusal, raster_pixels}
use Rattle.laws.proofs.ListOf.{list_agree}
use Rattle.laws.proofs.ReadBack.{picture_back}
use Rattle.laws.proofs.RasterOf.{raster_of_picture, rows_at, raster-length, raster_back, length_to}
use Rattle.list.proofs.Accepted.{accepted_as_list}
use Rattle.list.proofs.Tests.{raster_passed}
use Rattle.laws.proofs.Built.{build_passed, build_records}

-- a place of a raster by its row and column
record Place (m i : ℕ) : Type 0 where
  row : ℕ
  column : ℕ
  in_rows : row < 2 ^ m
  in_columns : column < 2 ^ m
  is : i ≡ row * 2 ^ m + column

place : (m i : ℕ) → i < 2 ^ m * 2 ^ m → Place m i
place m i h =
    record {
      row = i / 2 ^ m;
      column = i % 2 ^ m;
      in_rows = (div-lt_iff_lt-mul (two_pos m)).1 h;
      in_columns = mod-lt i (two_pos m);
      is = sym (div-add-mod' i (2 ^ m));
    }

-- a raster whose every pixel a picture shows is that picture's raster
pub shows_raster : (m : ℕ) (p : Picture) (raster : List ℕ) → length raster ≡ 2 ^ m * 2 ^ m
    → ((row column : ℕ) → row < 2 ^ m → column < 2 ^ m → p row column ≡ picture_of_raster m raster row column) → raster_of_picture m p ≡ raster
shows_raster m p raster sized shows =
    ext_get_or 0 (raster_of_picture m p) raster (raster-length m p ∙ sym sized) (λ i h. at i (place m i (rw (sym (raster-length m p)) h)))
  where
    zero_plus : (n : ℕ) → 0 + n ≡ n
    zero_plus n = omega arith

    at : (i : ℕ) → Place m i → get_or (raster_of_picture m p) i 0 ≡ get_or raster i 0
    at i x =
        ap (λ (j : ℕ). get_or (raster_of_picture m p) j 0) x.is
        ∙ rows_at p 0 0 (2 ^ m) (2 ^ m) x.row x.column x.in_rows x.in_columns
        ∙ ap (λ (r : ℕ). p r (0 + x.column)) (zero_plus x.row)
        ∙ ap (λ (c : ℕ). p x.row c) (zero_plus x.column)
        ∙ shows x.row x.column x.in_rows x.in_columns
        ∙ ap (λ (j : ℕ). get_or raster j 0) (sym x.is)

module _ (m s : ℕ) (raster keys bits summary pixels : List ℕ) (built : survey_refusal m s raster keys bits summary ≡ 0) where
  -- build, and then raster in any slice that it accepts: the raster comes back
  pub build_raster : raster_refusal m s (survey_keys m s raster keys bits summary) (survey_bits m s raster keys bits summary) (survey m s raster keys bits summary).count pixels ≡ 0
      → raster_pixels m s (survey_keys m s raster keys bits summary) (survey_bits m s raster keys bits summary) (survey m s raster keys bits summary).count pixels ≡ raster
  unfolding raster_pixels
  build_raster done =
      rw (eq-eqb _ 0 done, build_records m s raster keys bits summary built)
      (shows_raster m (picture_of m (list_of_raster m raster)) raster (length_to m raster (build_passed m s raster keys bits summary built).sized)
      (λ row column r c. picture_back m (picture_of_raster m raster) row column r c))

module _ (m s : ℕ) (keys bits : List ℕ) (n : ℕ) (pixels : List ℕ) (done : raster_refusal m s keys bits n pixels ≡ 0) where
  -- raster, and then build: the list comes back
  pub raster_build : list_of_raster m (raster_pixels m s keys bits n pixels) ≡ records_of keys bits n
  unfolding raster_pixels
  raster_build =
      rw (eq-eqb _ 0 done)
      (list_agree (picture_of_raster m (raster_of_picture m (picture_of m (records_of keys bits n)))) (picture_of m (records_of keys bits n)) m 0 0 0
      (raster_back m (picture_of m (records_of keys bits n)))
      ∙ sym (accepted_as_list m s keys bits n (raster_passed m s keys bits n pixels done).list).is)
