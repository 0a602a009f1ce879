-- The sheet that the crews find, after a build and any calls; what the history theorem says of it after a run of paints. Rests on the history theorem.
use Prim.Native.Nat.{ℕ}
use mathlib.Core.Path.{◌≡◌, refl, sym, ap, subst, ◌∙◌}
use mathlib.Core.List.{List, [], ◌∷◌, ◌++◌}
use Rattle.definitions.specs.Picture.{Picture}
use Rattle.definitions.specs.List.{list_of_picture}
use Rattle.definitions.specs.Read.{picture_of}
use Rattle.definitions.specs.Calls.Survey.{survey_refusal}
use Rattle.laws.proofs.Pixels.{Agree}
use Rattle.history.specs.History.{Call, Buffers, Kept, nothing, built, after, after_calls, kept, longest_list, longest_log}
use Rattle.order.specs.Paint.{BlockPaint}
use Rattle.history.specs.Claim.{AsBuilt}
use Rattle.history.proofs.Content.{map_back}
use Rattle.history.proofs.Theorem.{history}
use Rattle.order.specs.Either.{as_calls, after_paints}

-- pictures with one list agree on the map
pub one_list : (m : ℕ) (p q : Picture) → list_of_picture m p ≡ list_of_picture m q → Agree p q m 0 0
one_list m p q e row column square =
    sym (map_back m p row column square) ∙ ap (λ l. picture_of m l row column) e ∙ map_back m q row column square

-- a run that goes on begins where the first part ended
run-append : (m s : ℕ) (b : Buffers) (calls more : List Call) → after_calls m s b (calls ++ more) ≡ after_calls m s (after_calls m s b calls) more
unfolding after_calls
run-append m s b [] more = refl
run-append m s b (c ∷ calls) more = run-append m s (after m s b c) calls more

module _ (m s : ℕ) (raster keys bits summary log_keys log_values : List ℕ) where
  -- the buffers after a build and any calls
  abbrev pub sheet_after : List Call → Buffers
  sheet_after before = after_calls m s (built m s raster keys bits summary log_keys log_values) before

  -- the paints kept after these calls and a run of paints
  abbrev pub kept_after : List Call → List BlockPaint → Kept
  kept_after before xs = kept m s (built m s raster keys bits summary log_keys log_values) nothing (before ++ as_calls xs)

  -- the history theorem, of a run of paints on the sheet
  pub after_history : survey_refusal m s raster keys bits summary ≡ 0 → (before : List Call) (xs : List BlockPaint)
      → AsBuilt m s raster keys bits summary log_keys log_values (after_paints m s (sheet_after before) xs) (kept_after before xs)
      (longest_list m s (built m s raster keys bits summary log_keys log_values) (before ++ as_calls xs))
      (longest_log m s (built m s raster keys bits summary log_keys log_values) (before ++ as_calls xs))
  after_history accepted before xs =
      let start : Buffers = built m s raster keys bits summary log_keys log_values in
      subst
      (λ b. AsBuilt m s raster keys bits summary log_keys log_values b (kept_after before xs) (longest_list m s start (before ++ as_calls xs)) (longest_log m s start (before ++ as_calls xs)))
      (run-append m s start before (as_calls xs))
      (history m s raster keys bits summary log_keys log_values accepted (before ++ as_calls xs))
