-- Areas of the C call (specification S8.12): calls of hlq_area that keep their contract, as it stands in src/, for the whole raster and each feature below s
-- give answers that add up to T * T, once one of them is accepted. Rests on the contract and on AreaAnswers of laws.
use Prim.Native.Nat.{ℕ, ◌*◌, ◌^◌, ◌<◌}
use mathlib.Core.Path.{◌≡◌, sym, ap, ◌∙◌}
use contract.Lifetimes.{Lfts}
use denote.Triple.Clauses.{at_exit}
use denote.Triple.Entry.{Args}
use Rattle.definitions.specs.Calls.Area.{area_refusal, area as area_measured}
use Rattle.definitions.specs.declared.Window.{Window}
use Rattle.definitions.specs.declared.Measured.{Measured}
use Rattle.definitions.specs.Area.{sum_below}
use Rattle.laws.proofs.AreasAddUp.{square_of}
use Rattle.laws.proofs.AreaAnswers.{answers_in_window}
use Rattle.laws.proofs.SummaryPlaces.{within_same}
use Rattle.prowcurl.specs.contracts.areas.hlq_area as area
use Rattle.prowcurl.proofs.areas.hlq_area.Reads as area-reads
use Rattle.prowcurl.proofs.HistorySteps.{Slice}

-- one list and its summary are lent, and one window is asked for each feature; `answers` are the answers
module _ (m s : ℕ) (κs : Lfts 3) (keys bits : Slice) (n : ℕ) (summary : Slice) (w : Window) (answers : ℕ → Measured) where
  -- the contract of hlq_area holds of the call for feature f
  abbrev pub KeepsArea : ℕ → Type 0
  KeepsArea f =
      let lent : Args area.signature κs =
      (m, (s, (keys, (bits, (n, (summary, (w.row, (w.column, (w.height, (w.width, (f, tt))))))))))) in
      area-reads.Learnt κs lent (answers f) (at_exit area.ended κs lent (tt, (tt, (tt, (tt, (tt, (tt, (tt, (tt, (tt, (tt, (tt, tt))))))))))))

  refusal_kept : (f : ℕ) → KeepsArea f → (answers f).refusal ≡ area_refusal m s keys.now bits.now n summary.now w f
  unfolding area_measured
  refusal_kept f kept = ap (λ (r : Measured). r.refusal) kept

  -- in a window the answers add up to its pixels
  pub area_calls_in_window : ((f : ℕ) → f < s → KeepsArea f) → (f : ℕ) → f < s → (answers f).refusal ≡ 0 → sum_below (λ g. (answers g).pixels) s ≡ w.height * w.width
  area_calls_in_window kept f h accepted =
      within_same (λ g. (answers g).pixels) (λ g. (area_measured m s keys.now bits.now n summary.now w g).pixels) s (λ g i. ap (λ (r : Measured). r.pixels) (kept g i))
      ∙ answers_in_window m s keys.now bits.now n summary.now w f (sym (refusal_kept f (kept f h)) ∙ accepted)

-- over the whole raster they add up to T * T
pub area_calls_add_up : (m s : ℕ) (κs : Lfts 3) (keys bits : Slice) (n : ℕ) (summary : Slice) (answers : ℕ → Measured)
    → ((f : ℕ) → f < s → KeepsArea m s κs keys bits n summary (square_of m 0 0) answers f)
    → (f : ℕ) → f < s → (answers f).refusal ≡ 0 → sum_below (λ g. (answers g).pixels) s ≡ 2 ^ m * 2 ^ m
area_calls_add_up m s κs keys bits n summary answers kept f h accepted = area_calls_in_window m s κs keys bits n summary (square_of m 0 0) answers kept f h accepted
