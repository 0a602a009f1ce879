-- The calls that write the four quadrants of a block: what each asks, and what the four write together. Rests on FourCalls and on build's laws of writing a
-- block.
use Prim.Native.Nat.{ℕ, zero, suc, ◌+◌, ◌-◌, ◌*◌, ◌/◌, ◌^◌, ◌≤◌}
use mathlib.Core.Path.{◌≡◌, refl}
use mathlib.Core.List.{List}
use native.Mathlib.Omega.{arith}
use Rattle.keys.specs.Span.{child_span}
use Rattle.keys.specs.declared.span.KeySpan.{KeySpan}
use Rattle.keys.proofs.SpanChild.{child_first}
use Rattle.definitions.specs.Picture.{Picture}
use Rattle.definitions.specs.Bits.{union_of_four}
use Rattle.definitions.specs.Combine.{combined}
use Rattle.list.specs.Quadrants.{quadrant_row, quadrant_column}
use Rattle.build.specs.BuildBlocks.{Fitting, Written, FourAsked, FourWritten}
use Rattle.build.proofs.WrittenBlock.{written_quadrants}
use Rattle.build.proofs.FittingBlock.{fitting_at, fits_nw, fits_ne, fits_sw, fits_se, fits_four}
use Rattle.combine.specs.Combining.{Seen, BothEntered, passed_to, CombineWriteAsked, Made}
use Rattle.combine.specs.declared.cursor.Pair.{Pair}
use Rattle.combine.proofs.TwoLeaves.{not_both, pair_not_pixel}
use Rattle.combine.proofs.BothLists.{between_seen, between_next}
use Rattle.combine.proofs.FourCalls.{Going, going, one_higher, asks, four_seen, all_pass}

-- the keys of a block are keys of the largest map
pub span_fits : {bits₁ bits₂ table : List ℕ} {s₂ : ℕ} {span : KeySpan} {x : Pair} {place : ℕ} {keys bits : List ℕ} → CombineWriteAsked bits₁ bits₂ table s₂ span x place keys bits
    → span.key + span.step ≤ 5 ^ 10
span_fits w = omega (arith, w.fits.key_fits, w.asked.seen.step_is)

module _ {bits₁ bits₂ table : List ℕ} {s₂ : ℕ} {span : KeySpan} {x y₁ : Pair} {place : ℕ} {keys bits : List ℕ}
    (w : CombineWriteAsked bits₁ bits₂ table s₂ span x place keys bits) (e : BothEntered bits₁ bits₂ x y₁) (n : not_both y₁) where
  abbrev picture : Picture
  picture = combined w.asked.first w.asked.second table s₂

  abbrev k : ℕ
  k = w.asked.height - 1

  abbrev row : ℕ
  row = w.asked.row

  abbrev column : ℕ
  column = w.asked.column

  abbrev pub Wrote : KeySpan → Pair → ℕ → List ℕ → List ℕ → List ℕ → List ℕ → ℕ → ℕ → Pair → Type 0
  Wrote = Made bits₁ bits₂ table s₂

  fitting : Fitting picture (suc k) row column span.key place keys bits
  fitting = fitting_at (one_higher w.asked e n) w.fits

  fifth : span.step / 5 ≡ 5 ^ k
  fifth = (going w.asked e n).lower

  pub writes_nw : {q : KeySpan} → q ≡ child_span span 1 → CombineWriteAsked bits₁ bits₂ table s₂ q y₁ (place + 1) keys bits
  unfolding asks quadrant_row quadrant_column
  writes_nw f =
      rw (child_first span f) (record {
        asked = asks w.asked e n (going w.asked e n) (omega arith);
        fits = fits_nw picture k (2 ^ k) (span.step / 5) row column span.key place refl fifth fitting;
      })

  module _ {q₁ : KeySpan} {y₂ : Pair} {u₁ i₂ : ℕ} {keys₁ bits₁' : List ℕ} (f₁ : q₁ ≡ child_span span 1) (h₁ : Wrote q₁ y₁ (place + 1) keys bits keys₁ bits₁' u₁ i₂ y₂) where
    m₁ : Wrote (record { key = span.key + span.step / 5; step = span.step / 5 }) y₁ (place + 1) keys bits keys₁ bits₁' u₁ i₂ y₂
    m₁ = rw (child_first span f₁) at h₁

    past_1 : Going w.asked y₂ 1
    past_1 = between_next (going w.asked e n) (omega arith) m₁.passes

    w₁ : Written picture k row column (span.key + span.step / 5) (place + 1) keys bits keys₁ bits₁' u₁ i₂
    unfolding quadrant_row quadrant_column
    w₁ = m₁.written _ _ _ _ _ _ (between_seen (going w.asked e n) (omega arith))

    pub writes_ne : {q : KeySpan} → q ≡ child_span span 2 → CombineWriteAsked bits₁ bits₂ table s₂ q y₂ i₂ keys₁ bits₁'
    unfolding asks quadrant_row quadrant_column
    writes_ne f =
        rw f (record {
          asked = asks w.asked e n past_1 (omega arith);
          fits = fits_ne picture k (2 ^ k) (span.step / 5) row column span.key place refl fifth fitting w₁;
        })

    module _ {q₂ : KeySpan} {y₃ : Pair} {u₂ i₃ : ℕ} {keys₂ bits₂' : List ℕ} (f₂ : q₂ ≡ child_span span 2) (h₂ : Wrote q₂ y₂ i₂ keys₁ bits₁' keys₂ bits₂' u₂ i₃ y₃) where
      m₂ : Wrote (child_span span 2) y₂ i₂ keys₁ bits₁' keys₂ bits₂' u₂ i₃ y₃
      m₂ = rw f₂ at h₂

      past_2 : Going w.asked y₃ 2
      past_2 = between_next past_1 (omega arith) m₂.passes

      w₂ : Written picture k row (column + 2 ^ k) (span.key + 2 * (span.step / 5)) i₂ keys₁ bits₁' keys₂ bits₂' u₂ i₃
      unfolding quadrant_row quadrant_column
      w₂ = m₂.written _ _ _ _ _ _ (between_seen past_1 (omega arith))

      pub writes_sw : {q : KeySpan} → q ≡ child_span span 3 → CombineWriteAsked bits₁ bits₂ table s₂ q y₃ i₃ keys₂ bits₂'
      unfolding asks quadrant_row quadrant_column
      writes_sw f =
          rw f (record {
            asked = asks w.asked e n past_2 (omega arith);
            fits = fits_sw picture k (2 ^ k) (span.step / 5) row column span.key place refl fifth fitting w₁ w₂;
          })

      module _ {q₃ : KeySpan} {y₄ : Pair} {u₃ i₄ : ℕ} {keys₃ bits₃ : List ℕ} (f₃ : q₃ ≡ child_span span 3) (h₃ : Wrote q₃ y₃ i₃ keys₂ bits₂' keys₃ bits₃ u₃ i₄ y₄) where
        m₃ : Wrote (child_span span 3) y₃ i₃ keys₂ bits₂' keys₃ bits₃ u₃ i₄ y₄
        m₃ = rw f₃ at h₃

        past_3 : Going w.asked y₄ 3
        past_3 = between_next past_2 (omega arith) m₃.passes

        w₃ : Written picture k (row + 2 ^ k) column (span.key + 3 * (span.step / 5)) i₃ keys₂ bits₂' keys₃ bits₃ u₃ i₄
        unfolding quadrant_row quadrant_column
        w₃ = m₃.written _ _ _ _ _ _ (between_seen past_2 (omega arith))

        pub writes_se : {q : KeySpan} → q ≡ child_span span 4 → CombineWriteAsked bits₁ bits₂ table s₂ q y₄ i₄ keys₃ bits₃
        unfolding asks quadrant_row quadrant_column
        writes_se f =
            rw f (record {
              asked = asks w.asked e n past_3 (omega arith);
              fits = fits_se picture k (2 ^ k) (span.step / 5) row column span.key place refl fifth fitting w₁ w₂ w₃;
            })

        module _ {q₄ : KeySpan} {y₅ : Pair} {u₄ i₅ : ℕ} {keys₄ bits₄ : List ℕ} (f₄ : q₄ ≡ child_span span 4) (h₄ : Wrote q₄ y₄ i₄ keys₃ bits₃ keys₄ bits₄ u₄ i₅ y₅) where
          m₄ : Wrote (child_span span 4) y₄ i₄ keys₃ bits₃ keys₄ bits₄ u₄ i₅ y₅
          m₄ = rw f₄ at h₄

          w₄ : Written picture k (row + 2 ^ k) (column + 2 ^ k) (span.key + 4 * (span.step / 5)) i₄ keys₃ bits₃ keys₄ bits₄ u₄ i₅
          unfolding quadrant_row quadrant_column
          w₄ = m₄.written _ _ _ _ _ _ (between_seen past_3 (omega arith))

          pub four_asked : FourAsked span.key (span.step / 5) place (union_of_four u₁ u₂ u₃ u₄) i₂ i₃ i₄ keys₄ bits₄
          four_asked = fits_four picture k (2 ^ k) (span.step / 5) row column span.key place refl fifth fitting w₁ w₂ w₃ w₄

          module _ {keys₅ bits₅ : List ℕ} {u i : ℕ} (v : FourWritten span.key (span.step / 5) place u₁ u₂ u₃ u₄ i₂ i₃ i₄ i₅ keys₄ bits₄ keys₅ bits₅ u i) where
            all_written : (p q : Picture) (k r c κ : ℕ) → Seen p q k r c κ bits₁ bits₂ span.step x
                → Written (combined p q table s₂) k r c span.key place keys bits keys₅ bits₅ u i
            all_written p q zero r c κ s = absurd (pair_not_pixel s e n)
            all_written p q (suc k) r c κ s =
                let f = four_seen e m₁.passes m₂.passes m₃.passes s in
                written_quadrants (combined p q table s₂) k (2 ^ k) (span.step / 5) r c span.key place refl f.nw.step_is
                (m₁.written _ _ _ _ _ _ f.nw)
                (m₂.written _ _ _ _ _ _ f.ne)
                (m₃.written _ _ _ _ _ _ f.sw)
                (m₄.written _ _ _ _ _ _ f.se)
                v

            pub node_made : {z : Pair} → z ≡ passed_to x y₅ → Wrote span x place keys bits keys₅ bits₅ u i z
            node_made f = record { passes = all_pass e m₁.passes m₂.passes m₃.passes n m₄.passes f; written = all_written }
