-- What the writing of a block's leaves asks and answers: where the next is the block, and by its quadrants. Rests on Quarters and on build's laws
-- of writing.
use Prim.Native.Nat.{ℕ, zero, suc, ◌+◌, ◌-◌, ◌*◌, ◌/◌, ◌^◌, ◌≤◌, ◌<◌}
use mathlib.Core.Path.{◌≡◌, refl, sym, ap}
use mathlib.Core.List.{List}
use native.Mathlib.Omega.{arith}
use native.Mathlib.Nat.{pow-suc}
use lib.ListN.{length, get_or}
use Rattle.keys.specs.Span.{child_span}
use Rattle.keys.specs.declared.span.KeySpan.{KeySpan}
use Rattle.keys.proofs.Powers.{five_pos, five_le}
use Rattle.keys.proofs.SpanChild.{fifth_of, child_first}
use Rattle.definitions.specs.Picture.{Picture}
use Rattle.definitions.specs.Bits.{union_of_four}
use Rattle.build.specs.BuildBlocks.{Fitting, FourAsked, FourWritten, Written}
use Rattle.build.specs.declared.write.Below.{Below}
use Rattle.build.proofs.FittingBlock.{fitting_at, fitting_key, fits_nw, fits_ne, fits_sw, fits_se, fits_four}
use Rattle.build.proofs.WrittenBlock.{written_one, written_quadrants}
use Rattle.leaves.specs.Delivered.{leaves_end, Parted, leaf, four, pixel_span, leaf_lain, LayAsked, BlockLaid}
use Rattle.leaves.specs.declared.lay.Lain.{Lain}
use Rattle.leaves.proofs.EndOf.{end_leaf}
use Rattle.leaves.proofs.Quarters.{PartedQuarters, quarters, last_is, parted_there, parted_high, parted_at, parted_pixel, one_higher, step_below, child_asked}

module _ {leafKeys leafFeatures : List ℕ} {at place : ℕ} {keys bits : List ℕ} where
  leaf_written : (κ : ℕ) → get_or leafKeys at 0 ≡ κ → (p : Picture) (k r c : ℕ) → Parted p leafKeys leafFeatures k r c κ at
      → Written p k r c κ place keys bits keys bits (2 ^ get_or leafFeatures at 0) (place + 1)
  leaf_written κ e p k r c (leaf h e' one f) = written_one p k r c κ place (2 ^ get_or leafFeatures at 0) (place + 1) keys bits one (ap (λ x. 2 ^ x) (sym f)) refl
  leaf_written κ e p k r c (four h n x y z w) = absurd (n e)

module _ {leafKeys leafFeatures : List ℕ} {span : KeySpan} {at place : ℕ} {keys bits : List ℕ} where
  pub laid_leaf : at < length leafKeys → get_or leafKeys at 0 ≡ span.key → BlockLaid leafKeys leafFeatures span at place keys bits keys bits (leaf_lain leafFeatures at place)
  laid_leaf h e = record { end_is = λ k g. sym (end_leaf leafKeys k span.key at h e); written = λ p k r c g. leaf_written span.key e p k r c }

  -- the quadrants are ready one after the other, and then their own records
  module _ (a : LayAsked leafKeys leafFeatures span at place keys bits) (n : get_or leafKeys at 0 ≡ span.key → ⊥) where
    abbrev k : ℕ
    k = a.asked.height - 1

    abbrev step : ℕ
    step = span.step / 5

    pub high : span.step ≡ 1 → ⊥
    high e = let h = five_le {k = 1} a.asked.height (parted_high a.parted n) in omega (arith, a.asked.step_is)

    g : step ≡ 5 ^ k
    g = step_below a.asked high

    fitting : Fitting a.picture (suc k) a.row a.column span.key place keys bits
    fitting = fitting_at (one_higher a.asked high) a.fits

    own_parts : Parted a.picture leafKeys leafFeatures (suc k) a.row a.column span.key at
    own_parts = parted_at (one_higher a.asked high) refl refl a.parted

    -- a quadrant is ready where its leaves begin and its records fit
    ready : (d : ℕ) → d ≤ 4 → {r c at' place' : ℕ} {keys' bits' : List ℕ} → Parted a.picture leafKeys leafFeatures k r c (span.key + d * step) at'
        → Fitting a.picture k r c (span.key + d * step) place' keys' bits'
        → LayAsked leafKeys leafFeatures (child_span span d) at' place' keys' bits'
    unfolding child_asked
    ready d low {r} {c} t f = record { asked = child_asked a.asked high d low; picture = a.picture; row = r; column = c; parted = t; fits = f }

    -- the block's four parts, of any picture that parts so
    parts : {h second third fourth : ℕ} → step ≡ 5 ^ h → second ≡ leaves_end leafKeys h (span.key + step) at
        → third ≡ leaves_end leafKeys h (span.key + 2 * step) second
        → fourth ≡ leaves_end leafKeys h (span.key + 3 * step) third
        → {p : Picture} {r c : ℕ} → Parted p leafKeys leafFeatures (suc h) r c span.key at
        → PartedQuarters p leafKeys leafFeatures h r c span.key step at second third fourth
    parts {h} {second} {third} {fourth} e e₂ e₃ e₄ t = quarters leafKeys h span.key step at second third fourth e e₂ e₃ e₄ t n

    first_part : Parted a.picture leafKeys leafFeatures k a.row a.column (span.key + step) at
    first_part = (parts g refl refl refl own_parts).nw

    pub ready_nw : {q : KeySpan} → q ≡ child_span span 1 → LayAsked leafKeys leafFeatures q at (place + 1) keys bits
    ready_nw f =
        let e : span.key + step ≡ span.key + 1 * step = omega arith in
        rw f (ready 1 (omega arith) (parted_at refl e refl first_part) (fitting_key (sym e) (fits_nw a.picture k (2 ^ k) step a.row a.column span.key place refl g fitting)))

    module _ {q₁ : KeySpan} {keys₁ bits₁ : List ℕ} {x₁ : Lain} (f₁ : q₁ ≡ child_span span 1) (l₁ : BlockLaid leafKeys leafFeatures q₁ at (place + 1) keys bits keys₁ bits₁ x₁) where
      m₁ : BlockLaid leafKeys leafFeatures (record { key = span.key + step; step = step }) at (place + 1) keys bits keys₁ bits₁ x₁
      m₁ = rw (child_first span f₁) at l₁

      w₁ : Written a.picture k a.row a.column (span.key + step) (place + 1) keys bits keys₁ bits₁ x₁.below.bits x₁.below.next
      w₁ = m₁.written a.picture k a.row a.column g first_part

      second_part : Parted a.picture leafKeys leafFeatures k a.row (a.column + 2 ^ k) (span.key + 2 * step) x₁.end
      second_part = (parts g (m₁.end_is k g) refl refl own_parts).ne

      pub ready_ne : {q : KeySpan} → q ≡ child_span span 2 → LayAsked leafKeys leafFeatures q x₁.end x₁.below.next keys₁ bits₁
      ready_ne f = rw f (ready 2 (omega arith) second_part (fits_ne a.picture k (2 ^ k) step a.row a.column span.key place refl g fitting w₁))

      module _ {q₂ : KeySpan} {keys₂ bits₂ : List ℕ} {x₂ : Lain} (f₂ : q₂ ≡ child_span span 2)
          (l₂ : BlockLaid leafKeys leafFeatures q₂ x₁.end x₁.below.next keys₁ bits₁ keys₂ bits₂ x₂) where
        m₂ : BlockLaid leafKeys leafFeatures (child_span span 2) x₁.end x₁.below.next keys₁ bits₁ keys₂ bits₂ x₂
        m₂ = rw f₂ at l₂

        w₂ : Written a.picture k a.row (a.column + 2 ^ k) (span.key + 2 * step) x₁.below.next keys₁ bits₁ keys₂ bits₂ x₂.below.bits x₂.below.next
        w₂ = m₂.written a.picture k a.row (a.column + 2 ^ k) g second_part

        third_part : Parted a.picture leafKeys leafFeatures k (a.row + 2 ^ k) a.column (span.key + 3 * step) x₂.end
        third_part = (parts g (m₁.end_is k g) (m₂.end_is k g) refl own_parts).sw

        pub ready_sw : {q : KeySpan} → q ≡ child_span span 3 → LayAsked leafKeys leafFeatures q x₂.end x₂.below.next keys₂ bits₂
        ready_sw f = rw f (ready 3 (omega arith) third_part (fits_sw a.picture k (2 ^ k) step a.row a.column span.key place refl g fitting w₁ w₂))

        module _ {q₃ : KeySpan} {keys₃ bits₃ : List ℕ} {x₃ : Lain} (f₃ : q₃ ≡ child_span span 3)
            (l₃ : BlockLaid leafKeys leafFeatures q₃ x₂.end x₂.below.next keys₂ bits₂ keys₃ bits₃ x₃) where
          m₃ : BlockLaid leafKeys leafFeatures (child_span span 3) x₂.end x₂.below.next keys₂ bits₂ keys₃ bits₃ x₃
          m₃ = rw f₃ at l₃

          w₃ : Written a.picture k (a.row + 2 ^ k) a.column (span.key + 3 * step) x₂.below.next keys₂ bits₂ keys₃ bits₃ x₃.below.bits x₃.below.next
          w₃ = m₃.written a.picture k (a.row + 2 ^ k) a.column g third_part

          all_parts : {p : Picture} {h r c : ℕ} → step ≡ 5 ^ h → Parted p leafKeys leafFeatures (suc h) r c span.key at
              → PartedQuarters p leafKeys leafFeatures h r c span.key step at x₁.end x₂.end x₃.end
          all_parts {h = h} e t = parts e (m₁.end_is h e) (m₂.end_is h e) (m₃.end_is h e) t

          pub ready_se : {q : KeySpan} → q ≡ child_span span 4 → LayAsked leafKeys leafFeatures q x₃.end x₃.below.next keys₃ bits₃
          ready_se f = rw f (ready 4 (omega arith) (all_parts g own_parts).se (fits_se a.picture k (2 ^ k) step a.row a.column span.key place refl g fitting w₁ w₂ w₃))

          module _ {q₄ : KeySpan} {keys₄ bits₄ : List ℕ} {x₄ : Lain} (f₄ : q₄ ≡ child_span span 4)
              (l₄ : BlockLaid leafKeys leafFeatures q₄ x₃.end x₃.below.next keys₃ bits₃ keys₄ bits₄ x₄) where
            m₄ : BlockLaid leafKeys leafFeatures (child_span span 4) x₃.end x₃.below.next keys₃ bits₃ keys₄ bits₄ x₄
            m₄ = rw f₄ at l₄

            pub ready_four : FourAsked span.key step place (union_of_four x₁.below.bits x₂.below.bits x₃.below.bits x₄.below.bits) x₁.below.next x₂.below.next x₃.below.next keys₄ bits₄
            ready_four =
                fits_four a.picture k (2 ^ k) step a.row a.column span.key place refl g fitting w₁ w₂ w₃
                (m₄.written a.picture k (a.row + 2 ^ k) (a.column + 2 ^ k) g (all_parts g own_parts).se)

            four_end : (h : ℕ) → span.step ≡ 5 ^ h → x₄.end ≡ leaves_end leafKeys h span.key at
            four_end zero e = absurd (high e)
            four_end (suc h) e =
                let f = fifth_of h e in
                last_is leafKeys h span.key step at x₁.end x₂.end x₃.end f (m₁.end_is h f) (m₂.end_is h f) (m₃.end_is h f) x₄.end (parted_there a.parted) n (m₄.end_is h f)

            module _ {keys' bits' : List ℕ} {y : Below}
                (f : FourWritten span.key step place x₁.below.bits x₂.below.bits x₃.below.bits x₄.below.bits x₁.below.next x₂.below.next x₃.below.next x₄.below.next keys₄ bits₄ keys' bits' y.bits y.next) where
              four_written : (p : Picture) (h r c : ℕ) → span.step ≡ 5 ^ h → Parted p leafKeys leafFeatures h r c span.key at
                  → Written p h r c span.key place keys bits keys' bits' y.bits y.next
              four_written p zero r c e t = absurd (high e)
              four_written p (suc h) r c e t =
                  let i = fifth_of h e in
                  let q = all_parts i t in
                  written_quadrants p h (2 ^ h) step r c span.key place refl i
                  (m₁.written p h r c i q.nw)
                  (m₂.written p h r (c + 2 ^ h) i q.ne)
                  (m₃.written p h (r + 2 ^ h) c i q.sw)
                  (m₄.written p h (r + 2 ^ h) (c + 2 ^ h) i q.se)
                  f

              pub laid_four : BlockLaid leafKeys leafFeatures span at place keys bits keys' bits' (record { below = y; end = x₄.end })
              laid_four = record { end_is = four_end; written = four_written }

-- a block of one key is a pixel, and has its own leaf
pub pixel_leaf : {p : Picture} {keys features : List ℕ} (k : ℕ) {r c κ at : ℕ} → 1 ≡ 5 ^ k → Parted p keys features k r c κ at → get_or keys at 0 ≡ κ
pixel_leaf zero e t = parted_pixel t
pixel_leaf (suc k) e t = absurd (let f = pow-suc 5 k in let p = five_pos k in omega arith)

-- a pixel that is ready is written by its bits
pub laid_pixel : {leafKeys leafFeatures : List ℕ} {κ at place : ℕ} {keys bits : List ℕ} {x : Lain} → LayAsked leafKeys leafFeatures (pixel_span κ) at place keys bits
    → x ≡ leaf_lain leafFeatures at place
    → BlockLaid leafKeys leafFeatures (pixel_span κ) at place keys bits keys bits x
laid_pixel a e = rw e (laid_leaf (parted_there a.parted) (pixel_leaf a.asked.height a.asked.step_is a.parted))

-- the place of a block is small
pub ready_place : {leafKeys leafFeatures : List ℕ} {span : KeySpan} {at place : ℕ} {keys bits : List ℕ} → LayAsked leafKeys leafFeatures span at place keys bits → place ≤ 5 ^ 10
ready_place a = let f = a.fits in omega (arith, f.key_fits, f.place_fits)

-- the same keys
pub ready_at : {leafKeys leafFeatures : List ℕ} {span span' : KeySpan} {at place : ℕ} {keys bits : List ℕ} → span ≡ span' → LayAsked leafKeys leafFeatures span at place keys bits
    → LayAsked leafKeys leafFeatures span' at place keys bits
ready_at e a = rw e at a

pub laid_at : {leafKeys leafFeatures : List ℕ} {span span' : KeySpan} {at place : ℕ} {keys bits keys' bits' : List ℕ} {x : Lain} → span ≡ span'
    → BlockLaid leafKeys leafFeatures span at place keys bits keys' bits' x
    → BlockLaid leafKeys leafFeatures span' at place keys bits keys' bits' x
laid_at e a = rw e at a
