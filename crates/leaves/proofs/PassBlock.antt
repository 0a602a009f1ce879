-- What the pass over a block's leaves answers: where none is left, where the next is the block, where a pixel's is another, and by its quadrants.
-- Rests on Quarters and on build's laws of counting.
use Prim.Native.Nat.{ℕ, zero, suc, ◌+◌, ◌-◌, ◌*◌, ◌/◌, ◌^◌, ◌≤◌, ◌<◌}
use mathlib.Core.Path.{◌≡◌, refl, sym, ◌∙◌, ap}
use mathlib.Core.List.{List}
use native.Mathlib.Nat.{pow-suc}
use native.Mathlib.Omega.{arith}
use lib.ListN.{length, get_or}
use Rattle.keys.specs.Span.{child_span}
use Rattle.keys.specs.declared.span.KeySpan.{KeySpan}
use Rattle.keys.proofs.Cases.{decide}
use Rattle.keys.proofs.Powers.{five_pos, five_le}
use Rattle.keys.proofs.SpanChild.{fifth_of, child_first}
use Rattle.definitions.specs.Picture.{Picture}
use Rattle.definitions.specs.Bits.{union_of_four}
use Rattle.list.specs.Check.{one_slot}
use Rattle.build.specs.BuildBlocks.{Tallied, Joined}
use Rattle.build.specs.declared.count.Tally.{Tally}
use Rattle.build.proofs.CountBlock.{tallied_pixel, tallied_one, tallied_four}
use Rattle.leaves.specs.Delivered.{leaves_end, Parted, leaf, four, leaf_pass, LeavesAsked, LeavesLost, LeavesPassed}
use Rattle.leaves.specs.declared.count.Pass.{Pass}
use Rattle.leaves.proofs.EndOf.{end_none, end_leaf, end_other}
use Rattle.leaves.proofs.Quarters.{quarters, last_is, step_below}

module _ (keys features : List ℕ) (span : KeySpan) (at : ℕ) where
  pub lost_none : length keys ≤ at → LeavesLost keys span at
  lost_none h = λ k e. sym (end_none keys k span.key at h)

  module _ (h : at < length keys) where
    pub passed_leaf : get_or keys at 0 ≡ span.key → LeavesPassed keys features span at (leaf_pass features at)
    passed_leaf e = record {
      next-is = λ k g. sym (end_leaf keys k span.key at h e);
      small = λ k g. let p = five_pos k in omega arith;
      tally = λ p k r c g. one p k r c;
    }
      where
        one : (p : Picture) (k r c : ℕ) → Parted p keys features k r c span.key at → Tallied p k r c (2 ^ get_or features at 0) 1
        one p k r c (leaf i e' o f) = tallied_one k o (tallied_pixel p r c (2 ^ get_or features at 0) (ap (λ x. 2 ^ x) (sym f)))
        one p k r c (four i n x y z w) = absurd (n e)

    module _ (n : get_or keys at 0 ≡ span.key → ⊥) where
      -- a block of one key is a pixel
      module _ (one : span.step ≡ 1) where
        no_more : (k : ℕ) → span.step ≡ 5 ^ suc k → ⊥
        no_more k e = let f = pow-suc 5 k in let p = five_pos k in omega arith

        other_end : (k : ℕ) → span.step ≡ 5 ^ k → length keys + 1 ≡ leaves_end keys k span.key at
        other_end zero e = sym (end_other keys span.key at h n)
        other_end (suc k) e = absurd (no_more k e)

        pub lost_other : LeavesLost keys span at
        lost_other = other_end

      -- the leaves of a quadrant are not there, and so nothing of those that would follow
      module _ (high : span.step ≡ 1 → ⊥) where
        abbrev lost : ℕ
        lost = length keys + 1

        stays_lost : (k κ : ℕ) → lost ≡ leaves_end keys k κ lost
        stays_lost k κ = sym (end_none keys k κ lost (omega arith))

        module _ (second third fourth : ℕ)
            (four : (k : ℕ) → span.step / 5 ≡ 5 ^ k → (second ≡ leaves_end keys k (span.key + span.step / 5) at)
            × ((third ≡ leaves_end keys k (span.key + 2 * (span.step / 5)) second)
            × ((fourth ≡ leaves_end keys k (span.key + 3 * (span.step / 5)) third)
            × (lost ≡ leaves_end keys k (span.key + 4 * (span.step / 5)) fourth)))) where
          lost_four : LeavesLost keys span at
          lost_four zero e = absurd (high e)
          lost_four (suc k) e =
              let g = fifth_of k e in
              let q = four k g in
              last_is keys k span.key (span.step / 5) at second third fourth g q.0 q.1.0 q.1.1.0 lost h n q.1.1.1

        module _ {q₁ : KeySpan} (f₁ : q₁ ≡ child_span span 1) where
          pub lost_nw : LeavesLost keys q₁ at → LeavesLost keys span at
          lost_nw l =
              let m : LeavesLost keys (record { key = span.key + span.step / 5; step = span.step / 5 }) at = rw (child_first span f₁) at l in
              lost_four lost lost lost (λ k g. (m k g, (stays_lost k _, (stays_lost k _, stays_lost k _))))

          module _ {x₁ : Pass} (w₁ : LeavesPassed keys features q₁ at x₁) where
            first_next : (k : ℕ) → span.step / 5 ≡ 5 ^ k → x₁.next ≡ leaves_end keys k (span.key + span.step / 5) at
            first_next k g = let m : LeavesPassed keys features (record { key = span.key + span.step / 5; step = span.step / 5 }) at x₁ = rw (child_first span f₁) at w₁ in m.next-is k g

            pub lost_ne : {q₂ : KeySpan} → q₂ ≡ child_span span 2 → LeavesLost keys q₂ x₁.next → LeavesLost keys span at
            lost_ne f₂ l =
                let m : LeavesLost keys (child_span span 2) x₁.next = rw f₂ at l in
                lost_four x₁.next lost lost (λ k g. (first_next k g, (m k g, (stays_lost k _, stays_lost k _))))

            module _ {q₂ : KeySpan} (f₂ : q₂ ≡ child_span span 2) {x₂ : Pass} (w₂ : LeavesPassed keys features q₂ x₁.next x₂) where
              second_next : (k : ℕ) → span.step / 5 ≡ 5 ^ k → x₂.next ≡ leaves_end keys k (span.key + 2 * (span.step / 5)) x₁.next
              second_next k g = let m : LeavesPassed keys features (child_span span 2) x₁.next x₂ = rw f₂ at w₂ in m.next-is k g

              pub lost_sw : {q₃ : KeySpan} → q₃ ≡ child_span span 3 → LeavesLost keys q₃ x₂.next → LeavesLost keys span at
              lost_sw f₃ l =
                  let m : LeavesLost keys (child_span span 3) x₂.next = rw f₃ at l in
                  lost_four x₁.next x₂.next lost (λ k g. (first_next k g, (second_next k g, (m k g, stays_lost k _))))

              module _ {q₃ : KeySpan} (f₃ : q₃ ≡ child_span span 3) {x₃ : Pass} (w₃ : LeavesPassed keys features q₃ x₂.next x₃) where
                third_next : (k : ℕ) → span.step / 5 ≡ 5 ^ k → x₃.next ≡ leaves_end keys k (span.key + 3 * (span.step / 5)) x₂.next
                third_next k g = let m : LeavesPassed keys features (child_span span 3) x₂.next x₃ = rw f₃ at w₃ in m.next-is k g

                pub lost_se : {q₄ : KeySpan} → q₄ ≡ child_span span 4 → LeavesLost keys q₄ x₃.next → LeavesLost keys span at
                lost_se f₄ l =
                    let m : LeavesLost keys (child_span span 4) x₃.next = rw f₄ at l in
                    lost_four x₁.next x₂.next x₃.next (λ k g. (first_next k g, (second_next k g, (third_next k g, m k g))))

      -- four quadrants, one after the other
      module _ (high : span.step ≡ 1 → ⊥) {q₁ q₂ q₃ q₄ : KeySpan} (f₁ : q₁ ≡ child_span span 1) (f₂ : q₂ ≡ child_span span 2) (f₃ : q₃ ≡ child_span span 3)
          (f₄ : q₄ ≡ child_span span 4) {x₁ x₂ x₃ x₄ : Pass} (w₁ : LeavesPassed keys features q₁ at x₁) (w₂ : LeavesPassed keys features q₂ x₁.next x₂)
          (w₃ : LeavesPassed keys features q₃ x₂.next x₃) (w₄ : LeavesPassed keys features q₄ x₃.next x₄) where
        p₁ : LeavesPassed keys features (record { key = span.key + span.step / 5; step = span.step / 5 }) at x₁
        p₁ = rw (child_first span f₁) at w₁

        p₂ : LeavesPassed keys features (child_span span 2) x₁.next x₂
        p₂ = rw f₂ at w₂

        p₃ : LeavesPassed keys features (child_span span 3) x₂.next x₃
        p₃ = rw f₃ at w₃

        p₄ : LeavesPassed keys features (child_span span 4) x₃.next x₄
        p₄ = rw f₄ at w₄

        four_end : (k : ℕ) → span.step ≡ 5 ^ k → x₄.next ≡ leaves_end keys k span.key at
        four_end zero e = absurd (high e)
        four_end (suc k) e =
            let g = fifth_of k e in
            last_is keys k span.key (span.step / 5) at x₁.next x₂.next x₃.next g (p₁.next-is k g) (p₂.next-is k g) (p₃.next-is k g) x₄.next h n (p₄.next-is k g)

        module _ {y : Tally} (j : Joined (union_of_four x₁.tally.bits x₂.tally.bits x₃.tally.bits x₄.tally.bits)
            (x₁.tally.count + (x₂.tally.count + (x₃.tally.count + x₄.tally.count))) y.bits y.count) where
          four_tally : (p : Picture) (k r c : ℕ) → span.step ≡ 5 ^ k → Parted p keys features k r c span.key at → Tallied p k r c y.bits y.count
          four_tally p zero r c e t = absurd (high e)
          four_tally p (suc k) r c e t =
              let g = fifth_of k e in
              let q = quarters keys k span.key (span.step / 5) at x₁.next x₂.next x₃.next g (p₁.next-is k g) (p₂.next-is k g) (p₃.next-is k g) t n in
              tallied_four p k (2 ^ k) r c refl (p₁.tally p k _ _ g q.nw) (p₂.tally p k _ _ g q.ne) (p₃.tally p k _ _ g q.sw) (p₄.tally p k _ _ g q.se) j

          few : (k : ℕ) → span.step ≡ 5 ^ k → y.count ≤ 5 ^ k
          few zero e = absurd (high e)
          few (suc k) e =
              let g = fifth_of k e in
              let f = pow-suc 5 k in
              let p = five_pos k in
              decide (one_slot (union_of_four x₁.tally.bits x₂.tally.bits x₃.tally.bits x₄.tally.bits))
              (λ o. let c = rw o at j.count-is in omega arith)
              (λ o. let c = rw o at j.count-is in omega (arith, p₁.small k g, p₂.small k g, p₃.small k g, p₄.small k g))

          pub passed_four : LeavesPassed keys features span at (record { tally = y; next = x₄.next })
          passed_four = record { next-is = four_end; small = few; tally = four_tally }

-- the same keys
pub passed_at : {keys features : List ℕ} {span span' : KeySpan} {at : ℕ} {x : Pass} → span ≡ span' → LeavesPassed keys features span at x → LeavesPassed keys features span' at x
passed_at e w = rw e at w

-- the count of a quadrant is small
pub passed_small : {keys features : List ℕ} {span child : KeySpan} {at : ℕ} {x : Pass} (a : LeavesAsked keys features span) → (span.step ≡ 1 → ⊥)
    → (d : ℕ) → child ≡ child_span span d
    → LeavesPassed keys features child at x
    → x.tally.count ≤ 5 ^ 9
passed_small {span = span} a high d e w =
    let s = w.small (a.height - 1) (ap (λ q. q.step) e ∙ step_below a high) in
    let f = five_le {k = a.height - 1} 9 (omega (arith, a.deep)) in
    omega arith
