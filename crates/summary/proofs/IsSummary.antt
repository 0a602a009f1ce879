-- The check of a summary: the blocks passed so far are right, and a wrong length or a wrong block is refusal 18. Rests on Renewed, SameCounts and laws'
-- SameNumbers.
use Prim.Native.Nat.{ℕ, ◌+◌, ◌-◌, ◌*◌, ◌^◌, ◌≤◌, ◌<◌}
use mathlib.Core.Path.{◌≡◌, sym, ◌∙◌, ap, ap₂}
use mathlib.Core.Bool.{Bool, true, false, not, true≢false}
use mathlib.Core.List.{List, ◌++◌}
use native.Mathlib.Nat.{suc-mul, zero-mul}
use native.Mathlib.Numerals.{add-one}
use native.Mathlib.Omega.{arith}
use lib.Dec.{eqb}
use lib.ListN.{length, take, drop}
use lib.Pointwise.{pointwise}
use lib.Seq.{take-add, take_all}
use borrow.Author.Tests.{eqb-true, eqb-false, not-true, not-false}
use Rattle.keys.specs.Key.{slot_limit}
use Rattle.keys.specs.Block.{row_of, column_of}
use Rattle.definitions.specs.Picture.{Picture}
use Rattle.definitions.specs.Area.{counts_of, summary_level, summary_height, summary_length, summary_of, block_key, same_numbers, no_summary}
use Rattle.laws.proofs.SummaryOf.{summary-length}
use Rattle.laws.proofs.SameNumbers.{same_numbers_to, same_from, summary_right, summary_wrong}
use Rattle.summary.proofs.Renewed.{counts_part}
use Rattle.summary.proofs.SameCounts.{part_same}

-- the places of the first b blocks are right
pub record FirstRight (m s : ℕ) (p : Picture) (summary : List ℕ) (b : ℕ) : Type 0 where
  pub places : take (b * s) summary ≡ take (b * s) (summary_of m s p)

-- the test of the length
pub length-right : (m s : ℕ) (summary : List ℕ) (r : Bool) → r ≡ eqb (length summary) (summary_length m s) → r ≡ true → length summary ≡ summary_length m s
length-right m s summary r is yes' = eqb-true _ _ (sym is ∙ yes')

module _ (m s : ℕ) (p : Picture) (summary : List ℕ) where
  pub none_right : FirstRight m s p summary 0
  none_right = record { places = ap (λ n. take n summary) (zero-mul s) ∙ sym (ap (λ n. take n (summary_of m s p)) (zero-mul s)) }

  -- a summary of another length is wrong
  pub length-wrong : (r : Bool) → r ≡ eqb (length summary) (summary_length m s) → r ≡ false → false ≡ not (no_summary m s p summary)
  length-wrong r is no' =
      sym (ap not (summary_wrong m s p summary (λ f. eqb-false _ _ (sym is ∙ no') (ap length f ∙ summary-length m s p))))

  -- after all blocks it is right
  pub all_right : (b : ℕ) → FirstRight m s p summary b → b ≡ 4 ^ summary_level m → length summary ≡ summary_length m s → true ≡ not (no_summary m s p summary)
  all_right b h e long =
      let all : b * s ≡ summary_length m s = ap (λ n. n * s) e in
      let size = summary-length m s p in
      sym (ap not (summary_right m s p summary
      (sym (take_all (b * s) summary (omega arith)) ∙ h.places ∙ take_all (b * s) (summary_of m s p) (omega arith))))

  module _ (b : ℕ) (counts : List ℕ) (h : b < 4 ^ summary_level m) (few : s ≤ slot_limit)
      (e : counts ≡ counts_of 32 p (summary_height m) (row_of m (block_key m b)) (column_of m (block_key m b))) where
    -- a block whose places differ from its counts
    pub block_wrong : (r : Bool) → r ≡ not (pointwise eqb (take s counts) (take (b * s + s - b * s) (drop (b * s) summary))) → r ≡ true
        → false ≡ not (no_summary m s p summary)
    block_wrong r is differ =
        let other : same_numbers (take s counts) (take s (drop (b * s) summary)) ≡ false =
        sym (part_same s counts summary (b * s)) ∙ not-true (pointwise eqb (take s counts) (take (b * s + s - b * s) (drop (b * s) summary))) (sym is ∙ differ) in
        sym (ap not (summary_wrong m s p summary
        (λ f. true≢false (sym (same_from (take s counts) (take s (drop (b * s) summary)) (counts_part m s p b counts h few e ∙ ap (λ l. take s (drop (b * s) l)) (sym f))) ∙ other))))

    -- and one whose places are its counts
    pub block_right : FirstRight m s p summary b
        → (r : Bool)
        → r ≡ not (pointwise eqb (take s counts) (take (b * s + s - b * s) (drop (b * s) summary)))
        → r ≡ false
        → FirstRight m s p summary (b + 1)
    block_right before r is alike =
        let same : same_numbers (take s counts) (take s (drop (b * s) summary)) ≡ true =
        sym (part_same s counts summary (b * s)) ∙ not-false (pointwise eqb (take s counts) (take (b * s + s - b * s) (drop (b * s) summary))) (sym is ∙ alike) in
        let next : (b + 1) * s ≡ b * s + s = ap (λ n. n * s) (add-one b) ∙ suc-mul b s in
        let part : take s (drop (b * s) summary) ≡ take s (drop (b * s) (summary_of m s p)) = sym (same_numbers_to _ _ same) ∙ counts_part m s p b counts h few e in
        record {
          places = ap (λ n. take n summary) next
              ∙ take-add (b * s) s summary
              ∙ ap₂ (λ x y. x ++ y) before.places part
              ∙ sym (take-add (b * s) s (summary_of m s p))
              ∙ sym (ap (λ n. take n (summary_of m s p)) next);
        }
