-- What the calls of `spread` ask of one another, and what they write together. Where a block has several features every place is exact; where it has one,
-- nothing is written, and the places do not matter. Rests on WrittenBackward.
use Prim.Native.Nat.{ℕ, suc, ◌+◌, ◌-◌, ◌^◌, ◌≤◌, ◌<◌}
use mathlib.Core.Path.{◌≡◌, refl, sym, ◌∙◌, ap}
use mathlib.Core.Bool.{true, false, cond}
use mathlib.Core.List.{List}
use native.Mathlib.Omega.{arith}
use native.Mathlib.Nat.{pow-suc}
use lib.ListN.{length}
use Rattle.keys.specs.Key.{child_key}
use Rattle.keys.specs.declared.block.TreeBlock.{TreeBlock}
use Rattle.keys.specs.Under.{here, nw, ne, sw, se}
use Rattle.keys.proofs.Cases.{decide}
use Rattle.definitions.specs.Picture.{Picture, one_feature}
use Rattle.definitions.specs.Bits.{union_of_four, bits_of}
use Rattle.definitions.specs.List.{list_of}
use Rattle.laws.proofs.Features.{one_under, several_above}
use Rattle.laws.proofs.ListOf.{length-node, list_some}
use Rattle.list.specs.Check.{one_slot}
use Rattle.list.proofs.OneSlot.{slot_feature}
use Rattle.build.specs.BuildBlocks.{Written, FourAsked, FourWritten}
use Rattle.build.proofs.CountBlock.{four_bits}
use Rattle.build.proofs.FittingBlock.{keys_length, bits_length}
use Rattle.build.proofs.WriteBlock.{four_alike}
use Rattle.build.proofs.WrittenBlock.{keys_stay, bits_stay}
use Rattle.deeds.specs.Meeting.{block_at}
use Rattle.apply_deed.specs.Passes.{FittingBefore, WrittenBefore, FourSettled}
use Rattle.apply_deed.proofs.LeafWritten.{before_one}
use Rattle.apply_deed.proofs.WrittenBackward.{written_backward}

-- the own records of four quadrants, by the test of their union
module _ {q : TreeBlock} {end nw ne sw se first second third fourth : ℕ} {keys bits : List ℕ} {union : ℕ} where
  pub settled_alike : {place : ℕ} → union ≡ union_of_four nw ne sw se → one_slot union ≡ true → place ≡ end - 1
      → FourSettled q end nw ne sw se first second third fourth keys bits keys bits union place
  settled_alike e t i = record {
    next = first - 1 + 1;
    written = four_alike q.key (5 ^ (q.height - 1)) (first - 1) nw ne sw se second third fourth end keys bits union e t;
    place_is = rw t i;
  }

  pub settled_apart : {step : ℕ} {keys' bits' : List ℕ} {next : ℕ} → step ≡ 5 ^ (q.height - 1)
      → FourWritten q.key step (first - 1) nw ne sw se second third fourth end keys bits keys' bits' union next
      → one_slot (union_of_four nw ne sw se) ≡ false → FourSettled q end nw ne sw se first second third fourth keys bits keys' bits' union (first - 1)
  settled_apart {next = next} e w s = let t : one_slot union ≡ false = ap one_slot w.union_is ∙ s in record { next = next; written = rw e at w; place_is = rw t refl }

-- the place after a block's records, where it is exact
exact : {p : Picture} {k r c κ end : ℕ} {keys bits keys' bits' : List ℕ} {b i : ℕ} → WrittenBefore p (block_at k r c κ) end keys bits keys' bits' b i
    → length (list_of p k r c κ) ≤ end → Written p k r c κ i keys bits keys' bits' b end
exact w h = record {
  union_is = w.written.union_is;
  next-is = omega (arith, w.place_is);
  keys_are = w.written.keys_are;
  bits_are = w.written.bits_are;
}

module _ (p : Picture) (k r c κ end : ℕ) {keys bits : List ℕ} (f : FittingBefore p (block_at (suc k) r c κ) end keys bits) where
  -- a quadrant fits that ends no later than the block
  fit : (r' c' κ' end' : ℕ) (keys' bits' : List ℕ)
      → (one_feature p k r' c' ≡ false → one_feature p (suc k) r c ≡ false)
      → end' ≤ end
      → length keys' ≡ length keys
      → length bits' ≡ length bits
      → (one_feature p (suc k) r c ≡ false → length (list_of p k r' c' κ') ≤ end')
      → FittingBefore p (block_at k r' c' κ') end' keys' bits'
  fit r' c' κ' end' keys' bits' above ends same_keys same_bits low = record {
    small = omega (arith, f.small);
    low = λ s. low (above s);
    keys_room = λ s. let h = f.keys_room (above s) in omega arith;
    bits_room = λ s. let h = f.bits_room (above s) in omega arith;
  }

  low_se : one_feature p (suc k) r c ≡ false → length (list_of p k (r + 2 ^ k) (c + 2 ^ k) (child_key κ k 4)) ≤ end
  low_se s = let n = length-node p k r c κ s in let h = f.low s in omega arith

  pub fits_se : FittingBefore p (block_at k (r + 2 ^ k) (c + 2 ^ k) (child_key κ k 4)) end keys bits
  fits_se = fit (r + 2 ^ k) (c + 2 ^ k) (child_key κ k 4) end keys bits (several_above p {κ = κ} (se here)) (omega arith) refl refl low_se

  module _ {keys₄ bits₄ : List ℕ} {b₄ i₄ : ℕ} (w₄ : WrittenBefore p (block_at k (r + 2 ^ k) (c + 2 ^ k) (child_key κ k 4)) end keys bits keys₄ bits₄ b₄ i₄) where
    low_sw : one_feature p (suc k) r c ≡ false → length (list_of p k (r + 2 ^ k) c (child_key κ k 3)) ≤ i₄
    low_sw s = let n = length-node p k r c κ s in let h = f.low s in omega (arith, w₄.place_is)

    pub fits_sw : FittingBefore p (block_at k (r + 2 ^ k) c (child_key κ k 3)) i₄ keys₄ bits₄
    fits_sw =
        fit (r + 2 ^ k) c (child_key κ k 3) i₄ keys₄ bits₄ (several_above p {κ = κ} (sw here)) (omega (arith, w₄.place_is))
        (keys_length w₄.written)
        (bits_length w₄.written)
        low_sw

    module _ {keys₃ bits₃ : List ℕ} {b₃ i₃ : ℕ} (w₃ : WrittenBefore p (block_at k (r + 2 ^ k) c (child_key κ k 3)) i₄ keys₄ bits₄ keys₃ bits₃ b₃ i₃) where
      low_ne : one_feature p (suc k) r c ≡ false → length (list_of p k r (c + 2 ^ k) (child_key κ k 2)) ≤ i₃
      low_ne s = let n = length-node p k r c κ s in let h = f.low s in omega (arith, w₄.place_is, w₃.place_is)

      pub fits_ne : FittingBefore p (block_at k r (c + 2 ^ k) (child_key κ k 2)) i₃ keys₃ bits₃
      fits_ne =
          fit r (c + 2 ^ k) (child_key κ k 2) i₃ keys₃ bits₃ (several_above p {κ = κ} (ne here)) (omega (arith, w₄.place_is, w₃.place_is))
          (keys_length w₃.written ∙ keys_length w₄.written)
          (bits_length w₃.written ∙ bits_length w₄.written)
          low_ne

      module _ {keys₂ bits₂ : List ℕ} {b₂ i₂ : ℕ} (w₂ : WrittenBefore p (block_at k r (c + 2 ^ k) (child_key κ k 2)) i₃ keys₃ bits₃ keys₂ bits₂ b₂ i₂) where
        low_nw : one_feature p (suc k) r c ≡ false → length (list_of p k r c (child_key κ k 1)) ≤ i₂
        low_nw s = let n = length-node p k r c κ s in let h = f.low s in omega (arith, w₄.place_is, w₃.place_is, w₂.place_is)

        pub fits_nw : FittingBefore p (block_at k r c (child_key κ k 1)) i₂ keys₂ bits₂
        fits_nw =
            fit r c (child_key κ k 1) i₂ keys₂ bits₂ (several_above p {κ = κ} (nw here)) (omega (arith, w₄.place_is, w₃.place_is, w₂.place_is))
            (keys_length w₂.written ∙ keys_length w₃.written ∙ keys_length w₄.written)
            (bits_length w₂.written ∙ bits_length w₃.written ∙ bits_length w₄.written)
            low_nw

        module _ {keys₁ bits₁ : List ℕ} {b₁ i₁ : ℕ} (w₁ : WrittenBefore p (block_at k r c (child_key κ k 1)) i₂ keys₂ bits₂ keys₁ bits₁ b₁ i₁) where
          union : union_of_four b₁ b₂ b₃ b₄ ≡ bits_of p (suc k) r c
          union = four_bits p k (2 ^ k) r c refl w₁.written.union_is w₂.written.union_is w₃.written.union_is w₄.written.union_is

          test : one_slot (union_of_four b₁ b₂ b₃ b₄) ≡ one_feature p (suc k) r c
          test = ap one_slot union ∙ slot_feature p (suc k) r c

          -- where the block has several features there is a place before the quadrants
          free : one_feature p (suc k) r c ≡ false → 0 < i₁
          free s = let n = length-node p k r c κ s in let h = f.low s in omega (arith, w₄.place_is, w₃.place_is, w₂.place_is, w₁.place_is)

          in_order : one_feature p (suc k) r c ≡ false → (i₁ < i₂) × (i₂ < i₃) × (i₃ < i₄) × (i₄ < end)
          in_order s =
              let n = length-node p k r c κ s in
              let h = f.low s in
              let n₁ = list_some p k r c (child_key κ k 1) in
              let n₂ = list_some p k r (c + 2 ^ k) (child_key κ k 2) in
              let n₃ = list_some p k (r + 2 ^ k) c (child_key κ k 3) in
              let n₄ = list_some p k (r + 2 ^ k) (c + 2 ^ k) (child_key κ k 4) in
              omega (arith, w₄.place_is, w₃.place_is, w₂.place_is, w₁.place_is)

          pub fits_four : κ + 5 ^ suc k ≤ 5 ^ 10 → one_slot (union_of_four b₁ b₂ b₃ b₄) ≡ false
              → (0 < i₁) × FourAsked κ (5 ^ k) (i₁ - 1) (union_of_four b₁ b₂ b₃ b₄) i₂ i₃ i₄ keys₁ bits₁
          fits_four key_fits e =
              let s = sym test ∙ e in
              let q = pow-suc 5 k in
              let z = free s in
              let o = in_order s in
              let i = keys_length w₁.written ∙ keys_length w₂.written ∙ keys_length w₃.written ∙ keys_length w₄.written in
              let j = bits_length w₁.written ∙ bits_length w₂.written ∙ bits_length w₃.written ∙ bits_length w₄.written in (
                z,
                record {
                  key_fits = omega arith;
                  place_fits = omega (arith, f.small);
                  first_second = omega arith;
                  second_third = omega arith;
                  third_fourth = omega arith;
                  keys_room = λ _. let h = f.keys_room s in omega arith;
                  bits_room = λ _. let h = f.bits_room s in omega arith;
                },
              )

          -- what the four write together
          module _ {keys' bits' : List ℕ} {b place : ℕ} {next : ℕ} (g : FourWritten κ (5 ^ k) (i₁ - 1) b₁ b₂ b₃ b₄ i₂ i₃ i₄ end keys₁ bits₁ keys' bits' b next)
              (placed : place ≡ cond (one_slot b) (end - 1) (i₁ - 1)) where
            slot : one_slot b ≡ one_feature p (suc k) r c
            slot = ap one_slot g.union_is ∙ test

            alike : one_feature p (suc k) r c ≡ true → WrittenBefore p (block_at (suc k) r c κ) end keys bits keys' bits' b place
            alike one =
                let t : one_slot b ≡ true = slot ∙ one in
                let u₁ = one_under p {κ = κ} (nw here) one in
                let u₂ = one_under p {κ = κ} (ne here) one in
                let u₃ = one_under p {κ = κ} (sw here) one in
                let u₄ = one_under p {κ = κ} (se here) one in
                before_one κ one (g.union_is ∙ union) (rw t at placed)
                ((rw t at g.keys_are) ∙ keys_stay w₁.written u₁ ∙ keys_stay w₂.written u₂ ∙ keys_stay w₃.written u₃ ∙ keys_stay w₄.written u₄)
                ((rw t at g.bits_are) ∙ bits_stay w₁.written u₁ ∙ bits_stay w₂.written u₂ ∙ bits_stay w₃.written u₃ ∙ bits_stay w₄.written u₄)

            apart : one_feature p (suc k) r c ≡ false → WrittenBefore p (block_at (suc k) r c κ) end keys bits keys' bits' b place
            apart s =
                let t : one_slot b ≡ false = slot ∙ s in
                let n = length-node p k r c κ s in
                let z = free s in
                let h = f.low s in
                let first : i₁ ≡ i₁ - 1 + 1 = omega arith in
                let place_is : place ≡ i₁ - 1 = (rw t at placed) in
                let w = written_backward p k r c κ (i₁ - 1) (exact w₄ (low_se s)) (exact w₃ (low_sw s)) (exact w₂ (low_ne s)) (rw first at (exact w₁ (low_nw s))) g in
                record {
                  place_is = omega (arith, w₄.place_is, w₃.place_is, w₂.place_is, w₁.place_is);
                  written = rw place_is (record { union_is = w.union_is; next-is = refl; keys_are = w.keys_are; bits_are = w.bits_are });
                }

            pub written_all : WrittenBefore p (block_at (suc k) r c κ) end keys bits keys' bits' b place
            written_all = decide (one_feature p (suc k) r c) alike apart
