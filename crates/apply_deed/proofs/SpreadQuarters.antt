-- The steps of `spread` as the code asks for them, the quadrants told by their digits. Rests on SpreadSteps.
use Prim.Native.Nat.{ℕ, suc, ◌+◌, ◌-◌, ◌^◌, ◌≤◌, ◌<◌}
use mathlib.Core.Path.{◌≡◌}
use mathlib.Core.List.{List}
use Rattle.keys.specs.Child.{child_of, KeysEnd}
use Rattle.keys.specs.declared.block.TreeBlock.{TreeBlock}
use Rattle.keys.proofs.BlockChild.{one_higher}
use Rattle.definitions.specs.Picture.{Picture}
use Rattle.definitions.specs.Bits.{union_of_four}
use Rattle.deeds.specs.Meeting.{block_at}
use Rattle.apply_deed.specs.Passes.{FittingBefore, WrittenBefore, SettleAsked, FourSettled}
use Rattle.apply_deed.proofs.SpreadSteps.{fits_se, fits_sw, fits_ne, fits_nw, fits_four, written_all}

module _ (p : Picture) {b : TreeBlock} {end : ℕ} {ks bs : List ℕ} (positive : 0 < b.height) (f : FittingBefore p b end ks bs) where
  room : FittingBefore p (block_at (suc (b.height - 1)) b.row b.column b.key) end ks bs
  room = let up = one_higher b positive in rw (← up) f

  module _ {q₄ : TreeBlock} (e₄ : q₄ ≡ child_of b 4) where
    pub spreads_se : FittingBefore p q₄ end ks bs
    spreads_se = rw e₄ (fits_se p _ _ _ _ end room)

    module _ {ks₄ bs₄ : List ℕ} {b₄ i₄ : ℕ} (w₄ : WrittenBefore p q₄ end ks bs ks₄ bs₄ b₄ i₄) {q₃ : TreeBlock} (e₃ : q₃ ≡ child_of b 3) where
      v₄ : WrittenBefore p (child_of b 4) end ks bs ks₄ bs₄ b₄ i₄
      v₄ = rw e₄ at w₄

      pub spreads_sw : FittingBefore p q₃ i₄ ks₄ bs₄
      spreads_sw = rw e₃ (fits_sw p _ _ _ _ end room v₄)

      module _ {ks₃ bs₃ : List ℕ} {b₃ i₃ : ℕ} (w₃ : WrittenBefore p q₃ i₄ ks₄ bs₄ ks₃ bs₃ b₃ i₃) {q₂ : TreeBlock} (e₂ : q₂ ≡ child_of b 2) where
        v₃ : WrittenBefore p (child_of b 3) i₄ ks₄ bs₄ ks₃ bs₃ b₃ i₃
        v₃ = rw e₃ at w₃

        pub spreads_ne : FittingBefore p q₂ i₃ ks₃ bs₃
        spreads_ne = rw e₂ (fits_ne p _ _ _ _ end room v₄ v₃)

        module _ {ks₂ bs₂ : List ℕ} {b₂ i₂ : ℕ} (w₂ : WrittenBefore p q₂ i₃ ks₃ bs₃ ks₂ bs₂ b₂ i₂) {q₁ : TreeBlock} (e₁ : q₁ ≡ child_of b 1) where
          v₂ : WrittenBefore p (child_of b 2) i₃ ks₃ bs₃ ks₂ bs₂ b₂ i₂
          v₂ = rw e₂ at w₂

          pub spreads_nw : FittingBefore p q₁ i₂ ks₂ bs₂
          spreads_nw = rw e₁ (fits_nw p _ _ _ _ end room v₄ v₃ v₂)

          module _ {ks₁ bs₁ : List ℕ} {b₁ i₁ : ℕ} (w₁ : WrittenBefore p q₁ i₂ ks₂ bs₂ ks₁ bs₁ b₁ i₁) where
            v₁ : WrittenBefore p (child_of b 1) i₂ ks₂ bs₂ ks₁ bs₁ b₁ i₁
            v₁ = rw e₁ at w₁

            pub spreads_four : KeysEnd b → SettleAsked b i₁ i₂ i₃ i₄ (union_of_four b₁ b₂ b₃ b₄) ks₁ bs₁
            spreads_four h =
                let up = one_higher b positive in
                let last : b.key + 5 ^ suc (b.height - 1) ≤ 5 ^ 10 = rw (← up) h.keys in
                record {
                  positive = positive;
                  deep = h.deep;
                  some = λ e. (fits_four p _ _ _ _ end room v₄ v₃ v₂ v₁ last e).0;
                  asked = λ e. (fits_four p _ _ _ _ end room v₄ v₃ v₂ v₁ last e).1;
                }

            pub spread_all : {ks' bs' : List ℕ} {u place : ℕ} → FourSettled b end b₁ b₂ b₃ b₄ i₁ i₂ i₃ i₄ ks₁ bs₁ ks' bs' u place
                → WrittenBefore p b end ks bs ks' bs' u place
            spread_all g = let up = one_higher b positive in rw up (written_all p _ _ _ _ end room v₄ v₃ v₂ v₁ g.written g.place_is)
