-- The steps of `grow` as the code asks for them, the quadrants told by their digits. Rests on GrowSteps.
use Prim.Native.Nat.{ℕ, suc, ◌-◌, ◌≤◌, ◌<◌}
use mathlib.Core.Path.{◌≡◌, ap, ◌∙◌}
use mathlib.Core.Bool.{false}
use mathlib.Core.List.{List}
use native.Mathlib.Omega.{arith}
use lib.ListN.{length, get_or}
use lib.Seq.{length-sets}
use Rattle.slices.proofs.Sets.{get_d_sets_before}
use Rattle.keys.specs.Child.{child_of}
use Rattle.keys.specs.declared.block.TreeBlock.{TreeBlock}
use Rattle.keys.proofs.BlockChild.{one_higher, in_child}
use Rattle.keys.specs.Under.{MapBlock}
use Rattle.definitions.specs.Picture.{Picture, one_feature}
use Rattle.definitions.specs.List.{keys_of}
use Rattle.list.specs.Sorted.{Ascends}
use Rattle.deeds.specs.Step.{Step, step_over}
use Rattle.deeds.specs.Meeting.{block_at}
use Rattle.apply_deed.specs.Passes.{list_at, Growing, GrowAsked, Grown, OwnAsked, OwnWritten}
use Rattle.apply_deed.proofs.PrunedBlock.{NodeLeft}
use Rattle.apply_deed.proofs.GrowSteps.{grow_some, grows_node, grows_se, grows_sw, grows_ne, grows_nw, own_waits, node_moved}

-- there is a last record, and it has its place
pub asked_some : {t : Step} {m read write : ℕ} {b : TreeBlock} {ks bs : List ℕ} → GrowAsked t m b ks bs read write → 0 < read
asked_some a = grow_some a.growing

pub asked_node : {t : Step} {m read write : ℕ} {b : TreeBlock} {ks bs : List ℕ} (a : GrowAsked t m b ks bs read write) → (get_or ks (read - 1) 0 ≡ b.key → ⊥)
    → NodeLeft t a.picture b.height b.row b.column
asked_node a other = grows_node a.growing other

-- the keys that are not passed yet ascend still: what has grown is written behind them
still : {t : Step} {m read write read' write' : ℕ} {b : TreeBlock} {ks bs ks' bs' : List ℕ} → GrowAsked t m b ks bs read write → Grown t b ks bs read write ks' bs' read' write' → Ascends ks' read'
still {t} {read' = read'} {write' = write'} {b = b} {ks = ks} {ks' = ks'} a h =
    let new : List ℕ = keys_of (list_at (step_over t a.picture) b) in
    let moved = h.holds a.picture a.growing in
    let same = moved.wrote.keys_are in
    let before : read' ≤ write' = omega (arith, moved.passed, moved.wrote.start_is, a.growing.waits.apart) in
    let long = ap length same ∙ length-sets ks write' new in
    record {
      room = omega (arith, moved.passed, a.ascends.room);
      ascend = λ i j u v.
          let e = ap (λ l. get_or l i 0) same ∙ get_d_sets_before ks write' new i 0 (omega arith) in
          let f = ap (λ l. get_or l j 0) same ∙ get_d_sets_before ks write' new j 0 (omega arith) in
          let o = a.ascends.ascend i j u (omega (arith, moved.passed)) in
          omega arith;
    }

module _ (t : Step) {m : ℕ} {b : TreeBlock} {read write : ℕ} {ks bs : List ℕ} (a : GrowAsked t m b ks bs read write) (other : get_or ks (read - 1) 0 ≡ b.key → ⊥) where
  positive : 0 < b.height
  positive = (asked_node a other).positive

  block : MapBlock m (suc (b.height - 1)) b.row b.column b.key
  block = let up = one_higher b positive in rw (← up) a.block

  -- a node of any picture that the records are of
  module _ (p : Picture) (g : Growing t p b ks bs read write) where
    above : Growing t p (block_at (suc (b.height - 1)) b.row b.column b.key) ks bs read write
    above = let up = one_higher b positive in rw (← up) g

    before : one_feature p (suc (b.height - 1)) b.row b.column ≡ false
    before = let up = one_higher b positive in rw (← up) (grows_node g other).before

    after : one_feature (step_over t p) (suc (b.height - 1)) b.row b.column ≡ false
    after = let up = one_higher b positive in rw (← up) (grows_node g other).after

  G : Growing t a.picture (block_at (suc (b.height - 1)) b.row b.column b.key) ks bs read write
  G = above a.picture a.growing

  B : one_feature a.picture (suc (b.height - 1)) b.row b.column ≡ false
  B = before a.picture a.growing

  A : one_feature (step_over t a.picture) (suc (b.height - 1)) b.row b.column ≡ false
  A = after a.picture a.growing

  asks : (d : ℕ) {q : TreeBlock} {read' write' : ℕ} {ks' bs' : List ℕ} → q ≡ child_of b d → 1 ≤ d → d ≤ 4 → Growing t a.picture (child_of b d) ks' bs' read' write' → Ascends ks' read'
      → GrowAsked t m q ks' bs' read' write'
  asks d e low high g h = rw e (record { picture = a.picture; deep = a.deep; block = in_child b d a.block positive low high; growing = g; ascends = h })

  module _ {q₁ : TreeBlock} (e₁ : q₁ ≡ child_of b 4) where
    pub asks_se : GrowAsked t m q₁ ks bs read write
    asks_se = asks 4 e₁ (omega arith) (omega arith) (grows_se t a.picture _ _ _ _ block G B A) a.ascends

    module _ {ks₁ bs₁ : List ℕ} {r₁ w₁ : ℕ} (h₁ : Grown t q₁ ks bs read write ks₁ bs₁ r₁ w₁) {q₂ : TreeBlock} (e₂ : q₂ ≡ child_of b 3) where
      g₁ : Grown t (child_of b 4) ks bs read write ks₁ bs₁ r₁ w₁
      g₁ = rw e₁ at h₁

      pub asks_sw : GrowAsked t m q₂ ks₁ bs₁ r₁ w₁
      asks_sw = asks 3 e₂ (omega arith) (omega arith) (grows_sw t a.picture _ _ _ _ block G B A g₁) (still asks_se h₁)

      module _ {ks₂ bs₂ : List ℕ} {r₂ w₂ : ℕ} (h₂ : Grown t q₂ ks₁ bs₁ r₁ w₁ ks₂ bs₂ r₂ w₂) {q₃ : TreeBlock} (e₃ : q₃ ≡ child_of b 2) where
        g₂ : Grown t (child_of b 3) ks₁ bs₁ r₁ w₁ ks₂ bs₂ r₂ w₂
        g₂ = rw e₂ at h₂

        pub asks_ne : GrowAsked t m q₃ ks₂ bs₂ r₂ w₂
        asks_ne = asks 2 e₃ (omega arith) (omega arith) (grows_ne t a.picture _ _ _ _ block G B A g₁ g₂) (still asks_sw h₂)

        module _ {ks₃ bs₃ : List ℕ} {r₃ w₃ : ℕ} (h₃ : Grown t q₃ ks₂ bs₂ r₂ w₂ ks₃ bs₃ r₃ w₃) {q₄ : TreeBlock} (e₄ : q₄ ≡ child_of b 1) where
          g₃ : Grown t (child_of b 2) ks₂ bs₂ r₂ w₂ ks₃ bs₃ r₃ w₃
          g₃ = rw e₃ at h₃

          pub asks_nw : GrowAsked t m q₄ ks₃ bs₃ r₃ w₃
          asks_nw = asks 1 e₄ (omega arith) (omega arith) (grows_nw t a.picture _ _ _ _ block G B A g₁ g₂ g₃) (still asks_ne h₃)

          module _ {ks₄ bs₄ : List ℕ} {r₄ w₄ : ℕ} (h₄ : Grown t q₄ ks₃ bs₃ r₃ w₃ ks₄ bs₄ r₄ w₄) where
            g₄ : Grown t (child_of b 1) ks₃ bs₃ r₃ w₃ ks₄ bs₄ r₄ w₄
            g₄ = rw e₄ at h₄

            pub asks_own : OwnAsked r₄ w₄ ks₄ bs₄
            asks_own = own_waits t a.picture _ _ _ _ block G B A g₁ g₂ g₃ g₄

            pub gives_node : {ks' bs' : List ℕ} {r' w' : ℕ} → OwnWritten b.key r₄ w₄ ks₄ bs₄ ks' bs' r' w' → Grown t b ks bs read write ks' bs' r' w'
            gives_node o = record {
              holds = λ p g. let up = one_higher b positive in rw up (node_moved t p _ _ _ _ block (above p g) (before p g) (after p g) g₁ g₂ g₃ g₄ o);
            }
