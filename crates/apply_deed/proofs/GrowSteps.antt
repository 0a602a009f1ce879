-- What the calls of `grow` ask of one another, and what they give together. Rests on Waiting and PrunedBlock.
use Prim.Native.Nat.{ℕ, suc, ◌+◌, ◌-◌, ◌^◌, ◌≤◌, ◌<◌}
use mathlib.Core.Path.{◌≡◌, sym, ◌∙◌, ap}
use mathlib.Core.Bool.{false}
use mathlib.Core.List.{List, [], ◌∷◌, ◌++◌, append_assoc}
use native.Mathlib.Nat.{one-le-pow}
use native.Mathlib.Omega.{arith}
use lib.ListN.{length, get_or, length-append, length-map}
use lib.Seq.{sets}
use Rattle.keys.specs.Key.{child_key}
use Rattle.keys.specs.Under.{MapBlock}
use Rattle.definitions.specs.Picture.{Picture, one_feature}
use Rattle.definitions.specs.Bits.{bits_of, feature_of}
use Rattle.definitions.specs.List.{Record, record_of, keys_of, values_of, list_of}
use Rattle.laws.proofs.ListOf.{list_node, list_agree, length-node}
use Rattle.build.proofs.CountBlock.{list_five}
use Rattle.deeds.specs.Meeting.{block_at}
use Rattle.deeds.specs.Step.{Step, step_over, plain, pruned}
use Rattle.deeds.specs.Deed.{LeafAsked}
use Rattle.deeds.proofs.Pruned.{pruned_node, pruned_after}
use Rattle.apply_deed.specs.Passes.{WriteAsked, WroteBefore, Waiting, Moved, Growing, Grown, OwnAsked, OwnWritten}
use Rattle.apply_deed.proofs.FourParts.{four_keys, four_values}
use Rattle.apply_deed.proofs.Waiting.{ending_at, waiting_at, ending_some, ending_last, waits_last, waits_rest, four_back}
use Rattle.apply_deed.proofs.PrunedBlock.{LeafLeft, NodeLeft, either_left, pruned_last, node_last}

-- the last key tells a leaf from a node
module _ {t : Step} {p : Picture} {k r c κ : ℕ} {ks bs : List ℕ} {read write : ℕ} (g : Growing t p (block_at k r c κ) ks bs read write) where
  pub grow_some : 0 < read
  grow_some = let l = pruned_last p (step_over t p) k r c κ in ending_some l.before l.last (ending_at l.is g.waits.ending)

  past_own : NodeLeft t p k r c → get_or ks (read - 1) 0 ≡ κ → ⊥
  past_own n e =
      let l = node_last t p k r c κ n in
      let f = ap (λ x. x.key) (ending_last l.before l.last (ending_at l.is g.waits.ending)) in
      omega (arith, l.from)

  pub grows_leaf : get_or ks (read - 1) 0 ≡ κ → LeafLeft t p k r c κ
  grows_leaf e = either_left t p k r c κ (λ l. l) (λ n. absurd (past_own n e))

  pub grows_node : (get_or ks (read - 1) 0 ≡ κ → ⊥) → NodeLeft t p k r c
  grows_node other = either_left t p k r c κ (λ l. absurd (other (ap (λ x. x.key) (ending_last [] (record_of κ l.value) (ending_at l.is g.waits.ending))))) (λ n. n)

  -- a leaf
  module _ (e : get_or ks (read - 1) 0 ≡ κ) where
    leaf : LeafLeft t p k r c κ
    leaf = grows_leaf e

    value_is : get_or bs (read - 1) 0 ≡ leaf.value
    value_is = ap (λ x. x.value) (ending_last [] (record_of κ leaf.value) (ending_at leaf.is g.waits.ending))

    list_same : list_of (step_over t (plain (feature_of (get_or bs (read - 1) 0)))) k r c κ ≡ list_of (step_over t p) k r c κ
    list_same = rw value_is (list_agree (step_over t (plain (feature_of leaf.value))) (step_over t p) k r c κ leaf.same)

    single : length (pruned p (step_over t p) k r c κ) ≡ 1
    single = ap length leaf.is

    pub leaf_asked : {m : ℕ} → m ≤ 10 → MapBlock m k r c κ → LeafAsked m (get_or bs (read - 1) 0) (block_at k r c κ)
    leaf_asked deep b = record { deep = deep; block = b; leaf = rw value_is leaf.one }

    pub leaf_writes : WriteAsked (list_of (step_over t (plain (feature_of (get_or bs (read - 1) 0)))) k r c κ) κ write ks bs
    leaf_writes =
        let s = single in
        let some = grow_some in
        rw list_same
        (record { low = omega (arith, g.waits.apart); early = g.waits.early; in_keys = g.waits.in_keys; in-bits = g.waits.in-bits })

    pub leaf_moved : {ks' bs' : List ℕ} {start : ℕ}
        → WroteBefore (list_of (step_over t (plain (feature_of (get_or bs (read - 1) 0)))) k r c κ) write ks bs ks' bs' start
        → Moved (pruned p (step_over t p) k r c κ) (list_of (step_over t p) k r c κ) ks bs read write ks' bs' (read - 1) start
    leaf_moved w = let s = single in let some = grow_some in record { passed = omega arith; wrote = rw list_same at w }

pub leaf_grown : {t : Step} {k r c κ : ℕ} {ks bs ks' bs' : List ℕ} {read write start : ℕ} → get_or ks (read - 1) 0 ≡ κ
    → WroteBefore (list_of (step_over t (plain (feature_of (get_or bs (read - 1) 0)))) k r c κ) write ks bs ks' bs' start
    → Grown t (block_at k r c κ) ks bs read write ks' bs' (read - 1) start
leaf_grown e w = record { holds = λ p g. leaf_moved g e w }

-- a node
module _ (t : Step) (p : Picture) {m : ℕ} (k r c κ : ℕ) (block : MapBlock m (suc k) r c κ) {ks bs : List ℕ} {read write : ℕ} (g : Growing t p (block_at (suc k) r c κ) ks bs read write)
    (before : one_feature p (suc k) r c ≡ false) (after : one_feature (step_over t p) (suc k) r c ≡ false) where
  abbrev own : Record
  own = record_of κ (bits_of (step_over t p) (suc k) r c)

  abbrev P₁ : List Record
  P₁ = pruned p (step_over t p) k r c (child_key κ k 1)

  abbrev P₂ : List Record
  P₂ = pruned p (step_over t p) k r (c + 2 ^ k) (child_key κ k 2)

  abbrev P₃ : List Record
  P₃ = pruned p (step_over t p) k (r + 2 ^ k) c (child_key κ k 3)

  abbrev P₄ : List Record
  P₄ = pruned p (step_over t p) k (r + 2 ^ k) (c + 2 ^ k) (child_key κ k 4)

  abbrev L₁ : List Record
  L₁ = list_of (step_over t p) k r c (child_key κ k 1)

  abbrev L₂ : List Record
  L₂ = list_of (step_over t p) k r (c + 2 ^ k) (child_key κ k 2)

  abbrev L₃ : List Record
  L₃ = list_of (step_over t p) k (r + 2 ^ k) c (child_key κ k 3)

  abbrev L₄ : List Record
  L₄ = list_of (step_over t p) k (r + 2 ^ k) (c + 2 ^ k) (child_key κ k 4)

  shape : (x : Record) (a b c d : List Record) → x ∷ (a ++ (b ++ (c ++ d))) ≡ ((((x ∷ []) ++ a) ++ b) ++ c) ++ d
  shape x a b c d = ap (λ l. x ∷ l) (sym (append_assoc (a ++ b) c d ∙ append_assoc a b (c ++ d)))

  waits_all : Waiting κ (((((own ∷ []) ++ P₁) ++ P₂) ++ P₃) ++ P₄) (1 + length L₁ + length L₂ + length L₃ + length L₄) ks bs read write
  waits_all =
      let e : pruned p (step_over t p) (suc k) r c κ ≡ ((((own ∷ []) ++ P₁) ++ P₂) ++ P₃) ++ P₄ = pruned_node p (step_over t p) k r c κ after before ∙ shape own P₁ P₂ P₃ P₄ in
      let n : length (list_of (step_over t p) (suc k) r c κ) ≡ 1 + length L₁ + length L₂ + length L₃ + length L₄ = let z = length-node (step_over t p) k r c κ after in omega arith in
      waiting_at e n g.waits

  -- a quadrant's records do not become fewer, and they are at most its keys
  record Sizes : Type 0 where
    few₁ : length P₁ ≤ length L₁
    few₂ : length P₂ ≤ length L₂
    few₃ : length P₃ ≤ length L₃
    most₁ : length L₁ ≤ 5 ^ k
    most₂ : length L₂ ≤ 5 ^ k
    most₃ : length L₃ ≤ 5 ^ k
    some : 1 ≤ 5 ^ k

  sizes : Sizes
  sizes = record {
    few₁ = pruned_after p (step_over t p) k r c (child_key κ k 1);
    few₂ = pruned_after p (step_over t p) k r (c + 2 ^ k) (child_key κ k 2);
    few₃ = pruned_after p (step_over t p) k (r + 2 ^ k) c (child_key κ k 3);
    most₁ = list_five (step_over t p) k r c (child_key κ k 1);
    most₂ = list_five (step_over t p) k r (c + 2 ^ k) (child_key κ k 2);
    most₃ = list_five (step_over t p) k (r + 2 ^ k) c (child_key κ k 3);
    some = one-le-pow k 5 (omega arith);
  }

  low₁ : length ((own ∷ []) ++ P₁) ≤ 1 + length L₁
  low₁ = let e = length-append (own ∷ []) P₁ in omega (arith, sizes.few₁)

  low₂ : length (((own ∷ []) ++ P₁) ++ P₂) ≤ 1 + length L₁ + length L₂
  low₂ = let h = low₁ in let e = length-append ((own ∷ []) ++ P₁) P₂ in omega (arith, sizes.few₂)

  low₃ : length ((((own ∷ []) ++ P₁) ++ P₂) ++ P₃) ≤ 1 + length L₁ + length L₂ + length L₃
  low₃ = let h = low₂ in let e = length-append (((own ∷ []) ++ P₁) ++ P₂) P₃ in omega (arith, sizes.few₃)

  pub grows_se : Growing t p (block_at k (r + 2 ^ k) (c + 2 ^ k) (child_key κ k 4)) ks bs read write
  grows_se =
      let z = sizes in
      record {
        waits = waits_last (child_key κ k 4) ((((own ∷ []) ++ P₁) ++ P₂) ++ P₃) P₄ (1 + length L₁ + length L₂ + length L₃) (length L₄) waits_all low₃
            (omega (arith, z.most₁, z.most₂, z.most₃, z.some));
      }

  module _ {ks₁ bs₁ : List ℕ} {r₁ w₁ : ℕ} (h₁ : Grown t (block_at k (r + 2 ^ k) (c + 2 ^ k) (child_key κ k 4)) ks bs read write ks₁ bs₁ r₁ w₁) where
    one : Moved P₄ L₄ ks bs read write ks₁ bs₁ r₁ w₁
    one = h₁.holds p grows_se

    rest₁ : Waiting κ ((((own ∷ []) ++ P₁) ++ P₂) ++ P₃) (1 + length L₁ + length L₂ + length L₃) ks₁ bs₁ r₁ w₁
    rest₁ =
        let d = one in
        waits_rest ((((own ∷ []) ++ P₁) ++ P₂) ++ P₃) P₄ (1 + length L₁ + length L₂ + length L₃) (length L₄) (keys_of L₄) (values_of L₄) waits_all low₃
        d.passed d.wrote.start_is d.wrote.keys_are d.wrote.bits_are

    pub grows_sw : Growing t p (block_at k (r + 2 ^ k) c (child_key κ k 3)) ks₁ bs₁ r₁ w₁
    grows_sw =
        let z = sizes in
        record {
          waits = waits_last (child_key κ k 3) (((own ∷ []) ++ P₁) ++ P₂) P₃ (1 + length L₁ + length L₂) (length L₃) rest₁ low₂
              (omega (arith, z.most₁, z.most₂, z.some));
        }

    module _ {ks₂ bs₂ : List ℕ} {r₂ w₂ : ℕ} (h₂ : Grown t (block_at k (r + 2 ^ k) c (child_key κ k 3)) ks₁ bs₁ r₁ w₁ ks₂ bs₂ r₂ w₂) where
      two : Moved P₃ L₃ ks₁ bs₁ r₁ w₁ ks₂ bs₂ r₂ w₂
      two = h₂.holds p grows_sw

      rest₂ : Waiting κ (((own ∷ []) ++ P₁) ++ P₂) (1 + length L₁ + length L₂) ks₂ bs₂ r₂ w₂
      rest₂ =
          let d = two in
          waits_rest (((own ∷ []) ++ P₁) ++ P₂) P₃ (1 + length L₁ + length L₂) (length L₃) (keys_of L₃) (values_of L₃) rest₁ low₂
          d.passed d.wrote.start_is d.wrote.keys_are d.wrote.bits_are

      pub grows_ne : Growing t p (block_at k r (c + 2 ^ k) (child_key κ k 2)) ks₂ bs₂ r₂ w₂
      grows_ne =
          let z = sizes in
          record {
            waits = waits_last (child_key κ k 2) ((own ∷ []) ++ P₁) P₂ (1 + length L₁) (length L₂) rest₂ low₁
                (omega (arith, z.most₁, z.some));
          }

      module _ {ks₃ bs₃ : List ℕ} {r₃ w₃ : ℕ} (h₃ : Grown t (block_at k r (c + 2 ^ k) (child_key κ k 2)) ks₂ bs₂ r₂ w₂ ks₃ bs₃ r₃ w₃) where
        three : Moved P₂ L₂ ks₂ bs₂ r₂ w₂ ks₃ bs₃ r₃ w₃
        three = h₃.holds p grows_ne

        rest₃ : Waiting κ ((own ∷ []) ++ P₁) (1 + length L₁) ks₃ bs₃ r₃ w₃
        rest₃ =
            let d = three in
            waits_rest ((own ∷ []) ++ P₁) P₂ (1 + length L₁) (length L₂) (keys_of L₂) (values_of L₂) rest₂ low₁
            d.passed d.wrote.start_is d.wrote.keys_are d.wrote.bits_are

        pub grows_nw : Growing t p (block_at k r c (child_key κ k 1)) ks₃ bs₃ r₃ w₃
        grows_nw =
            let z = sizes in
            record {
              waits = waits_last (child_key κ k 1) (own ∷ []) P₁ 1 (length L₁) rest₃ (omega arith)
                  (omega (arith, z.some));
            }

        module _ {ks₄ bs₄ : List ℕ} {r₄ w₄ : ℕ} (h₄ : Grown t (block_at k r c (child_key κ k 1)) ks₃ bs₃ r₃ w₃ ks₄ bs₄ r₄ w₄) where
          four : Moved P₁ L₁ ks₃ bs₃ r₃ w₃ ks₄ bs₄ r₄ w₄
          four = h₄.holds p grows_nw

          rest₄ : Waiting κ (own ∷ []) 1 ks₄ bs₄ r₄ w₄
          rest₄ =
              let d = four in
              waits_rest (own ∷ []) P₁ 1 (length L₁) (keys_of L₁) (values_of L₁) rest₃ (omega arith)
              d.passed d.wrote.start_is d.wrote.keys_are d.wrote.bits_are

          pub own_waits : OwnAsked r₄ w₄ ks₄ bs₄
          own_waits =
              let d = rest₄ in
              record { some = ending_some [] own d.ending; apart = omega (arith, d.apart); in_keys = d.in_keys; in-bits = d.in-bits }

          own_bits : get_or bs₄ (r₄ - 1) 0 ≡ bits_of (step_over t p) (suc k) r c
          own_bits = ap (λ x. x.value) (ending_last [] own rest₄.ending)

          keys_size : (l : List Record) → length (keys_of l) ≡ length l
          keys_size l = length-map l (λ x. x.key)

          values_size : (l : List Record) → length (values_of l) ≡ length l
          values_size l = length-map l (λ x. x.value)

          pub node_moved : {ks' bs' : List ℕ} {r' w' : ℕ} → OwnWritten κ r₄ w₄ ks₄ bs₄ ks' bs' r' w'
              → Moved (pruned p (step_over t p) (suc k) r c κ) (list_of (step_over t p) (suc k) r c κ) ks bs read write ks' bs' r' w'
          node_moved {ks'} {bs'} {r'} {w'} o =
              let a = one in
              let b = two in
              let d = three in
              let f = four in
              let some = own_waits.some in
              let low = own_waits.apart in
              let n = length-node (step_over t p) k r c κ after in
              let q : length (pruned p (step_over t p) (suc k) r c κ) ≡ suc (length P₁ + (length P₂ + (length P₃ + length P₄))) = ap length (pruned_node p (step_over t p) k r c κ after before) ∙ simp length-append in
              record {
                passed = omega (arith, o.read_is, a.passed, b.passed, d.passed, f.passed);
                wrote = record {
                  start_is = omega (arith, o.write_is, a.wrote.start_is, b.wrote.start_is, d.wrote.start_is, f.wrote.start_is);
                  keys_are = four_back ks κ w₁ w₂ w₃ w₄ (keys_of L₁) (keys_of L₂) (keys_of L₃) (keys_of L₄) a.wrote.keys_are b.wrote.keys_are d.wrote.keys_are f.wrote.keys_are o.keys_are
                      (ap (λ i. w₂ + i) (keys_size L₃) ∙ b.wrote.start_is) (ap (λ i. w₃ + i) (keys_size L₂) ∙ d.wrote.start_is) (ap (λ i. w₄ + i) (keys_size L₁) ∙ f.wrote.start_is) (omega arith)
                      ∙ ap (λ l. sets ks (w₄ - 1) (κ ∷ l)) (sym (four_keys L₁ L₂ L₃ L₄))
                      ∙ ap (λ l. sets ks (w₄ - 1) (keys_of l)) (sym (list_node (step_over t p) k r c κ after))
                      ∙ ap (λ i. sets ks i (keys_of (list_of (step_over t p) (suc k) r c κ))) (sym o.write_is);
                  bits_are = four_back bs (get_or bs₄ (r₄ - 1) 0) w₁ w₂ w₃ w₄ (values_of L₁) (values_of L₂) (values_of L₃) (values_of L₄) a.wrote.bits_are b.wrote.bits_are d.wrote.bits_are f.wrote.bits_are o.bits_are
                      (ap (λ i. w₂ + i) (values_size L₃) ∙ b.wrote.start_is) (ap (λ i. w₃ + i) (values_size L₂) ∙ d.wrote.start_is) (ap (λ i. w₄ + i) (values_size L₁) ∙ f.wrote.start_is) (omega arith)
                      ∙ ap (λ v. sets bs (w₄ - 1) (v ∷ (values_of L₁ ++ (values_of L₂ ++ (values_of L₃ ++ values_of L₄))))) own_bits
                      ∙ ap (λ l. sets bs (w₄ - 1) (bits_of (step_over t p) (suc k) r c ∷ l)) (sym (four_values L₁ L₂ L₃ L₄))
                      ∙ ap (λ l. sets bs (w₄ - 1) (values_of l)) (sym (list_node (step_over t p) k r c κ after))
                      ∙ ap (λ i. sets bs i (values_of (list_of (step_over t p) (suc k) r c κ))) (sym o.write_is);
                };
              }
