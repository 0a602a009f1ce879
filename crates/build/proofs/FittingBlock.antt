-- Room for a block is room for its quadrants, one after the other: what each call asks in the writing of a block. Rests on CountBlock.
use Prim.Native.Nat.{ℕ, suc, ◌+◌, ◌*◌, ◌^◌, ◌≤◌}
use mathlib.Core.Path.{◌≡◌, refl, sym, ◌∙◌, ap}
use mathlib.Core.Bool.{false}
use mathlib.Core.List.{List}
use native.Mathlib.Omega.{arith}
use native.Mathlib.Nat.{pow-suc}
use lib.ListN.{length}
use lib.Seq.{length-sets}
use Rattle.keys.specs.Key.{child_key}
use Rattle.keys.proofs.Powers.{five_pos}
use Rattle.keys.specs.Under.{here, nw, ne, sw, se}
use Rattle.definitions.specs.Picture.{Picture, one_feature}
use Rattle.definitions.specs.Bits.{union_of_four}
use Rattle.definitions.specs.List.{list_of, keys_of, values_of}
use Rattle.laws.proofs.Features.{several_above, one_pixel}
use Rattle.laws.proofs.ListOf.{length-node, list_some}
use Rattle.list.specs.Check.{one_slot}
use Rattle.build.specs.BuildBlocks.{below, Fitting, FourAsked, Written}
use Rattle.list.proofs.OneSlot.{slot_feature}
use Rattle.build.proofs.CountBlock.{same_sum, length-key, list_five, four_bits}

-- writing leaves the slices as long as they were
module _ {p : Picture} {k r c κ place : ℕ} {keys bits keys' bits' : List ℕ} {b n : ℕ} (w : Written p k r c κ place keys bits keys' bits' b n) where
  pub keys_length : length keys' ≡ length keys
  keys_length = ap length w.keys_are ∙ length-sets keys (place + 1) (keys_of (below p k r c κ))

  pub bits_length : length bits' ≡ length bits
  bits_length = ap length w.bits_are ∙ length-sets bits (place + 1) (values_of (below p k r c κ))

-- the same block, its height known
pub fitting_at : {p : Picture} {h h' r c key place : ℕ} {keys bits : List ℕ} → h ≡ h' → Fitting p h r c key place keys bits → Fitting p h' r c key place keys bits
fitting_at e f = rw e at f

-- and the pixel at its corner, which has nothing below it
pub fitting_pixel : {p : Picture} {h r c key place : ℕ} {keys bits : List ℕ} → Fitting p h r c key place keys bits → Fitting p 0 r c key place keys bits
fitting_pixel {p} {h} {r} {c} f = record {
  key_fits = let q = five_pos h in omega (arith, f.key_fits);
  place_fits = f.place_fits;
  keys_room = λ several. absurd (let one = one_pixel p r c in cc);
  bits_room = λ several. absurd (let one = one_pixel p r c in cc);
}

-- and its key
pub fitting_key : {p : Picture} {h r c key key' place : ℕ} {keys bits : List ℕ} → key ≡ key' → Fitting p h r c key' place keys bits → Fitting p h r c key place keys bits
fitting_key e f = rw e f

module _ (p : Picture) (k half step r c key place : ℕ) (e : half ≡ 2 ^ k) (g : step ≡ 5 ^ k) {keys bits : List ℕ} (f : Fitting p (suc k) r c key place keys bits) where
  -- a block of several features has its own record and those of its quadrants
  node-length : one_feature p (suc k) r c ≡ false → length (list_of p (suc k) r c key)
      ≡ suc (length (list_of p k r c (key + step))
      + (length (list_of p k r (c + half) (key + 2 * step))
      + (length (list_of p k (r + half) c (key + 3 * step)) + length (list_of p k (r + half) (c + half) (key + 4 * step)))))
  node-length s =
      length-node p k r c key s
      ∙ same_sum (length-key p k r c (child_key key k 1) (key + step))
      (length-key p k r (c + 2 ^ k) (child_key key k 2) (key + 2 * step) ∙ ap (λ x. length (list_of p k r (c + x) (key + 2 * step))) (sym e))
      (length-key p k (r + 2 ^ k) c (child_key key k 3) (key + 3 * step) ∙ ap (λ x. length (list_of p k (r + x) c (key + 3 * step))) (sym e))
      (length-key p k (r + 2 ^ k) (c + 2 ^ k) (child_key key k 4) (key + 4 * step) ∙ ap (λ x. length (list_of p k (r + x) (c + x) (key + 4 * step))) (sym e))

  -- a quadrant fits that ends no later than the block
  fit : (r' c' κ' i : ℕ) (keys' bits' : List ℕ)
      → (one_feature p k r' c' ≡ false → one_feature p (suc k) r c ≡ false)
      → κ' ≤ key + 4 * step
      → i ≤ κ'
      → length keys' ≡ length keys
      → length bits' ≡ length bits
      → (one_feature p (suc k) r c ≡ false → i + length (list_of p k r' c' κ') ≤ place + length (list_of p (suc k) r c key))
      → Fitting p k r' c' κ' i keys' bits'
  fit r' c' κ' i keys' bits' above key-low place_low same_keys same_bits ends =
      let q = pow-suc 5 k in
      record {
        key_fits = omega (arith, f.key_fits);
        place_fits = place_low;
        keys_room = λ s. let a = ends (above s) in let b = f.keys_room (above s) in omega arith;
        bits_room = λ s. let a = ends (above s) in let b = f.bits_room (above s) in omega arith;
      }

  pub fits_nw : Fitting p k r c (key + step) (place + 1) keys bits
  fits_nw =
      fit r c (key + step) (place + 1) keys bits (several_above p {κ = key} (nw here))
      (omega arith)
      (let h = five_pos k in omega (arith, f.place_fits))
      refl
      refl
      (λ s. let n = node-length s in omega arith)

  module _ {keys₁ bits₁ : List ℕ} {b₁ i₂ : ℕ} (w₁ : Written p k r c (key + step) (place + 1) keys bits keys₁ bits₁ b₁ i₂) where
    second_low : i₂ ≤ key + 2 * step
    second_low =
        let l₁ = list_five p k r c (key + step) in
        let h = fits_nw.place_fits in
        omega (arith, w₁.next-is)

    pub fits_ne : Fitting p k r (c + half) (key + 2 * step) i₂ keys₁ bits₁
    fits_ne =
        fit r (c + half) (key + 2 * step) i₂ keys₁ bits₁ (λ s. several_above p {κ = key} (ne here) (rw e at s))
        (omega arith)
        second_low
        (keys_length w₁)
        (bits_length w₁)
        (λ s. let n = node-length s in omega (arith, w₁.next-is))

    module _ {keys₂ bits₂ : List ℕ} {b₂ i₃ : ℕ} (w₂ : Written p k r (c + half) (key + 2 * step) i₂ keys₁ bits₁ keys₂ bits₂ b₂ i₃) where
      third_low : i₃ ≤ key + 3 * step
      third_low =
          let l₂ = list_five p k r (c + half) (key + 2 * step) in
          let h = second_low in
          omega (arith, w₂.next-is)

      pub fits_sw : Fitting p k (r + half) c (key + 3 * step) i₃ keys₂ bits₂
      fits_sw =
          fit (r + half) c (key + 3 * step) i₃ keys₂ bits₂ (λ s. several_above p {κ = key} (sw here) (rw e at s))
          (omega arith)
          third_low
          (keys_length w₂ ∙ keys_length w₁)
          (bits_length w₂ ∙ bits_length w₁)
          (λ s. let n = node-length s in omega (arith, w₁.next-is, w₂.next-is))

      module _ {keys₃ bits₃ : List ℕ} {b₃ i₄ : ℕ} (w₃ : Written p k (r + half) c (key + 3 * step) i₃ keys₂ bits₂ keys₃ bits₃ b₃ i₄) where
        pub fits_se : Fitting p k (r + half) (c + half) (key + 4 * step) i₄ keys₃ bits₃
        fits_se =
            fit (r + half) (c + half) (key + 4 * step) i₄ keys₃ bits₃ (λ s. several_above p {κ = key} (se here) (rw e at s))
            (omega arith)
            (let l₃ = list_five p k (r + half) c (key + 3 * step) in let h = third_low in omega (arith, w₃.next-is))
            (keys_length w₃ ∙ keys_length w₂ ∙ keys_length w₁)
            (bits_length w₃ ∙ bits_length w₂ ∙ bits_length w₁)
            (λ s. let n = node-length s in omega (arith, w₁.next-is, w₂.next-is, w₃.next-is))

        module _ {keys₄ bits₄ : List ℕ} {b₄ last : ℕ} (w₄ : Written p k (r + half) (c + half) (key + 4 * step) i₄ keys₃ bits₃ keys₄ bits₄ b₄ last) where
          apart : one_slot (union_of_four b₁ b₂ b₃ b₄) ≡ false → one_feature p (suc k) r c ≡ false
          apart s =
              sym (slot_feature p (suc k) r c)
              ∙ ap one_slot (sym (four_bits p k half r c e w₁.union_is w₂.union_is w₃.union_is w₄.union_is))
              ∙ s

          -- the places of the quadrants' own records are in their order, and there are such places where they are written
          pub fits_four : FourAsked key step place (union_of_four b₁ b₂ b₃ b₄) i₂ i₃ i₄ keys₄ bits₄
          fits_four =
              let q = pow-suc 5 k in
              let n₁ = list_some p k r c (key + step) in
              let n₂ = list_some p k r (c + half) (key + 2 * step) in
              let n₃ = list_some p k (r + half) c (key + 3 * step) in
              let n₄ = list_some p k (r + half) (c + half) (key + 4 * step) in
              let h = keys_length w₄ ∙ keys_length w₃ ∙ keys_length w₂ ∙ keys_length w₁ in
              let j = bits_length w₄ ∙ bits_length w₃ ∙ bits_length w₂ ∙ bits_length w₁ in
              record {
                key_fits = omega (arith, f.key_fits);
                place_fits = omega (arith, f.key_fits, f.place_fits);
                first_second = omega (arith, w₁.next-is);
                second_third = omega (arith, w₂.next-is);
                third_fourth = omega (arith, w₃.next-is);
                keys_room = λ s. let n = node-length (apart s) in omega (arith, w₁.next-is, w₂.next-is, w₃.next-is, f.keys_room (apart s));
                bits_room = λ s. let n = node-length (apart s) in omega (arith, w₁.next-is, w₂.next-is, w₃.next-is, f.bits_room (apart s));
              }
