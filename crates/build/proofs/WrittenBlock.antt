-- What stands in the slices once a block is written: a pixel has nothing below it, and four quadrants with their own records are the records
-- below the block. Rests on WriteBlock, CountBlock and the equations of lists.
use Prim.Native.Nat.{ℕ, suc, ◌+◌, ◌*◌, ◌^◌}
use mathlib.Core.Path.{◌≡◌, refl, sym, ◌∙◌, ap}
use mathlib.Core.Bool.{true, false}
use mathlib.Core.List.{List, [], ◌∷◌, ◌++◌, map, map-append}
use native.Mathlib.Omega.{arith}
use lib.ListN.{length, drop, length-map}
use lib.Seq.{sets}
use Rattle.keys.specs.Key.{child_key}
use Rattle.keys.proofs.Cases.{decide}
use Rattle.keys.specs.Under.{here, nw, ne, sw, se}
use Rattle.definitions.specs.Picture.{Picture, one_feature}
use Rattle.definitions.specs.Bits.{bits_of}
use Rattle.definitions.specs.List.{Record, record_of, list_of}
use Rattle.laws.proofs.Features.{one_under, one_pixel}
use Rattle.laws.proofs.BitsOf.{bits_zero, bits_one}
use Rattle.laws.proofs.ListOf.{list_leaf, list_node, list_one, list_head_first, length-node}
use Rattle.laws.proofs.FourLists.{same_lists}
use Rattle.list.specs.Check.{one_slot}
use Rattle.build.specs.BuildBlocks.{below, four_set, FourWritten, Written}
use Rattle.list.proofs.OneSlot.{slot_feature}
use Rattle.build.proofs.CountBlock.{four_bits}
use Rattle.build.proofs.WriteBlock.{four_runs}

-- a list is the block's own record and those below it
pub own_first : (p : Picture) (k r c κ : ℕ) → list_of p k r c κ ≡ record_of κ (bits_of p k r c) ∷ below p k r c κ
own_first p k r c κ = let e = (list_head_first p k r c κ).1 in e ∙ ap (λ l. record_of κ (bits_of p k r c) ∷ l) (sym (ap (drop 1) e))

pub length-below : (p : Picture) (k r c κ : ℕ) → length (list_of p k r c κ) ≡ suc (length (below p k r c κ))
length-below p k r c κ = ap length (own_first p k r c κ)

-- a block of one feature has nothing below it
pub below_one : (p : Picture) (k r c κ : ℕ) → one_feature p k r c ≡ true → below p k r c κ ≡ []
below_one p k r c κ e = ap (drop 1) (list_one p k r c κ e)

-- below a block of several features stand the lists of its quadrants
pub below_node : (p : Picture) (k r c κ : ℕ) → one_feature p (suc k) r c ≡ false → below p (suc k) r c κ
    ≡ list_of p k r c (child_key κ k 1)
    ++ (list_of p k r (c + 2 ^ k) (child_key κ k 2)
    ++ (list_of p k (r + 2 ^ k) c (child_key κ k 3) ++ list_of p k (r + 2 ^ k) (c + 2 ^ k) (child_key κ k 4)))
below_node p k r c κ e = ap (drop 1) (list_node p k r c κ e)

-- one of the two numbers of each record
module _ (f : Record → ℕ) where
  map-own : (p : Picture) (k r c κ : ℕ) → map f (list_of p k r c κ) ≡ f (record_of κ (bits_of p k r c)) ∷ map f (below p k r c κ)
  map-own p k r c κ = ap (map f) (own_first p k r c κ)

  map-four : (s t u v : List Record) → map f (s ++ (t ++ (u ++ v))) ≡ map f s ++ (map f t ++ (map f u ++ map f v))
  map-four s t u v =
      map-append f s (t ++ (u ++ v)) ∙ ap (λ l. map f s ++ l) (map-append f t (u ++ v) ∙ ap (λ l. map f t ++ l) (map-append f u v))

  map-node : (p : Picture) (k r c κ : ℕ) → one_feature p (suc k) r c ≡ false → map f (below p (suc k) r c κ)
      ≡ (f (record_of (child_key κ k 1) (bits_of p k r c)) ∷ map f (below p k r c (child_key κ k 1)))
      ++ ((f (record_of (child_key κ k 2) (bits_of p k r (c + 2 ^ k))) ∷ map f (below p k r (c + 2 ^ k) (child_key κ k 2)))
      ++ ((f (record_of (child_key κ k 3) (bits_of p k (r + 2 ^ k) c)) ∷ map f (below p k (r + 2 ^ k) c (child_key κ k 3)))
      ++ (f (record_of (child_key κ k 4) (bits_of p k (r + 2 ^ k) (c + 2 ^ k))) ∷ map f (below p k (r + 2 ^ k) (c + 2 ^ k) (child_key κ k 4)))))
  map-node p k r c κ e =
      ap (map f) (below_node p k r c κ e)
      ∙ map-four (list_of p k r c (child_key κ k 1)) (list_of p k r (c + 2 ^ k) (child_key κ k 2)) (list_of p k (r + 2 ^ k) c (child_key κ k 3)) (list_of p k (r + 2 ^ k) (c + 2 ^ k) (child_key κ k 4))
      ∙ same_lists (map-own p k r c (child_key κ k 1)) (map-own p k r (c + 2 ^ k) (child_key κ k 2)) (map-own p k (r + 2 ^ k) c (child_key κ k 3)) (map-own p k (r + 2 ^ k) (c + 2 ^ k) (child_key κ k 4))

  pub length_run : (p : Picture) (k r c κ : ℕ) → length (list_of p k r c κ) ≡ suc (length (map f (below p k r c κ)))
  length_run p k r c κ = length-below p k r c κ ∙ ap suc (sym (length-map (below p k r c κ) f))

  -- the runs below four quadrants and the quadrants' own records are the run below the block
  run_node : (p : Picture) (k r c κ : ℕ) → one_feature p (suc k) r c ≡ false → (l l₁ l₂ l₃ l₄ : List ℕ) (i₁ i₂ i₃ i₄ : ℕ)
      → i₂ ≡ i₁ + length (list_of p k r c (child_key κ k 1))
      → i₃ ≡ i₂ + length (list_of p k r (c + 2 ^ k) (child_key κ k 2))
      → i₄ ≡ i₃ + length (list_of p k (r + 2 ^ k) c (child_key κ k 3))
      → l₁ ≡ sets l (i₁ + 1) (map f (below p k r c (child_key κ k 1)))
      → l₂ ≡ sets l₁ (i₂ + 1) (map f (below p k r (c + 2 ^ k) (child_key κ k 2)))
      → l₃ ≡ sets l₂ (i₃ + 1) (map f (below p k (r + 2 ^ k) c (child_key κ k 3)))
      → l₄ ≡ sets l₃ (i₄ + 1) (map f (below p k (r + 2 ^ k) (c + 2 ^ k) (child_key κ k 4)))
      → four_set l₄ i₁ i₂ i₃ i₄
      (f (record_of (child_key κ k 1) (bits_of p k r c)))
      (f (record_of (child_key κ k 2) (bits_of p k r (c + 2 ^ k))))
      (f (record_of (child_key κ k 3) (bits_of p k (r + 2 ^ k) c)))
      (f (record_of (child_key κ k 4) (bits_of p k (r + 2 ^ k) (c + 2 ^ k))))
      ≡ sets l i₁ (map f (below p (suc k) r c κ))
  run_node p k r c κ several l l₁ l₂ l₃ l₄ i₁ i₂ i₃ i₄ e₂ e₃ e₄ h₁ h₂ h₃ h₄ =
      ap (λ q. four_set q i₁ i₂ i₃ i₄ (f (record_of (child_key κ k 1) (bits_of p k r c))) (f (record_of (child_key κ k 2) (bits_of p k r (c + 2 ^ k)))) (f (record_of (child_key κ k 3) (bits_of p k (r + 2 ^ k) c))) (f (record_of (child_key κ k 4) (bits_of p k (r + 2 ^ k) (c + 2 ^ k)))))
      (h₄ ∙ ap (λ q. sets q (i₄ + 1) (map f (below p k (r + 2 ^ k) (c + 2 ^ k) (child_key κ k 4))))
      (h₃ ∙ ap (λ q. sets q (i₃ + 1) (map f (below p k (r + 2 ^ k) c (child_key κ k 3))))
      (h₂ ∙ ap (λ q. sets q (i₂ + 1) (map f (below p k r (c + 2 ^ k) (child_key κ k 2)))) h₁)))
      ∙ four_runs l i₁ i₂ i₃ i₄ _ _ _ _
      (map f (below p k r c (child_key κ k 1)))
      (map f (below p k r (c + 2 ^ k) (child_key κ k 2)))
      (map f (below p k (r + 2 ^ k) c (child_key κ k 3)))
      (map f (below p k (r + 2 ^ k) (c + 2 ^ k) (child_key κ k 4)))
      (e₂ ∙ ap (λ n. i₁ + n) (length_run p k r c (child_key κ k 1)))
      (e₃ ∙ ap (λ n. i₂ + n) (length_run p k r (c + 2 ^ k) (child_key κ k 2)))
      (e₄ ∙ ap (λ n. i₃ + n) (length_run p k (r + 2 ^ k) c (child_key κ k 3)))
      ∙ ap (sets l i₁) (sym (map-node p k r c κ several))

-- a block of one feature has nothing below it: it is written by the bits of its first pixel
pub written_one : (p : Picture) (k r c κ place b n : ℕ) (keys bits : List ℕ) → one_feature p k r c ≡ true → b ≡ 2 ^ p r c → n ≡ place + 1
    → Written p k r c κ place keys bits keys bits b n
written_one p k r c κ place b n keys bits one e h = record {
  union_is = e ∙ sym (bits_one p k r c one);
  next-is = h ∙ sym (ap (λ l. place + length l) (list_one p k r c κ one));
  keys_are = sym (ap (λ l. sets keys (place + 1) (map (λ x. x.key) (drop 1 l))) (list_one p k r c κ one));
  bits_are = sym (ap (λ l. sets bits (place + 1) (map (λ x. x.value) (drop 1 l))) (list_one p k r c κ one));
}

-- so is a pixel
pub written_pixel : (p : Picture) (r c κ place b n : ℕ) (keys bits : List ℕ) → b ≡ 2 ^ p r c → n ≡ place + 1 → Written p 0 r c κ place keys bits keys bits b n
written_pixel p r c κ place b n keys bits e h = written_one p 0 r c κ place b n keys bits (one_pixel p r c) e h

-- where a block of one feature was written nothing changed
module _ {p : Picture} {k r c κ place : ℕ} {keys bits keys' bits' : List ℕ} {b n : ℕ} (w : Written p k r c κ place keys bits keys' bits' b n) (one : one_feature p k r c ≡ true) where
  pub keys_stay : keys' ≡ keys
  keys_stay = w.keys_are ∙ ap (λ l. sets keys (place + 1) (map (λ x. x.key) l)) (below_one p k r c κ one)

  pub bits_stay : bits' ≡ bits
  bits_stay = w.bits_are ∙ ap (λ l. sets bits (place + 1) (map (λ x. x.value) l)) (below_one p k r c κ one)

-- a block of one feature is written as its first pixel is
pub written_wider : {p : Picture} {r c κ place : ℕ} {keys bits keys' bits' : List ℕ} {b n : ℕ} (k : ℕ) → one_feature p k r c ≡ true
    → Written p 0 r c κ place keys bits keys' bits' b n
    → Written p k r c κ place keys bits keys' bits' b n
written_wider {p} {r} {c} {κ} {place} {keys} {bits} {keys'} {bits'} {b} {n} k one w =
    let pixel = one_pixel p r c in
    let h = written_one p k r c κ place b n keys bits one (w.union_is ∙ bits_zero p r c) (w.next-is ∙ ap (λ l. place + length l) (list_one p 0 r c κ pixel)) in
    rw (keys_stay w pixel, bits_stay w pixel) h

same_set : (l : List ℕ) (i₁ i₂ i₃ i₄ : ℕ) {w x y z w' x' y' z' : ℕ} → w ≡ w' → x ≡ x' → y ≡ y' → z ≡ z' → four_set l i₁ i₂ i₃ i₄ w x y z ≡ four_set l i₁ i₂ i₃ i₄ w' x' y' z'
same_set l i₁ i₂ i₃ i₄ e₁ e₂ e₃ e₄ = cc

-- the same block, its height known
pub block_written_at : {p : Picture} {h h' r c κ place : ℕ} {keys bits keys' bits' : List ℕ} {b n : ℕ} → h ≡ h'
    → Written p h r c κ place keys bits keys' bits' b n
    → Written p h' r c κ place keys bits keys' bits' b n
block_written_at e w = rw e at w

-- and its key
pub written_key : {p : Picture} {h r c κ κ' place : ℕ} {keys bits keys' bits' : List ℕ} {b n : ℕ} → κ ≡ κ'
    → Written p h r c κ place keys bits keys' bits' b n
    → Written p h r c κ' place keys bits keys' bits' b n
written_key e w = rw e at w

-- a block is written once its quadrants are and their own records stand before them
module _ (p : Picture) (k r c key place : ℕ) {keys bits keys₁ bits₁ keys₂ bits₂ keys₃ bits₃ keys₄ bits₄ keys' bits' : List ℕ} {b₁ b₂ b₃ b₄ i₂ i₃ i₄ last b n : ℕ}
    (w₁ : Written p k r c (child_key key k 1) (place + 1) keys bits keys₁ bits₁ b₁ i₂)
    (w₂ : Written p k r (c + 2 ^ k) (child_key key k 2) i₂ keys₁ bits₁ keys₂ bits₂ b₂ i₃)
    (w₃ : Written p k (r + 2 ^ k) c (child_key key k 3) i₃ keys₂ bits₂ keys₃ bits₃ b₃ i₄)
    (w₄ : Written p k (r + 2 ^ k) (c + 2 ^ k) (child_key key k 4) i₄ keys₃ bits₃ keys₄ bits₄ b₄ last)
    (f : FourWritten key (5 ^ k) place b₁ b₂ b₃ b₄ i₂ i₃ i₄ last keys₄ bits₄ keys' bits' b n) where
  union : b ≡ bits_of p (suc k) r c
  union = f.union_is ∙ four_bits p k (2 ^ k) r c refl w₁.union_is w₂.union_is w₃.union_is w₄.union_is

  test : one_slot b ≡ one_feature p (suc k) r c
  test = ap one_slot union ∙ slot_feature p (suc k) r c

  same_keys : one_feature p (suc k) r c ≡ true → keys₄ ≡ keys
  same_keys one =
      keys_stay w₄ (one_under p {κ = key} (se here) one)
      ∙ keys_stay w₃ (one_under p {κ = key} (sw here) one)
      ∙ keys_stay w₂ (one_under p {κ = key} (ne here) one)
      ∙ keys_stay w₁ (one_under p {κ = key} (nw here) one)

  same_bits : one_feature p (suc k) r c ≡ true → bits₄ ≡ bits
  same_bits one =
      bits_stay w₄ (one_under p {κ = key} (se here) one)
      ∙ bits_stay w₃ (one_under p {κ = key} (sw here) one)
      ∙ bits_stay w₂ (one_under p {κ = key} (ne here) one)
      ∙ bits_stay w₁ (one_under p {κ = key} (nw here) one)

  alike : one_feature p (suc k) r c ≡ true → Written p (suc k) r c key place keys bits keys' bits' b n
  alike one =
      let t : one_slot b ≡ true = test ∙ one in
      let none = below_one p (suc k) r c key one in
      record {
        union_is = union;
        next-is = (rw t at f.next-is) ∙ sym (ap (λ l. place + length l) (list_leaf p k r c key one));
        keys_are = (rw t at f.keys_are) ∙ same_keys one ∙ sym (ap (λ l. sets keys (place + 1) (map (λ x. x.key) l)) none);
        bits_are = (rw t at f.bits_are) ∙ same_bits one ∙ sym (ap (λ l. sets bits (place + 1) (map (λ x. x.value) l)) none);
      }

  one_step : key + 5 ^ k ≡ child_key key k 1
  one_step = omega arith

  apart : one_feature p (suc k) r c ≡ false → Written p (suc k) r c key place keys bits keys' bits' b n
  apart several =
      let t : one_slot b ≡ false = test ∙ several in
      record {
        union_is = union;
        next-is = let e = (rw t at f.next-is) in
            let m = length-node p k r c key several in
            omega (arith, w₁.next-is, w₂.next-is, w₃.next-is, w₄.next-is);
        keys_are = (rw t at f.keys_are)
            ∙ same_set keys₄ (place + 1) i₂ i₃ i₄ one_step refl refl refl
            ∙ run_node (λ x. x.key) p k r c key several keys keys₁ keys₂ keys₃ keys₄ (place + 1) i₂ i₃ i₄ w₁.next-is w₂.next-is w₃.next-is w₁.keys_are w₂.keys_are w₃.keys_are w₄.keys_are;
        bits_are = (rw t at f.bits_are)
            ∙ same_set bits₄ (place + 1) i₂ i₃ i₄ w₁.union_is w₂.union_is w₃.union_is w₄.union_is
            ∙ run_node (λ x. x.value) p k r c key several bits bits₁ bits₂ bits₃ bits₄ (place + 1) i₂ i₃ i₄ w₁.next-is w₂.next-is w₃.next-is w₁.bits_are w₂.bits_are w₃.bits_are w₄.bits_are;
      }

  pub written_four : Written p (suc k) r c key place keys bits keys' bits' b n
  written_four = decide (one_feature p (suc k) r c) alike apart

-- the same, with half a side and the step of the keys as the code has them
module _ (p : Picture) (k half step r c key place : ℕ) (e : half ≡ 2 ^ k) (g : step ≡ 5 ^ k) {keys bits keys₁ bits₁ keys₂ bits₂ keys₃ bits₃ keys₄ bits₄ keys' bits' : List ℕ} {b₁ b₂ b₃ b₄ i₂ i₃ i₄ last b n : ℕ} where
  pub written_quadrants : Written p k r c (key + step) (place + 1) keys bits keys₁ bits₁ b₁ i₂
      → Written p k r (c + half) (key + 2 * step) i₂ keys₁ bits₁ keys₂ bits₂ b₂ i₃
      → Written p k (r + half) c (key + 3 * step) i₃ keys₂ bits₂ keys₃ bits₃ b₃ i₄
      → Written p k (r + half) (c + half) (key + 4 * step) i₄ keys₃ bits₃ keys₄ bits₄ b₄ last
      → FourWritten key step place b₁ b₂ b₃ b₄ i₂ i₃ i₄ last keys₄ bits₄ keys' bits' b n
      → Written p (suc k) r c key place keys bits keys' bits' b n
  written_quadrants w₁ w₂ w₃ w₄ f =
      let g₁ : key + step ≡ child_key key k 1 = omega arith in
      written_four p k r c key place (rw g₁ at w₁) (rw (e, g) at w₂) (rw (e, g) at w₃) (rw (e, g) at w₄) (rw g at f)
