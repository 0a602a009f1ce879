-- Counting a block's records: the count of four quadrants gives the block's, it does not depend on the key, it is at most 5 ^ height, and three
-- times it is less than four times the block's pixels. Rests on the list's OneSlot and on the equations of bits and lists.
use Prim.Native.Nat.{ℕ, zero, suc, ◌+◌, ◌*◌, ◌^◌, ◌≤◌, ◌<◌}
use mathlib.Core.Path.{◌≡◌, refl, sym, ◌∙◌, ap}
use mathlib.Core.Bool.{true, false, cond}
use native.Mathlib.Omega.{arith}
use native.Mathlib.Nat.{pow-suc, one-le-pow}
use lib.ListN.{length}
use Rattle.keys.specs.Key.{child_key}
use Rattle.keys.proofs.Cases.{decide}
use Rattle.keys.proofs.Powers.{five_le}
use Rattle.definitions.specs.Picture.{Picture, one_feature}
use Rattle.definitions.specs.Bits.{union_of_four, bits_of}
use Rattle.definitions.specs.List.{list_of}
use Rattle.laws.proofs.Slots.{same_four}
use Rattle.laws.proofs.BitsOf.{bits_zero, bits_suc, bits_one}
use Rattle.laws.proofs.ListOf.{list_zero, list_leaf, list_one, length-node, list_most}
use Rattle.list.specs.Check.{one_slot}
use Rattle.build.specs.BuildBlocks.{Tallied, Joined}
use Rattle.list.proofs.OneSlot.{slot_feature}

-- sums of equal numbers are equal
pub same_sum : {a b c d a' b' c' d' : ℕ} → a ≡ a' → b ≡ b' → c ≡ c' → d ≡ d' → suc (a + (b + (c + d))) ≡ suc (a' + (b' + (c' + d')))
same_sum e f g h = cc

-- a list is as long under any key
pub length-key : (p : Picture) (k r c κ κ' : ℕ) → length (list_of p k r c κ) ≡ length (list_of p k r c κ')
length-key p zero r c κ κ' = ap length (list_zero p r c κ) ∙ sym (ap length (list_zero p r c κ'))
length-key p (suc k) r c κ κ' =
    decide (one_feature p (suc k) r c)
    (λ e. ap length (list_leaf p k r c κ e) ∙ sym (ap length (list_leaf p k r c κ' e)))
    (λ e. length-node p k r c κ e
    ∙ same_sum (length-key p k r c _ _) (length-key p k r (c + 2 ^ k) _ _) (length-key p k (r + 2 ^ k) c _ _) (length-key p k (r + 2 ^ k) (c + 2 ^ k) _ _)
    ∙ sym (length-node p k r c κ' e))

-- a list has at most as many records as its block has keys
pub list_five : (p : Picture) (k r c κ : ℕ) → length (list_of p k r c κ) ≤ 5 ^ k
list_five p zero r c κ = let e = ap length (list_zero p r c κ) in omega arith
list_five p (suc k) r c κ =
    let e = pow-suc 5 k in
    let h = one-le-pow k 5 (omega arith) in
    decide (one_feature p (suc k) r c)
    (λ one. let n = ap length (list_leaf p k r c κ one) in omega arith)
    (λ several.
    let n = length-node p k r c κ several in
    let n₁ = list_five p k r c (child_key κ k 1) in
    let n₂ = list_five p k r (c + 2 ^ k) (child_key κ k 2) in
    let n₃ = list_five p k (r + 2 ^ k) c (child_key κ k 3) in
    let n₄ = list_five p k (r + 2 ^ k) (c + 2 ^ k) (child_key κ k 4) in
    omega arith)

-- four quadrants together, by the test of their union
pub joined_alike : (union under : ℕ) → one_slot union ≡ true → Joined union under union 1
joined_alike union under e = record { bits_are = refl; count-is = rw e }

pub joined_apart : (union under : ℕ) → one_slot union ≡ false → Joined union under union (1 + under)
joined_apart union under e = record { bits_are = refl; count-is = rw e }

-- a pixel has one record
pub tallied_pixel : (p : Picture) (r c b : ℕ) → b ≡ 2 ^ p r c → Tallied p 0 r c b 1
tallied_pixel p r c b e = record { bits_are = e ∙ sym (bits_zero p r c); count-is = sym (ap length (list_zero p r c 0)) }

-- so has a block of one feature, with the bits of its first pixel
pub tallied_one : {p : Picture} {r c b n : ℕ} (k : ℕ) → one_feature p k r c ≡ true → Tallied p 0 r c b n → Tallied p k r c b n
tallied_one {p} {r} {c} k one t = record {
  bits_are = t.bits_are ∙ bits_zero p r c ∙ sym (bits_one p k r c one);
  count-is = t.count-is ∙ ap length (list_zero p r c 0) ∙ sym (ap length (list_one p k r c 0 one));
}

-- the bits of four quadrants that begin half a side apart
pub four_bits : (p : Picture) (k half r c : ℕ) {b₁ b₂ b₃ b₄ : ℕ} → half ≡ 2 ^ k
    → b₁ ≡ bits_of p k r c
    → b₂ ≡ bits_of p k r (c + half)
    → b₃ ≡ bits_of p k (r + half) c
    → b₄ ≡ bits_of p k (r + half) (c + half)
    → union_of_four b₁ b₂ b₃ b₄ ≡ bits_of p (suc k) r c
four_bits p k half r c e e₁ e₂ e₃ e₄ =
    same_four e₁
    (e₂ ∙ ap (λ x. bits_of p k r (c + x)) e)
    (e₃ ∙ ap (λ x. bits_of p k (r + x) c) e)
    (e₄ ∙ ap (λ x. bits_of p k (r + x) (c + x)) e)
    ∙ sym (bits_suc p k r c)

module _ (p : Picture) (k half r c : ℕ) (e : half ≡ 2 ^ k) {b₁ b₂ b₃ b₄ n₁ n₂ n₃ n₄ b n : ℕ}
    (t₁ : Tallied p k r c b₁ n₁)
    (t₂ : Tallied p k r (c + half) b₂ n₂)
    (t₃ : Tallied p k (r + half) c b₃ n₃)
    (t₄ : Tallied p k (r + half) (c + half) b₄ n₄)
    (j : Joined (union_of_four b₁ b₂ b₃ b₄) (n₁ + (n₂ + (n₃ + n₄))) b n) where
  union : union_of_four b₁ b₂ b₃ b₄ ≡ bits_of p (suc k) r c
  union = four_bits p k half r c e t₁.bits_are t₂.bits_are t₃.bits_are t₄.bits_are

  several_records : one_feature p (suc k) r c ≡ false → suc (n₁ + (n₂ + (n₃ + n₄))) ≡ length (list_of p (suc k) r c 0)
  several_records s =
      same_sum (t₁.count-is ∙ length-key p k r c 0 (child_key 0 k 1))
      (t₂.count-is ∙ ap (λ x. length (list_of p k r (c + x) 0)) e ∙ length-key p k r (c + 2 ^ k) 0 (child_key 0 k 2))
      (t₃.count-is ∙ ap (λ x. length (list_of p k (r + x) c 0)) e ∙ length-key p k (r + 2 ^ k) c 0 (child_key 0 k 3))
      (t₄.count-is ∙ ap (λ x. length (list_of p k (r + x) (c + x) 0)) e ∙ length-key p k (r + 2 ^ k) (c + 2 ^ k) 0 (child_key 0 k 4))
      ∙ sym (length-node p k r c 0 s)

  count : cond (one_feature p (suc k) r c) 1 (1 + (n₁ + (n₂ + (n₃ + n₄)))) ≡ length (list_of p (suc k) r c 0)
  count =
      decide (one_feature p (suc k) r c)
      (λ one. rw one (sym (ap length (list_leaf p k r c 0 one))))
      (λ several. rw several (let h = several_records several in omega arith))

  -- a block is what its quadrants give together
  pub tallied_four : Tallied p (suc k) r c b n
  tallied_four = record {
    bits_are = j.bits_are ∙ union;
    count-is = j.count-is
        ∙ ap (λ x. cond (one_slot x) 1 (1 + (n₁ + (n₂ + (n₃ + n₄))))) union
        ∙ ap (λ x. cond x 1 (1 + (n₁ + (n₂ + (n₃ + n₄))))) (slot_feature p (suc k) r c)
        ∙ count;
  }

-- the count of a quadrant is small
pub tallied_small : {p : Picture} {k r c b n : ℕ} → Tallied p k r c b n → k ≤ 9 → n ≤ 5 ^ 9
tallied_small {p} {k} {r} {c} t h = let a = list_five p k r c 0 in let u = five_le 9 h in omega (arith, t.count-is)

-- a list has at most as many records as its pixels allow
pub most_records : (p : Picture) (k r c κ pixels : ℕ) → pixels ≡ 4 ^ k → 3 * length (list_of p k r c κ) < 4 * pixels
most_records p k r c κ pixels e = let n = list_most p k r c κ in let g = pow-suc 4 k in omega arith
