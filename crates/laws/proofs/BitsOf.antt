-- The bitstring of a block: slot i is set exactly when feature i occurs in the block (specification S4.2). So it depends only on the
-- block's pixels, and it is a power of two exactly when the block has one feature. Rests on Slots and Features.
use Prim.Native.Nat.{ℕ, zero, suc, ◌+◌, ◌^◌, ◌<◌}
use mathlib.Core.Path.{◌≡◌, refl, sym, ◌∙◌, ap, ap₂}
use mathlib.Core.Bool.{true, false}
use mathlib.Core.Logic.{◌↔◌}
use native.Mathlib.Omega.{arith}
use lib.Pow.{pow-lt, pow_mono}
use borrow.Author.Tests.{eqb-true, eq-eqb}
use Rattle.keys.proofs.Cases.{split, same_test}
use Rattle.keys.specs.Under.{InSquare, Every}
use Rattle.definitions.specs.Picture.{Picture, one_feature, features_below}
use Rattle.definitions.specs.Bits.{has_slot, union_of_four, bits_of}
use Rattle.laws.proofs.Within.{within-cases, first_within, pixel_row, pixel_column}
use Rattle.laws.proofs.Within.{every_nw, every_ne, every_sw, every_se, Somewhere, some_nw, some_ne, some_sw, some_se}
use Rattle.laws.proofs.Pixels.{Agree, agree_nw, agree_ne, agree_sw, agree_se}
use Rattle.laws.proofs.Features.{one_to, one_from_leaf, several_to, below_to, below_from}
use Rattle.laws.proofs.Slots.{slot_power, slot_cases, slot_nw, slot_ne, slot_sw, slot_se, slot_le, bits_equal, four_lt, same_four}

-- the bits of one pixel are its feature's slot
pub bits_zero : (p : Picture) (r c : ℕ) → bits_of p zero r c ≡ 2 ^ p r c
unfolding bits_of
bits_zero p r c = refl

-- the bits of a larger block are the union of its quadrants'
pub bits_suc : (p : Picture) (k r c : ℕ) → bits_of p (suc k) r c
    ≡ union_of_four (bits_of p k r c) (bits_of p k r (c + 2 ^ k)) (bits_of p k (r + 2 ^ k) c) (bits_of p k (r + 2 ^ k) (c + 2 ^ k))
unfolding bits_of
bits_suc p k r c = refl

-- feature i occurs at some pixel of the block
abbrev pub Occurs : Picture → ℕ → ℕ → ℕ → ℕ → Type 0
Occurs p i k r c = Somewhere (λ r' c'. p r' c' ≡ i) k r c

-- a slot that is set is a feature that occurs
pub bits_to : (p : Picture) (k r c i : ℕ) → has_slot (bits_of p k r c) i ≡ true → Occurs p i k r c
bits_to p zero r c i e =
    record {
      row = r;
      column = c;
      within = first_within zero r c;
      holds = eqb-true _ _ (sym (slot_power (p r c) i) ∙ ap (λ x. has_slot x i) (sym (bits_zero p r c)) ∙ e);
    }
bits_to p (suc k) r c i e =
    slot_cases _ _ _ _ i (ap (λ x. has_slot x i) (sym (bits_suc p k r c)) ∙ e)
    (λ h. some_nw (bits_to p k r c i h))
    (λ h. some_ne (bits_to p k r (c + 2 ^ k) i h))
    (λ h. some_sw (bits_to p k (r + 2 ^ k) c i h))
    (λ h. some_se (bits_to p k (r + 2 ^ k) (c + 2 ^ k) i h))

-- a feature that occurs has its slot set
pub bits_from : (p : Picture) (k r c r' c' : ℕ) → InSquare k r c r' c' → has_slot (bits_of p k r c) (p r' c') ≡ true
bits_from p zero r c r' c' w =
    ap (λ x. has_slot x (p r' c')) (bits_zero p r c)
    ∙ slot_power (p r c) (p r' c')
    ∙ eq-eqb _ _ (ap₂ p (sym (pixel_row w)) (sym (pixel_column w)))
bits_from p (suc k) r c r' c' w =
    ap (λ x. has_slot x (p r' c')) (bits_suc p k r c)
    ∙ within-cases w
    (λ v. slot_nw _ _ _ _ (p r' c') (bits_from p k r c r' c' v))
    (λ v. slot_ne _ _ _ _ (p r' c') (bits_from p k r (c + 2 ^ k) r' c' v))
    (λ v. slot_sw _ _ _ _ (p r' c') (bits_from p k (r + 2 ^ k) c r' c' v))
    (λ v. slot_se _ _ _ _ (p r' c') (bits_from p k (r + 2 ^ k) (c + 2 ^ k) r' c' v))

-- slot i is set exactly when feature i occurs in the block
pub bits_mean : (p : Picture) (k r c i : ℕ) → (has_slot (bits_of p k r c) i ≡ true) ↔ Occurs p i k r c
bits_mean p k r c i = (bits_to p k r c i, λ x. ap (has_slot (bits_of p k r c)) (sym x.holds) ∙ bits_from p k r c x.row x.column x.within)

-- pictures that agree on a block have the same bits there
pub bits_agree : (p q : Picture) (k r c : ℕ) → Agree p q k r c → bits_of p k r c ≡ bits_of q k r c
bits_agree p q zero r c h = bits_zero p r c ∙ ap (λ f. 2 ^ f) (h r c (first_within zero r c)) ∙ sym (bits_zero q r c)
bits_agree p q (suc k) r c h =
    bits_suc p k r c
    ∙ same_four (bits_agree p q k r c (agree_nw h))
    (bits_agree p q k r (c + 2 ^ k) (agree_ne h))
    (bits_agree p q k (r + 2 ^ k) c (agree_sw h))
    (bits_agree p q k (r + 2 ^ k) (c + 2 ^ k) (agree_se h))
    ∙ sym (bits_suc q k r c)

-- a block of one feature has that feature's slot alone
pub bits_one : (p : Picture) (k r c : ℕ) → one_feature p k r c ≡ true → bits_of p k r c ≡ 2 ^ p r c
bits_one p k r c e = bits_equal _ _
    (λ i. same_test _ _
    (λ h. let x = bits_to p k r c i h in
    slot_power (p r c) i ∙ eq-eqb _ _ (sym (one_to p k r c e x.row x.column x.within) ∙ x.holds))
    (λ h. ap (has_slot (bits_of p k r c)) (sym (eqb-true _ _ (sym (slot_power (p r c) i) ∙ h))) ∙ bits_from p k r c r c (first_within k r c)))

-- a block whose bits are 2 ^ f has feature f everywhere
pub power_every : (p : Picture) (f k r c : ℕ) → bits_of p k r c ≡ 2 ^ f → Every (λ r' c'. p r' c' ≡ f) k r c
power_every p f k r c e r' c' w =
    sym (eqb-true _ _ (sym (slot_power f (p r' c')) ∙ ap (λ x. has_slot x (p r' c')) (sym e) ∙ bits_from p k r c r' c' w))

-- so it has one feature
pub power_one : (p : Picture) (f k r c : ℕ) → bits_of p k r c ≡ 2 ^ f → one_feature p k r c ≡ true
power_one p f k r c e = one_from_leaf p f k r c (power_every p f k r c e)

-- two different slots are set
pub record TwoSlots (bits : ℕ) : Type 0 where
  pub first : ℕ
  pub second : ℕ
  pub differ : first ≡ second → ⊥
  pub has_first : has_slot bits first ≡ true
  pub has_second : has_slot bits second ≡ true

-- in a block of several features two different features occur
pub bits_several : (p : Picture) (k r c : ℕ) → one_feature p k r c ≡ false → TwoSlots (bits_of p k r c)
bits_several p k r c e =
    let x = several_to p k r c e in
    record {
      first = p x.row x.column;
      second = p r c;
      differ = x.holds;
      has_first = bits_from p k r c x.row x.column x.within;
      has_second = bits_from p k r c r c (first_within k r c);
    }

-- bits of features below s are below 2 ^ s
pub bits_below : (s : ℕ) (p : Picture) (k r c : ℕ) → features_below s p k r c ≡ true → bits_of p k r c < 2 ^ s
bits_below s p k r c e = go k r c (below_to s p k r c e)
  where
    go : (k r c : ℕ) → Every (λ r' c'. p r' c' < s) k r c → bits_of p k r c < 2 ^ s
    go zero r c h = rw (bits_zero p r c) (pow-lt (h r c (first_within zero r c)))
    go (suc k) r c h =
        rw (bits_suc p k r c)
        (four_lt s _ _ _ _ (go k r c (every_nw h))
        (go k r (c + 2 ^ k) (every_ne h))
        (go k (r + 2 ^ k) c (every_sw h))
        (go k (r + 2 ^ k) (c + 2 ^ k) (every_se h)))

-- features of bits below 2 ^ s are below s
pub below_bits : (s : ℕ) (p : Picture) (k r c : ℕ) → bits_of p k r c < 2 ^ s → features_below s p k r c ≡ true
below_bits s p k r c h = below_from s p k r c
    (λ r' c' w. split (p r' c') s (λ l. l)
    (λ l. let u = slot_le (bits_of p k r c) (p r' c') (bits_from p k r c r' c' w) in let v = pow_mono l in omega arith))
