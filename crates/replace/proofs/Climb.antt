-- Climbing ends at the largest block around a block of one feature that has one feature in the new picture, and is decided by the old list.
-- Rests on Family.
use Prim.Native.Nat.{ℕ, zero, suc, ◌^◌}
use mathlib.Core.Path.{◌≡◌, refl, sym, ◌∙◌, ap}
use mathlib.Core.Bool.{true, false}
use mathlib.Core.List.{List}
use lib.Dec.{eqb}
use borrow.Author.Tests.{eqb-true, eq-eqb}
use Rattle.keys.proofs.Cases.{decide, same_test}
use Rattle.keys.specs.Under.{Under, here, Quadrant}
use Rattle.keys.proofs.Under.{under_trans, quadrant_under}
use Rattle.keys.proofs.Pixel.{InKeys}
use Rattle.definitions.specs.Picture.{Picture, one_feature}
use Rattle.definitions.specs.Bits.{bits_of}
use Rattle.definitions.specs.List.{Record, list_of}
use Rattle.laws.proofs.Within.{first_within, under_within}
use Rattle.laws.proofs.Features.{one_to}
use Rattle.laws.proofs.BitsOf.{bits_one, power_one}
use Rattle.replace.specs.Family.{parent_bits}
use Rattle.replace.specs.Climb.{climb}
use Rattle.replace.proofs.Way.{Way, there, up, under_of, steps, steps_there, steps_up}
use Rattle.replace.proofs.Outside.{Outside, outside_up}
use Rattle.replace.proofs.Context.{Open}
use Rattle.replace.proofs.Family.{keys_up, parent-bits, others_read}

-- no level is left
pub climb_zero : (l : List Record) (κ b h : ℕ) → climb l κ b zero h ≡ h
unfolding climb
climb_zero l κ b h = refl

-- the parent has the same bits: on
pub climb_on : (l : List Record) (κ b n h : ℕ) → eqb (parent_bits l κ b h) b ≡ true → climb l κ b (suc n) h ≡ climb l κ b n (suc h)
unfolding climb
climb_on l κ b n h e = rw e

-- it has others: the end
pub climb_ends : (l : List Record) (κ b n h : ℕ) → eqb (parent_bits l κ b h) b ≡ false → climb l κ b (suc n) h ≡ h
unfolding climb
climb_ends l κ b n h e = rw e

-- around a block of one feature, a block has one feature exactly when its bits are the same
pub one_same : (p : Picture) {k r c κ k' r' c' κ' : ℕ} → Under k r c κ k' r' c' κ' → one_feature p k' r' c' ≡ true
    → one_feature p k r c ≡ eqb (bits_of p k r c) (bits_of p k' r' c')
one_same p {k} {r} {c} {k' = k'} {r'} {c'} u one =
    same_test _ _
    (λ e.
    eq-eqb _ _
    (bits_one p k r c e
    ∙ ap (λ f. 2 ^ f) (sym (one_to p k r c e r' c' (under_within u (first_within k' r' c'))))
    ∙ sym (bits_one p k' r' c' one)))
    (λ e. power_one p (p r' c') k r c (eqb-true _ _ e ∙ bits_one p k' r' c' one))

-- where climbing from the block (k r c κ) ends, with levels levels above it
pub record Climbed (p p' : Picture) (m k r c κ x levels : ℕ) : Type 0 where
  pub height : ℕ
  pub row : ℕ
  pub column : ℕ
  pub key : ℕ
  pub way : Way m 0 0 0 height row column key
  pub under : Under height row column key k r c κ
  pub opens : Open p' way
  pub one : one_feature p' height row column ≡ true
  pub bits : bits_of p' height row column ≡ bits_of p' k r c
  pub is : climb (list_of p m 0 0 0) x (bits_of p' k r c) levels k ≡ height

climbed_up : (p p' : Picture) {m k r c κ r' c' κ' x n : ℕ}
    → Quadrant k r c κ r' c' κ'
    → (same : bits_of p' (suc k) r c ≡ bits_of p' k r' c')
    → eqb (parent_bits (list_of p m 0 0 0) x (bits_of p' k r' c') k) (bits_of p' k r' c') ≡ true
    → Climbed p p' m (suc k) r c κ x n
    → Climbed p p' m k r' c' κ' x (suc n)
climbed_up p p' {m} {k} {r} {c} {κ} {r'} {c'} {κ'} {x} {n} q same test y =
    record {
      height = y.height;
      row = y.row;
      column = y.column;
      key = y.key;
      way = y.way;
      under = under_trans y.under (quadrant_under q);
      opens = y.opens;
      one = y.one;
      bits = y.bits ∙ same;
      is =
          climb_on (list_of p m 0 0 0) x (bits_of p' k r' c') n k test
          ∙ ap (λ b. climb (list_of p m 0 0 0) x b n (suc k)) (sym same)
          ∙ y.is;
    }

climbed_here : (p p' : Picture) {m k r c κ x n : ℕ} (w : Way m 0 0 0 k r c κ) → one_feature p' k r c ≡ true → Open p' w
    → climb (list_of p m 0 0 0) x (bits_of p' k r c) n k ≡ k
    → Climbed p p' m k r c κ x n
climbed_here p p' {k = k} {r} {c} {κ} w one o e =
    record { height = k; row = r; column = c; key = κ; way = w; under = here; opens = o; one = one; bits = refl; is = e }

climbed_there : (p p' : Picture) (m x : ℕ) → one_feature p' m 0 0 ≡ true → Climbed p p' m m 0 0 0 x zero
climbed_there p p' m x one = climbed_here p p' there one tt (climb_zero (list_of p m 0 0 0) x (bits_of p' m 0 0) m)

-- a level: on from the parent where that has one feature in the new picture, else the end
climbed_level : (p p' : Picture) {m k r c κ r' c' κ' x : ℕ} (q : Quadrant k r c κ r' c' κ') (w : Way m 0 0 0 (suc k) r c κ)
    → Outside p p' k r' c'
    → one_feature p' k r' c' ≡ true
    → InKeys k κ' x
    → (one_feature p' (suc k) r c ≡ true → Climbed p p' m (suc k) r c κ x (steps w))
    → Climbed p p' m k r' c' κ' x (suc (steps w))
climbed_level p p' {m} {k} {r} {c} {κ} {r'} {c'} {κ'} {x} q w h one i on =
    let found = parent-bits p' (list_of p m 0 0 0) (under_of w) q i (others_read p p' w q h) in
    let same = one_same p' (quadrant_under q) one in
    let test = ap (λ b. eqb b (bits_of p' k r' c')) found ∙ sym same in
    decide (one_feature p' (suc k) r c) (λ e. climbed_up p p' q (eqb-true _ _ (sym same ∙ e)) (test ∙ e) (on e))
    (λ e. climbed_here p p' (up q w) one e (climb_ends (list_of p m 0 0 0) x (bits_of p' k r' c') (steps w) k (test ∙ e)))

-- climbing ends where the next block up has more than one feature in the new picture
pub climbed : (p p' : Picture) {m k r c κ x : ℕ} (w : Way m 0 0 0 k r c κ) → Outside p p' k r c → one_feature p' k r c ≡ true → InKeys k κ x → Climbed p p' m k r c κ x (steps w)
climbed p p' {m} {x = x} there h one i = rw (steps_there m 0 0 0) (climbed_there p p' m x one)
climbed p p' (up q w) h one i =
    rw (steps_up q w)
    (climbed_level p p' q w h one i (λ e. climbed p p' w (outside_up (quadrant_under q) h) e (keys_up (quadrant_under q) i)))
