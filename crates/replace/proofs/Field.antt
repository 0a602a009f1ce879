-- A content in a leaf, all levels: from the list of the block that has got the content up to that of the leaf, four records a level. Rests on
-- Plant.
use Prim.Native.Nat.{ℕ, zero, suc, ◌+◌, ◌-◌, ◌*◌, ◌^◌, ◌≤◌}
use mathlib.Core.Path.{◌≡◌, refl, sym, ◌∙◌, ap, ap₂, subst}
use mathlib.Core.Bool.{true, false}
use mathlib.Core.List.{List, [], ◌∷◌, ◌++◌, append_assoc, append-nil}
use native.Mathlib.Omega.{arith}
use lib.Bits.{bit_or, or_self}
use lib.ListN.{length, length-append}
use Rattle.keys.specs.Under.{Under, MapBlock, Quadrant, is_nw, is_ne, is_sw, is_se, Every}
use Rattle.keys.proofs.Under.{quadrant_under, under_trans}
use Rattle.keys.proofs.Pixel.{InKeys}
use Rattle.definitions.specs.Picture.{Picture, one_feature}
use Rattle.definitions.specs.Bits.{bits_of}
use Rattle.definitions.specs.List.{Record, record_of, list_of}
use Rattle.laws.proofs.Within.{first_within, under_within}
use Rattle.laws.proofs.Features.{one_to, one_from_leaf}
use Rattle.laws.proofs.Slots.{or_assoc}
use Rattle.laws.proofs.BitsOf.{bits_one}
use Rattle.laws.proofs.ListOf.{list_one}
use Rattle.replace.specs.Plant.{digit_at, leaves, front_at, back_at, front, back}
use Rattle.replace.proofs.Way.{Way, there, up, under_of, steps, steps_there, steps_up}
use Rattle.replace.proofs.Outside.{Outside, outside_up, agree_sibling}
use Rattle.replace.proofs.Context.{Open, open_up}
use Rattle.replace.proofs.Family.{keys_up}
use Rattle.replace.proofs.Plant.{digit_in, digit_at_block, OthersAre, planted_bits, planted_level}

-- the records before the content, a level more
pub front_suc : (x g v k n : ℕ) → front x g v k (suc n) ≡ front_at x g v (k + n) ++ front x g v k n
unfolding front
front_suc x g v k n = refl

-- the records after it, a level more
pub back_suc : (x g k n : ℕ) → back x g k (suc n) ≡ back x g k n ++ back_at x g (k + n)
unfolding back
back_suc x g k n = refl

-- as many leaves as were asked for
pub leaves-length : (g κ h n d : ℕ) → length (leaves g κ h n d) ≡ n
unfolding leaves
leaves-length g κ h zero d = refl
leaves-length g κ h (suc n) d = ap suc (leaves-length g κ h n (suc d))

-- a level has four records beside the one quadrant's
pub level-length : (x g v h : ℕ) → 1 ≤ digit_at h x → digit_at h x ≤ 4 → length (front_at x g v h) + length (back_at x g h) ≡ 4
unfolding front_at back_at
level-length x g v h least most =
    ap₂ (λ a b. suc a + b) (leaves-length g _ h (digit_at h x - 1) 1) (leaves-length g _ h (4 - digit_at h x) _) ∙ omega arith

-- a quadrant's digit is 1 to 4
pub digit_bounds : {k r c κ r' c' κ' : ℕ} (q : Quadrant k r c κ r' c' κ') → (1 ≤ digit_in q) × (digit_in q ≤ 4)
digit_bounds is_nw = omega arith
digit_bounds is_ne = omega arith
digit_bounds is_sw = omega arith
digit_bounds is_se = omega arith

-- so many levels above height k the list of the block is the content c between the records of the levels
pub record Planted (p : Picture) (x g v k n : ℕ) (content : List Record) (h r c κ : ℕ) : Type 0 where
  pub list : list_of p h r c κ ≡ front x g v k n ++ (content ++ back x g k n)
  pub bits : bit_or g (bits_of p h r c) ≡ v
  pub level : h ≡ k + n
  pub places : length (front x g v k n) + length (back x g k n) ≡ 4 * n

-- no level: the content itself
pub planted_none : (p : Picture) (x g k r c κ : ℕ) → Planted p x g (bit_or g (bits_of p k r c)) k zero (list_of p k r c κ) k r c κ
unfolding front back
planted_none p x g k r c κ = record { list = sym (append-nil _); bits = refl; level = omega arith; places = refl }

-- the number of records: four a level and the content's
pub planted-length : (p : Picture) {x g v k n : ℕ} {content : List Record} {h r c κ : ℕ} → Planted p x g v k n content h r c κ
    → length (list_of p h r c κ) ≡ 4 * n + length content
planted-length p {x} {g} {v} {k} {n} {content} y =
    let e = length-append (front x g v k n) (content ++ back x g k n) in
    let f = length-append content (back x g k n) in
    let i = ap length y.list in
    let j = y.places in
    omega arith

regroup : (a b c d e : List Record) → a ++ (b ++ (c ++ d) ++ e) ≡ a ++ b ++ (c ++ (d ++ e))
regroup a b c d e = simp append_assoc

or_again : (g b : ℕ) → bit_or g (bit_or g b) ≡ bit_or g b
or_again g b = sym (or_assoc g g b) ∙ ap (λ x. bit_or x b) (or_self g)

-- one level more
pub planted_up : (p : Picture) {x g v k n : ℕ} {content : List Record} {m h r c κ r' c' κ' : ℕ}
    → MapBlock m (suc h) r c κ
    → (q : Quadrant h r c κ r' c' κ')
    → InKeys h κ' x
    → OthersAre p g κ' h r c κ
    → one_feature p (suc h) r c ≡ false
    → Planted p x g v k n content h r' c' κ'
    → Planted p x g v k (suc n) content (suc h) r c κ
unfolding front back
planted_up p {x} {g} {v} {k} {n} {content} {h = h} {r} {c} {κ} {r'} {c'} {κ'} b q i others several y =
    let own : bits_of p (suc h) r c ≡ v = planted_bits p g q others ∙ y.bits in
    let l = y.level in
    let digit = digit_at_block b q i in
    let d = digit_bounds q in
    let e = level-length x g v h (omega arith) (omega arith) in
    let f = length-append (front_at x g v (k + n)) (front x g v k n) in
    let t = length-append (back x g k n) (back_at x g (k + n)) in
    let four : length (front_at x g v (k + n)) + length (back_at x g (k + n)) ≡ 4 = subst (λ u. length (front_at x g v u) + length (back_at x g u) ≡ 4) l e in
    let s = y.places in
    record {
      list =
          planted_level p g b q i others several
          ∙ ap₂ (λ u w. front_at x g u h ++ (w ++ back_at x g h)) own y.list
          ∙ ap (λ u. front_at x g v u ++ (front x g v k n ++ (content ++ back x g k n) ++ back_at x g u)) l
          ∙ regroup (front_at x g v (k + n)) (front x g v k n) content (back x g k n) (back_at x g (k + n));
      bits = ap (bit_or g) (planted_bits p g q others) ∙ or_again g (bits_of p h r' c') ∙ y.bits;
      level = omega arith;
      places = omega arith;
    }

-- in a leaf of the old picture, the quadrants beside the changed one are leaves of its feature
pub field_others : (p p' : Picture) {m h r c κ k r₁ c₁ κ₁ r₂ c₂ κ₂ : ℕ}
    → one_feature p h r c ≡ true
    → MapBlock m h r c κ
    → Under h r c κ (suc k) r₁ c₁ κ₁
    → Quadrant k r₁ c₁ κ₁ r₂ c₂ κ₂
    → Outside p p' k r₂ c₂
    → OthersAre p' (2 ^ p r c) κ₂ k r₁ c₁ κ₁
field_others p p' {h = h} {r} {c} {k = k} one b u q out r₃ c₃ κ₃ q' other =
    let agree = agree_sibling (under_trans b u) q q' other out in
    let every : Every (λ a d. p' a d ≡ p r c) k r₃ c₃ =
    λ a d w. sym (agree a d w) ∙ one_to p h r c one a d (under_within (under_trans u (quadrant_under q')) w) in
    let one' = one_from_leaf p' (p r c) k r₃ c₃ every in
    let same = ap (λ f. 2 ^ f) (every r₃ c₃ (first_within k r₃ c₃)) in
    (list_one p' k r₃ c₃ κ₃ one' ∙ ap (λ v. record_of κ₃ v ∷ []) same, bits_one p' k r₃ c₃ one' ∙ same)

-- all levels up to the leaf
pub planted_all : (p p' : Picture) {m H R C Κ x v k n : ℕ} {content : List Record} {h r c κ : ℕ}
    → one_feature p H R C ≡ true
    → MapBlock m H R C Κ
    → (w : Way H R C Κ h r c κ)
    → Outside p p' h r c
    → Open p' w
    → InKeys h κ x
    → Planted p' x (2 ^ p R C) v k n content h r c κ
    → Planted p' x (2 ^ p R C) v k (n + steps w) content H R C Κ
planted_all p p' {H = H} {R} {C} {Κ} {x} {v} {k} {n} {content} one b there out o i y =
    subst (λ u. Planted p' x (2 ^ p R C) v k u content H R C Κ) (sym (ap (λ s. n + s) (steps_there H R C Κ) ∙ omega arith)) y
planted_all p p' {H = H} {R} {C} {Κ} {x} {v} {k} {n} {content} one b (up q w) out o i y =
    subst (λ u. Planted p' x (2 ^ p R C) v k u content H R C Κ) (let e = steps_up q w in omega arith)
    (planted_all p p' one b w (outside_up (quadrant_under q) out) (open_up p' w o) (keys_up (quadrant_under q) i)
    (planted_up p' (under_trans b (under_of w)) q i (field_others p p' one b (under_of w) q out) o y))
