-- A byte made bit by bit, and a slice filled byte by byte or number by number. Rests on Packing.
use Prim.Native.Nat.{ℕ, zero, suc, ◌+◌, ◌-◌, ◌*◌, ◌^◌, ◌≤◌, ◌<◌}
use mathlib.Core.Path.{◌≡◌, refl, sym, ap, ap₂, ◌∙◌}
use mathlib.Core.Bool.{Bool, true, false, cond}
use mathlib.Core.List.{List, [], ◌∷◌, ◌++◌}
use native.Mathlib.Nat.{zero-add, add-zero, pow-suc, zero-mul, one-mul, add-mul, mul_assoc, mul_comm}
use native.Mathlib.Numerals.{add-one}
use native.Mathlib.Omega.{arith}
use lib.ListN.{length, get_or, drop, set, length-set, length-drop}
use lib.Seq.{get_or-drop, drop-drop, paste, paste-suc, take-length}
use Rattle.definitions.specs.Buffer.{over}
use Rattle.definitions.specs.BitStrings.{high_first, packed_in}
use Rattle.bit_strings.specs.Strings.{string_of, Picked, ByteFilled}
use Rattle.bit_strings.specs.declared.pack.Bit.{Bit}
use Rattle.bit_strings.specs.declared.pack.Byte.{Byte}
use Rattle.bit_strings.proofs.Packing.{string_from}

-- the first bit is worth most
pub high_suc : (k : ℕ) (l : List Bool) → high_first (suc k) l ≡ cond (get_or l 0 false) 1 0 * 2 ^ k + high_first k (drop 1 l)
unfolding high_first
high_suc k [] = let e = zero-mul (2 ^ k) in let f = high_nil k in omega arith
  where
    high_nil : (k : ℕ) → high_first k [] ≡ 0
    high_nil zero = refl
    high_nil (suc k) = refl
high_suc k (true ∷ l) = let e = one-mul (2 ^ k) in omega arith
high_suc k (false ∷ l) = let e = zero-mul (2 ^ k) in omega arith

high_none : (l : List Bool) → high_first 0 l ≡ 0
unfolding high_first
high_none l = refl

-- the bits so far, and those to come, make the whole byte
pub record Making (leaves : Bool) (values : List ℕ) (at byte place count : ℕ) : Type 0 where
  pub most : count ≤ 8
  pub inside : place ≤ length values
  pub small : byte < 2 ^ count
  pub makes : byte * 2 ^ (8 - count) + high_first (8 - count) (string_from leaves values place) ≡ high_first 8 (string_from leaves values at)
  pub rest : string_from leaves values place ≡ drop count (string_from leaves values at)

bit_one : (b : Bool) → cond b 1 0 ≤ 1
bit_one true = omega arith
bit_one false = omega arith

module _ (leaves : Bool) (values : List ℕ) (at byte place count : ℕ) (m : Making leaves values at byte place count) where
  module _ (more : count < 8) (b : Bit) (p : Picked leaves values place b) where
    pub digit : cond b.bit 1 0 ≤ 1
    digit = bit_one b.bit

    pub fits : byte * 2 + cond b.bit 1 0 < 2 ^ (count + 1)
    fits =
        let e = pow-suc 2 count in
        let f = ap (λ k. 2 ^ k) (add-one count) in
        let h = m.small in
        let d = digit in
        omega arith

    pub making_turn : Making leaves values at (byte * 2 + cond b.bit 1 0) b.after (count + 1)
    making_turn =
        let k = 8 - (count + 1) in
        let one : suc k ≡ 8 - count = omega arith in
        let s = string_from leaves values place in
        let double : byte * 2 ^ suc k ≡ byte * 2 * 2 ^ k = ap (λ x. byte * x) (pow-suc 2 k ∙ mul_comm (2 ^ k) 2) ∙ sym (mul_assoc byte 2 (2 ^ k)) in
        let sum : (byte * 2 + cond b.bit 1 0) * 2 ^ k ≡ byte * 2 * 2 ^ k + cond b.bit 1 0 * 2 ^ k = add-mul (byte * 2) (cond b.bit 1 0) (2 ^ k) in
        let split : high_first (suc k) s ≡ cond b.bit 1 0 * 2 ^ k + high_first k (string_from leaves values b.after) =
        high_suc k s ∙ ap₂ (λ d r. cond d 1 0 * 2 ^ k + high_first k r) (sym p.bit_is) (sym p.rest) in
        let before : byte * 2 ^ suc k + high_first (suc k) s ≡ high_first 8 (string_from leaves values at) =
        ap (λ j. byte * 2 ^ j + high_first j s) one ∙ m.makes in
        record {
          most = omega arith;
          inside = p.inside;
          small = fits;
          makes = omega arith;
          rest = p.rest ∙ ap (drop 1) m.rest ∙ drop-drop 1 count (string_from leaves values at);
        }

  module _ (done : 8 ≤ count) where
    eight : count ≡ 8
    eight = let h = m.most in omega arith

    pub making_end : ByteFilled leaves values at (record { byte = byte; after = place })
    making_end =
        let none : 8 - count ≡ 0 = omega arith in
        let e = ap (λ k. byte * 2 ^ k + high_first k (string_from leaves values place)) none in
        let z = high_none (string_from leaves values place) in
        let w = m.makes in
        record {
          inside = m.inside;
          byte_is = omega arith;
          rest = m.rest ∙ ap (λ k. drop k (string_from leaves values at)) eight;
        }

-- ---- a slice filled from its first place on

pub one_more : (old new now' : List ℕ) (i x : ℕ) → i < length old → i < length new → now' ≡ paste old 0 new i → x ≡ get_or new i 0
    → set now' i x ≡ paste old 0 new (i + 1)
one_more old new now' i x h j e f =
    ap₂ (λ l y. set l i y) e f
    ∙ ap (λ k. set (paste old 0 new i) k (get_or new i 0)) (sym (zero-add i))
    ∙ paste-suc old 0 new i 0 (omega arith) j
    ∙ ap (λ k. paste old 0 new k) (sym (add-one i))

pub paste_all : (old new : List ℕ) (n : ℕ) → n ≡ length new → paste old 0 new n ≡ over new old
paste_all old new n e =
    ap (λ k. paste old 0 new k) e
    ∙ ap₂ (λ front k. front ++ drop k old) (take-length new) (zero-add (length new))

-- where a list goes on from a place
module _ {A : Type 0} (l : List A) (k : ℕ) (x d : A) (r : List A) (is : drop k l ≡ x ∷ r) where
  pub there : get_or l k d ≡ x
  there = ap (λ j. get_or l j d) (sym (add-zero k)) ∙ sym (get_or-drop k l 0 d) ∙ ap (λ y. get_or y 0 d) is

  pub then_on : drop (k + 1) l ≡ r
  then_on = sym (drop-drop 1 k l) ∙ ap (drop 1) is

  pub inside : k < length l
  inside = let e = length-drop k l in let f = ap length is in omega arith

-- ---- the string's bytes

pub length-packed : (n : ℕ) (l : List Bool) → length (packed_in n l) ≡ n
unfolding packed_in
length-packed zero l = refl
length-packed (suc n) l = ap suc (length-packed n (drop 8 l))

packed_suc : (n : ℕ) (l : List Bool) → packed_in (suc n) l ≡ high_first 8 l ∷ packed_in n (drop 8 l)
unfolding packed_in
packed_suc n l = refl

-- k bytes of the string are written
pub record WrittenBytes (leaves : Bool) (values : List ℕ) (count : ℕ) (out₀ out : List ℕ) (place k : ℕ) : Type 0 where
  pub most : k ≤ count
  pub within : place ≤ length values
  pub same : length out ≡ length out₀
  pub rest : packed_in (count - k) (string_from leaves values place) ≡ drop k (packed_in count (string_of leaves values))
  pub filled : out ≡ paste out₀ 0 (packed_in count (string_of leaves values)) k

module _ {leaves : Bool} {values : List ℕ} {count : ℕ} {out₀ out : List ℕ} {place k : ℕ} (w : WrittenBytes leaves values count out₀ out place k) where
  pub written_turn : (b : Byte) → k < count → count ≤ length out₀ → ByteFilled leaves values place b → WrittenBytes leaves values count out₀ (set out k b.byte) b.after (k + 1)
  written_turn b more room f =
      let all = packed_in count (string_of leaves values) in
      let one : count - k ≡ suc (count - (k + 1)) = omega arith in
      let next : drop k all ≡ b.byte ∷ packed_in (count - (k + 1)) (string_from leaves values b.after) =
      sym w.rest
      ∙ ap (λ j. packed_in j (string_from leaves values place)) one
      ∙ packed_suc (count - (k + 1)) (string_from leaves values place)
      ∙ ap₂ (λ x l. x ∷ packed_in (count - (k + 1)) l) (sym f.byte_is) (sym f.rest) in
      record {
        most = omega arith;
        within = f.inside;
        same = length-set out k b.byte ∙ w.same;
        rest = sym (then_on all k b.byte 0 _ next);
        filled = one_more out₀ all out k b.byte (omega arith) (inside all k b.byte 0 _ next) w.filled (sym (there all k b.byte 0 _ next));
      }

  pub written_end : count ≤ k → out ≡ over (packed_in count (string_of leaves values)) out₀
  written_end h =
      let n = length-packed count (string_of leaves values) in
      let m = w.most in
      w.filled ∙ paste_all out₀ (packed_in count (string_of leaves values)) k (omega arith)
