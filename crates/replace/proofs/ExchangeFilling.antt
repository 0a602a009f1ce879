-- What is written of a content: the filling of a block by its two slices, and all that is put in, with its length. Rests on ExchangeLevel.
use Prim.Native.Nat.{ℕ, zero, suc, ◌+◌, ◌*◌, ◌/◌, ◌^◌, ◌≤◌, ◌<◌}
use mathlib.Core.Path.{◌≡◌, refl, sym, ◌∙◌, ap, subst}
use mathlib.Core.Bool.{cond}
use mathlib.Core.List.{List, [], ◌∷◌, ◌++◌}
use native.Mathlib.Omega.{arith}
use lib.ListN.{length, get_or, set, take, length-append}
use lib.Seq.{sets}
use lib.Bits.{bit_or}
use borrow.Author.Tests.{eq-eqb, ne_eqb}
use Rattle.keys.proofs.Cases.{equal}
use Rattle.definitions.specs.List.{Record, record_of, keys_of, values_of}
use Rattle.definitions.specs.Read.{room, records_of}
use Rattle.laws.proofs.Records.{records-length, value-at}
use Rattle.list.proofs.Among.{keys_of_records, values_of_records}
use Rattle.replace.specs.Family.{around}
use Rattle.replace.specs.Plant.{digit_at, front_at, back_at, front, back}
use Rattle.replace.specs.Put.{first_bits, filling, inserted, bits_before}
use Rattle.replace.specs.declared.plan.Plan.{Plan}
use Rattle.replace.specs.Planting.{WroteFrom, Deep}
use Rattle.replace.specs.Exchanging.{inserted_for}
use Rattle.replace.proofs.Field.{front_suc, back_suc, level-length}
use Rattle.replace.proofs.FamilyRead.{around_own}
use Rattle.replace.proofs.ExchangeLevel.{write_two}

-- a content of one record makes one record with the filled block's key
pub filling_one : (κ : ℕ) (content : List Record) (top : ℕ) → length content ≡ 1
    → filling κ content top ≡ record_of (around top κ) (first_bits content) ∷ []
unfolding filling
filling_one κ content top e = ap (λ t. cond t (record_of (around top κ) (first_bits content) ∷ []) content) (eq-eqb _ _ e)

-- any other is put in as it is
pub filling_more : (κ : ℕ) (content : List Record) (top : ℕ) → (length content ≡ 1 → ⊥) → filling κ content top ≡ content
unfolding filling
filling_more κ content top e = ap (λ t. cond t (record_of (around top κ) (first_bits content) ∷ []) content) (ne_eqb _ _ e)

-- both have as many records as the content
pub filling-length : (κ : ℕ) (content : List Record) (top : ℕ) → length (filling κ content top) ≡ length content
filling-length κ content top =
    equal (length content) 1 (λ e. ap length (filling_one κ content top e) ∙ sym e) (λ e. ap length (filling_more κ content top e))

module _ (κ top at : ℕ) (keys bits content_keys content_bits : List ℕ) (count : ℕ) (fits : count ≤ room content_keys content_bits) where
  -- the filling of one record is written
  pub filling_wrote_one : (step : ℕ) → count ≡ 1 → step ≡ 5 ^ top
      → WroteFrom (filling κ (records_of content_keys content_bits count) top) at keys bits (set keys at (κ / step * step)) (set bits at (get_or content_bits 0 0)) (at + count)
  filling_wrote_one step one power =
      let size = records-length content_keys content_bits count (omega arith) (omega arith) in
      let is = filling_one κ (records_of content_keys content_bits count) top (omega arith) in
      let length-is = filling-length κ (records_of content_keys content_bits count) top in
      record {
        end = omega arith;
        in_keys = ap (λ x. set keys at x) (around_own κ step top power) ∙ ap (λ l. sets keys at (keys_of l)) (sym is);
        in-bits = ap (λ x. set bits at x) (sym (value-at content_keys content_bits count (omega arith) (omega arith) 0 (omega arith))) ∙ ap (λ l. sets bits at (values_of l)) (sym is);
      }

  -- and any other
  pub filling_wrote_more : (keys' bits' : List ℕ) → (count ≡ 1 → ⊥) → keys' ≡ sets keys at (take count content_keys) → bits' ≡ sets bits at (take count content_bits)
      → WroteFrom (filling κ (records_of content_keys content_bits count) top) at keys bits keys' bits' (at + count)
  filling_wrote_more keys' bits' more e f =
      let size = records-length content_keys content_bits count (omega arith) (omega arith) in
      let is = filling_more κ (records_of content_keys content_bits count) top (λ one. more (omega arith)) in
      let length-is = filling-length κ (records_of content_keys content_bits count) top in
      record {
        end = omega arith;
        in_keys = e ∙ ap (sets keys at) (sym (ap keys_of is ∙ keys_of_records content_keys content_bits count fits));
        in-bits = f ∙ ap (sets bits at) (sym (ap values_of is ∙ values_of_records content_keys content_bits count fits));
      }

-- records written one after the other
pub wrote_join : {s t : List Record} {at i j : ℕ} {keys bits keys' bits' keys'' bits'' : List ℕ} → WroteFrom s at keys bits keys' bits' i → WroteFrom t i keys' bits' keys'' bits'' j
    → WroteFrom (s ++ t) at keys bits keys'' bits'' j
wrote_join {s} {t} {at} {i} {keys = keys} {bits} v w =
    let e = v.end in
    let f = w.end in
    let g = length-append s t in
    record {
      end = omega arith;
      in_keys = w.in_keys ∙ ap (λ k. sets k i (keys_of t)) v.in_keys ∙ write_two (λ x. x.key) keys at i s t e;
      in-bits = w.in-bits ∙ ap (λ b. sets b i (values_of t)) v.in-bits ∙ write_two (λ x. x.value) bits at i s t e;
    }

-- the records around a content are four a level
places : (x g v k n : ℕ) → ((h : ℕ) → k ≤ h → h < k + n → (1 ≤ digit_at h x) × (digit_at h x ≤ 4)) → length (front x g v k n) + length (back x g k n) ≡ 4 * n
unfolding front back
places x g v k zero d = refl
places x g v k (suc n) d =
    let i = places x g v k n (λ h low high. d h low (omega arith)) in
    let digit = d (k + n) (omega arith) (omega arith) in
    let four = level-length x g v (k + n) digit.0 digit.1 in
    let f = ap length (front_suc x g v k n) ∙ length-append (front_at x g v (k + n)) (front x g v k n) in
    let b = ap length (back_suc x g k n) ∙ length-append (back x g k n) (back_at x g (k + n)) in
    omega arith

-- the same for a key that is deep enough
pub level_places : {x k n : ℕ} (g v : ℕ) → Deep x k n → length (front x g v k n) + length (back x g k n) ≡ 4 * n
level_places {x} {k} {n} g v d = places x g v k n d.digits

-- so all that is put in is the content and four records a level
pub inserted-length : (g κ : ℕ) (content : List Record) (plan : Plan) → Deep κ plan.top plan.levels
    → length (inserted_for g κ content plan) ≡ 4 * plan.levels + length content
unfolding inserted_for
inserted-length g κ content plan d =
    let v : ℕ = bit_or g (first_bits content) in
    let s = length-append (front κ g v plan.top plan.levels) (filling κ content plan.top ++ back κ g plan.top plan.levels) in
    let t = length-append (filling κ content plan.top) (back κ g plan.top plan.levels) in
    let f = filling-length κ content plan.top in
    let p = level_places g v d in
    omega arith

-- it is what the model puts in, where g are the bits at the start
pub inserted-for : (l : List Record) (κ : ℕ) (content : List Record) (plan : Plan) (g : ℕ) → g ≡ bits_before l plan
    → inserted_for g κ content plan ≡ inserted l κ content plan
unfolding inserted inserted_for
inserted-for l κ content plan g e =
    ap (λ b. front κ b (bit_or b (first_bits content)) plan.top plan.levels ++ (filling κ content plan.top ++ back κ b plan.top plan.levels)) e

-- the three runs are all that is put in
pub inserted_wrote : {keys bits keys₁ bits₁ keys₂ bits₂ keys₃ bits₃ : List ℕ} {i j r : ℕ} (g v κ : ℕ) (content : List Record) (plan : Plan) (s : ℕ)
    → v ≡ bit_or g (first_bits content)
    → WroteFrom (front κ g v plan.top plan.levels) plan.start keys bits keys₁ bits₁ i
    → WroteFrom (filling κ content plan.top) i keys₁ bits₁ keys₂ bits₂ j
    → WroteFrom (back κ g plan.top plan.levels) j keys₂ bits₂ keys₃ bits₃ r
    → r ≡ s
    → WroteFrom (inserted_for g κ content plan) plan.start keys bits keys₃ bits₃ s
unfolding inserted_for
inserted_wrote {keys} {bits} {keys₃ = keys₃} {bits₃} {r = r} g v κ content plan s e a b c last =
    subst (λ x. WroteFrom (front κ g x plan.top plan.levels ++ (filling κ content plan.top ++ back κ g plan.top plan.levels)) plan.start keys bits keys₃ bits₃ s) e
    (subst (λ x. WroteFrom (front κ g v plan.top plan.levels ++ (filling κ content plan.top ++ back κ g plan.top plan.levels)) plan.start keys bits keys₃ bits₃ x) last
    (wrote_join a (wrote_join b c)))
