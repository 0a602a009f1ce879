-- One level of the records around a content: its quadrant by the steps of two levels, the number of its records, and its records in a slice.
-- Rests on Field and FamilyRead, and on the laws of slices.
use Prim.Native.Nat.{ℕ, suc, ◌+◌, ◌-◌, ◌*◌, ◌/◌, ◌^◌, ◌≤◌}
use mathlib.Core.Path.{◌≡◌, sym, ◌∙◌, ap, ap₂}
use mathlib.Core.List.{List, ◌∷◌, ◌++◌, map, map-append}
use native.Mathlib.Nat.{div-mul-le_self, le-div_iff_mul-le, mul-le-mul_right, mul_assoc, mul_comm}
use native.Mathlib.Omega.{arith}
use lib.ListN.{length, set, length-map}
use lib.Seq.{sets, length-sets}
use Rattle.definitions.specs.List.{Record, record_of, keys_of, values_of}
use Rattle.slices.proofs.Sets.{sets_cons, sets_join}
use Rattle.replace.specs.Family.{around}
use Rattle.replace.specs.Plant.{digit_at, leaves, front_at, back_at}
use Rattle.replace.specs.Planting.{WroteFrom}
use Rattle.replace.proofs.Field.{leaves-length}
use Rattle.replace.proofs.FamilyRead.{around_own, around_parent}

-- the parent of the block around a key begins at or before it
pub parent_before : (key step : ℕ) → 1 ≤ step → key / (step * 5) * (step * 5) ≤ key / step * step
parent_before key step h =
    let q : ℕ = key / (step * 5) in
    let low : q * (step * 5) ≤ key = div-mul-le_self key (step * 5) in
    let same : q * (step * 5) ≡ q * 5 * step = ap (λ s. q * s) (mul_comm step 5) ∙ sym (mul_assoc q 5 step) in
    let most : q * 5 ≤ key / step = (le-div_iff_mul-le h).1 (omega arith) in
    let more : q * 5 * step ≤ key / step * step = mul-le-mul_right step most in
    omega arith

-- the quadrant by the two steps
pub digit_read : (key step h : ℕ) → step ≡ 5 ^ h → (key / step * step - key / (step * 5) * (step * 5)) / step ≡ digit_at h key
unfolding digit_at
digit_read key step h e =
    ap₂ (λ own parent. (own - parent) / step) (around_own key step h e) (around_parent key step h e) ∙ ap (λ s. (around h key - around (suc h) key) / s) e

-- how many records a level has before the content
pub front_at-length : (x g v h : ℕ) → 1 ≤ digit_at h x → length (front_at x g v h) ≡ digit_at h x
unfolding front_at
front_at-length x g v h least = ap suc (leaves-length g _ h (digit_at h x - 1) 1) ∙ omega arith

-- and after it
pub back_at-length : (x g h : ℕ) → length (back_at x g h) ≡ 4 - digit_at h x
unfolding back_at
back_at-length x g h = leaves-length g _ h (4 - digit_at h x) _

-- a level's records by the numbers that are found for them
pub front_at_parent : (x g v h parent before : ℕ) → parent ≡ around (suc h) x → before ≡ digit_at h x - 1 → record_of parent v ∷ leaves g parent h before 1 ≡ front_at x g v h
unfolding front_at
front_at_parent x g v h parent before e f = ap₂ (λ y n. record_of y v ∷ leaves g y h n 1) e f

-- and those after the content
pub back_at_parent : (x g h parent digit : ℕ) → parent ≡ around (suc h) x → digit ≡ digit_at h x → leaves g parent h (4 - digit) (digit + 1) ≡ back_at x g h
unfolding back_at
back_at_parent x g h parent digit e f =
    ap₂ (λ y d. leaves g y h (4 - d) (d + 1)) e f ∙ ap (leaves g (around (suc h) x) h (4 - digit_at h x)) (omega arith)

-- a record, more records and still more, one after the other in a slice
pub write_three : (f : Record → ℕ) (l : List ℕ) (place r : ℕ) (e : Record) (s t : List Record) → r ≡ place + 1 + length s
    → sets (sets (set l place (f e)) (place + 1) (map f s)) r (map f t) ≡ sets l place (map f ((e ∷ s) ++ t))
write_three f l place r e s t is =
    ap (λ n. sets (sets (set l place (f e)) (place + 1) (map f s)) n (map f t)) (is ∙ ap (λ n. place + 1 + n) (sym (length-map s f)))
    ∙ sets_join (set l place (f e)) (place + 1) (map f s) (map f t)
    ∙ ap (sets (set l place (f e)) (place + 1)) (sym (map-append f s t))
    ∙ sym (sets_cons l place (f e) (map f (s ++ t)))

-- records and more records
pub write_two : (f : Record → ℕ) (l : List ℕ) (place r : ℕ) (s t : List Record) → r ≡ place + length s
    → sets (sets l place (map f s)) r (map f t) ≡ sets l place (map f (s ++ t))
write_two f l place r s t is =
    ap (λ n. sets (sets l place (map f s)) n (map f t)) (is ∙ ap (λ n. place + n) (sym (length-map s f)))
    ∙ sets_join l place (map f s) (map f t)
    ∙ ap (sets l place) (sym (map-append f s t))

-- slices keep their lengths where records are written
module _ {l : List Record} {at : ℕ} {keys bits keys' bits' : List ℕ} {r : ℕ} (w : WroteFrom l at keys bits keys' bits' r) where
  -- that of the keys
  pub wrote-keys : length keys' ≡ length keys
  wrote-keys = ap length w.in_keys ∙ length-sets keys at (keys_of l)

  -- and that of the bits
  pub wrote_bits : length bits' ≡ length bits
  wrote_bits = ap length w.in-bits ∙ length-sets bits at (values_of l)
