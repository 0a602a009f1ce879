-- The loop that writes leaves of one level: what is still to be written from here gives the same as all of it at the start. Rests on Plant.
use Prim.Native.Nat.{ℕ, suc, ◌+◌, ◌-◌, ◌*◌, ◌^◌, ◌≤◌, ◌<◌}
use mathlib.Core.Path.{◌≡◌, refl, sym, ap, ◌∙◌}
use mathlib.Core.List.{List}
use native.Mathlib.Omega.{arith}
use native.Mathlib.Nat.{mul-le-mul}
use lib.ListN.{length, set, length-set}
use lib.Seq.{sets}
use Rattle.definitions.specs.List.{keys_of, values_of}
use Rattle.replace.specs.Plant.{leaves}
use Rattle.replace.specs.Planting.{WroteFrom}
use Rattle.replace.proofs.Field.{leaves-length}

-- the loop has written so many, and comes to a digit and a place
pub record Planting (keys₀ bits₀ : List ℕ) (at parent step first count g : ℕ) (keys bits : List ℕ) (done : ℕ) : Type 0 where
  pub high : done ≤ count
  pub keys_size : length keys ≡ length keys₀
  pub bits_size : length bits ≡ length bits₀
  pub in_keys : (h : ℕ) → step ≡ 5 ^ h → sets keys (at + done) (keys_of (leaves g parent h (count - done) (first + done))) ≡ sets keys₀ at (keys_of (leaves g parent h count first))
  pub in-bits : (h : ℕ) → step ≡ 5 ^ h → sets bits (at + done) (values_of (leaves g parent h (count - done) (first + done))) ≡ sets bits₀ at (values_of (leaves g parent h count first))

pub plants_begin : (keys bits : List ℕ) (at parent step first count g : ℕ) → Planting keys bits at parent step first count g keys bits 0
plants_begin keys bits at parent step first count g =
    let all : count - 0 ≡ count = omega arith in
    let same : first + 0 ≡ first = omega arith in
    let here : at + 0 ≡ at = omega arith in
    record {
      high = omega arith;
      keys_size = refl;
      bits_size = refl;
      in_keys = λ h e. rw (all, same, here) refl;
      in-bits = λ h e. rw (all, same, here) refl;
    }

module _ {keys₀ bits₀ : List ℕ} {at parent step first count g : ℕ} {keys bits : List ℕ} {done : ℕ}
    (p : Planting keys₀ bits₀ at parent step first count g keys bits done) where
  abbrev place : ℕ
  place = at + done

  abbrev digit : ℕ
  digit = first + done

  pub plants_turn : done < count → Planting keys₀ bits₀ at parent step first count g (set keys place (parent + digit * step)) (set bits place g) (done + 1)
  unfolding leaves
  plants_turn h =
      let one : count - done ≡ suc (count - (done + 1)) = omega arith in
      let beside : at + (done + 1) ≡ suc place = omega arith in
      let next : first + (done + 1) ≡ suc digit = omega arith in
      record {
        high = omega arith;
        keys_size = length-set keys place _ ∙ p.keys_size;
        bits_size = length-set bits place _ ∙ p.bits_size;
        in_keys = λ k e.
            ap (λ (i : ℕ). sets (set keys place (parent + digit * step)) i (keys_of (leaves g parent k (count - (done + 1)) (first + (done + 1))))) beside
            ∙ ap (λ (d : ℕ). sets (set keys place (parent + digit * step)) (suc place) (keys_of (leaves g parent k (count - (done + 1)) d))) next
            ∙ ap (λ (x : ℕ). sets (set keys place (parent + digit * x)) (suc place) (keys_of (leaves g parent k (count - (done + 1)) (suc digit)))) e
            ∙ ap (λ (n : ℕ). sets keys place (keys_of (leaves g parent k n digit))) (sym one)
            ∙ p.in_keys k e;
        in-bits = λ k e.
            ap (λ (i : ℕ). sets (set bits place g) i (values_of (leaves g parent k (count - (done + 1)) (first + (done + 1))))) beside
            ∙ ap (λ (d : ℕ). sets (set bits place g) (suc place) (values_of (leaves g parent k (count - (done + 1)) d))) next
            ∙ ap (λ (n : ℕ). sets bits place (values_of (leaves g parent k n digit))) (sym one)
            ∙ p.in-bits k e;
      }

  pub plants_end : count ≤ done → (h : ℕ) → step ≡ 5 ^ h → WroteFrom (leaves g parent h count first) at keys₀ bits₀ keys bits (at + count)
  unfolding leaves
  plants_end over h e =
      let none : count - done ≡ 0 = omega arith in
      record {
        end = omega (arith, leaves-length g parent h count first);
        in_keys = ap (λ (n : ℕ). sets keys place (keys_of (leaves g parent h n digit))) (sym none) ∙ p.in_keys h e;
        in-bits = ap (λ (n : ℕ). sets bits place (values_of (leaves g parent h n digit))) (sym none) ∙ p.in-bits h e;
      }

-- the key of a leaf is a small number
pub leaf_key_small : {digit step : ℕ} → digit ≤ 4 → step ≤ 5 ^ 9 → digit * step ≤ 4 * 5 ^ 9
leaf_key_small d s = mul-le-mul d s
