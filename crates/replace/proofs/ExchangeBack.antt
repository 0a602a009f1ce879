-- The loop that writes the records after a content: those of so many levels are written. Rests on ExchangeFront.
use Prim.Native.Nat.{ℕ, zero, suc, ◌+◌, ◌-◌, ◌*◌, ◌/◌, ◌^◌, ◌≤◌, ◌<◌}
use mathlib.Core.Path.{◌≡◌, refl, sym, ◌∙◌, ap, subst}
use mathlib.Core.List.{List, ◌++◌}
use native.Mathlib.Nat.{pow-suc}
use native.Mathlib.Numerals.{add-one}
use native.Mathlib.Omega.{arith}
use lib.ListN.{length, length-append}
use lib.Seq.{sets}
use Rattle.keys.proofs.Cases.{split}
use Rattle.definitions.specs.List.{Record, keys_of, values_of}
use Rattle.replace.specs.Plant.{digit_at, leaves, back_at, back}
use Rattle.replace.specs.Planting.{WroteFrom, Roomy, Deep}
use Rattle.replace.proofs.Field.{back_suc}
use Rattle.replace.proofs.ExchangeLevel.{back_at-length, back_at_parent, write_two, wrote-keys, wrote_bits}
use Rattle.replace.proofs.ExchangeFront.{TurnLevel, deep_level_of}

-- so many levels are written
pub record Backing (keys₀ bits₀ : List ℕ) (at key low levels g : ℕ) (keys bits : List ℕ) (done step place : ℕ) : Type 0 where
  pub within : done ≤ levels
  pub power : step ≡ 5 ^ (low + done)
  pub wrote : WroteFrom (back key g low done) at keys₀ bits₀ keys bits place

-- at the start none is
pub back_begins : (keys bits : List ℕ) (at key low levels g step : ℕ) → step ≡ 5 ^ low → Backing keys bits at key low levels g keys bits 0 step at
unfolding back
back_begins keys bits at key low levels g step e =
    record {
      within = omega arith;
      power = e ∙ ap (λ k. 5 ^ k) (omega arith);
      wrote = record { end = omega arith; in_keys = refl; in-bits = refl };
    }

-- the records of the levels that are written stand before those of the others
back_shorter : (x g k n levels : ℕ) → n ≤ levels → length (back x g k n) ≤ length (back x g k levels)
back_shorter x g k n zero h = let e : n ≡ 0 = omega arith in let f = ap (λ i. length (back x g k i)) e in omega arith
back_shorter x g k n (suc levels) h =
    let more = ap length (back_suc x g k levels) ∙ length-append (back x g k levels) (back_at x g (k + levels)) in
    split n (suc levels)
    (λ below. let i = back_shorter x g k n levels (omega arith) in omega arith)
    (λ over. let e : n ≡ suc levels = omega arith in let f = ap (λ i. length (back x g k i)) e in omega arith)

module _ {keys₀ bits₀ : List ℕ} {at key low levels g : ℕ} {keys bits : List ℕ} {done step place : ℕ}
    (p : Backing keys₀ bits₀ at key low levels g keys bits done step place) where
  -- slices keep their lengths: that of the keys
  pub back_keys_size : length keys ≡ length keys₀
  back_keys_size = wrote-keys p.wrote

  -- and that of the bits
  pub back_bits_size : length bits ≡ length bits₀
  back_bits_size = wrote_bits p.wrote

  back_split : back key g low (done + 1) ≡ back key g low done ++ back_at key g (low + done)
  back_split = ap (back key g low) (add-one done) ∙ back_suc key g low done

  -- a turn's numbers
  pub back_level : done < levels → Deep key low levels → Roomy (back key g low levels) at keys₀ bits₀
      → TurnLevel key (low + done) (step * 5) step place keys bits (4 - digit_at (low + done) key)
  back_level more d r =
      let e = ap length back_split ∙ length-append (back key g low done) (back_at key g (low + done)) in
      let size = back_at-length key g (low + done) in
      let short = back_shorter key g low (done + 1) levels (omega arith) in
      let end = p.wrote.end in
      let k = back_keys_size in
      let b = back_bits_size in
      let rk = r.in_keys in
      let rb = r.in-bits in
      deep_level_of (step * 5) step place keys bits (4 - digit_at (low + done) key) (low + done) d (omega arith) (omega arith)
      p.power refl (omega arith) (omega arith)

  -- a turn: one level more is written
  pub back_turns : (h : done < levels) (digit r : ℕ) (keys' bits' : List ℕ)
      → TurnLevel key (low + done) (step * 5) step place keys bits (4 - digit_at (low + done) key)
      → digit ≡ digit_at (low + done) key
      → WroteFrom (leaves g (key / (step * 5) * (step * 5)) (low + done) (4 - digit) (digit + 1)) place keys bits keys' bits' r
      → Backing keys₀ bits₀ at key low levels g keys' bits' (done + 1) (step * 5) r
  back_turns more digit r keys' bits' l is w =
      let parent : ℕ = key / (step * 5) * (step * 5) in
      let those : List Record = leaves g parent (low + done) (4 - digit) (digit + 1) in
      let all : back key g low done ++ those ≡ back key g low (done + 1) =
      ap (λ s. back key g low done ++ s) (back_at_parent key g (low + done) parent digit l.parent is) ∙ sym back_split in
      let sum = sym (length-append (back key g low done) those) ∙ ap length all in
      let end = p.wrote.end in
      let last = w.end in
      record {
        within = omega arith;
        power = ap (λ s. s * 5) p.power ∙ sym (pow-suc 5 (low + done)) ∙ ap (λ k. 5 ^ k) (omega arith);
        wrote = record {
          end = omega arith;
          in_keys =
              w.in_keys
              ∙ ap (λ k. sets k place (keys_of those)) p.wrote.in_keys
              ∙ write_two (λ x. x.key) keys₀ at place (back key g low done) those p.wrote.end
              ∙ ap (λ s. sets keys₀ at (keys_of s)) all;
          in-bits =
              w.in-bits
              ∙ ap (λ k. sets k place (values_of those)) p.wrote.in-bits
              ∙ write_two (λ x. x.value) bits₀ at place (back key g low done) those p.wrote.end
              ∙ ap (λ s. sets bits₀ at (values_of s)) all;
        };
      }

  -- all levels are
  pub back_ends : levels ≤ done → WroteFrom (back key g low levels) at keys₀ bits₀ keys bits place
  back_ends h =
      let within = p.within in
      let e : done ≡ levels = omega arith in
      subst (λ n. WroteFrom (back key g low n) at keys₀ bits₀ keys bits place) e p.wrote
