-- The loop that renews the bits of the blocks around a changed one: what is left to do from here gives the same as what was to do at the start.
-- Rests on Renew and FamilyRead.
use Prim.Native.Nat.{ℕ, zero, suc, ◌+◌, ◌-◌, ◌*◌, ◌/◌, ◌^◌, ◌≤◌, ◌<◌}
use mathlib.Core.Path.{◌≡◌, refl, sym, ◌∙◌, ap, ap₂}
use mathlib.Core.List.{List, [], ◌∷◌, ◌++◌}
use native.Mathlib.Nat.{pow-suc}
use native.Mathlib.Numerals.{add-one}
use native.Mathlib.Omega.{arith}
use lib.ListN.{length, set, take, drop, length-set, take-append-drop}
use lib.Seq.{take-set-lt, drop-set-lt, length-take-le}
use Rattle.keys.proofs.Powers.{five_pos, five_le}
use Rattle.definitions.specs.List.{Record, record_of, values_of}
use Rattle.definitions.specs.Read.{paired, records_of}
use Rattle.definitions.specs.Buffer.{over}
use Rattle.definitions.specs.Standing.{place_of}
use Rattle.list.specs.Sorted.{Sorted}
use Rattle.list.specs.Among.{place_among}
use Rattle.list.proofs.Among.{values_of_records}
use Rattle.replace.specs.Family.{around, wider_bits}
use Rattle.replace.specs.Renew.{set_bits, renew}
use Rattle.replace.proofs.Renew.{renew_zero, renew_suc}
use Rattle.replace.proofs.FamilyRead.{sorted_from, place_read, place_there, around_parent, wider_parent}

-- bits set in a slice are set in the records
paired-set : (keys bits : List ℕ) (i v : ℕ) → paired keys (set bits i v) ≡ set_bits (paired keys bits) i v
unfolding paired set_bits
paired-set [] bits i v = refl
paired-set (κ ∷ keys) [] i v = refl
paired-set (κ ∷ keys) (x ∷ bits) zero v = refl
paired-set (κ ∷ keys) (x ∷ bits) (suc i) v = ap (λ l. record_of κ x ∷ l) (paired-set keys bits i v)

-- in the first n of them
pub records-set : (keys bits : List ℕ) (n i v : ℕ) → i < n → records_of keys (set bits i v) n ≡ set_bits (records_of keys bits n) i v
records-set keys bits n i v h = ap (paired (take n keys)) (take-set-lt n bits i v h) ∙ paired-set (take n keys) (take n bits) i v

-- the loop has come to a height, with the step and the bits of its block
pub record Renewing (m : ℕ) (keys bits₀ : List ℕ) (n key height b : ℕ) (bits : List ℕ) (low step own : ℕ) : Type 0 where
  pub within : low ≤ m
  pub power : step ≡ 5 ^ low
  pub size : length bits ≡ length bits₀
  pub rest : drop n bits ≡ drop n bits₀
  pub left : renew (records_of keys bits n) key own (m - low) low ≡ renew (records_of keys bits₀ n) key b (m - height) height

-- it begins
pub renew_begins : (m : ℕ) (keys bits : List ℕ) (n key height b step : ℕ) → height ≤ m → step ≡ 5 ^ height → Renewing m keys bits n key height b bits height step b
renew_begins m keys bits n key height b step h e = record { within = h; power = e; size = refl; rest = refl; left = refl }

module _ {m : ℕ} {keys bits₀ : List ℕ} {n key height b : ℕ} {bits : List ℕ} {low step own : ℕ}
    (p : Renewing m keys bits₀ n key height b bits low step own) where
  -- the step is that of a block below the root
  pub renew_step : m ≤ 10 → low < m → (1 ≤ step) × (step ≤ 5 ^ 9)
  renew_step deep h =
      let e = p.power in
      let i = five_pos low in
      let j = five_le {k = low} 9 (omega arith) in
      omega arith

  -- a turn: the parent's bits are found, and set at its place
  pub renew_turns : low < m → Sorted keys n 0 → n ≤ length bits₀ → (own' place : ℕ)
      → own' ≡ wider_bits (records_of keys bits n) key own step
      → place ≡ place_among (key / (step * 5) * (step * 5)) (take n keys)
      → Renewing m keys bits₀ n key height b (set bits place own') (low + 1) (step * 5) own'
  renew_turns more s room own' place found is =
      let l : List Record = records_of keys bits n in
      let size = p.size in
      let fits = s.ascends.room in
      let below : place < n = place_there (sorted_from s (key / (step * 5) * (step * 5))) place is in
      let read : place ≡ place_of (around (suc low) key) l =
      place_read keys bits n (key / (step * 5) * (step * 5)) fits (omega arith) place is ∙ ap (λ x. place_of x l) (around_parent key step low p.power) in
      let levels : m - low ≡ suc (m - (low + 1)) = omega arith in
      record {
        within = omega arith;
        power = ap (λ x. x * 5) p.power ∙ sym (pow-suc 5 low) ∙ ap (λ k. 5 ^ k) (sym (add-one low));
        size = length-set bits place own' ∙ size;
        rest = drop-set-lt n bits place own' below ∙ p.rest;
        left =
            ap₂ (λ r h. renew r key own' (m - (low + 1)) h) (records-set keys bits n place own' below) (add-one low)
            ∙ ap₂ (λ i v. renew (set_bits l i v) key v (m - (low + 1)) (suc low)) read (found ∙ wider_parent key step low p.power l own)
            ∙ sym (renew_suc l key own (m - (low + 1)) low)
            ∙ ap (λ k. renew l key own k low) (sym levels)
            ∙ p.left;
      }

  -- at the root nothing is left
  pub renew_ends : m ≤ low → Sorted keys n 0 → n ≤ length bits₀ → bits ≡ over (values_of (renew (records_of keys bits₀ n) key b (m - height) height)) bits₀
  renew_ends h s room =
      let fits = s.ascends.room in
      let size = p.size in
      let none : m - low ≡ 0 = omega arith in
      let is : renew (records_of keys bits₀ n) key b (m - height) height ≡ records_of keys bits n =
      sym p.left ∙ ap (λ k. renew (records_of keys bits n) key own k low) none ∙ renew_zero (records_of keys bits n) key own low in
      let values : values_of (renew (records_of keys bits₀ n) key b (m - height) height) ≡ take n bits = ap values_of is ∙ values_of_records keys bits n (omega arith) in
      sym (take-append-drop n bits)
      ∙ ap (λ r. take n bits ++ r) p.rest
      ∙ ap (λ k. take n bits ++ drop k bits₀) (sym (length-take-le n bits (omega arith)))
      ∙ ap (λ l. over l bits₀) (sym values)
