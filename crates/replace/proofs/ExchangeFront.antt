-- The loop that writes the records before a content: what is still to be written from here gives the same as all of it at the start. Rests on
-- ExchangeLevel.
use Prim.Native.Nat.{ℕ, suc, ◌+◌, ◌-◌, ◌*◌, ◌/◌, ◌^◌, ◌≤◌, ◌<◌}
use mathlib.Core.Path.{◌≡◌, refl, sym, ◌∙◌, ap}
use mathlib.Core.List.{List, [], ◌∷◌, ◌++◌}
use native.Mathlib.Nat.{pow-suc, div-mul-le_self}
use native.Mathlib.Omega.{arith}
use lib.ListN.{length, set, length-set, length-append}
use lib.Seq.{sets}
use Rattle.keys.proofs.Powers.{five_pos, five_le}
use Rattle.definitions.specs.List.{Record, record_of, keys_of, values_of}
use Rattle.replace.specs.Family.{around}
use Rattle.replace.specs.Plant.{digit_at, leaves, front_at, front}
use Rattle.replace.specs.Planting.{WroteFrom, Roomy, Deep}
use Rattle.replace.proofs.Field.{front_suc}
use Rattle.replace.proofs.FamilyRead.{around_parent}
use Rattle.replace.proofs.ExchangeLevel.{front_at-length, front_at_parent, write_three, wrote-keys, wrote_bits}

front_none : (x g v k : ℕ) → front x g v k 0 ≡ []
unfolding front
front_none x g v k = refl

-- so many levels are left before the content
pub record Fronting (keys₀ bits₀ : List ℕ) (at key low levels g v : ℕ) (keys bits : List ℕ) (left wide place : ℕ) : Type 0 where
  pub within : left ≤ levels
  pub power : wide ≡ 5 ^ (low + left)
  pub keys_size : length keys ≡ length keys₀
  pub bits_size : length bits ≡ length bits₀
  pub end : place + length (front key g v low left) ≡ at + length (front key g v low levels)
  pub in_keys : sets keys place (keys_of (front key g v low left)) ≡ sets keys₀ at (keys_of (front key g v low levels))
  pub in-bits : sets bits place (values_of (front key g v low left)) ≡ sets bits₀ at (values_of (front key g v low levels))

-- at the start all of them are
pub front_begins : (keys bits : List ℕ) (at key low levels g v wide : ℕ) → wide ≡ 5 ^ (low + levels)
    → Fronting keys bits at key low levels g v keys bits (levels - 0) wide at
front_begins keys bits at key low levels g v wide e =
    let all : levels - 0 ≡ levels = omega arith in
    rw all (record { within = omega arith; power = e; keys_size = refl; bits_size = refl; end = refl; in_keys = refl; in-bits = refl })

-- what a turn's numbers are: the parent of the block of height h, its step and its quadrant
pub record TurnLevel (key h wide step place : ℕ) (keys bits : List ℕ) (size : ℕ) : Type 0 where
  pub power : step ≡ 5 ^ h
  pub wider : wide ≡ step * 5
  pub least : 1 ≤ step
  pub most : step ≤ 5 ^ 9
  pub parent : key / wide * wide ≡ around (suc h) key
  pub parent_below : key / wide * wide < 5 ^ 10
  pub digit_least : 1 ≤ digit_at h key
  pub digit_most : digit_at h key ≤ 4
  pub in_keys : place + size ≤ length keys
  pub in-bits : place + size ≤ length bits

-- they are there at each height that is deep enough
pub deep_level_of : {key low levels : ℕ} (wide step place : ℕ) (keys bits : List ℕ) (size h : ℕ) → Deep key low levels → low ≤ h → h < low + levels
    → step ≡ 5 ^ h → wide ≡ step * 5 → place + size ≤ length keys → place + size ≤ length bits → TurnLevel key h wide step place keys bits size
deep_level_of {key} wide step place keys bits size h d low high e f in_keys in-bits =
    let pos = five_pos h in
    let most = d.most in
    let small = five_le {k = h} 9 (omega arith) in
    let below = div-mul-le_self key wide in
    let least = d.least in
    let digit = d.digits h low high in
    record {
      power = e;
      wider = f;
      least = omega arith;
      most = omega arith;
      parent = ap (λ w. key / w * w) f ∙ around_parent key step h e;
      parent_below = omega arith;
      digit_least = digit.0;
      digit_most = digit.1;
      in_keys = in_keys;
      in-bits = in-bits;
    }

module _ {keys₀ bits₀ : List ℕ} {at key low levels g v : ℕ} {keys bits : List ℕ} {left wide place : ℕ}
    (p : Fronting keys₀ bits₀ at key low levels g v keys bits left wide place) where
  front_height : 0 < left → low + left ≡ suc (low + (left - 1))
  front_height h = omega arith

  -- the next level's records and the others
  front_split : 0 < left → front key g v low left ≡ front_at key g v (low + (left - 1)) ++ front key g v low (left - 1)
  front_split h =
      let one : left ≡ suc (left - 1) = omega arith in
      ap (front key g v low) one ∙ front_suc key g v low (left - 1)

  -- a turn's numbers
  pub front_level : 0 < left → Deep key low levels → Roomy (front key g v low levels) at keys₀ bits₀
      → TurnLevel key (low + (left - 1)) wide (wide / 5) place keys bits (digit_at (low + (left - 1)) key)
  front_level more d r =
      let h : ℕ = low + (left - 1) in
      let product : wide ≡ 5 ^ h * 5 = p.power ∙ ap (λ k. 5 ^ k) (front_height more) ∙ pow-suc 5 h in
      let within = p.within in
      let e = ap length (front_split more) ∙ length-append (front_at key g v h) (front key g v low (left - 1)) in
      let digit = d.digits h (omega arith) (omega arith) in
      let size = front_at-length key g v h digit.0 in
      let end = p.end in
      let k = p.keys_size in
      let b = p.bits_size in
      let rk = r.in_keys in
      let rb = r.in-bits in
      deep_level_of wide (wide / 5) place keys bits (digit_at h key) h d (omega arith) (omega arith)
      (omega arith) (omega arith) (omega arith) (omega arith)

  -- a turn: one level less is left
  pub front_turns : (h : 0 < left) (before r : ℕ) (keys' bits' : List ℕ)
      → TurnLevel key (low + (left - 1)) wide (wide / 5) place keys bits (digit_at (low + (left - 1)) key)
      → before ≡ digit_at (low + (left - 1)) key - 1
      → WroteFrom (leaves g (key / wide * wide) (low + (left - 1)) before 1) (place + 1) (set keys place (key / wide * wide)) (set bits place v) keys' bits' r
      → Fronting keys₀ bits₀ at key low levels g v keys' bits' (left - 1) (wide / 5) r
  front_turns more before r keys' bits' l is w =
      let h : ℕ = low + (left - 1) in
      let parent : ℕ = key / wide * wide in
      let those : List Record = leaves g parent h before 1 in
      let rest : List Record = front key g v low (left - 1) in
      let all : (record_of parent v ∷ those) ++ rest ≡ front key g v low left =
      ap (λ s. s ++ rest) (front_at_parent key g v h parent before l.parent is) ∙ sym (front_split more) in
      let within = p.within in
      let sum = sym (length-append (record_of parent v ∷ those) rest) ∙ ap length all in
      let end = p.end in
      let last = w.end in
      record {
        within = omega arith;
        power = l.power;
        keys_size = wrote-keys w ∙ length-set keys place parent ∙ p.keys_size;
        bits_size = wrote_bits w ∙ length-set bits place v ∙ p.bits_size;
        end = omega arith;
        in_keys =
            ap (λ k. sets k r (keys_of rest)) w.in_keys
            ∙ write_three (λ x. x.key) keys place r (record_of parent v) those rest w.end
            ∙ ap (λ s. sets keys place (keys_of s)) all
            ∙ p.in_keys;
        in-bits =
            ap (λ k. sets k r (values_of rest)) w.in-bits
            ∙ write_three (λ x. x.value) bits place r (record_of parent v) those rest w.end
            ∙ ap (λ s. sets bits place (values_of s)) all
            ∙ p.in-bits;
      }

  -- one more is done
  pub front_done : (done : ℕ) → left ≡ levels - done - 1 → Fronting keys₀ bits₀ at key low levels g v keys bits (levels - (done + 1)) wide place
  front_done done e = let same : levels - (done + 1) ≡ left = omega arith in rw same p

  -- none is left: all are written
  pub front_ends : left ≤ 0 → WroteFrom (front key g v low levels) at keys₀ bits₀ keys bits place
  front_ends h =
      let none : front key g v low left ≡ [] = ap (front key g v low) (omega arith) ∙ front_none key g v low in
      let e = ap length none in
      let end = p.end in
      record {
        end = omega arith;
        in_keys = ap (λ s. sets keys place (keys_of s)) (sym none) ∙ p.in_keys;
        in-bits = ap (λ s. sets bits place (values_of s)) (sym none) ∙ p.in-bits;
      }
