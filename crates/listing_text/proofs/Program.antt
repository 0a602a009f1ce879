-- The listing program's cases over plain lists: what is printed where the program refuses, where build refuses, and where build accepts.
-- Rests on Listed, Lengths and Records.
use Prim.Native.Nat.{ℕ, ◌-◌, ◌≤◌, ◌<◌, min}
use mathlib.Core.Path.{◌≡◌, refl, sym, ap, ap₂, ◌∙◌, subst}
use mathlib.Core.List.{List}
use native.Mathlib.Omega.{arith}
use native.Mathlib.Nat.{le_of_eq}
use lib.ListN.{length, take, drop, get_or, replicate, length-drop, length-replicate, length-append, length-map}
use lib.Seq.{take_all, length-take-le}
use Rattle.keys.specs.Key.{root_key}
use Rattle.definitions.specs.Picture.{picture_of_raster}
use Rattle.definitions.specs.List.{Record, list_of_raster, keys_of, values_of}
use Rattle.definitions.specs.Read.{room, records_of}
use Rattle.definitions.specs.Buffer.{over}
use Rattle.definitions.specs.Refusal.{accepted}
use Rattle.definitions.specs.Calls.Build.{build_refusal, build, build_keys, build_bits}
use Rattle.definitions.specs.declared.Counted.{Counted}
use Rattle.laws.proofs.First.{accepted_done, accepted_left}
use Rattle.laws.proofs.ListOf.{list_ascends}
use Rattle.laws.proofs.Records.{records_over}
use Rattle.definitions.specs.Listing.{largest_resolution, record_room, m_of, s_of, raster_of, build_refuses, listing_refusal, listing, refusal_line, listed, listed_keys, listed_bits}
use Rattle.listing_text.specs.Put.{Put, BytesFit, Records}
use Rattle.listing_text.specs.Lent.{longest_listing, Lent, Printed}
use Rattle.listing_text.proofs.Going.{put_over, put-length}
use Rattle.listing_text.proofs.Records.{record_written_key}
use Rattle.listing_text.proofs.Lengths.{listing-length, refusal-length}
use Rattle.listing_text.proofs.Listed.{refused_build, prints_refusal, keys_stay, bits_stay, prints_listing, build_room, build_digit, build_accepted}

-- the part of the input that is lent to build is the raster
pub raster_part : (input : List ℕ) → take (length input - 2) (drop 2 input) ≡ raster_of input
raster_part input = take_all (length input - 2) (drop 2 input) (let e = length-drop 2 input in omega arith)

-- the program's own arrays have the room that is asked
pub own_room : Lent (replicate 1365 0) (replicate 1365 0) (replicate longest_listing 0)
own_room =
    record {
      keys_room = length-replicate {A = ℕ} 1365 0;
      bits_room = length-replicate {A = ℕ} 1365 0;
      out_room = le_of_eq (sym (length-replicate {A = ℕ} longest_listing 0));
    }

-- a refusal has room
pub refusal_room : {keys bits out : List ℕ} → Lent keys bits out → (k : ℕ) → k < 10 → BytesFit (refusal_line k) 0 out
refusal_room lent k h = let l = refusal-length k h in record { fits = omega (arith, lent.out_room) }

-- bytes that stand from the first place on are printed
printed : {input bytes keys bits out keys' bits' out' : List ℕ} {r : ℕ} → Put bytes 0 out out' r → BytesFit bytes 0 out → listed input ≡ bytes
    → keys' ≡ listed_keys input keys → bits' ≡ listed_bits input bits → Printed input keys bits out keys' bits' out' r
printed {bytes = bytes} {out = out} {out' = out'} {r} put room e k b =
    record {
      bytes = put_over bytes out out' r room put ∙ ap (λ (l : List ℕ). over l out) (sym e);
      count = put-length bytes put ∙ ap length (sym e);
      keys_after = k;
      bits_after = b;
    }

-- the program refuses by itself
pub refuses : {input keys bits out out' : List ℕ} {r : ℕ} → Lent keys bits out → listing_refusal input ≡ 1 → Put (refusal_line 1) 0 out out' r
    → Printed input keys bits out keys bits out' r
refuses {input} {keys} {bits} {out} lent e put =
    let not-zero : ◌≡◌ {A = ℕ} 1 0 → ⊥ = λ z. omega arith in
    printed {input = input} put (refusal_room lent 1 (omega arith))
    (prints_refusal input 1 e not-zero)
    (keys_stay input 1 e not-zero keys)
    (bits_stay input 1 e not-zero bits)

-- the input as the program reads it
pub record ProgramReads (input : List ℕ) (m s : ℕ) (raster : List ℕ) : Type 0 where
  pub two : 2 ≤ length input
  pub m_is : m ≡ m_of input
  pub s_is : s ≡ s_of input
  pub raster_is : raster ≡ raster_of input
  pub small : m ≤ largest_resolution

-- what build told
pub record ProgramTold (m s : ℕ) (raster keys bits keys' bits' : List ℕ) (refusal count : ℕ) : Type 0 where
  pub refusal_is : refusal ≡ build_refusal m s raster keys bits
  pub count-is : count ≡ accepted (build_refusal m s raster keys bits) (length (list_of_raster m raster)) 0
  pub keys_are : keys' ≡ accepted (build_refusal m s raster keys bits) (over (keys_of (list_of_raster m raster)) keys) keys
  pub bits_are : bits' ≡ accepted (build_refusal m s raster keys bits) (over (values_of (list_of_raster m raster)) bits) bits

pub program_told : {m s : ℕ} {raster keys bits keys' bits' : List ℕ} {r : Counted}
    → r ≡ build m s raster keys bits → keys' ≡ build_keys m s raster keys bits → bits' ≡ build_bits m s raster keys bits
    → ProgramTold m s raster keys bits keys' bits' r.refusal r.count
unfolding build build_keys build_bits
program_told e k b = record { refusal_is = ap (λ x. x.refusal) e; count-is = ap (λ x. x.count) e; keys_are = k; bits_are = b }

module _ {input keys bits out : List ℕ} (lent : Lent keys bits out) {m s : ℕ} {raster : List ℕ} (reads : ProgramReads input m s raster) where
  -- what holds of the numbers in the input holds of those that were read
  as_read {ℓ} : {A : Type ℓ} (f : ℕ → ℕ → List ℕ → A) → f (m_of input) (s_of input) (raster_of input) ≡ f m s raster
  as_read f =
      ap (λ x. f x (s_of input) (raster_of input)) (sym reads.m_is)
      ∙ ap (λ y. f m y (raster_of input)) (sym reads.s_is)
      ∙ ap (λ z. f m s z) (sym reads.raster_is)

  same_room : room record_room record_room ≡ room keys bits
  same_room =
      ap₂ min (length-replicate {A = ℕ} 1365 0) (length-replicate {A = ℕ} 1365 0) ∙ ap₂ min (sym lent.keys_room) (sym lent.bits_room)

  refusal_as_built : listing_refusal input ≡ build_refusal m s raster keys bits
  unfolding build_refuses
  refusal_as_built =
      refused_build input reads.two (subst (λ (x : ℕ). x ≤ largest_resolution) reads.m_is reads.small)
      ∙ as_read (λ x y z. build_refusal x y z record_room record_room)
      ∙ build_room m s raster record_room record_room keys bits same_room

  module _ {keys' bits' : List ℕ} {refusal count : ℕ} (t : ProgramTold m s raster keys bits keys' bits' refusal count) where
    same_refusal : listing_refusal input ≡ refusal
    same_refusal = refusal_as_built ∙ sym t.refusal_is

    -- build refuses: its number has room
    pub build_refusal_room : BytesFit (refusal_line refusal) 0 out
    build_refusal_room =
        let d = build_digit m s raster keys bits in
        refusal_room lent refusal (omega (arith, t.refusal_is))

    -- and is printed
    pub build-refuses : {out' : List ℕ} {r : ℕ} → (refusal ≡ 0 → ⊥) → Put (refusal_line refusal) 0 out out' r
        → Printed input keys bits out keys' bits' out' r
    build-refuses not-zero put =
        let no' : build_refusal m s raster keys bits ≡ 0 → ⊥ = λ z. not-zero (t.refusal_is ∙ z) in
        printed {input = input} put build_refusal_room
        (prints_refusal input refusal same_refusal not-zero)
        (t.keys_are ∙ accepted_left _ _ no' ∙ keys_stay input refusal same_refusal not-zero keys)
        (t.bits_are ∙ accepted_left _ _ no' ∙ bits_stay input refusal same_refusal not-zero bits)

    module _ (zero_is : refusal ≡ 0) where
      abbrev list : List Record
      list = list_of_raster m raster

      accepts : build_refusal m s raster keys bits ≡ 0
      accepts = sym t.refusal_is ∙ zero_is

      count_list : count ≡ length list
      count_list = t.count-is ∙ accepted_done _ _ accepts

      keys_list : keys' ≡ over (keys_of list) keys
      keys_list = t.keys_are ∙ accepted_done _ _ accepts

      bits_list : bits' ≡ over (values_of list) bits
      bits_list = t.bits_are ∙ accepted_done _ _ accepts

      few : length list ≤ 1365
      few =
          let a = build_accepted m s raster keys bits accepts in
          omega (arith, a.fits, lent.keys_room)

      -- the records that stand in the slices are the list
      same_list : records_of keys' bits' count ≡ list
      same_list =
          ap₂ (λ k b. records_of k b count) keys_list bits_list
          ∙ ap (λ (n : ℕ). records_of (over (keys_of list) keys) (over (values_of list) bits) n) count_list
          ∙ records_over list (length list) keys bits refl

      -- build accepts: the records are there
      pub records : Records m keys' bits' count
      records =
          let kl = ap length keys_list ∙ length-append (keys_of list) (drop (length (keys_of list)) keys) in
          let bl = ap length bits_list ∙ length-append (values_of list) (drop (length (values_of list)) bits) in
          let k = length-map list (λ x. x.key) in
          let b = length-map list (λ x. x.value) in
          let n = count_list in
          record {
            resolution = omega (arith, reads.small);
            keys_hold = omega arith;
            bits_hold = omega arith;
            digits = λ i h.
                let d = record_written_key (list_ascends (picture_of_raster m raster) m 0 0 root_key) keys i (omega arith) in
                let e = ap (λ (l : List ℕ). get_or l i 0) keys_list in
                omega arith;
          }

      -- their listing has room
      pub listing_room : BytesFit (listing m s (records_of keys' bits' count)) 0 out
      listing_room =
          let a = build_accepted m s raster keys bits accepts in
          let l = listing-length m s reads.small a.slots list few in
          let e = ap (λ (x : List Record). length (listing m s x)) same_list in
          record { fits = omega (arith, lent.out_room) }

      -- and is printed
      pub build_accepts : {out' : List ℕ} {r : ℕ} → Put (listing m s (records_of keys' bits' count)) 0 out out' r
          → Printed input keys bits out keys' bits' out' r
      unfolding listed_keys listed_bits
      build_accepts put =
          let none : listing_refusal input ≡ 0 = same_refusal ∙ zero_is in
          printed {input = input} put listing_room
          (prints_listing input none ∙ as_read (λ x y z. listing x y (list_of_raster x z)) ∙ ap (listing m s) (sym same_list))
          (keys_list ∙ sym (accepted_done _ _ none ∙ as_read (λ x y z. over (keys_of (list_of_raster x z)) keys)))
          (bits_list ∙ sym (accepted_done _ _ none ∙ as_read (λ x y z. over (values_of (list_of_raster x z)) bits)))

module _ {input keys bits out keys' bits' out' : List ℕ} {r : ℕ} (p : Printed input keys bits out keys' bits' out' r) where
  -- what is printed lies within the slice
  pub within : r ≤ length out'
  within =
      let l = ap length p.bytes ∙ length-append (listed input) (drop (length (listed input)) out) in
      omega (arith, p.count)

  -- its part is as long as it says
  pub part_length : r ≡ length (take r out')
  part_length = sym (length-take-le r out' within)

-- one result, and one final content of each slice, is possible
pub printed_once : {input keys bits out k b o k' b' o' : List ℕ} {r r' : ℕ} → Printed input keys bits out k b o r
    → Printed input keys bits out k' b' o' r' → (k ≡ k') × (b ≡ b') × (o ≡ o') × (r ≡ r')
printed_once p q =
    (p.keys_after ∙ sym q.keys_after, p.bits_after ∙ sym q.bits_after, p.bytes ∙ sym q.bytes, p.count ∙ sym q.count)
