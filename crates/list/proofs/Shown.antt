-- What the bitstrings show at a place: the block's own bits stand there, one slot is a leaf with its feature, and more slots are a node. A block of
-- an accepted list that has several features is shown at its place. Rests on OneSlot and Lookup.
use Prim.Native.Nat.{ℕ, ◌+◌, ◌<◌}
use mathlib.Core.Path.{◌≡◌, sym, ◌∙◌, ap}
use mathlib.Core.Bool.{true, false, true≢false}
use mathlib.Core.List.{List, ◌∷◌, ◌++◌, append_assoc, map-append}
use native.Mathlib.Omega.{arith}
use lib.ListN.{length, get_or, take, drop, length-drop, length-map, take-append-drop}
use lib.Seq.{get_or-drop, drop_at}
use Rattle.keys.proofs.Cases.{decide}
use Rattle.keys.specs.Under.{MapBlock}
use Rattle.definitions.specs.Picture.{Picture, one_feature}
use Rattle.definitions.specs.Bits.{bits_of, feature_of}
use Rattle.definitions.specs.List.{Record, values_of, list_of, list_of_picture}
use Rattle.definitions.specs.Standing.{place_of, is_listed}
use Rattle.laws.proofs.Features.{one_under}
use Rattle.laws.proofs.FeatureOf.{feature_of_power}
use Rattle.laws.proofs.BitsOf.{bits_one, power_one}
use Rattle.laws.proofs.ListOf.{list_head_first, list_one}
use Rattle.list.specs.Check.{one_slot}
use Rattle.list.specs.Own.{OwnList, shown_by}
use Rattle.list.specs.Among.{place_among}
use Rattle.list.specs.Shown.{ShownAt}
use Rattle.list.proofs.OneSlot.{one_slot_power, power_slot}
use Rattle.list.proofs.Among.{place-among}
use Rattle.list.proofs.Lookup.{lookup_listed, lookup_inside}
use Rattle.list.proofs.Own.{own_values}

-- one slot is one feature
pub slot_one : (p : Picture) (k r c : ℕ) → one_slot (bits_of p k r c) ≡ true → one_feature p k r c ≡ true
slot_one p k r c e = power_one p _ k r c (one_slot_power (bits_of p k r c) e)

pub one-slot : (p : Picture) (k r c : ℕ) → one_feature p k r c ≡ true → one_slot (bits_of p k r c) ≡ true
one-slot p k r c e = ap one_slot (bits_one p k r c e) ∙ power_slot (p r c)

pub slot_several : (p : Picture) (k r c : ℕ) → one_slot (bits_of p k r c) ≡ false → one_feature p k r c ≡ false
slot_several p k r c e = decide (one_feature p k r c) (λ h. absurd (true≢false (sym (one-slot p k r c h) ∙ e))) (λ h. h)

-- and its feature is that of every pixel
pub shown_feature : (p : Picture) (k r c : ℕ) → one_slot (bits_of p k r c) ≡ true → feature_of (bits_of p k r c) ≡ p r c
shown_feature p k r c e = ap feature_of (bits_one p k r c (slot_one p k r c e)) ∙ feature_of_power (p r c)

module _ {p : Picture} {k r c κ : ℕ} {bits : List ℕ} {at : ℕ} (s : ShownAt p k r c κ bits at) where
  -- the first bitstring is the block's own
  first_value : drop at bits ≡ bits_of p k r c ∷ (values_of (list_head_first p k r c κ).0 ++ s.rest)
  first_value = s.values ∙ ap (λ l. values_of l ++ s.rest) (list_head_first p k r c κ).1

  pub shown_value : get_or bits at 0 ≡ bits_of p k r c
  shown_value =
      let e : at + 0 ≡ at = omega arith in
      ap (λ i. get_or bits i 0) (sym e) ∙ sym (get_or-drop at bits 0 0) ∙ ap (λ l. get_or l 0 0) first_value

  pub shown_room : at < length bits
  shown_room = let e = length-drop at bits in let f = ap length first_value in omega arith

  -- one slot there is a leaf, with one record
  module _ (leaf : one_slot (get_or bits at 0) ≡ true) where
    pub leaf_one : one_feature p k r c ≡ true
    leaf_one = slot_one p k r c (ap one_slot (sym shown_value) ∙ leaf)

    pub leaf_feature : feature_of (get_or bits at 0) ≡ p r c
    leaf_feature = ap feature_of shown_value ∙ shown_feature p k r c (ap one_slot (sym shown_value) ∙ leaf)

    pub leaf-length : length (list_of p k r c κ) ≡ 1
    leaf-length = ap length (list_one p k r c κ leaf_one)

  -- what is no leaf has several features
  pub node_several : one_slot (get_or bits at 0) ≡ false → one_feature p k r c ≡ false
  node_several e = slot_several p k r c (ap one_slot (sym shown_value) ∙ e)

-- the values of two lists, one after the other
pub two_values : (a b : List Record) (rest : List ℕ) → values_of (a ++ b) ++ rest ≡ values_of a ++ (values_of b ++ rest)
two_values a b rest = ap (λ l. l ++ rest) (map-append (λ x. x.value) a b) ∙ append_assoc (values_of a) (values_of b) rest

-- a list that stands among others is shown at its place
shown_among : {p : Picture} {k r c κ : ℕ} (before after all : List Record) (rest bits : List ℕ) (at : ℕ)
    → all ≡ before ++ (list_of p k r c κ ++ after)
    → bits ≡ values_of all ++ rest
    → at ≡ length before
    → ShownAt p k r c κ bits at
shown_among {p} {k} {r} {c} {κ} before after all rest bits at splits is place = record {
  rest = values_of after ++ rest;
  values =
      ap (drop at) (is ∙ ap (λ l. values_of l ++ rest) splits ∙ two_values before (list_of p k r c κ ++ after) rest)
      ∙ drop_at (values_of before) _ at (length-map before (λ x. x.value) ∙ sym place)
      ∙ two_values (list_of p k r c κ) after rest;
}

module _ {m : ℕ} {keys bits : List ℕ} {n : ℕ} (o : OwnList m keys bits n) where
  own_bits_are : bits ≡ values_of (list_of_picture m (shown_by m keys bits n)) ++ drop n bits
  own_bits_are = sym (take-append-drop n bits) ∙ ap (λ l. l ++ drop n bits) (sym (own_values o))

  -- the root is shown at the first place
  pub root_shown : ShownAt (shown_by m keys bits n) m 0 0 0 bits 0
  root_shown = record { rest = drop n bits; values = own_bits_are }

  module _ {k r c κ : ℕ} (b : MapBlock m k r c κ) (several : one_feature (shown_by m keys bits n) k r c ≡ false) where
    -- a block of several features is listed, since a leaf around it would have one
    several_listed : is_listed κ (list_of_picture m (shown_by m keys bits n)) ≡ true
    several_listed =
        decide (is_listed κ (list_of_picture m (shown_by m keys bits n)))
        (λ e. e)
        (λ e. let i = lookup_inside (shown_by m keys bits n) b e in
        absurd (true≢false (sym (one_under (shown_by m keys bits n) i.holds i.one) ∙ several)))

    -- so it is shown at its place
    pub block_shown : ShownAt (shown_by m keys bits n) k r c κ bits (place_among κ (take n keys))
    block_shown =
        let a = lookup_listed (shown_by m keys bits n) b several_listed in
        shown_among a.placed.before a.placed.after _ (drop n bits) bits (place_among κ (take n keys)) a.placed.splits own_bits_are
        (sym (place-among keys bits n o.fits κ) ∙ ap (place_of κ) o.own ∙ a.place)
