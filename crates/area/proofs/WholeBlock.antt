-- A block of several features that is counted as a whole: it is a node that the bitstrings show at its place, its count is a number of the summary, or is
-- tallied from its records. Rests on BlockCount, TallyTurn and list's Shown.
use Prim.Native.Nat.{ℕ, ◌+◌, ◌*◌, ◌^◌, ◌<◌}
use mathlib.Core.Path.{◌≡◌, sym, ◌∙◌, ap}
use mathlib.Core.Bool.{true, false, true≢false}
use mathlib.Core.List.{List}
use lib.Bits.{bit_and}
use lib.ListN.{length, get_or, take}
use borrow.Author.Tests.{eqb-true}
use Rattle.keys.specs.Key.{height_of}
use Rattle.keys.specs.Block.{row_of, column_of}
use Rattle.keys.proofs.Cases.{decide}
use Rattle.keys.proofs.Valid.{valid_block}
use Rattle.definitions.specs.Picture.{Picture, one_feature}
use Rattle.definitions.specs.Bits.{has_slot, bits_of, feature_of}
use Rattle.definitions.specs.Area.{pixels_with}
use Rattle.laws.proofs.Slots.{slot_power}
use Rattle.laws.proofs.BitsOf.{bits_one}
use Rattle.laws.proofs.FeatureOf.{feature_of_power}
use Rattle.list.specs.Check.{one_slot}
use Rattle.list.specs.Own.{OwnList, shown_by}
use Rattle.list.specs.Among.{place_among}
use Rattle.list.proofs.OneSlot.{power_slot}
use Rattle.list.proofs.Shown.{leaf_one, block_shown}
use Rattle.summary.specs.Count.{NodeAt}
use Rattle.summary.proofs.CountTurn.{shown_node}
use Rattle.walk.specs.Walk.{BlockSpot}
use Rattle.walk.specs.declared.Spot.{Spot}
use Rattle.area.specs.Number.{summary_number}
use Rattle.area.specs.Tally.{NodeTallied, MixedAt, WholeAsked, WholeCounted}
use Rattle.area.specs.declared.tally.Measure.{Measure}
use Rattle.area.proofs.BlockCount.{key_valid, area_is, keyed_one, summary_has, summary_room}
use Rattle.area.proofs.Looked.{place_yes, place_mixed}
use Rattle.area.proofs.TallyTurn.{shown_tallied}

-- a feature's bit is one slot
pub bit_one : (f bit : ℕ) → bit ≡ 2 ^ f → one_slot bit ≡ true
bit_one f bit e = ap one_slot e ∙ power_slot f

-- a block that has the feature, and not that alone, has several
mixed_several : (p : Picture) (f k r c : ℕ) → has_slot (bits_of p k r c) f ≡ true → (bits_of p k r c ≡ 2 ^ f → ⊥) → one_feature p k r c ≡ false
mixed_several p f k r c has other =
    decide (one_feature p k r c)
    (λ one.
    let is = bits_one p k r c one in
    absurd (other (is ∙ ap (λ x. 2 ^ x) (eqb-true (p r c) f (sym (slot_power (p r c) f) ∙ ap (λ x. has_slot x f) (sym is) ∙ has)))))
    (λ several. several)

-- so the bitstrings show it where its record is
pub mixed_at : {m : ℕ} {keys bits : List ℕ} {n : ℕ} (o : OwnList m keys bits n) {s : Spot} (h : BlockSpot m s) (f bit : ℕ) → bit ≡ 2 ^ f
    → (place : ℕ) → place ≡ place_among s.key (take n keys)
    → (bit_and (get_or bits place 0) bit ≡ 0 → ⊥)
    → (get_or bits place 0 ≡ bit → ⊥)
    → MixedAt m (shown_by m keys bits n) bits s place
mixed_at {m} {keys} {bits} {n} o {s} h f bit is place e some other =
    let has = place_yes o h f bit is place e some in
    let mixed = mixed_several (shown_by m keys bits n) f h.height s.row s.column has (place_mixed o h f bit is place e other) in
    let several = keyed_one h (shown_by m keys bits n) ∙ mixed in
    record { shown = rw e (block_shown o (valid_block m s.key (key_valid h)) several); several = several }

module _ {m : ℕ} {t : Spot} (h : BlockSpot m t) where
  module _ {p : Picture} {bits : List ℕ} {from : ℕ} (x : MixedAt m p bits t from) where
    mixed_slots : one_slot (get_or bits from 0) ≡ false
    mixed_slots = decide (one_slot (get_or bits from 0)) (λ e. absurd (true≢false (sym (leaf_one x.shown e) ∙ x.several))) (λ e. e)

    pub mixed_node : NodeAt bits from (t.side * t.side)
    mixed_node = shown_node x.shown mixed_slots (area_is h)

  module _ {s : ℕ} {bits summary : List ℕ} {from f : ℕ} (low : f < s) where
    -- at the summary's level
    module _ (level : t.side * 4 ≡ 2 ^ m) (b : ℕ) (e : b ≡ summary_number t) where
      pub place_room : WholeAsked m s bits summary t from → b * s + f < length summary
      place_room x = summary_room h x.picture x.summary_is level b e low

      pub place_counted : WholeCounted m s bits summary t from f (get_or summary (b * s + f) 0)
      place_counted = record { holds = λ p mixed is. summary_has h p is level b e low }

  -- and below it
  pub tally_counted : {s : ℕ} {bits summary : List ℕ} {from : ℕ} (f bit : ℕ) → bit ≡ 2 ^ f → (y : Measure) → NodeTallied bits from (t.side * t.side) (feature_of bit) y
      → WholeCounted m s bits summary t from f y.pixels
  tally_counted f bit is y x =
      record {
        holds = λ p mixed e.
            (shown_tallied x mixed.shown mixed.several (area_is h)).counted
            ∙ ap (pixels_with p (height_of m t.key) (row_of m t.key) (column_of m t.key)) (ap feature_of is ∙ feature_of_power f);
      }
