-- What is known of a block by its meeting with the step, whatever picture it shows. Rests on Meetings.
use Prim.Native.Nat.{ℕ, ◌+◌, ◌≤◌}
use mathlib.Core.Path.{◌≡◌, refl, sym, ◌∙◌, ap}
use mathlib.Core.Bool.{true, false, true≢false}
use mathlib.Core.List.{List}
use native.Mathlib.Nat.{add-zero}
use native.Mathlib.Omega.{arith}
use lib.ListN.{length, get_or, drop}
use lib.Seq.{get_or-take, get_or-drop}
use Rattle.definitions.specs.Picture.{Picture}
use Rattle.definitions.specs.Bits.{bits_of, feature_of}
use Rattle.definitions.specs.List.{values_of, list_of}
use Rattle.definitions.specs.Read.{room}
use Rattle.laws.proofs.Pixels.{Agree}
use Rattle.laws.proofs.Features.{one_from_leaf}
use Rattle.laws.proofs.ListOf.{list_head_first, list_one}
use Rattle.list.specs.Check.{one_slot}
use Rattle.list.proofs.OneSlot.{one_slot_power}
use Rattle.edit_log.proofs.Places.{run_values, run_length}
use Rattle.build.specs.BuildBlocks.{Tallied}
use Rattle.build.specs.declared.count.Tally.{Tally}
use Rattle.build.proofs.CountBlock.{length-key}
use Rattle.deeds.specs.Step.{Step, step_over, plain}
use Rattle.deeds.specs.Meeting.{block_at, Untouched, ContentGiven, MetBy, Met, is_cut}
use Rattle.deeds.specs.declared.meeting.Meeting.{Meeting}
use Rattle.deeds.specs.declared.meeting.Meeting.TheVariants.{Apart, Leaf, Content, Cut}
use Rattle.deeds.proofs.Pruned.{over_out}
use Rattle.deeds.proofs.Meetings.{tallied_agree, plain_bits, met_content}
use Rattle.apply_deed.specs.Passes.{Readable, known_of}

-- a block that the step does not touch shows what it showed
pub untouched_agree : (t : Step) (p : Picture) (k r c : ℕ) → Untouched t k r c → Agree p (step_over t p) k r c
untouched_agree t p k r c h a b w = sym (over_out t p a b (h a b w))

-- the content that becomes its list: how many records it has, and the bits of the first
module _ {t : Step} {ks vs : List ℕ} {k r c κ start count : ℕ} (x : ContentGiven t ks vs k r c κ start count) (p : Picture) where
  there : start + count ≤ room ks vs
  there = omega (arith, x.in_keys, x.in_values)

  pub content_count : count ≡ length (list_of (step_over t p) k r c κ)
  content_count = sym (run_length ks vs start count there) ∙ ap length (x.is p)

  pub content_first : get_or vs start 0 ≡ bits_of (step_over t p) k r c
  content_first =
      ap (λ i. get_or vs i 0) (sym (add-zero start))
      ∙ sym (get_or-drop start vs 0 0)
      ∙ sym (get_or-take count (drop start vs) 0 0 (omega (arith, x.several)))
      ∙ ap (λ l. get_or l 0 0) (sym (run_values ks vs start count there))
      ∙ ap (λ l. get_or (values_of l) 0 0) (x.is p ∙ (list_head_first (step_over t p) k r c κ).1)

-- by cases
by_cases : (t : Step) (ks vs : List ℕ) (k r c κ : ℕ) (p : Picture) (own records : ℕ) → own ≡ bits_of p k r c → records ≡ length (list_of p k r c κ)
    → (meeting : Meeting) → MetBy t ks vs (block_at k r c κ) meeting → is_cut meeting ≡ false
    → Tallied (step_over t p) k r c (known_of meeting own records vs).bits (known_of meeting own records vs).count
by_cases t ks vs k r c κ p own records own_is records_are Apart x e =
    tallied_agree p (step_over t p) (untouched_agree t p k r c x) (record { bits_are = own_is; count-is = records_are ∙ length-key p k r c κ 0 })
by_cases t ks vs k r c κ p own records own_is records_are (Leaf bits) x e = x p
by_cases t ks vs k r c κ p own records own_is records_are (Content start count) x e = record { bits_are = content_first x p; count-is = content_count x p ∙ length-key (step_over t p) k r c κ 0 }
by_cases t ks vs k r c κ p own records own_is records_are Cut x e = absurd (true≢false e)

-- THE LAW: what is known is what the block becomes, of a picture that has those bits and so many records there
pub known_tallied : {t : Step} {ks vs : List ℕ} {k r c κ own records : ℕ} {meeting : Meeting} {tally : Tally} (p : Picture) → own ≡ bits_of p k r c → records ≡ length (list_of p k r c κ)
    → Met t ks vs (block_at k r c κ) meeting → is_cut meeting ≡ false → tally ≡ known_of meeting own records vs → Tallied (step_over t p) k r c tally.bits tally.count
known_tallied {t} {ks} {vs} {k} {r} {c} {κ} {own} {records} {meeting} {tally} p i j x cut e = rw e (by_cases t ks vs k r c κ p own records i j meeting x.told cut)

-- the content that a meeting names is there
pub met_readable : {t : Step} {ks vs : List ℕ} {k r c κ : ℕ} {meeting : Meeting} → Met t ks vs (block_at k r c κ) meeting → Readable meeting vs
met_readable x = record { starts = λ start count e. let y = met_content x e in omega (arith, y.several, y.in_values) }

-- a leaf by its own bits
pub own_leaf_bits : (own k r c : ℕ) → one_slot own ≡ true → own ≡ bits_of (plain (feature_of own)) k r c
own_leaf_bits own k r c one = one_slot_power own one ∙ plain_bits (feature_of own) k r c

pub leaf_records : (f k r c κ : ℕ) → 1 ≡ length (list_of (plain f) k r c κ)
leaf_records f k r c κ = sym (ap length (list_one (plain f) k r c κ (one_from_leaf (plain f) f k r c (λ a b w. refl))))
