-- What is known of a block by its meeting: where the step gives its pixels those of a picture, and where another step does the same to it. Rests on the laws
-- of pictures that agree on a block.
use Prim.Native.Nat.{ℕ, zero, suc, ◌+◌, ◌^◌, ◌≤◌, ◌<◌}
use native.Mathlib.Omega.{arith}
use mathlib.Core.Path.{◌≡◌, refl, sym, ◌∙◌, ap, ap₂, subst}
use mathlib.Core.Bool.{true, false, cond, true≢false}
use mathlib.Core.List.{List}
use lib.ListN.{length}
use Rattle.keys.specs.Under.{Every}
use Rattle.definitions.specs.Picture.{Picture}
use Rattle.definitions.specs.Bits.{bits_of}
use Rattle.definitions.specs.List.{list_of}
use Rattle.laws.proofs.Features.{one_from_leaf, one_pixel}
use Rattle.laws.proofs.Pixels.{Agree}
use Rattle.laws.proofs.BitsOf.{bits_agree, bits_one}
use Rattle.laws.proofs.ListOf.{list_agree, list_one}
use Rattle.list.specs.Check.{one_slot}
use Rattle.list.proofs.OneSlot.{slot_feature}
use Rattle.edit_log.specs.Entries.{records_from_place}
use Rattle.build.specs.BuildBlocks.{Tallied}
use Rattle.deeds.specs.Step.{Step, step_over, plain}
use Rattle.deeds.specs.Meeting.{block_at, Untouched, OneLeaf, ContentGiven, MetBy, Met, is_cut}
use Rattle.deeds.specs.declared.meeting.Meeting.{Meeting}
use Rattle.deeds.specs.declared.meeting.Meeting.TheVariants.{Apart, Leaf, Content, Cut}
use Rattle.deeds.proofs.Pruned.{over_in}

-- a tally is that of every picture that agrees
pub tallied_agree : (p q : Picture) {k r c bits count : ℕ} → Agree p q k r c → Tallied p k r c bits count → Tallied q k r c bits count
tallied_agree p q {k} {r} {c} h t = record {
  bits_are = t.bits_are ∙ bits_agree p q k r c h;
  count-is = t.count-is ∙ ap length (list_agree p q k r c 0 h);
}

-- the step gives every pixel of the block that of a picture
abbrev pub Covers : (t : Step) (q : Picture) (k r c : ℕ) → Type 0
Covers t q k r c = Every (λ a b. (t.touches a b ≡ true) × (t.gives a b ≡ q a b)) k r c

pub covers_over : (t : Step) (q p : Picture) (k r c : ℕ) → Covers t q k r c → Agree q (step_over t p) k r c
covers_over t q p k r c h a b w = sym (over_in t p a b (h a b w).0 ∙ (h a b w).1)

-- a block of one slot is one leaf
pub covers_leaf : (t : Step) (q : Picture) {k r c bits : ℕ} → Covers t q k r c → bits ≡ bits_of q k r c → one_slot bits ≡ true → OneLeaf t k r c bits
covers_leaf t q {k} {r} {c} h e one p =
    tallied_agree q (step_over t p) (covers_over t q p k r c h)
    (record { bits_are = e; count-is = sym (ap length (list_one q k r c 0 (sym (slot_feature q k r c) ∙ ap one_slot (sym e) ∙ one))) })

-- that of one feature everywhere
pub plain_bits : (f k r c : ℕ) → 2 ^ f ≡ bits_of (plain f) k r c
plain_bits f k r c = sym (bits_one (plain f) k r c (one_from_leaf (plain f) f k r c (λ a b w. refl)))

-- a list that stands in the log
pub covers_list : (t : Step) (q : Picture) {ks vs : List ℕ} {k r c κ start count : ℕ} → Covers t q k r c → 1 < count → start + count ≤ length ks → start + count ≤ length vs
    → records_from_place ks vs start count ≡ list_of q k r c κ → ContentGiven t ks vs k r c κ start count
covers_list t q {k = k} {r} {c} {κ} h several i j e = record {
  several = several;
  in_keys = i;
  in_values = j;
  is = λ p. e ∙ list_agree q (step_over t p) k r c κ (covers_over t q p k r c h);
}

-- a block of several features is no pixel
pub not_pixel : (k r c : ℕ) (p : Picture) → one_slot (bits_of p k r c) ≡ false → 0 < k
not_pixel zero r c p h = absurd (true≢false (sym (slot_feature p zero r c ∙ one_pixel p r c) ∙ h))
not_pixel (suc k) r c p h = omega arith

-- two steps do the same to a block
abbrev pub Same : (t t' : Step) (k r c : ℕ) → Type 0
Same t t' k r c = Every (λ a b. (t.touches a b ≡ t'.touches a b) × (t.gives a b ≡ t'.gives a b)) k r c

pub same_over : (t t' : Step) (p : Picture) (k r c : ℕ) → Same t t' k r c → Agree (step_over t p) (step_over t' p) k r c
unfolding step_over
same_over t t' p k r c h a b w = ap₂ (λ x y. cond x y (p a b)) (h a b w).0 (h a b w).1

by_same : (t t' : Step) (ks vs : List ℕ) (k r c κ : ℕ) (meeting : Meeting) → Same t t' k r c → MetBy t ks vs (block_at k r c κ) meeting → MetBy t' ks vs (block_at k r c κ) meeting
by_same t t' ks vs k r c κ Apart h x = λ a b w. sym (h a b w).0 ∙ x a b w
by_same t t' ks vs k r c κ (Leaf bits) h x = λ p. tallied_agree (step_over t p) (step_over t' p) (same_over t t' p k r c h) (x p)
by_same t t' ks vs k r c κ (Content start count) h x = record {
  several = x.several;
  in_keys = x.in_keys;
  in_values = x.in_values;
  is = λ p. x.is p ∙ list_agree (step_over t p) (step_over t' p) k r c κ (same_over t t' p k r c h);
}
by_same t t' ks vs k r c κ Cut h x = x

pub met_same : {t t' : Step} {ks vs : List ℕ} {k r c κ : ℕ} {meeting : Meeting} → Same t t' k r c → Met t ks vs (block_at k r c κ) meeting → Met t' ks vs (block_at k r c κ) meeting
met_same {t} {t'} {ks} {vs} {k} {r} {c} {κ} {meeting} h x = record { told = by_same t t' ks vs k r c κ meeting h x.told }

-- a meeting of one kind or another, as code comes to know it
module _ {t : Step} {ks vs : List ℕ} {k r c κ : ℕ} {meeting : Meeting} (x : Met t ks vs (block_at k r c κ) meeting) where
  pub met_apart : meeting ≡ Apart → Untouched t k r c
  met_apart e = subst (MetBy t ks vs (block_at k r c κ)) e x.told

  pub met_content : {start count : ℕ} → meeting ≡ Content start count → ContentGiven t ks vs k r c κ start count
  met_content e = subst (MetBy t ks vs (block_at k r c κ)) e x.told

  pub met_cut : is_cut meeting ≡ true → 0 < k
  met_cut e = cut meeting x.told e
    where
      cut : (meeting : Meeting) → MetBy t ks vs (block_at k r c κ) meeting → is_cut meeting ≡ true → 0 < k
      cut Apart y e = absurd (true≢false (sym e))
      cut (Leaf bits) y e = absurd (true≢false (sym e))
      cut (Content start count) y e = absurd (true≢false (sym e))
      cut Cut y e = y
