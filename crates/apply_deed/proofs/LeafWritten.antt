-- A leaf written: nothing below it where the step leaves it one feature, and the records below it with its own in front are what it grows to.
-- Rests on build's WrittenBlock.
use Prim.Native.Nat.{ℕ, zero, suc, ◌+◌, ◌-◌, ◌≤◌, ◌<◌}
use mathlib.Core.Path.{◌≡◌, refl, sym, ◌∙◌, ap, ap₂}
use mathlib.Core.Bool.{true}
use mathlib.Core.List.{List}
use native.Mathlib.Omega.{arith}
use lib.ListN.{length, set}
use lib.Seq.{sets}
use Rattle.definitions.specs.Picture.{Picture, one_feature}
use Rattle.definitions.specs.Bits.{bits_of}
use Rattle.definitions.specs.List.{keys_of, values_of, list_of}
use Rattle.keys.proofs.Cases.{decide}
use Rattle.laws.proofs.Features.{one_pixel}
use Rattle.laws.proofs.ListOf.{list_one, list_some, length-several}
use Rattle.slices.proofs.Sets.{sets_front}
use Rattle.build.specs.BuildBlocks.{below, Tallied}
use Rattle.build.proofs.WrittenBlock.{own_first, below_one}
use Rattle.build.proofs.CountBlock.{list_five}
use Rattle.build.proofs.FittingBlock.{keys_length, bits_length}
use Rattle.keys.specs.Child.{InMap}
use Rattle.keys.specs.declared.block.TreeBlock.{TreeBlock}
use Rattle.keys.proofs.BlockChild.{end_in-map}
use Rattle.deeds.specs.Meeting.{block_at}
use Rattle.apply_deed.specs.Passes.{list_at, WroteBefore, WriteAsked, FittingBefore, WrittenBefore}

-- a block of one feature has nothing written below it
pub before_one : {p : Picture} {k r c end union place : ℕ} (κ : ℕ) {keys bits keys' bits' : List ℕ} → one_feature p k r c ≡ true → union ≡ bits_of p k r c → place ≡ end - 1
    → keys' ≡ keys → bits' ≡ bits → WrittenBefore p (block_at k r c κ) end keys bits keys' bits' union place
before_one {p} {k} {r} {c} {end} {union} {place} κ {keys} {bits} one u i same_keys same_bits = record {
  place_is = i ∙ ap (λ l. end - length l) (sym (list_one p k r c κ one));
  written = record {
    union_is = u;
    next-is = refl;
    keys_are = same_keys ∙ sym (ap (λ l. sets keys (place + 1) (keys_of l)) (below_one p k r c κ one));
    bits_are = same_bits ∙ sym (ap (λ l. sets bits (place + 1) (values_of l)) (below_one p k r c κ one));
  };
}

-- a block of one record has one feature
pub single : {p : Picture} {k r c bits : ℕ} → Tallied p k r c bits 1 → one_feature p k r c ≡ true
single {p} {k} {r} {c} t = go k (sym t.count-is)
  where
    go : (k : ℕ) → length (list_of p k r c 0) ≡ 1 → one_feature p k r c ≡ true
    go zero h = one_pixel p r c
    go (suc k) h = decide (one_feature p (suc k) r c) (λ one. one) (λ several. let n = length-several p k r c 0 several in absurd (omega arith))

-- a leaf of the list, as the code comes to it
module _ {p : Picture} (b : TreeBlock) {end : ℕ} {ks bs : List ℕ} (a : WriteAsked (list_at p b) b.key end ks bs) where
  pub leaf_fits : {m : ℕ} → m ≤ 10 → InMap m b → FittingBefore p b end ks bs
  leaf_fits deep block =
      let h = end_in-map b deep block in
      let n = list_five p b.height b.row b.column b.key in
      record {
        small = omega (arith, a.early, h.keys);
        low = λ several. a.low;
        keys_room = λ several. a.in_keys;
        bits_room = λ several. a.in-bits;
      }

  module _ {ks' bs' : List ℕ} {union place : ℕ} (w : WrittenBefore p b end ks bs ks' bs' union place) where
    pub leaf_room : (place < length ks') × (place < length bs')
    leaf_room =
        let i = keys_length w.written in
        let j = bits_length w.written in
        let s = list_some p b.height b.row b.column b.key in
        omega (arith, w.place_is, a.low, a.in_keys, a.in-bits)

    -- its own record is put in front of those below it
    pub leaf_wrote : WroteBefore (list_at p b) end ks bs (set ks' place b.key) (set bs' place union) place
    leaf_wrote = record {
      start_is = omega (arith, w.place_is, a.low);
      keys_are = ap (λ l. set l place b.key) w.written.keys_are
          ∙ sets_front ks place b.key (keys_of (below p b.height b.row b.column b.key))
          ∙ ap (λ l. sets ks place (keys_of l)) (sym (own_first p b.height b.row b.column b.key));
      bits_are = ap₂ (λ l x. set l place x) w.written.bits_are w.written.union_is
          ∙ sets_front bs place (bits_of p b.height b.row b.column) (values_of (below p b.height b.row b.column b.key))
          ∙ ap (λ l. sets bs place (values_of l)) (sym (own_first p b.height b.row b.column b.key));
    }
