-- A step of which only the pixels before a key are told does the same to every block before that key. Rests on the laws of pictures that agree.
use Prim.Native.Nat.{ℕ, ◌+◌, ◌-◌, ◌^◌, ◌≤◌}
use mathlib.Core.Path.{refl, sym, ◌∙◌, ap, ap₂}
use mathlib.Core.Bool.{cond}
use mathlib.Core.List.{List}
use native.Mathlib.Omega.{arith}
use lib.ListN.{length, drop}
use lib.Seq.{sets}
use Rattle.keys.specs.Under.{MapBlock}
use Rattle.keys.proofs.Pixel.{inside}
use Rattle.definitions.specs.Picture.{Picture}
use Rattle.definitions.specs.List.{keys_of, values_of}
use Rattle.laws.proofs.Pixels.{Agree}
use Rattle.laws.proofs.Features.{one_agree}
use Rattle.laws.proofs.BitsOf.{bits_agree}
use Rattle.laws.proofs.ListOf.{list_agree}
use Rattle.build.specs.BuildBlocks.{Tallied}
use Rattle.deeds.specs.Step.{Step, step_over}
use Rattle.deeds.specs.Deed.{SameBefore}
use Rattle.deeds.specs.Meeting.{block_at}
use Rattle.apply_deed.specs.Passes.{StepCounted, FittingBefore, WrittenBefore, Growing, GrowAsked, Grown}
use Rattle.apply_deed.specs.Shrink.{Shrinks}
use Rattle.deeds.proofs.Pruned.{pruned_agree}

module _ {m past k r c κ : ℕ} {t t' : Step} (s : SameBefore m past t t') (b : MapBlock m k r c κ) (h : κ + 5 ^ k ≤ past) where
  -- on a block before that key the two steps over a picture agree
  pub narrowed_agree : (p : Picture) → Agree (step_over t' p) (step_over t p) k r c
  unfolding step_over
  narrowed_agree p row column w =
      let i = inside b w in
      ap₂ (λ x y. cond x y (p row column)) (s.touches row column (omega (arith, i, h))) (s.gives row column (omega (arith, i, h)))

  pub narrowed_tallied : (p : Picture) {bits count : ℕ} → Tallied (step_over t' p) k r c bits count → Tallied (step_over t p) k r c bits count
  narrowed_tallied p x = record {
    bits_are = x.bits_are ∙ bits_agree (step_over t' p) (step_over t p) k r c (narrowed_agree p);
    count-is = x.count-is ∙ ap length (list_agree (step_over t' p) (step_over t p) k r c 0 (narrowed_agree p));
  }

  pub narrowed_counted : {keys bits : List ℕ} {at n union count next : ℕ} → StepCounted t' (block_at k r c κ) keys bits at n union count next → StepCounted t (block_at k r c κ) keys bits at n union count next
  narrowed_counted x = record { tallied = λ p s. narrowed_tallied p (x.tallied p s); passed = x.passed }

  -- what is to be written is the same, and so is the room that it needs
  pub narrowed_written : (p : Picture) {end union place : ℕ} {keys bits keys' bits' : List ℕ} → WrittenBefore (step_over t' p) (block_at k r c κ) end keys bits keys' bits' union place
      → WrittenBefore (step_over t p) (block_at k r c κ) end keys bits keys' bits' union place
  narrowed_written p {end} {union} {place} {keys} {bits} {keys'} {bits'} x =
      let same = list_agree (step_over t' p) (step_over t p) k r c κ (narrowed_agree p) in
      record {
        place_is = x.place_is ∙ ap (λ l. end - length l) same;
        written = record {
          union_is = x.written.union_is ∙ bits_agree (step_over t' p) (step_over t p) k r c (narrowed_agree p);
          next-is = refl;
          keys_are = x.written.keys_are ∙ ap (λ l. sets keys (place + 1) (keys_of (drop 1 l))) same;
          bits_are = x.written.bits_are ∙ ap (λ l. sets bits (place + 1) (values_of (drop 1 l))) same;
        };
      }

  pub narrowed_fitting : (p : Picture) {end : ℕ} {keys bits : List ℕ} → FittingBefore (step_over t p) (block_at k r c κ) end keys bits → FittingBefore (step_over t' p) (block_at k r c κ) end keys bits
  narrowed_fitting p x =
      let same = list_agree (step_over t' p) (step_over t p) k r c κ (narrowed_agree p) in
      let one = one_agree (step_over t' p) (step_over t p) k r c (narrowed_agree p) in
      record {
        small = x.small;
        low = λ several. rw same (x.low (sym one ∙ several));
        keys_room = λ several. x.keys_room (sym one ∙ several);
        bits_room = λ several. x.bits_room (sym one ∙ several);
      }

  -- what waits to grow is the same, and so is what it grows to
  pub narrowed_growing : (p : Picture) {keys bits : List ℕ} {read write : ℕ} → Growing t p (block_at k r c κ) keys bits read write → Growing t' p (block_at k r c κ) keys bits read write
  narrowed_growing p g = record {
    waits = rw (pruned_agree p (step_over t' p) (step_over t p) k r c κ (narrowed_agree p), list_agree (step_over t' p) (step_over t p) k r c κ (narrowed_agree p)) g.waits;
  }

  pub narrowed_grown : {keys bits keys' bits' : List ℕ} {read write read' write' : ℕ} → Grown t' (block_at k r c κ) keys bits read write keys' bits' read' write'
      → Grown t (block_at k r c κ) keys bits read write keys' bits' read' write'
  narrowed_grown x = record {
    holds = λ p g.
        let y = x.holds p (narrowed_growing p g) in
        rw (pruned_agree p (step_over t' p) (step_over t p) k r c κ (narrowed_agree p), list_agree (step_over t' p) (step_over t p) k r c κ (narrowed_agree p)) at y;
  }

  pub narrowed_asked : {keys bits : List ℕ} {read write : ℕ} → GrowAsked t m (block_at k r c κ) keys bits read write → GrowAsked t' m (block_at k r c κ) keys bits read write
  narrowed_asked a = record { picture = a.picture; deep = a.deep; block = b; growing = narrowed_growing a.picture a.growing; ascends = a.ascends }

  -- what is left is the same
  pub narrowed_shrinks : {keys bits keys' bits' : List ℕ} {at n place union count next place' : ℕ} → Shrinks t' (block_at k r c κ) keys bits at n place keys' bits' union count next place'
      → Shrinks t (block_at k r c κ) keys bits at n place keys' bits' union count next place'
  narrowed_shrinks {place = place} x = record {
    holds = λ p s.
        let y = x.holds p s in
        let same = pruned_agree p (step_over t' p) (step_over t p) k r c κ (narrowed_agree p) in
        record {
          tallied = narrowed_tallied p y.tallied;
          next-is = y.next-is;
          place_is = y.place_is ∙ ap (λ l. place + length l) same;
          keys_are = rw same at y.keys_are;
          bits_are = rw same at y.bits_are;
        };
  }
