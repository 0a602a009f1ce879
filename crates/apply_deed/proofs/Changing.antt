-- The passes one after the other, on the slices. Rests on Waiting, Assembled and deeds' Pruned.
use Prim.Native.Nat.{ℕ, ◌+◌, ◌-◌, ◌*◌, ◌/◌, ◌^◌, ◌≤◌}
use mathlib.Core.Path.{◌≡◌, sym, ◌∙◌, ap, ap₂}
use mathlib.Core.Bool.{true}
use mathlib.Core.List.{List, [], ◌∷◌, ◌++◌, append-nil}
use native.Mathlib.Nat.{zero-add, le_refl}
use native.Mathlib.Omega.{arith}
use lib.ListN.{length, get_or, take, drop, replicate, length-map}
use lib.Seq.{sets}
use lib.Dec.{leb}
use borrow.Author.Tests.{le-leb}
use Rattle.keys.specs.Child.{root_of}
use Rattle.keys.specs.declared.block.TreeBlock.{TreeBlock}
use Rattle.slices.proofs.Sets.{sets_parts, sets_same}
use Rattle.keys.proofs.Cases.{split}
use Rattle.keys.specs.Under.{here}
use Rattle.definitions.specs.Picture.{Picture}
use Rattle.definitions.specs.List.{Record, keys_of, values_of, list_of, list_of_picture, none}
use Rattle.definitions.specs.Read.{room, paired, records_of}
use Rattle.definitions.specs.Buffer.{over, replaced}
use Rattle.laws.proofs.Records.{key_at, records_keys, records_values, paired_back}
use Rattle.list.specs.Own.{OwnList, shown_by}
use Rattle.list.specs.Sorted.{Ascends}
use Rattle.list.proofs.Accepted.{keys_ascend}
use Rattle.list.proofs.Own.{own-length}
use Rattle.build.proofs.CountBlock.{most_records}
use Rattle.deeds.specs.Step.{Step, pruned, step_over}
use Rattle.deeds.proofs.Pruned.{pruned_before, pruned_after, pruned_all, pruned_ascends}
use Rattle.apply_deed.specs.Passes.{list_at, pruned_at, Moved, ShowingBlock, Shown, WroteBefore, Growing, GrowAsked, Grown, StepCounted}
use Rattle.apply_deed.specs.Shrink.{ShrinkAsked, ShrunkAt, Shrinks}
use Rattle.apply_deed.specs.Change.{zeroed, AllGrown}
use Rattle.apply_deed.proofs.Waiting.{ending-length}
use Rattle.apply_deed.proofs.Assembled.{replaced_longer, replaced_shorter}

-- the whole list is shown from the first place on
pub showing_whole : {m : ℕ} {keys bits : List ℕ} {n : ℕ} → OwnList m keys bits n → ShowingBlock (shown_by m keys bits n) (root_of m) keys bits 0 n
showing_whole {m} {keys} {bits} {n} own = record {
  rest = [];
  limit = 0 + 5 ^ m;
  in_keys = omega (arith, own.fits);
  in-bits = omega (arith, own.fits);
  is = own.own ∙ sym (append-nil (list_of (shown_by m keys bits n) m 0 0 0));
  behind = none (le_refl (0 + 5 ^ m));
}

pub shown_whole : {m : ℕ} {q : TreeBlock} {keys bits : List ℕ} {n : ℕ} → q ≡ root_of m → m ≤ 10 → OwnList m keys bits n → Shown m q keys bits 0 n
shown_whole {m} {q} {keys} {bits} {n} e deep own = rw e (record { picture = shown_by m keys bits n; deep = deep; block = here; shown = showing_whole own })

pub shrink_whole : {m : ℕ} {q : TreeBlock} {keys bits : List ℕ} {n : ℕ} → q ≡ root_of m → m ≤ 10 → OwnList m keys bits n → ShrinkAsked m q keys bits 0 n 0
shrink_whole e deep own = record { shown = shown_whole e deep own; order = le_refl 0 }

-- where the longest list of so many pixels fits, any list does
pub any_fits : (q : Picture) (m : ℕ) {pixels room least : ℕ} → pixels ≡ 4 ^ m → room ≡ least → (4 * pixels - 1) / 3 ≤ room → leb (length (list_of_picture m q)) least ≡ true
any_fits q m {pixels} {least = least} e f h = let n = most_records q m 0 0 0 pixels e in le-leb (length (list_of_picture m q)) least (omega arith)

sets_over : (new old : List ℕ) → length new ≤ length old → sets old 0 new ≡ over new old
sets_over new old h = sets_parts old 0 new (omega arith) ∙ ap (λ i. new ++ drop i old) (zero-add (length new))

-- the places that a shorter list gives up are zero at the end
pub all_replaced : (n after : ℕ) (new between before : List ℕ) → length new ≡ after → n ≤ length between → drop n between ≡ drop n before
    → zeroed n after (over new between) ≡ replaced n new before
all_replaced n after new between before e room h =
    rw (← e) (split n (length new)
    (λ longer.
    let z : n - length new ≡ 0 = omega arith in
    ap (λ i. sets (over new between) (length new) (replicate i 0)) z ∙ replaced_longer n new between before (omega arith) h)
    (λ shorter. replaced_shorter n new between before (omega arith) room h))

pub nothing_given : (n after : ℕ) (l : List ℕ) → n ≤ after → l ≡ zeroed n after l
nothing_given n after l h = let z : n - after ≡ 0 = omega arith in sym (ap (λ i. sets l after (replicate i 0)) z)

-- all leaves have grown: by a descent, or there was none that has to
module _ (t : Step) {m left after : ℕ} {keys bits : List ℕ} where
  pub grown_all : {q : TreeBlock} {keys' bits' : List ℕ} {read write : ℕ} → q ≡ root_of m → Grown t q keys bits left after keys' bits' read write → AllGrown t m left after keys bits keys' bits'
  grown_all {q} {keys'} {bits'} {read} {write} f g = record {
    holds = λ p w.
        let v : Growing t p q keys bits left after = rw f w in
        let d : Moved (pruned_at t p (root_of m)) (list_at (step_over t p) (root_of m)) keys bits left after keys' bits' read write = rw f at (g.holds p v) in
        let e = d.wrote.start_is in
        let h = w.waits.early in
        let z : write ≡ 0 = omega arith in
        rw z at d.wrote;
  }

  pub grown_none : left ≡ after → AllGrown t m left after keys bits keys bits
  grown_none same = record {
    holds = λ p w.
        let few = pruned_after p (step_over t p) m 0 0 0 in
        let two = ending-length w.waits.ending in
        let size : length (pruned p (step_over t p) m 0 0 0) ≡ length (list_of (step_over t p) m 0 0 0) = omega (arith, w.waits.apart) in
        let all = pruned_all p (step_over t p) m 0 0 0 size in
        let is : records_of keys bits left ≡ list_of (step_over t p) m 0 0 0 = nothing_before w.waits.ending.front _ _ (omega (arith, w.waits.early)) w.waits.ending.is ∙ all in
        record {
          start_is = omega (arith, w.waits.early, w.waits.apart);
          keys_are = as_it_is keys _ left (sym (ap keys_of (sym is) ∙ records_keys keys bits left w.waits.ending.in_keys w.waits.ending.in-bits)) w.waits.ending.in_keys;
          bits_are = as_it_is bits _ left (sym (ap values_of (sym is) ∙ records_values keys bits left w.waits.ending.in_keys w.waits.ending.in-bits)) w.waits.ending.in-bits;
        };
  }
    where
      nothing_before : (front a b : List Record) → length front ≡ 0 → b ≡ front ++ a → b ≡ a
      nothing_before [] a b e h = h
      nothing_before (x ∷ front) a b e h = absurd (omega arith)

      as_it_is : (l new : List ℕ) (n : ℕ) → take n l ≡ new → n ≤ length l → l ≡ sets l 0 new
      as_it_is l new n e h = sym (ap (sets l 0) (sym e) ∙ sets_same l 0 n (omega arith))

module _ (t : Step) {m : ℕ} {keys bits : List ℕ} {n : ℕ} (deep : m ≤ 10) (own : OwnList m keys bits n) where
  abbrev p : Picture
  p = shown_by m keys bits n

  -- how long the list becomes
  pub length-told : {q : TreeBlock} {union count next : ℕ} → q ≡ root_of m → StepCounted t q keys bits 0 n union count next → count ≡ length (list_of_picture m (step_over t (shown_by m keys bits n)))
  length-told {q} {union} {count} {next} e x = let y : StepCounted t (root_of m) keys bits 0 n union count next = rw e at x in (y.tallied p (showing_whole own)).count-is

  module _ {q : TreeBlock} (e : q ≡ root_of m) {keys₁ bits₁ : List ℕ} {union after next left : ℕ} (r : Shrinks t q keys bits 0 n 0 keys₁ bits₁ union after next left) where
    shrunk : ShrunkAt t p (root_of m) keys bits 0 0 keys₁ bits₁ union after next left
    shrunk = let s : Shrinks t (root_of m) keys bits 0 n 0 keys₁ bits₁ union after next left = rw e at r in s.holds p (showing_whole own)

    many : length (pruned p (step_over t p) m 0 0 0) ≡ left
    many = let s = shrunk in omega (arith, s.place_is)

    few : left ≤ n
    few = let e = many in let l = own-length own in let b = pruned_before p (step_over t p) m 0 0 0 in omega arith

    -- what is left
    left_is : records_of keys₁ bits₁ left ≡ pruned p (step_over t p) m 0 0 0
    left_is =
        let s = shrunk in
        let a : 0 + length (keys_of (pruned p (step_over t p) m 0 0 0)) ≡ left = let z = length-map (pruned p (step_over t p) m 0 0 0) (λ x. x.key) in let e = many in omega arith in
        let b : 0 + length (values_of (pruned p (step_over t p) m 0 0 0)) ≡ left = let z = length-map (pruned p (step_over t p) m 0 0 0) (λ x. x.value) in let e = many in omega arith in
        ap₂ paired (ap (λ i. take i keys₁) (sym a) ∙ s.keys_are.front) (ap (λ i. take i bits₁) (sym b) ∙ s.bits_are.front)
        ∙ paired_back (pruned p (step_over t p) m 0 0 0)

    next-is : next ≡ n
    next-is = let s = shrunk in let l = own-length own in omega (arith, s.next-is)

    past_keys : drop n keys₁ ≡ drop n keys
    past_keys = rw (← next-is) shrunk.keys_are.behind

    past_bits : drop n bits₁ ≡ drop n bits
    past_bits = rw (← next-is) shrunk.bits_are.behind

    pub after_is : after ≡ length (list_of_picture m (step_over t (shown_by m keys bits n)))
    after_is = shrunk.tallied.count-is

    module _ (fits : length (list_of_picture m (step_over t (shown_by m keys bits n))) ≤ room keys bits) where
      same_keys : length keys₁ ≡ length keys
      same_keys = shrunk.keys_are.size

      same_bits : length bits₁ ≡ length bits
      same_bits = shrunk.bits_are.size

      inside : (left ≤ length keys₁) × (left ≤ length bits₁)
      inside = let a = same_keys in let b = same_bits in let c = few in omega (arith, own.fits)

      growing : Growing t p (root_of m) keys₁ bits₁ left after
      growing =
          let e = many in
          let f = after_is in
          let a = same_keys in
          let b = same_bits in
          record {
            waits = record {
              ending = record { front = []; in_keys = inside.0; in-bits = inside.1; is = left_is };
              apart = omega arith;
              early = omega arith;
              in_keys = omega (arith, fits);
              in-bits = omega (arith, fits);
            };
          }

      ascends : Ascends keys₁ left
      ascends =
          record {
            room = inside.0;
            ascend = λ i j u v.
                let e = many in
                let a = ap (λ l. get_or (keys_of l) i 0) (sym left_is) ∙ key_at keys₁ bits₁ left inside.0 inside.1 i (omega arith) in
                let b = ap (λ l. get_or (keys_of l) j 0) (sym left_is) ∙ key_at keys₁ bits₁ left inside.0 inside.1 j v in
                let h = keys_ascend i j (pruned_ascends p (step_over t p) m 0 0 0) u (omega arith) in
                omega arith;
          }

      pub grow_asked : GrowAsked t m (root_of m) keys₁ bits₁ left after
      grow_asked = record { picture = p; deep = deep; block = here; growing = growing; ascends = ascends }

      -- when all has grown, and when the places given up are zero
      module _ {keys₂ bits₂ : List ℕ} (g : AllGrown t m left after keys₁ bits₁ keys₂ bits₂) where
        grown : WroteBefore (list_of (step_over t p) m 0 0 0) after keys₁ bits₁ keys₂ bits₂ 0
        grown = g.holds p growing

        pub changed_keys : zeroed n after keys₂ ≡ replaced n (keys_of (list_of_picture m (step_over t (shown_by m keys bits n)))) keys
        changed_keys =
            let l = length-map (list_of (step_over t p) m 0 0 0) (λ x. x.key) in
            let a = same_keys in
            ap (zeroed n after) (grown.keys_are ∙ sets_over (keys_of (list_of (step_over t p) m 0 0 0)) keys₁ (omega (arith, fits)))
            ∙ all_replaced n after (keys_of (list_of (step_over t p) m 0 0 0)) keys₁ keys (l ∙ sym after_is) (omega (arith, own.fits)) past_keys

        pub changed_bits : zeroed n after bits₂ ≡ replaced n (values_of (list_of_picture m (step_over t (shown_by m keys bits n)))) bits
        changed_bits =
            let l = length-map (list_of (step_over t p) m 0 0 0) (λ x. x.value) in
            let b = same_bits in
            ap (zeroed n after) (grown.bits_are ∙ sets_over (values_of (list_of (step_over t p) m 0 0 0)) bits₁ (omega (arith, fits)))
            ∙ all_replaced n after (values_of (list_of (step_over t p) m 0 0 0)) bits₁ bits (l ∙ sym after_is) (omega (arith, own.fits)) past_bits
