-- A block whose records stay as they are is moved before the place where what it becomes ends. Rests on Waiting, and on the ascending keys of a list.
use Prim.Native.Nat.{ℕ, ◌+◌, ◌-◌, ◌≤◌, ◌<◌}
use mathlib.Core.Path.{◌≡◌, sym, ◌∙◌, ap}
use mathlib.Core.List.{List, ◌++◌, map-append}
use native.Mathlib.Omega.{arith}
use lib.ListN.{length, get_or, take, drop, length-drop, length-map}
use lib.Seq.{sets, get_or-take, length-take-le, take-length, drop-append_seam, get_or-append-add}
use Rattle.keys.proofs.Cases.{split}
use Rattle.definitions.specs.Picture.{Picture}
use Rattle.definitions.specs.List.{Record, keys_of, values_of, list_of}
use Rattle.definitions.specs.Read.{paired}
use Rattle.laws.proofs.Pixels.{Agree}
use Rattle.laws.proofs.ListOf.{list_head_first, list_some, list_ascends, list_agree}
use Rattle.laws.proofs.Records.{key_at, records_run, paired_keys, paired_values}
use Rattle.list.specs.Sorted.{Ascends, Sorted}
use Rattle.list.specs.Among.{place_among}
use Rattle.list.proofs.Accepted.{keys_ascend}
use Rattle.list.proofs.Among.{place_at}
use Rattle.deeds.specs.Step.{Step, step_over, pruned}
use Rattle.deeds.specs.Meeting.{block_at, Met}
use Rattle.deeds.specs.declared.meeting.Meeting.{Meeting}
use Rattle.deeds.specs.declared.meeting.Meeting.TheVariants.{Apart}
use Rattle.deeds.proofs.Pruned.{over_out, pruned_apart, pruned_after, pruned_all}
use Rattle.apply_deed.specs.Passes.{Ending, Moved, Growing, GrowAsked, Grown}
use Rattle.apply_deed.specs.Slide.{StartAt, StartAsked, SlideAsked, Slid, Stays, level, untouched}
use Rattle.apply_deed.proofs.Waiting.{ending-length, ending_at}

-- there is one such place
start_one : {key read : ℕ} {keys : List ℕ} {a b : ℕ} → StartAt key read keys a → StartAt key read keys b → a ≡ b
start_one {a = a} {b} x y =
    split a b
    (λ less. absurd (x.last b less y.some y.is))
    (λ more. split b a (λ less. absurd (y.last a less x.some x.is)) (λ other. omega arith))

-- the search for it, among keys that ascend
module _ {key read : ℕ} {keys : List ℕ} (a : StartAsked key read keys) where
  start_sorted : Sorted keys read key
  start_sorted =
      record {
        ascends = a.ascends;
        some = omega (arith, a.at.some);
        first = split 0 a.start
            (λ behind. let h = a.ascends.ascend 0 a.start behind a.at.some in omega (arith, a.at.is))
            (λ front. let e : a.start ≡ 0 = omega arith in let f = ap (λ i. get_or keys i 0) e in omega (arith, a.at.is));
      }

  -- as a slice of their own
  pub first_sorted : Sorted (take read keys) (length (take read keys)) key
  first_sorted =
      let s = start_sorted in
      let size = length-take-le read keys s.ascends.room in
      let at : (i : ℕ) → i < read → get_or (take read keys) i 0 ≡ get_or keys i 0 = λ i h. get_or-take read keys i 0 h in
      record {
        ascends = record {
          room = omega arith;
          ascend = λ i j h k. let a = at i (omega arith) in let b = at j (omega arith) in let o = s.ascends.ascend i j h (omega arith) in omega arith;
        };
        some = omega (arith, s.some);
        first = let a = at 0 (omega (arith, s.some)) in let f = s.first in omega arith;
      }

  pub start_found : {place : ℕ} → place ≡ place_among key (take read keys) → StartAt key read keys place
  start_found {place} is =
      let e : place ≡ a.start = is ∙ sym (place_at a.ascends a.start key a.at.some a.at.is) in
      rw e a.at

-- records that end before a place
module _ {l : List Record} {ks bs : List ℕ} {read : ℕ} (e : Ending l ks bs read) where
  all : length e.front + length l ≡ read
  all = ending-length e

  key_of : (j : ℕ) → j < length l → get_or ks (length e.front + j) 0 ≡ get_or (keys_of l) j 0
  key_of j h =
      let a = all in
      let f : length e.front ≡ length (keys_of e.front) = sym (length-map e.front (λ x. x.key)) in
      sym (key_at ks bs read e.in_keys e.in-bits (length e.front + j) (omega arith))
      ∙ ap (λ z. get_or (keys_of z) (length e.front + j) 0) e.is
      ∙ ap (λ z. get_or z (length e.front + j) 0) (map-append (λ x. x.key) e.front l)
      ∙ ap (λ i. get_or (keys_of e.front ++ keys_of l) (i + j) 0) f
      ∙ get_or-append-add (keys_of e.front) (keys_of l) j 0

  ending_run : paired (take (length l) (drop (length e.front) ks)) (take (length l) (drop (length e.front) bs)) ≡ l
  ending_run =
      let a = all in
      sym (records_run ks bs read (length e.front) (length l) (omega arith))
      ∙ ap (λ z. take (length l) (drop (length e.front) z)) e.is
      ∙ ap (take (length l)) (drop-append_seam e.front l)
      ∙ take-length l

  long : (x : List ℕ) → read ≤ length x → length (take (length l) (drop (length e.front) x)) ≡ length l
  long x h = let a = all in let d = length-drop (length e.front) x in length-take-le (length l) (drop (length e.front) x) (omega arith)

  ending_keys : take (length l) (drop (length e.front) ks) ≡ keys_of l
  ending_keys = sym (paired_keys _ _ (long ks e.in_keys ∙ sym (long bs e.in-bits))) ∙ ap keys_of ending_run

  ending_values : take (length l) (drop (length e.front) bs) ≡ values_of l
  ending_values = sym (paired_values _ _ (long ks e.in_keys ∙ sym (long bs e.in-bits))) ∙ ap values_of ending_run

-- of a block's list the first record has the block's key, and no other
list_start : (p : Picture) (k r c κ : ℕ) {ks bs : List ℕ} {read : ℕ} (e : Ending (list_of p k r c κ) ks bs read) → StartAt κ read ks (length e.front)
list_start p k r c κ {ks} {bs} {read} e =
    let a = all e in
    let some = list_some p k r c κ in
    record {
      some = omega arith;
      is = ap (λ i. get_or ks i 0) at_first ∙ key_of e 0 some ∙ first;
      last = λ i u v z.
          let j : ℕ = i - length e.front in
          let s : length e.front + (i - length e.front) ≡ i = omega arith in
          let h = keys_ascend 0 (i - length e.front) (list_ascends p k r c κ) (omega arith) (omega arith) in
          let o : get_or ks i 0 ≡ get_or (keys_of (list_of p k r c κ)) (i - length e.front) 0 = ap (λ x. get_or ks x 0) (sym s) ∙ key_of e (i - length e.front) (omega arith) in
          let f = first in
          omega arith;
    }
  where
    at_first : length e.front ≡ length e.front + 0
    at_first = omega arith

    first : get_or (keys_of (list_of p k r c κ)) 0 0 ≡ κ
    first = ap (λ l. get_or (keys_of l) 0 0) (list_head_first p k r c κ).1

-- such a block waits to be moved, and is moved
module _ (t : Step) (p : Picture) (k r c κ : ℕ) {ks bs : List ℕ} {read write : ℕ} (g : Growing t p (block_at k r c κ) ks bs read write)
    (same : pruned p (step_over t p) k r c κ ≡ list_of (step_over t p) k r c κ) where
  ending : Ending (list_of (step_over t p) k r c κ) ks bs read
  ending = ending_at same g.waits.ending

  pub slides : Ascends ks read → SlideAsked κ read write ks bs
  slides ascends =
      let n = ap length same in
      record {
        asked = record { start = length ending.front; at = list_start (step_over t p) k r c κ ending; ascends = ascends };
        apart = omega (arith, g.waits.apart);
        in_keys = g.waits.in_keys;
        in-bits = g.waits.in-bits;
      }

  pub slid_moved : {ks' bs' : List ℕ} {read' write' : ℕ} → Slid κ read write ks bs ks' bs' read' write'
      → Moved (pruned p (step_over t p) k r c κ) (list_of (step_over t p) k r c κ) ks bs read write ks' bs' read' write'
  slid_moved {ks'} {bs'} {read'} {write'} s =
      let a = all ending in
      let n = ap length same in
      let at : read' ≡ length ending.front = start_one s.at (list_start (step_over t p) k r c κ ending) in
      let count : read - read' ≡ length (list_of (step_over t p) k r c κ) = omega arith in
      record {
        passed = omega arith;
        wrote = record {
          start_is = omega (arith, s.write_is, g.waits.apart);
          keys_are = s.keys_are ∙ run ks (ending_keys ending) count at;
          bits_are = s.bits_are ∙ run bs (ending_values ending) count at;
        };
      }
    where
      run : (x : List ℕ) {new : List ℕ} {i j start : ℕ} → take j (drop start x) ≡ new → i ≡ j → read' ≡ start → sets x write' (take i (drop read' x)) ≡ sets x write' new
      run x {new} {i} {j} e f h = ap (sets x write') (ap (λ y. take y (drop read' x)) f ∙ ap (λ y. take j (drop y x)) h ∙ e)

-- what is left of a block that stays is its list after the step
stays_same : (t : Step) (p : Picture) (k r c κ : ℕ) {ks bs lks lvs : List ℕ} {read write : ℕ} {meeting : Meeting} → Growing t p (block_at k r c κ) ks bs read write
    → Met t lks lvs (block_at k r c κ) meeting → Stays meeting read write → pruned p (step_over t p) k r c κ ≡ list_of (step_over t p) k r c κ
stays_same t p k r c κ g m (level e) = pruned_all p (step_over t p) k r c κ (let few = pruned_after p (step_over t p) k r c κ in omega (arith, g.waits.apart))
stays_same t p k r c κ {lks = lks} {lvs} g m (untouched e) =
    let told : Met t lks lvs (block_at k r c κ) Apart = rw e at m in
    let agree : Agree p (step_over t p) k r c = λ a b w. sym (over_out t p a b (told.told a b w)) in
    pruned_apart p (step_over t p) k r c κ agree ∙ list_agree p (step_over t p) k r c κ agree

module _ (t : Step) {k r c κ : ℕ} {ks bs lks lvs : List ℕ} {read write : ℕ} {meeting : Meeting} (h : Met t lks lvs (block_at k r c κ) meeting) (s : Stays meeting read write) where
  pub asks_slide : {m : ℕ} → GrowAsked t m (block_at k r c κ) ks bs read write → SlideAsked κ read write ks bs
  asks_slide a = slides t a.picture k r c κ a.growing (stays_same t a.picture k r c κ a.growing h s) a.ascends

  pub gives_slide : {ks' bs' : List ℕ} {read' write' : ℕ} → Slid κ read write ks bs ks' bs' read' write' → Grown t (block_at k r c κ) ks bs read write ks' bs' read' write'
  gives_slide x = record { holds = λ p g. slid_moved t p k r c κ g (stays_same t p k r c κ g h s) x }
