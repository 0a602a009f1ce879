-- What an entry of a run that is taken back makes of a block: by its content's bits there, or by the whole content. Rests on the lookup in a list and on
-- Chains.
use Prim.Native.Nat.{ℕ, zero, suc, ◌+◌, ◌-◌, ◌≤◌, ◌<◌}
use mathlib.Core.Path.{◌≡◌, refl, sym, ◌∙◌, ap, ap₂}
use mathlib.Core.Bool.{true, false, cond, true≢false}
use mathlib.Core.List.{List}
use native.Mathlib.Nat.{add-zero}
use native.Mathlib.Omega.{arith}
use lib.ListN.{length, get_or, take, drop, length-drop}
use lib.Dec.{eqb}
use borrow.Author.Tests.{eqb-true, eqb-false}
use lib.Seq.{get_or-take, get_or-drop, length-take-le, take_all}
use Rattle.keys.specs.Key.{height_of}
use Rattle.keys.specs.Block.{row_of, column_of, in_interval}
use Rattle.keys.specs.Under.{MapBlock}
use Rattle.keys.proofs.Cases.{decide}
use Rattle.keys.proofs.Valid.{valid_block, block_valid, Is}
use Rattle.keys.proofs.Ancestor.{interval_iff}
use Rattle.keys.proofs.InBlock.{in_interval-iff}
use Rattle.definitions.specs.Picture.{Picture, one_feature}
use Rattle.definitions.specs.Bits.{bits_of}
use Rattle.definitions.specs.List.{Record, keys_of, values_of, list_of}
use Rattle.definitions.specs.Read.{records_of, picture_of}
use Rattle.definitions.specs.Standing.{place_of}
use Rattle.definitions.specs.Log.{last_content}
use Rattle.laws.proofs.Records.{paired_keys, paired_values, paired-length}
use Rattle.laws.proofs.Features.{one_pixel}
use Rattle.laws.proofs.ListOf.{list_head_first, length-several}
use Rattle.list.specs.Check.{one_slot}
use Rattle.list.specs.Among.{place_among}
use Rattle.list.specs.Sorted.{Sorted}
use Rattle.list.proofs.Accepted.{content_list, keys_ascend}
use Rattle.list.proofs.OneSlot.{slot_feature}
use Rattle.list.proofs.Among.{place_keys, place-below}
use Rattle.list.proofs.Lookup.{lookup_value}
use Rattle.edit_log.specs.declared.entry.Entry.{Entry}
use Rattle.edit_log.specs.Entries.{last_entry, content_part}
use Rattle.edit_log.proofs.Last.{content_run, content-length, entry_places}
use Rattle.deeds.specs.Step.{Step}
use Rattle.deeds.specs.Meeting.{block_at, Met}
use Rattle.deeds.specs.Runs.{content_of_entry, back_bits, whole_of, given_by, Held}
use Rattle.deeds.specs.declared.meeting.Meeting.TheVariants.{Leaf, Cut}
use Rattle.deeds.proofs.Meetings.{Covers, covers_leaf, covers_list, not_pixel}
use Rattle.deeds.proofs.Chains.{Ends, ends_ended}

-- the content as the code lends it, and as it is defined
module _ {e : Entry} {ks vs : List ℕ} {κ : ℕ} (h : Held e ks vs κ) where
  abbrev keys : List ℕ
  keys = take e.count (drop e.start ks)

  abbrev values : List ℕ
  values = take e.count (drop e.start vs)

  keys_many : length keys ≡ e.count
  keys_many = let l = length-drop e.start ks in let a = h.in_keys in length-take-le e.count (drop e.start ks) (omega arith)

  values_many : length values ≡ e.count
  values_many = let l = length-drop e.start vs in let a = h.in_values in length-take-le e.count (drop e.start vs) (omega arith)

  -- it has so many records, and its first value is the one at its start
  pub content_many : length (content_of_entry ks vs e) ≡ e.count
  content_many = paired-length keys values (keys_many ∙ sym values_many) ∙ keys_many

  pub first_of : get_or (values_of (content_of_entry ks vs e)) 0 0 ≡ get_or vs e.start 0
  first_of =
      let some = h.sorted.some in
      ap (λ l. get_or l 0 0) (paired_values keys values (keys_many ∙ sym values_many))
      ∙ get_or-take e.count (drop e.start vs) 0 0 (omega arith)
      ∙ get_or-drop e.start vs 0 0
      ∙ ap (λ i. get_or vs i 0) (add-zero e.start)

  lent_is : content_part e ks ≡ keys
  lent_is = let n : e.start + e.count - e.start ≡ e.count = omega arith in ap (λ i. take i (drop e.start ks)) n

  lent_keys : take e.count (content_part e ks) ≡ keys
  lent_keys = ap (take e.count) lent_is ∙ take_all e.count keys (let l = keys_many in omega arith)

  -- they can be searched
  pub lent_sorted : Sorted (content_part e ks) (length (content_part e ks)) κ
  lent_sorted = let size : length (content_part e ks) ≡ e.count = ap length lent_is ∙ keys_many in rw size h.sorted

  pub found_inside : (place : ℕ) → place ≡ place_among κ (content_part e ks) → place < e.count
  found_inside place is = let p = place-below h.sorted in let f = is ∙ ap (place_among κ) (lent_is ∙ sym lent_keys) in omega arith

  -- the value at the place that was found is the content's at the key
  pub found_bits : (place : ℕ) → place ≡ place_among κ (content_part e ks) → get_or vs (e.start + place) 0 ≡ back_bits ks vs κ e
  found_bits place is =
      let p = found_inside place is in
      let same : place ≡ place_of κ (content_of_entry ks vs e)
      = is ∙ ap (place_among κ) (lent_is ∙ sym (paired_keys keys values (keys_many ∙ sym values_many))) ∙ sym (place_keys κ (content_of_entry ks vs e)) in
      sym (get_or-drop e.start vs place 0)
      ∙ sym (get_or-take e.count (drop e.start vs) place 0 p)
      ∙ ap₂ (λ l i. get_or l i 0) (sym (paired_values keys values (keys_many ∙ sym values_many))) same

several_long : (p : Picture) (k r c κ : ℕ) → one_feature p k r c ≡ false → 2 ≤ length (list_of p k r c κ)
several_long p zero r c κ h = absurd (true≢false (sym (one_pixel p r c) ∙ h))
several_long p (suc k) r c κ h = let l = length-several p k r c κ h in omega arith

-- an entry at the end of the records
module _ {m s : ℕ} {ks vs : List ℕ} {start end : ℕ} (x : Ends m s ks vs start end) where
  abbrev last : Entry
  last = last_entry (records_of ks vs end)

  abbrev content : List Record
  content = content_of_entry ks vs last

  content_same : last_content (records_of ks vs end) ≡ content
  content_same = content_run (ends_ended x)

  shown : content ≡ list_of (picture_of m content) (height_of m last.key) (row_of m last.key) (column_of m last.key) last.key
  shown =
      let b = content_list m s last.key (last_content (records_of ks vs end)) x.ends.correct in
      sym content_same ∙ b.is ∙ ap (λ l. list_of (picture_of m l) (height_of m last.key) (row_of m last.key) (column_of m last.key) last.key) content_same

  -- its content is there, and can be searched
  pub last_held : {κ : ℕ} → in_interval m last.key κ ≡ true → Held last ks vs κ
  last_held {κ} h =
      let v = valid_block m last.key x.ends.valid in
      let i = (in_interval-iff κ v).0 h in
      let p = entry_places (ends_ended x) in
      let b = content_list m s last.key (last_content (records_of ks vs end)) x.ends.correct in
      let size = content-length (ends_ended x) in
      let l = length-drop last.start ks in
      let l' = length-drop last.start vs in
      let km : length (take last.count (drop last.start ks)) ≡ last.count = length-take-le last.count (drop last.start ks) (omega (arith, x.in_keys)) in
      let vm : length (take last.count (drop last.start vs)) ≡ last.count = length-take-le last.count (drop last.start vs) (omega (arith, x.in_values)) in
      let n : last.start + last.count - last.start ≡ last.count = omega arith in
      let part : content_part last ks ≡ keys_of (last_content (records_of ks vs end))
      = ap (λ i. take i (drop last.start ks)) n ∙ sym (ap keys_of content_same ∙ paired_keys (take last.count (drop last.start ks)) (take last.count (drop last.start vs)) (km ∙ sym vm)) in
      let room : length (content_part last ks) ≡ last.count = ap (λ i. length (take i (drop last.start ks))) n ∙ km in
      let first = ap (λ l. get_or (keys_of l) 0 0) (b.is ∙ (list_head_first (picture_of m (last_content (records_of ks vs end))) (height_of m last.key) (row_of m last.key) (column_of m last.key) last.key).1) in
      record {
        in_keys = omega (arith, x.in_keys);
        in_values = omega (arith, x.in_values);
        sorted = record {
          ascends = record {
            room = omega arith;
            ascend = λ a z u w. rw part (keys_ascend a z b.ascends u (omega arith));
          };
          some = omega (arith, b.some);
          first = rw part (omega (arith, i.from));
        };
      }

  -- what it makes of a block that its own holds: by the bits there, or, of its own block, by the whole content
  module _ {k r c κ : ℕ} (b : MapBlock m k r c κ) (h : in_interval m last.key κ ≡ true) (t : Step) (over : Covers t (picture_of m content) k r c) where
    bits_told : back_bits ks vs κ last ≡ bits_of (picture_of m content) k r c
    bits_told =
        let v = valid_block m last.key x.ends.valid in
        ap (λ l. get_or (values_of l) (place_of κ l) 0) shown ∙ lookup_value (picture_of m content) ((interval_iff v b).0 h)

    by_bits : Met t ks vs (block_at k r c κ) (cond (one_slot (back_bits ks vs κ last)) (Leaf (back_bits ks vs κ last)) Cut)
    by_bits =
        decide (one_slot (back_bits ks vs κ last))
        (λ i. rw i (record { told = covers_leaf t (picture_of m content) over bits_told i }))
        (λ i. rw i (record { told = not_pixel k r c (picture_of m content) (ap one_slot (sym bits_told) ∙ i) }))

    module _ (same : last.key ≡ κ) where
      own_list : content ≡ list_of (picture_of m content) k r c κ
      own_list =
          let i = block_valid b in
          let at : Is m k r c last.key = rw same i in
          shown ∙ rw (at.height, at.row, at.column, same) refl

      one_only : last.count ≡ 1 → one_slot (bits_of (picture_of m content) k r c) ≡ true
      one_only i =
          let held = last_held h in
          let size = keys_many held in
          decide (one_feature (picture_of m content) k r c)
          (λ e. slot_feature (picture_of m content) k r c ∙ e)
          (λ e. absurd (let n = several_long (picture_of m content) k r c κ e in let l = ap length own_list in let z = content_many held in omega arith))

      first_value : get_or vs last.start 0 ≡ bits_of (picture_of m content) k r c
      first_value =
          let held = last_held h in
          sym (first_of held) ∙ ap (λ l. get_or (values_of l) 0 0) (own_list ∙ (list_head_first (picture_of m content) k r c κ).1)

      by_whole : Met t ks vs (block_at k r c κ) (whole_of vs last)
      unfolding whole_of
      by_whole =
          let held = last_held h in
          decide (eqb last.count 1)
          (λ i. rw i (record { told = covers_leaf t (picture_of m content) over first_value (ap one_slot first_value ∙ one_only (eqb-true last.count 1 i)) }))
          (λ i. rw i (record { told = covers_list t (picture_of m content) over (let n = held.sorted.some in let j = eqb-false last.count 1 i in omega arith) held.in_keys held.in_values own_list }))

    pub back_meets : Met t ks vs (block_at k r c κ) (given_by true ks vs κ last)
    unfolding given_by
    back_meets = decide (eqb last.key κ) (λ i. rw i (by_whole (eqb-true last.key κ i))) (λ i. rw i by_bits)
