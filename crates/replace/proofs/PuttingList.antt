-- What the steps of putting a content need and give: the plan is ready, the exchanged keys are in order, and at the end the slices hold the edited
-- list, with zeroes in the places given up. Rests on Ready and PuttingSlice.
use Prim.Native.Nat.{ℕ, ◌+◌, ◌-◌, ◌*◌, ◌^◌, ◌≤◌, ◌<◌}
use mathlib.Core.Path.{◌≡◌, sym, ◌∙◌, ap, ap₂, subst}
use mathlib.Core.List.{List}
use native.Mathlib.Omega.{arith}
use lib.ListN.{length, get_or, take, replicate, length-map, get_or-append}
use lib.Seq.{sets}
use Rattle.keys.specs.Key.{height_of}
use Rattle.keys.proofs.Powers.{five_le}
use Rattle.keys.proofs.Valid.{valid_below}
use Rattle.keys.specs.Block.{row_of, column_of}
use Rattle.definitions.specs.List.{Record, keys_of, values_of, Ascending}
use Rattle.definitions.specs.Read.{room, records_of}
use Rattle.definitions.specs.Edit.{content_of}
use Rattle.definitions.specs.Buffer.{over}
use Rattle.laws.proofs.ListOf.{list_some}
use Rattle.laws.proofs.Records.{records-length, records_over}
use Rattle.laws.proofs.AscendingKeys.{ascending_places}
use Rattle.list.specs.Sorted.{Sorted}
use Rattle.list.specs.Own.{shown_by}
use Rattle.replace.specs.Renew.{renew}
use Rattle.replace.specs.Put.{length_after, exchanged, parents_renewed, edited}
use Rattle.replace.specs.declared.plan.Plan.{Plan}
use Rattle.replace.specs.Planting.{Deep}
use Rattle.replace.specs.Exchanging.{Exchangeable, SlicesHold}
use Rattle.replace.specs.Putting.{Puttable, Replaced}
use Rattle.replace.proofs.Bounds.{level, level_digit}
use Rattle.replace.proofs.FamilyRead.{first_records}
use Rattle.replace.proofs.ByKeys.{ascending_to}
use Rattle.replace.proofs.SetBits.{renew_keys, renew-length}
use Rattle.replace.proofs.Ready.{PlanReady, ready_for}
use Rattle.replace.proofs.PuttingSlice.{length_over, over_again, over_kept, over_cleared}

-- slices that hold a list
module _ {l : List Record} {keys bits keys' bits' : List ℕ} (h : SlicesHold l keys bits keys' bits') (n : ℕ) (size : length l ≡ n) where
  -- its records are read from them
  pub held_records : records_of keys' bits' n ≡ l
  held_records = ap₂ (λ a b. records_of a b n) h.keys_are h.values_are ∙ records_over l n keys bits size

  held_key : (i : ℕ) → i < n → get_or keys' i 0 ≡ get_or (keys_of l) i 0
  held_key i below =
      let k = length-map l (λ x. x.key) in
      ap (λ a. get_or a i 0) h.keys_are ∙ get_or-append (keys_of l) _ 0 i (omega arith)

  -- and its bits
  pub held_bits : (i : ℕ) → i < n → get_or bits' i 0 ≡ get_or (values_of l) i 0
  held_bits i below =
      let v = length-map l (λ x. x.value) in
      ap (λ a. get_or a i 0) h.values_are ∙ get_or-append (values_of l) _ 0 i (omega arith)

  -- the slice of keys keeps its length
  pub held_keys_size : n ≤ length keys → length keys' ≡ length keys
  held_keys_size room = let k = length-map l (λ x. x.key) in ap length h.keys_are ∙ length_over (keys_of l) keys (omega arith)

  -- the bits too
  pub held_bits_size : n ≤ length bits → length bits' ≡ length bits
  held_bits_size room = let v = length-map l (λ x. x.value) in ap length h.values_are ∙ length_over (values_of l) bits (omega arith)

  -- keys in order can be searched
  pub held_sorted : {hi : ℕ} → 1 ≤ n → n ≤ length keys → Ascending 0 hi l → get_or (keys_of l) 0 0 ≡ 0 → Sorted keys' n 0
  held_sorted some room a first =
      let k = length-map l (λ x. x.key) in
      let whole = held_keys_size room in
      let zero_key = held_key 0 (omega arith) in
      record {
        ascends = record {
          room = omega arith;
          ascend = λ i j u v.
              let x = held_key i (omega arith) in
              let y = held_key j v in
              let o = ascending_places (ascending_to a) i j u (omega arith) in
              omega arith;
        };
        some = some;
        first = omega arith;
      }

module _ {m : ℕ} {keys bits : List ℕ} {n κ : ℕ} {plan : Plan} {content_keys content_bits : List ℕ} {count : ℕ}
    (p : Puttable m keys bits n κ plan content_keys content_bits count) where
  -- the list before
  abbrev pub listed : List Record
  listed = records_of keys bits n

  -- the content
  abbrev pub content : List Record
  content = records_of content_keys content_bits count

  -- the plan is ready
  pub put_ready : PlanReady m κ listed content plan
  put_ready =
      subst (PlanReady m κ listed content) (sym p.plan-is)
      (ready_for m κ p.picture (shown_by m keys bits n) listed content p.valid p.own.own p.content_is)

  list_length : length listed ≡ n
  list_length = let fits = p.own.fits in records-length keys bits n (omega arith) (omega arith)

  content-length : length content ≡ count
  content-length = let fits = p.content_fits in records-length content_keys content_bits count (omega arith) (omega arith)

  -- a content has records
  pub put_some : 1 ≤ count
  unfolding content_of
  put_some =
      let e = ap length p.content_is in
      let f = list_some p.picture (height_of m κ) (row_of m κ) (column_of m κ) κ in
      let g = content-length in
      omega arith

  -- the key is one that numbers of 32 bits hold, with its blocks
  pub put_key : κ < 5 ^ 10
  put_key = let e = valid_below m κ p.valid in let f = five_le {k = m} 10 p.deep in omega arith

  -- and the levels of the plan lie below the root
  pub put_deep : Deep κ plan.top plan.levels
  put_deep =
      let r = put_ready in
      let low = r.low in
      let high = r.high in
      let deep = p.deep in
      record {
        least = put_key;
        most = omega arith;
        digits = λ h from below. level_digit (level m κ h p.valid (omega arith) (omega arith)) (omega arith);
      }

  -- the length afterwards by the numbers in hand
  after_is : n - plan.old + (4 * plan.levels + count) ≡ length_after listed content plan
  unfolding length_after
  after_is = ap₂ (λ a c. a - plan.old + (4 * plan.levels + c)) (sym list_length) (sym content-length)

  -- there is room for the exchange
  pub put_exchangeable : Exchangeable keys bits n κ plan content_keys content_bits count
  put_exchangeable =
      let r = put_ready in
      let e = list_length in
      let a = after_is in
      let f = r.fits in
      let fits = p.fits in
      record {
        deep = put_deep;
        some = put_some;
        content_fits = p.content_fits;
        taken = r.some;
        within = omega arith;
        list_fits = p.own.fits;
        fits = omega arith;
      }

  module _ (after : ℕ) (is : after ≡ n - plan.old + (4 * plan.levels + count)) where
    -- the exchanged list has so many records
    pub exchanged_size : length (exchanged listed κ content plan) ≡ after
    exchanged_size = put_ready.out_length ∙ sym (is ∙ after_is)

    -- they fit
    pub after_fits : after ≤ room keys bits
    after_fits = let a = after_is in let f = p.fits in omega arith

    -- and the place where the exchange starts is one of them
    pub start_below : plan.start < after
    start_below = let e = put_exchangeable in let s = e.some in let t = e.taken in let w = e.within in omega arith

    -- the edited list has as many
    pub edited_size : length (edited m listed κ content) ≡ after
    unfolding edited parents_renewed
    edited_size =
        ap (λ q. length (parents_renewed m (exchanged listed κ content q) κ q)) (sym p.plan-is)
        ∙ renew-length (exchanged listed κ content plan) κ _ _ _
        ∙ exchanged_size

    -- after the exchange
    module _ {keys₁ bits₁ : List ℕ} (h : SlicesHold (exchanged listed κ content plan) keys bits keys₁ bits₁) where
      -- keys can be searched
      pub put_sorted : Sorted keys₁ after 0
      put_sorted =
          let s = start_below in
          let f = after_fits in
          held_sorted h after exchanged_size (omega arith) (omega arith) put_ready.ascends put_ready.first

      -- the slices have kept their lengths
      pub put_sizes : (length keys₁ ≡ length keys) × (length bits₁ ≡ length bits)
      put_sizes =
          let f = after_fits in
          (held_keys_size h after exchanged_size (omega arith), held_bits_size h after exchanged_size (omega arith))

      edited_by : renew (records_of keys₁ bits₁ after) κ (get_or bits₁ plan.start 0) (m - (plan.top + plan.levels)) (plan.top + plan.levels)
          ≡ edited m listed κ content
      unfolding edited parents_renewed
      edited_by =
          ap₂ (λ l b. renew l κ b (m - (plan.top + plan.levels)) (plan.top + plan.levels))
          (held_records h after exchanged_size) (held_bits h after exchanged_size plan.start start_below)
          ∙ ap (λ q. parents_renewed m (exchanged listed κ content q) κ q) p.plan-is

      same_keys : keys_of (edited m listed κ content) ≡ keys_of (exchanged listed κ content plan)
      unfolding edited parents_renewed
      same_keys =
          ap (λ q. keys_of (parents_renewed m (exchanged listed κ content q) κ q)) (sym p.plan-is) ∙ renew_keys (exchanged listed κ content plan) κ _ _ _

      -- once the bits are renewed, the slices hold the edited list
      pub put_held : {bits₂ : List ℕ}
          → bits₂ ≡ over (values_of (renew (records_of keys₁ bits₁ after) κ (get_or bits₁ plan.start 0) (m - (plan.top + plan.levels)) (plan.top + plan.levels))) bits₁
          → SlicesHold (edited m listed κ content) keys bits keys₁ bits₂
      put_held e =
          let a = exchanged_size in
          let b = edited_size in
          let v = length-map (exchanged listed κ content plan) (λ x. x.value) in
          let w = length-map (edited m listed κ content) (λ x. x.value) in
          record {
            keys_are = h.keys_are ∙ ap (λ k. over k keys) (sym same_keys);
            values_are =
                e
                ∙ ap₂ (λ l old. over (values_of l) old) edited_by h.values_are
                ∙ over_again (values_of (edited m listed κ content)) (values_of (exchanged listed κ content plan)) bits (omega arith);
          }

      -- as the renewing has the keys, which are a slice of their own
      pub put_renewed : {bits₂ : List ℕ}
          → bits₂ ≡ over (values_of (renew (records_of (take after keys₁) bits₁ (length (take after keys₁))) κ (get_or bits₁ plan.start 0) (m - (plan.top + plan.levels)) (plan.top + plan.levels))) bits₁
          → SlicesHold (edited m listed κ content) keys bits keys₁ bits₂
      put_renewed e = put_held (rw (first_records put_sorted bits₁) at e)

    module _ {keys₂ bits₂ : List ℕ} (h : SlicesHold (edited m listed κ content) keys bits keys₂ bits₂) where
      -- a list that is not shorter than before is done
      pub put_kept : n ≤ after → Replaced n (edited m listed κ content) keys bits keys₂ bits₂ after
      put_kept longer =
          let b = edited_size in
          let k = length-map (edited m listed κ content) (λ x. x.key) in
          let v = length-map (edited m listed κ content) (λ x. x.value) in
          record {
            length-is = sym b;
            keys_are = h.keys_are ∙ over_kept (keys_of (edited m listed κ content)) keys n after (omega arith) longer;
            values_are = h.values_are ∙ over_kept (values_of (edited m listed κ content)) bits n after (omega arith) longer;
          }

      -- a shorter one leaves zeroes
      pub put_cleared : {keys₃ bits₃ : List ℕ} → after < n → keys₃ ≡ sets keys₂ after (replicate (n - after) 0) → bits₃ ≡ sets bits₂ after (replicate (n - after) 0)
          → Replaced n (edited m listed κ content) keys bits keys₃ bits₃ after
      put_cleared shorter e f =
          let b = edited_size in
          let room = p.own.fits in
          let k = length-map (edited m listed κ content) (λ x. x.key) in
          let v = length-map (edited m listed κ content) (λ x. x.value) in
          record {
            length-is = sym b;
            keys_are =
                e
                ∙ ap (λ l. sets l after (replicate (n - after) 0)) h.keys_are
                ∙ over_cleared (keys_of (edited m listed κ content)) keys n after (omega arith) (omega arith) (omega arith);
            values_are =
                f
                ∙ ap (λ l. sets l after (replicate (n - after) 0)) h.values_are
                ∙ over_cleared (values_of (edited m listed κ content)) bits n after (omega arith) (omega arith) (omega arith);
          }
