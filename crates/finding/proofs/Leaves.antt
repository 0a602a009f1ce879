-- The records of an accepted list, place by place: each has the key of a block, and past a leaf come only blocks from its end on. Rests on the laws of
-- listed blocks.
use Prim.Native.Nat.{ℕ, zero, suc, ◌+◌, ◌^◌, ◌≤◌, ◌<◌}
use native.Mathlib.Omega.{arith}
use mathlib.Core.Path.{◌≡◌, refl, sym, ap, ◌∙◌, subst}
use mathlib.Core.Bool.{true, true≢false}
use mathlib.Core.List.Memᴰ
use mathlib.Core.List.{List, [], ◌∷◌, Memᴰ}
use lib.ListN.{length, get_or, drop}
use Rattle.keys.specs.Key.{valid_key, height_of, root_key}
use Rattle.keys.proofs.Cases.{split}
use Rattle.keys.specs.Under.{Under, MapBlock, Quadrant, here, nw, ne, sw, se, is_nw, is_ne, is_sw, is_se}
use Rattle.keys.proofs.Under.{quadrant_under}
use Rattle.keys.proofs.Interval.{within, key_within, nest}
use Rattle.keys.proofs.Valid.{valid_block, block_valid}
use Rattle.definitions.specs.Picture.{Picture, one_feature}
use Rattle.definitions.specs.List.{Record, record_of}
use Rattle.definitions.specs.Read.{records_of}
use Rattle.laws.proofs.Features.{one_under}
use Rattle.laws.proofs.Listed.{Listed, itself, child, ListedRecord, listed_under, listed_to}
use Rattle.list.specs.Check.{one_slot}
use Rattle.list.specs.Own.{OwnList, shown_by}
use Rattle.list.proofs.OneSlot.{slot_feature}
use Rattle.list.proofs.Own.{own_ascends}
use Rattle.walk.specs.declared.Spot.{Spot}
use Rattle.walk.specs.Walk.{BlockSpot}
use Rattle.walk.proofs.RecordsFrom.{records-drop}
use Rattle.finding.specs.Covering.{end_of}

-- a block that begins inside the parent of a quadrant, after the parent and before the quadrant, ends before the quadrant
quadrant_gap : {k r c κ r₁ c₁ κ₁ k' r' c' κ' : ℕ} → Quadrant k r c κ r₁ c₁ κ₁ → Under (suc k) r c κ k' r' c' κ' → κ < κ' → κ' < κ₁ → κ' + 5 ^ k' ≤ κ₁
quadrant_gap q here after before = absurd (omega arith)
quadrant_gap is_nw (nw u) after before = let i = key_within u in absurd (omega arith)
quadrant_gap is_ne (nw u) after before = let i = within u in omega arith
quadrant_gap is_sw (nw u) after before = let i = within u in omega arith
quadrant_gap is_se (nw u) after before = let i = within u in omega arith
quadrant_gap is_nw (ne u) after before = let i = key_within u in absurd (omega arith)
quadrant_gap is_ne (ne u) after before = let i = key_within u in absurd (omega arith)
quadrant_gap is_sw (ne u) after before = let i = within u in omega arith
quadrant_gap is_se (ne u) after before = let i = within u in omega arith
quadrant_gap is_nw (sw u) after before = let i = key_within u in absurd (omega arith)
quadrant_gap is_ne (sw u) after before = let i = key_within u in absurd (omega arith)
quadrant_gap is_sw (sw u) after before = let i = key_within u in absurd (omega arith)
quadrant_gap is_se (sw u) after before = let i = within u in omega arith
quadrant_gap is_nw (se u) after before = let i = key_within u in absurd (omega arith)
quadrant_gap is_ne (se u) after before = let i = key_within u in absurd (omega arith)
quadrant_gap is_sw (se u) after before = let i = key_within u in absurd (omega arith)
quadrant_gap is_se (se u) after before = let i = key_within u in absurd (omega arith)

-- no listed block lies inside a block of one feature
listed_past : {p : Picture} {m k r c κ k' r' c' κ' : ℕ} → MapBlock m k r c κ → one_feature p k r c ≡ true → Listed p m 0 0 root_key k' r' c' κ' → κ < κ' → κ + 5 ^ k ≤ κ'
listed_past b one itself after = absurd (omega arith)
listed_past {p} {k = k} {κ = κ} b one (child {k' = k'} {κ₁ = κ₁} {κ' = κ'} u q several) after =
    let up = key_within (quadrant_under q) in
    split κ' (κ + 5 ^ k)
    (λ inside.
    split κ₁ κ
    (λ under. quadrant_gap q (nest u b (omega arith) (omega arith)) under after)
    (λ over. absurd (true≢false (sym (one_under p (nest b u over (omega arith)) one) ∙ several))))
    (λ past. past)

member-drop : {x : Record} (l : List Record) (i : ℕ) → Memᴰ x (drop i l) → Memᴰ x l
member-drop l zero h = h
member-drop [] (suc i) h = absurd (Memᴰ.not-nil h)
member-drop (y ∷ l) (suc i) h = Memᴰ.tail (member-drop l i h)

-- the end of the block where the walk stands
pub spot_end : {m : ℕ} {s : Spot} → BlockSpot m s → end_of m s.key ≡ s.key + s.step
spot_end {s = s} h = ap (λ k. s.key + 5 ^ k) (block_valid h.block).height ∙ ap (λ x. s.key + x) (sym h.step)

module _ {m : ℕ} {keys bits : List ℕ} {n : ℕ} (o : OwnList m keys bits n) where
  pub in_slices : (n ≤ length keys) × (n ≤ length bits)
  in_slices = let fits = o.fits in (omega arith, omega arith)

  record_at : (i : ℕ) → i < n → ListedRecord (shown_by m keys bits n) m 0 0 root_key (record_of (get_or keys i 0) (get_or bits i 0))
  record_at i h =
      let here' = records-drop keys bits n i h in_slices.0 in_slices.1 in
      let x = record_of (get_or keys i 0) (get_or bits i 0) in
      listed_to (shown_by m keys bits n) m 0 0 root_key x
      (subst (λ (l : List Record). Memᴰ x l) o.own
      (member-drop (records_of keys bits n) i (subst (λ (l : List Record). Memᴰ x l) (sym here') (Memᴰ.head refl))))

  -- a record's key is that of a block
  pub record_valid : (i : ℕ) → i < n → valid_key m (get_or keys i 0) ≡ true
  record_valid i h = let x = record_at i h in ap (λ e. valid_key m e.key) x.is ∙ (block_valid (listed_under x.listed)).valid

  -- a record that begins inside a block ends inside it
  pub record_within : {k r c κ : ℕ} → MapBlock m k r c κ → (i : ℕ) → i < n → κ ≤ get_or keys i 0 → get_or keys i 0 < κ + 5 ^ k → end_of m (get_or keys i 0) ≤ κ + 5 ^ k
  record_within b i h from until = let w = within (nest b (valid_block m (get_or keys i 0) (record_valid i h)) from until) in omega arith

  -- the records after a leaf begin at its end or later
  pub leaf_past : (i j : ℕ) → i < j → j < n → one_slot (get_or bits i 0) ≡ true → end_of m (get_or keys i 0) ≤ get_or keys j 0
  leaf_past i j before h slot =
      let p = shown_by m keys bits n in
      let x = record_at i (omega arith) in
      let y = record_at j h in
      let b = listed_under x.listed in
      let key : get_or keys i 0 ≡ x.key = ap (λ e. e.key) x.is in
      let later : get_or keys j 0 ≡ y.key = ap (λ e. e.key) y.is in
      let height : height_of m (get_or keys i 0) ≡ x.height = ap (height_of m) key ∙ (block_valid b).height in
      let end : end_of m (get_or keys i 0) ≡ x.key + 5 ^ x.height = ap (λ k. get_or keys i 0 + 5 ^ k) height ∙ ap (λ κ. κ + 5 ^ x.height) key in
      let rise = (own_ascends o).ascend i j before h in
      let one = sym (slot_feature p x.height x.row x.column) ∙ (ap (λ e. one_slot e.value) (sym x.is) ∙ slot) in
      let past = listed_past b one y.listed (omega arith) in
      omega arith
