-- What a paint finds of an accepted list before its rows about room are tested: the content's length and the entry's, the plan, and the length of the
-- painted list. Rests on ContentStands, ContentLength and PaintPlan.
use Prim.Native.Nat.{ℕ, ◌+◌, ◌-◌, ◌*◌, ◌^◌, ◌≤◌, ◌<◌}
use mathlib.Core.Path.{◌≡◌, refl, sym, ◌∙◌, ap}
use mathlib.Core.Bool.{true}
use mathlib.Core.List.{[], ◌∷◌}
use native.Mathlib.Omega.{arith}
use lib.ListN.{length}
use Rattle.std.specs.Prelude.{Some}
use Rattle.keys.specs.Key.{slot_limit, valid_key}
use Rattle.definitions.specs.List.{record_of}
use Rattle.definitions.specs.Standing.{standing_of}
use Rattle.definitions.specs.declared.Standing.{Standing}
use Rattle.definitions.specs.Log.{closing_places}
use Rattle.definitions.specs.Calls.Paint.{painted, gained}
use Rattle.list.specs.declared.accepted_list.Accepted.{Accepted}
use Rattle.list.specs.Taken.{records_listed}
use Rattle.replace.specs.Put.{plan_at, top_with}
use Rattle.replace.specs.declared.plan.Plan.{Plan}
use Rattle.edit.specs.Content.{content_count}
use Rattle.edit.specs.PaintCall.{granted_paint}
use Rattle.edit.specs.declared.decision.GrantedPaint.{GrantedPaint}
use Rattle.edit.proofs.ContentStands.{standing_count}
use Rattle.edit.proofs.ContentLength.{part_there, gained_size}
use Rattle.edit.proofs.Planned.{Planned, old_there, few_levels, length-told}
use Rattle.edit.proofs.PaintPlan.{paint_found, paint_planned}
use Rattle.edit.proofs.PaintTable.{list_paintable}

module _ (list : Accepted) (start κ f : ℕ) (valid : valid_key list.m κ ≡ true) (standing : Standing) (is : standing ≡ standing_of list.m κ (records_listed list)) where
  -- the content
  pub content_small : content_count standing ≤ length list.keys.now
  content_small = let e = standing_count _ _ _ is in let h = part_there list.own κ valid in omega arith

  -- the places used with the entry
  pub entry_told : (count places : ℕ) → count ≡ content_count standing → places ≡ count + closing_places
      → start + places ≡ start + length (gained list.m (records_listed list) κ f)
  entry_told count places e h =
      ap (λ x. start + x) (h ∙ ap (λ x. x + closing_places) (e ∙ standing_count _ _ _ is) ∙ sym (gained_size list.own κ valid f))

  module _ (small : f < slot_limit) (bits : ℕ) (bits_are : bits ≡ 2 ^ f) (plan : Plan)
      (found : plan ≡ plan_at list.m (records_listed list) κ (top_with list.m (records_listed list) κ (Some bits))) where
    planned : Planned list.m list.keys.now list.bits.now (length list.keys.now) κ (record_of κ (2 ^ f) ∷ []) (painted list.m (records_listed list) κ f) plan
    planned = paint_planned (list_paintable list κ f valid small) (paint_found list.m (records_listed list) κ f bits plan bits_are found)

    -- the plan's numbers are small
    pub plan_small : (plan.old ≤ length list.keys.now) × (plan.levels ≤ 10)
    plan_small = (old_there planned, few_levels planned)

    -- and tell the length of the painted list
    pub painted_told : (after : ℕ) → after ≡ length list.keys.now - plan.old + (4 * plan.levels + 1) → after ≡ length (painted list.m (records_listed list) κ f)
    painted_told after e = e ∙ length-told planned 1 refl

    -- what a paint goes by
    pub paint_goes : (count : ℕ) → count ≡ content_count standing
        → ◌≡◌ {A = GrantedPaint} (record { new = record { key = κ; start = start; count = count; feature = f }; standing = standing; plan = plan })
        (granted_paint list.m (records_listed list) start κ f)
    paint_goes count e =
        let size = e ∙ standing_count _ _ _ is in
        let same = paint_found list.m (records_listed list) κ f bits plan bits_are found in
        λ i. record { new = record { key = κ; start = start; count = size i; feature = f }; standing = is i; plan = same i }
